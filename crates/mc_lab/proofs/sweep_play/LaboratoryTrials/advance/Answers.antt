use Rattle.std.proofs.Common.{arith}
use Rattle.mc_lab.proofs.SweepFrontLemmas.{kept_on_words, played_before}
use Rattle.mc_lab.proofs.sweep_play.LaboratoryTrials.advance.Goals as goal

pub play_on-device-requires-clause-kept : goal.play_on-device-requires-clause-kept
play_on-device-requires-clause-kept g c =
    kept_on_words _ _ c.args.self.now.kept _ c.return_to_root.ensures.words (played_before c.args.self.now c.args.place.now c.requires.at c.requires.played).1

pub play_on-device-requires-clause-order : goal.play_on-device-requires-clause-order
play_on-device-requires-clause-order g c =
    let before = (played_before c.args.self.now c.args.place.now c.requires.at c.requires.played).0 in
    omega (arith, before)
