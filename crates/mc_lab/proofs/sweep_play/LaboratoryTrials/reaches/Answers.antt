use Rattle.std.proofs.Common.{rules}
use Rattle.mc_lab.proofs.SweepFrontLemmas.{kept_on_words, played_before, played_on_root}
use Rattle.mc_lab.proofs.sweep_play.LaboratoryTrials.reaches.Goals as goal

pub play_reach-device-requires-clause-kept : goal.play_reach-device-requires-clause-kept
play_reach-device-requires-clause-kept g c =
    kept_on_words _ _ c.args.self.now.kept _ c.return_to_root.ensures.words (played_before c.args.self.now c.args.place.now c.requires.at c.requires.played).1

pub play_reach-device-requires-clause-from : goal.play_reach-device-requires-clause-from
play_reach-device-requires-clause-from g c = (played_before c.args.self.now c.args.place.now c.requires.at c.requires.played).0

pub returns-clause-played : goal.returns-clause-played
returns-clause-played g c = played_on_root c.args.self.now _ _ (search rules) c.requires.played
