use Rattle.std.proofs.Common.{[]}
use Rattle.mc_lab.specs.Sweeps.{names_from}
use Rattle.mc_deck.specs.Lines.{line_of}
use Rattle.mc_lab.proofs.SweepNames.{names_step}
use Rattle.mc_lab.proofs.sweep_names.names_of.Goals as goal

pub loop-i-preserved : goal.loop-i-preserved
loop-i-preserved c =
    let l = c.line-number.result in
    names_step c.args.deck.now c.loop-i.i (l.0, line_of l.1) c.loop-i.names.items c.add_mentioned.new.names.items (names_from [] c.args.deck.now) c.line-number.ensures.line c.in_ok-add_mentioned.ensures c.loop-i.invariant
