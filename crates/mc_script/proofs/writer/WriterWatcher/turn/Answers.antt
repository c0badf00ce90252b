use Rattle.std.proofs.Common.{[], ◌∷◌, sym, subst}
use Rattle.model_play.specs.model_machine.specs.Chain.{Turn, turn_of}
use Rattle.mc_script.specs.Writers.{WriterKeeps}
use Rattle.mc_script.proofs.writer.WriterWatcher.turn.Goals as goal

pub returns-clause-watches : goal.returns-clause-watches
returns-clause-watches g c ch left runs wide =
    subst (λ (t : Turn). WriterKeeps g.T.Sink c.args.self.now (t ∷ []) c.report_turn.new.self) (sym (c.in_ok-turn.ensures.done ch left runs).turn) (c.report_turn.ensures c.brief_turn.new.into (turn_of left ch).turn.wrote)
