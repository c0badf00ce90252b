use Rattle.std.proofs.Common.{[], ◌∷◌, sym, subst}
use Rattle.law_explore_text.specs.model_machine.specs.Chain.{Turn, turn_of}
use Rattle.lab_search.specs.Counters.{CountsTurns}
use Rattle.lab_search.proofs.counter.TurnCounterWatcher.turn.Goals as goal

pub returns-clause-watches : goal.returns-clause-watches
returns-clause-watches g c ch left runs wide =
    subst (λ (t : Turn). CountsTurns c.args.self.now (t ∷ []) c.count_turn.new.self) (sym (c.in_ok-turn.ensures.done ch left runs).turn) (c.count_turn.ensures c.brief_turn.new.into (turn_of left ch).turn.wrote)
