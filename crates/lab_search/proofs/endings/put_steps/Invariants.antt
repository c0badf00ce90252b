use Rattle.std.proofs.Common.{List, Result, drop}
use Rattle.mc_streams.specs.declared.refusals.WriteFault.{WriteFault}
use Rattle.law_explore_text.specs.law_explore.specs.Rules as rule
use Rattle.law_explore_text.specs.law_explore.specs.Tries.{Try}
use Rattle.law_explore_text.specs.law_explore.specs.Search.{path_statements}
use Rattle.law_explore_text.specs.Report.{statements_text}
use Rattle.lab_rules.specs.Meanings.{AlikeLists, IsMove}
use Rattle.mc_text.specs.Texts.{Puts, Sunk, sunk_in}
use Rattle.lab_search.specs.Rounds.{IsTry}
use Rattle.lab_search.proofs.endings.put_steps.Given as goal

-- what the later steps put completes what all steps put
abbrev pub invariant-loop-step : goal.invariant-loop-step
invariant-loop-step g l =
    (ms : List rule.Move) (ts : List Try) → AlikeLists IsMove l.moves ms → AlikeLists (IsTry ms) l.path ts → (r : Result (Unit {0}) WriteFault) (c : Sunk)
    → Puts (sunk_in g.T.Sink.taken g.T.Sink.faults l.out) (statements_text (path_statements (drop l.step-index ts))) r c
    → Puts (sunk_in g.T.Sink.taken g.T.Sink.faults l.fn.out) (statements_text (path_statements ts)) r c
