use Rattle.std.proofs.Common.{◌≡◌, ◌+◌, drop}
use Rattle.lab_search.specs.Endings.{lines_of, one_if}
use Rattle.lab_search.proofs.endings.count_of_statements.Given as goal

abbrev pub invariant-loop-step : goal.invariant-loop-step
invariant-loop-step l = l.count + lines_of (drop l.step-index l.path) ≡ one_if l.fn.lead.armed + one_if l.fn.lead.power + lines_of l.fn.path
