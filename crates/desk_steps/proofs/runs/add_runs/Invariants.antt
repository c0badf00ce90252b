use Rattle.std.proofs.Common.{◌≡◌, ◌+◌, [], false, drop}
use Rattle.desk_steps.specs.declared.sheet.Sheet.{Sheet}
use Rattle.desk_steps.specs.Json.{any_run}
use Rattle.law_steps.specs.Runs.{changes}
use Rattle.desk_steps.specs.Runs.{rest_text}
use Rattle.desk_steps.specs.Sheets.{Adds}
use Rattle.desk_steps.proofs.runs.add_runs.Given as goal

-- what is added of the bytes that are left, is added of all bytes from the start
abbrev pub invariant-loop-i : goal.invariant-loop-i
invariant-loop-i g l =
    record {
      rest : (r : Sheet g.row.T.Denot) → Adds g.T.Sink l.sheet (rest_text l.runs.any l.runs.is_open (l.fn.base + l.i) (drop l.i l.fn.old) (drop l.i l.fn.new)) r → Adds g.T.Sink l.fn.sheet (rest_text l.fn.any false l.fn.base l.fn.old l.fn.new) r;
      any : any_run l.runs.any (changes (l.fn.base + l.i) (drop l.i l.fn.old) (drop l.i l.fn.new)) ≡ any_run l.fn.any (changes l.fn.base l.fn.old l.fn.new);
    }

-- what is added of the bytes that are left, which are after the last old one, is added of all bytes from the start
abbrev pub invariant-loop-k : goal.invariant-loop-k
invariant-loop-k g l =
    record {
      rest : (r : Sheet g.row.T.Denot) → Adds g.T.Sink l.sheet (rest_text l.runs.any l.runs.is_open (l.fn.base + l.k) [] (drop l.k l.fn.new)) r → Adds g.T.Sink l.fn.sheet (rest_text l.fn.any false l.fn.base l.fn.old l.fn.new) r;
      any : any_run l.runs.any (changes (l.fn.base + l.k) [] (drop l.k l.fn.new)) ≡ any_run l.fn.any (changes l.fn.base l.fn.old l.fn.new);
    }
