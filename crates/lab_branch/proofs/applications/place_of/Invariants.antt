use Rattle.std.proofs.Common.{◌≡◌, ◌+◌, drop}
use Rattle.lab_branch.specs.Applications.{place_of_name}
use Rattle.lab_branch.proofs.applications.place_of.Given as goal

-- the applications before this one come before the name, and the rest decides
abbrev pub invariant-loop-application : goal.invariant-loop-application
invariant-loop-application l =
    record {
      place : l.place ≡ l.application-index;
      rest : l.place + place_of_name (drop l.application-index l.applications) l.name ≡ place_of_name l.applications l.name;
    }
