use Rattle.std.proofs.Common.{◌≡◌, List, Some, sym, subst, slice_get}
use Rattle.std.specs.List.{list_any}
use Rattle.lab_branch.specs.declared.roster.Roster.{Roster}
use Rattle.lab_branch.specs.Rosters.{roster_eq}
use Rattle.lab_branch.proofs.SameRosters.{roster_same}
use Rattle.lab_key.proofs.Numbers.{number_stays}
use Rattle.lab_key.proofs.key.number_of.Goals as goal

pub returns-clause-found : goal.returns-clause-found
returns-clause-found c =
    let s = c.in-Ok.ensures.stored in
    (s.0, s.1, sym (roster_same c.args.roster s.0 s.2))

pub returns-clause-keeps : goal.returns-clause-keeps
returns-clause-keeps c n r h =
    let keys = c.args.rosters.now.keys in
    subst (λ (ks : List Roster). slice_get ks n ≡ Some r) (sym c.in-Ok.ensures.keys) (number_stays keys c.args.roster (list_any (roster_eq c.args.roster) keys) n r h)
