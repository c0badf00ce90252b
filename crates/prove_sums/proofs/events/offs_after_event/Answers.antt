use Rattle.std.proofs.Common.{List, subst, sym}
use Rattle.std.specs.Prelude.{map}
use Rattle.lab_app_rules.specs.declared.rules.On.{On}
use Rattle.lab_app_rules.specs.Rules.{name_of}
use Rattle.lab_app_rules.specs.Sums.{AreSumLines}
use Rattle.prove_sums.proofs.events.offs_after_event.Goals as goal

pub returns : goal.returns
returns c a fs are offs =
    c.in_ok-after.ensures a.totals a.moves fs are.totals
    (subst (λ (x : List On). AreSumLines (map name_of c.args.rules.now.sums.items) a.moves x) (sym c.as_slice-ons.ensures.value) are.lines) offs
