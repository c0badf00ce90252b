use Rattle.std.proofs.Common.{arith}
use Rattle.std.specs.Prelude.{map}
use Rattle.lab_app_rules.specs.Rules.{name_of}
use Rattle.prove_forms.specs.Origins.{origins_value}
use Rattle.prove_sums.proofs.LineLemmas.{lines_end, lines_next}
use Rattle.prove_sums.proofs.events.offs_after_ons.Goals as goal

pub loop-on-preserved : goal.loop-on-preserved
loop-on-preserved c ts ls fs totals lines offs =
    lines_next (map name_of c.args.rules.now.sums.items) ts ls c.args.line.now (origins_value c.args.origins.now) fs c.args.ons.now c.loop-on.on-index c.on-item.result
    c.loop-on.after.items c.in_ok-after-2.after.items c.on-item.is (omega arith) (λ l gs i o. c.in_ok-after-2.ensures ts l gs totals i o)
    (c.loop-on.invariant ts ls fs totals lines offs)

pub returns : goal.returns
returns c ts ls fs totals lines offs =
    lines_end (map name_of c.args.rules.now.sums.items) ts ls c.args.line.now (origins_value c.args.origins.now) fs c.args.ons.now c.loop-on.on-index c.loop-on.after.items
    (omega arith) (c.loop-on.invariant ts ls fs totals lines offs)
