use Rattle.std.proofs.Common.{◌∙◌, map, sym}
use Rattle.std.proofs.lemmas.List.{length-map}
use Rattle.prove_facts.specs.model_prove.specs.Arrivals.{Setting}
use Rattle.lab_app_rules.specs.Rules.{name_of}
use Rattle.prove_arrivals.specs.Subjects.{tables_in}
use Rattle.prove_patterns.specs.Classes.{class_values}
use Rattle.prove_sum_steps.specs.Places.{IsStand, table_in}
use Rattle.prove_sum_steps.proofs.ClosingLemmas.{closed_from, moves_are}
use Rattle.prove_sum_steps.proofs.closing.stand_closed.Goals as goal

pub returns : goal.returns
returns c h a g are sums is found =
    let t = c.args.stand.now in
    let names = map name_of t.rules.now.allowances.items in
    let s : Setting = record { rules = a; app = g.app } in
    let stand : IsStand names s t = record { subject = is; size = length-map t.rules.now.allowances.items name_of ∙ sym t.rules.now.allowances.ok.0; sums = sums } in
    closed_from s (tables_in names t.subject.now) (table_in names t) (class_values c.args.classes.now) (moves_are a t.rules.now sums)
    (c.in_ok-totals_hold.ensures c.if-not-branch.false a g are sums) found (c.in_ok-starts_hold.ensures c.if-not-branch-2.false names s stand are.ranges)
    (c.in_ok-holds.ensures h names s stand)
