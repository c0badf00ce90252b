use Rattle.std.proofs.Common.{◌≡◌, ◌∙◌, ℕ, ◌+◌, List, map, length, true, ap, subst, sym}
use Rattle.std.specs.Prelude.{nat_le}
use Rattle.std.proofs.lemmas.Bool.{and_from}
use Rattle.prove_facts.specs.model_rules.specs.Keeping.{Amounts, are_totals, first_sums}
use Rattle.prove_sums.specs.model_sums.specs.Closed.{all_pass}
use Rattle.lab_app_rules.specs.declared.rules.Named.{Named}
use Rattle.lab_app_rules.specs.Rules.{allowance_of, name_of}
use Rattle.lab_app_rules.specs.Sums.{AreTotals}
use Rattle.prove_sum_steps.proofs.totals.totals_hold.Goals as goal

pub returns : goal.returns
returns c h a g are sums =
    let r = c.args.rules.now in
    let ns = c.as_slice-sums.result.now in
    let bs = c.as_slice-balances.result.now in
    let named : ns ≡ r.sums.items = c.as_slice-sums.ensures.value in
    let totals : AreTotals (map name_of ns) a.totals bs =
    subst (λ (x : List Named). AreTotals (map name_of x) a.totals bs) (sym named)
    (subst (AreTotals (map name_of r.sums.items) a.totals) (sym c.as_slice-balances.ensures.value) sums.totals) in
    let bytes : c.as_slice.result.now ≡ g.app.fixed =
    c.as_slice.ensures.value ∙ c.in_ok-bytes.ensures ∙ sym are.created.fixed in
    let within : all_pass (λ t. nat_le (t.at + t.n) (length g.app.fixed)) a.totals ≡ true =
    subst (λ (n : ℕ). all_pass (λ t. nat_le (t.at + t.n) n) a.totals ≡ true) (sym are.created.size) (c.are_within.ensures c.if-not-are_within.false (map name_of ns) a.totals totals) in
    let held : are_totals c.as_slice.result.now (first_sums (map allowance_of ns)) a.totals ≡ true =
    c.in_ok-holds.ensures h (c.are_distinct.ensures c.if-not-are_distinct.false) a.totals totals in
    and_from _ _ within
    (subst (λ (x : List ℕ). are_totals x (first_sums a.sums) a.totals ≡ true) bytes
    (subst (λ (x : Amounts). are_totals c.as_slice.result.now (first_sums x) a.totals ≡ true) (ap (map allowance_of) named ∙ sym sums.sums) held))
