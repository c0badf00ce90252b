use Rattle.std.proofs.Common.{◌≡◌, ◌∙◌, ℕ, List, Option, Some, ap, sym, subst}
use Rattle.std.specs.Prelude.{map, slice_get}
use Rattle.lab_app_rules.specs.model_events.specs.Matching.{fits}
use Rattle.lab_app_rules.specs.declared.rules.Balance.{Balance}
use Rattle.lab_app_rules.specs.declared.rules.Named.{Named}
use Rattle.lab_app_rules.specs.Rules.{name_of}
use Rattle.prove_forms.specs.declared.forms.Form.{Form}
use Rattle.prove_forms.specs.Forms.{OptionalsAre}
use Rattle.prove_forms.specs.Origins.{origins_value}
use Rattle.lab_app_rules.specs.Sums.{AreTotals}
use Rattle.prove_sums.proofs.LineLemmas.{fit_by, unfit_by}
use Rattle.prove_sums.proofs.events.offs_after_on.Goals as goal

pub returns-then-not-is : goal.returns-then-not-is
returns-then-not-is c ts l fs are line offs =
    unfit_by (map name_of c.args.rules.now.sums.items) ts l c.args.on.now (c.in-Some.adds, c.in-Some.amount) c.args.line.now (origins_value c.args.origins.now) fs
    c.args.offs.items (sym c.move_of.ensures ∙ c.in-Some.is)
    (ap (λ (p : List ℕ). fits p c.args.line.now) (sym c.as_slice.ensures.value) ∙ sym c.fits-is.ensures ∙ c.if-not-is.true) line offs

pub returns : goal.returns
returns c ts l fs are line offs =
    let names = map name_of c.args.rules.now.sums.items in
    fit_by names ts l c.args.on.now (c.in-Some.adds, c.in-Some.amount) c.args.line.now (origins_value c.args.origins.now) fs c.in_ok-after.after.items
    (sym c.move_of.ensures ∙ c.in-Some.is)
    (ap (λ (p : List ℕ). fits p c.args.line.now) (sym c.as_slice.ensures.value) ∙ sym c.fits-is.ensures ∙ c.if-not-is.false) line
    (λ k r. c.in_ok-after.ensures ts k fs _
    (subst (λ (x : List Named). AreTotals (map name_of x) ts c.as_slice-3.result.now) (sym c.as_slice-2.ensures.value)
    (subst (λ (x : List Balance). AreTotals names ts x) (sym c.as_slice-3.ensures.value) are))
    (record {
      adds = r.adds;
      name = subst (λ (x : List Named). slice_get (map name_of x) c.args.on.now.name ≡ Some k.name) (sym c.as_slice-2.ensures.value) r.name;
      by = c.in_ok-by.ensures;
    }) (subst (λ (x : List (Option Form)). OptionalsAre x fs) (sym c.as_slice-4.ensures.value) offs))
