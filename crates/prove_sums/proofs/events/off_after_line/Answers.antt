use Rattle.std.proofs.Common.{List, ℕ, subst, sym}
use Rattle.std.specs.Prelude.{map}
use Rattle.prove_forms.specs.model_sums.specs.Events as events
use Rattle.lab_app_rules.specs.declared.rules.SignedSum.{SignedSum}
use Rattle.lab_app_rules.specs.Rules.{name_of}
use Rattle.prove_forms.specs.Forms.{OptionalIs}
use Rattle.lab_app_rules.specs.Sums.{AreTerms}
use Rattle.prove_sums.proofs.events.off_after_line.Goals as goal

pub returns : goal.returns
returns c t k f g is move off =
    subst (λ (n : ℕ). OptionalIs c.in_ok-after.after (events.off_after_line n k g t.terms f)) (sym is.n)
    (c.in_ok-after.ensures t.terms k f g (subst (λ (x : List SignedSum). AreTerms (map name_of c.args.named.now) t.terms x) (sym c.as_slice-terms.ensures.value) is.terms) move off)
