use Rattle.std.proofs.Common.{ℕ, Bool, cond, sym, subst}
use Rattle.prove_forms.specs.model_sums.specs.Writes as writes
use Rattle.prove_sums.specs.Values.{SumsAre}
use Rattle.prove_sums.proofs.acts.called.Goals as goal

pub returns : goal.returns
returns c names ts k to u are e s =
    subst (λ (b : Bool). SumsAre c.in_ok-after.after (cond b (writes.wrote_any ts k.dt 4 u) u)) (sym c.if-not-taken.false)
    (subst (λ (d : ℕ). SumsAre c.in_ok-after.after (writes.wrote_any ts d 4 u)) (sym e) (c.in_ok-after.ensures names ts u are s))
