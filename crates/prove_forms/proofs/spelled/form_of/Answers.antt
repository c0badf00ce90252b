use Rattle.std.proofs.Common.{◌≡◌, ◌∙◌, ◌+◌, ◌-◌, ℕ, suc, length, ap, arith}
use Rattle.std.specs.Prelude.{◌%◌, ◌^◌}
use Rattle.std.proofs.Math.Nat.{mod-mod}
use Rattle.model_sums.specs.Forms as forms
use Rattle.prove_forms.specs.Forms.{modulus}
use Rattle.prove_forms.proofs.SpelledLemmas.{unknown_byte, power_next, known_byte}
use Rattle.prove_forms.proofs.spelled.form_of.Goals as goal

pub returns-in_default : goal.returns-in_default
returns-in_default c =
    let i = c.loop-left.invariant.within in
    unknown_byte c.args.bytes.now (c.loop-left.left - 1) _ c.in_ok-byte.field-0 (omega (arith, i)) c.in_default.is c.in_ok-byte.ensures

pub loop-left-preserved : goal.loop-left-preserved
loop-left-preserved c =
    let i = c.loop-left.invariant.within in
    let n : ℕ = length c.args.bytes.now in
    let l : ℕ = c.loop-left.left in
    let back : l - 1 + 1 ≡ l = omega arith in
    let more : suc (n - l) ≡ n - (l - 1) = omega (arith, i) in
    let power : c.loop-left.power % modulus ≡ 256 ^ (n - l) % modulus = ap (λ (x : ℕ). x % modulus) c.loop-left.invariant.power ∙ mod-mod (256 ^ (n - l)) modulus in
    record {
      within = omega (arith, i);
      power = power_next (n - l) c.loop-left.power c.loop-left.invariant.power ∙ ap (λ (k : ℕ). 256 ^ k % modulus) more;
      form = known_byte c.args.bytes.now (l - 1) l _ c.in-Some.byte c.loop-left.form c.in_ok-form.form back (omega (arith, i)) (rw c.in-Some.is at c.in_ok-byte.ensures)
          c.loop-left.invariant.form
          (λ f g h k. c.in_ok-form.ensures (forms.times (256 ^ (n - l)) f) g (c.in_ok-multiple.ensures (256 ^ (n - l)) f power h) k);
    }
