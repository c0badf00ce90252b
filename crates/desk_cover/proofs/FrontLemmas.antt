-- The instruction at the front of bytes is at the front of the first six of them.
use Rattle.std.proofs.Common.{◌≡◌, ℕ, ◌+◌, ◌<◌, ◌≤◌, Bool, true, false, List, length, take, Result, Ok, Err, refl, arith, sym, ap, subst, ◌∙◌}
use Rattle.std.proofs.lemmas.Bool.Decides.{nat_tests}
use Rattle.std.specs.Prelude.{min, nat_le}
use Rattle.std.proofs.lemmas.List.{length-take-le, take-take, take_min}
use Rattle.std.proofs.Math.Seq.{take-length}
use Rattle.mc_arith.specs.model_machine.specs.declared.instruction.DecodeFault.{DecodeFault}
use Rattle.mc_arith.specs.model_machine.specs.declared.instruction.Ins.{Ins}
use Rattle.mc_arith.specs.model_machine.specs.Code.{DecodesTo, from_place, front, instruction_at}
use Rattle.mc_isa.specs.law_rows.proofs.PlaceLemmas.{decoded_only}
use Rattle.mc_machine.proofs.FetchLemmas.{IsWindow, fault_there, stands_there}
use Rattle.desk_draft.specs.Coverage.{condition_decoded}

-- the first six of more bytes are a window of them
window : (bytes : List ℕ) → 6 < length bytes → IsWindow bytes (take 6 bytes) 0 (length bytes)
window bytes more =
    let six : min (length bytes) 6 ≡ 6 = omega (arith, more) in
    record {
      end = omega arith;
      some = omega (arith, more);
      six = length-take-le 6 bytes (omega (arith, more));
      front = ap (λ (k : ℕ). take k (take 6 bytes)) six ∙ take-take 6 6 bytes (omega arith) ∙ sym (ap (λ (k : ℕ). take k bytes) six);
    }

by_window : (bytes : List ℕ) (r : Result (Ins × ℕ) DecodeFault) → 6 < length bytes → DecodesTo (take 6 bytes) 0 r → instruction_at bytes 0 ≡ r
by_window bytes (Err e) more d = decoded_only bytes 0 (Err e) (fault_there bytes (take 6 bytes) 0 (length bytes) e (window bytes more) d)
by_window bytes (Ok (i, n)) more d =
    let six = length-take-le 6 bytes (omega (arith, more)) in
    let inside = d.inside in
    let short : n ≤ length bytes = omega (arith, six, inside, more) in
    let same : 0 + n ≡ n = omega arith in
    decoded_only bytes 0 (Ok (i, n)) (subst (λ (k : ℕ). DecodesTo bytes 0 (Ok (i, k))) same (stands_there bytes (take 6 bytes) 0 (length bytes) i n (window bytes more) d short))

by_length : (b : Bool) (bytes : List ℕ) (r : Result (Ins × ℕ) DecodeFault) → nat_le (length bytes) 6 ≡ b → DecodesTo (take 6 bytes) 0 r → instruction_at bytes 0 ≡ r
by_length true bytes r e d =
    let few : length bytes ≤ 6 = grind (arith, nat_tests, e) in
    let all : min 6 (length bytes) ≡ length bytes = omega (arith, few) in
    let whole : take 6 bytes ≡ bytes = sym (take_min 6 bytes) ∙ ap (λ (k : ℕ). take k bytes) all ∙ take-length bytes in
    decoded_only bytes 0 r (subst (λ (l : List ℕ). DecodesTo l 0 r) whole d)
by_length false bytes r e d = by_window bytes r (grind (arith, nat_tests, e)) d

from_zero : (r : Result (Ins × ℕ) DecodeFault) → condition_decoded (from_place 0 r) ≡ condition_decoded r
from_zero (Ok p) = refl
from_zero (Err e) = refl

-- the condition of the instruction at the front of bytes, by the first six of them
pub condition_front : (bytes : List ℕ) (r : Result (Ins × ℕ) DecodeFault) → DecodesTo (take (min (length bytes) 6) bytes) 0 r → condition_decoded (front bytes) ≡ condition_decoded r
condition_front bytes r d =
    let six : take (min (length bytes) 6) bytes ≡ take 6 bytes = ap (λ (k : ℕ). take k bytes) (omega arith) ∙ take_min 6 bytes in
    sym (from_zero (front bytes)) ∙ ap condition_decoded (by_length (nat_le (length bytes) 6) bytes r refl (subst (λ (l : List ℕ). DecodesTo l 0 r) six d))
