-- At each place of code exactly one decoding result holds, the computed one.
use Rattle.std.proofs.Common.{◌≡◌, ℕ, zero, suc, ◌+◌, ◌<◌, ◌≤◌, Bool, true, false, cond, List, [], ◌∷◌, ◌++◌, length, take, drop, Option, Some, None, Result, Ok, Err, arith, refl, sym, ap, subst, inl, inr, ◌∙◌, length-drop, length-take}
use Rattle.std.specs.Prelude.{nat_le, option_map, slice_index}
use Rattle.std.proofs.lemmas.List.{take-append-drop}
use Rattle.model_machine.specs.Code.{Form, instruction_of_form, made_of, operands, total, form, spell, front, instruction_at, IsUndefined, IsPast, DecodesTo, kinds, from_place, Kind}
use Rattle.model_machine.specs.declared.instruction.DecodeFault.{DecodeFault}
use Rattle.model_machine.specs.declared.instruction.DecodeFault.TheVariants.{Undefined, Past}
use Rattle.model_machine.specs.declared.instruction.Ins.{Ins}
use Rattle.law_rows.proofs.RowLemmas.{Good, GoodRow, good_form, made_good}
use Rattle.model_machine.specs.model_device.specs.Bytes.{AreBytes}
use Rattle.law_rows.proofs.SpellingLemmas.{front_spell}
use Rattle.model_machine.specs.model_device.proofs.ListLemmas.{bytes_from}
use Rattle.std.proofs.lemmas.Bool.{leb-false, leb-true}

-- ---- the byte at a place

-- the first byte from a place on is the byte at the place
byte_at : (code : List ℕ) (at b : ℕ) (bs : List ℕ) → drop at code ≡ b ∷ bs → slice_index code at ≡ b
byte_at [] zero b bs e = absurd (cc e)
byte_at [] (suc at) b bs e = absurd (cc e)
byte_at (x ∷ code) zero b bs e = cc e
byte_at (x ∷ code) (suc at) b bs e = byte_at code at b bs e

length_at : (code : List ℕ) (at b : ℕ) (bs : List ℕ) → drop at code ≡ b ∷ bs → at + 1 + length bs ≡ length code
length_at [] zero b bs e = absurd (cc e)
length_at [] (suc at) b bs e = absurd (cc e)
length_at (x ∷ code) zero b bs e = let l : length code ≡ length bs = cc e in grind (arith, l)
length_at (x ∷ code) (suc at) b bs e = let h = length_at code at b bs e in grind (arith, h)

none_at : (code : List ℕ) (at : ℕ) → drop at code ≡ [] → length code ≤ at
none_at code at e = let h = length-drop at code in let l : length (drop at code) ≡ 0 = rw e refl in omega (arith, h, l)

made_stands : (code : List ℕ) (at b : ℕ) (bs : List ℕ) (f : Form) → drop at code ≡ b ∷ bs → AreBytes bs → form b ≡ Some f → Good b f → (t : Bool) → nat_le (total (operands f)) (length bs) ≡ t → DecodesTo code at (from_place at (cond t (Ok (instruction_of_form f bs, total (operands f) + 1)) (Err Past)))
made_stands code at b bs f e all o g true le =
    let m = made_good b f bs g all le in
    let fits = leb-true (total (operands f)) (length bs) le in
    let short : length (take (total (operands f)) bs) ≡ total (operands f) = rw length-take (omega arith) in
    let size : length (spell (instruction_of_form f bs)) ≡ total (operands f) + 1 = ap length m.1 ∙ ap suc short ∙ omega arith in
    let whole = length_at code at b bs e in
    record {
      shaped = m.0;
      place = rw size refl;
      inside = omega arith;
      bytes = rw (m.1, e) (ap (λ k. b ∷ take k bs) short);
    }
made_stands code at b bs f e all o g false le =
    let long = leb-false (total (operands f)) (length bs) le in
    let whole = length_at code at b bs e in
    inr (operands f, rw (byte_at code at b bs e, o) refl, omega arith)

row_stands : (code : List ℕ) (at b : ℕ) (bs : List ℕ) (o : Option Form) → drop at code ≡ b ∷ bs → AreBytes bs → form b ≡ o → GoodRow b o → DecodesTo code at (from_place at (made_of o bs))
row_stands code at b bs None e all o g =
    let whole = length_at code at b bs e in
    record { inside = omega arith; byte = rw (byte_at code at b bs e, o) refl }
row_stands code at b bs (Some f) e all o g = made_stands code at b bs f e all o g (nat_le (total (operands f)) (length bs)) refl

place_stands : (code : List ℕ) (at : ℕ) (l : List ℕ) → drop at code ≡ l → AreBytes l → DecodesTo code at (from_place at (front l))
place_stands code at [] e all = inl (none_at code at e)
place_stands code at (b ∷ bs) e all = row_stands code at b bs (form b) e all.1 refl (good_form b)

-- the computed answer holds
pub decoded_stands : (code : List ℕ) (at : ℕ) → AreBytes code → DecodesTo code at (instruction_at code at)
decoded_stands code at all = place_stands code at (drop at code) refl (bytes_from code at all)

kinds_none : (o : Option Form) → option_map operands o ≡ None → o ≡ None
kinds_none None e = refl
kinds_none (Some f) e = absurd (cc e)

undefined_only : (code : List ℕ) (at : ℕ) (l : List ℕ) → drop at code ≡ l → IsUndefined code at → from_place at (front l) ≡ Err Undefined
undefined_only code at [] e u = let h = none_at code at e in absurd (omega (arith, u.inside))
undefined_only code at (b ∷ bs) e u =
    let k : kinds b ≡ None = subst (λ x. kinds x ≡ None) (byte_at code at b bs e) u.byte in
    rw (kinds_none (form b) k) refl

past_row : (at : ℕ) (bs : List ℕ) (o : Option Form) (ks : List Kind) → option_map operands o ≡ Some ks → length bs < total ks → made_of o bs ≡ Err Past
past_row at bs None ks e h = absurd (cc e)
past_row at bs (Some f) ks e h =
    let k : operands f ≡ ks = cc e in
    let t : nat_le (total (operands f)) (length bs) ≡ false = rw k (grind (arith, h)) in
    rw t refl

past_only : (code : List ℕ) (at : ℕ) (l : List ℕ) → drop at code ≡ l → IsPast code at → from_place at (front l) ≡ Err Past
past_only code at [] e p = refl
past_only code at (b ∷ bs) e (inl h) = let w = length_at code at b bs e in absurd (omega (arith, h))
past_only code at (b ∷ bs) e (inr p) =
    let w = length_at code at b bs e in
    let k : kinds b ≡ Some p.0 = subst (λ x. kinds x ≡ Some p.0) (byte_at code at b bs e) p.1 in
    let long : length bs < total p.0 = omega (arith, p.2) in
    ap (from_place at) (past_row at bs (form b) p.0 k long)

-- a decoding result that holds is the computed one
pub decoded_only : (code : List ℕ) (at : ℕ) (r : Result (Ins × ℕ) DecodeFault) → DecodesTo code at r → instruction_at code at ≡ r
decoded_only code at (Ok p) d =
    let e : spell p.0 ++ drop (length (spell p.0)) (drop at code) ≡ drop at code = ap (λ l. l ++ drop (length (spell p.0)) (drop at code)) (sym d.bytes) ∙ take-append-drop (length (spell p.0)) (drop at code) in
    let f = front_spell p.0 (drop (length (spell p.0)) (drop at code)) d.shaped in
    ap (λ l. from_place at (front l)) (sym e) ∙ ap (from_place at) f ∙ ap (λ n. Ok (p.0, n)) (sym d.place)
decoded_only code at (Err Undefined) u = undefined_only code at (drop at code) refl u
decoded_only code at (Err Past) p = past_only code at (drop at code) refl p
