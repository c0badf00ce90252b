-- An instruction has at most five bytes of operands. So the instruction at the front of a window of six bytes, whose
-- first bytes are the code that is left, is the instruction at the front of that code, unless it is longer than what is
-- left.
use Rattle.std.proofs.Common.{◌≡◌, ℕ, zero, suc, ◌+◌, ◌<◌, ◌≤◌, Bool, true, false, cond, List, [], ◌∷◌, length, take, drop, Option, Some, None, Result, Ok, Err, arith, refl, sym, ap, subst, inl, inr, ◌∙◌}
use Rattle.std.specs.Prelude.{min, replicate, slice_index, option_map}
use Rattle.law_machine.specs.model_machine.specs.declared.instruction.DecodeFault.{DecodeFault}
use Rattle.law_machine.specs.model_machine.specs.declared.instruction.DecodeFault.TheVariants.{Undefined, Past}
use Rattle.law_machine.specs.model_machine.specs.declared.instruction.Ins.{Ins}
use Rattle.law_machine.specs.model_machine.specs.Code.{Form, Kind, U8, U16, I16, operands, total, form, kinds, spell, made_of, DecodesTo, instruction_at, from_place}
use Rattle.law_machine.specs.law_rows.proofs.PlaceLemmas.{decoded_only}
use Rattle.law_machine.specs.law_rows.proofs.RowLemmas.{Good, GoodRow, good_form}
use Rattle.std.proofs.lemmas.List.{take-take}

-- ---- lengths

behind_few : (t : Bool) → total (cond t [] (I16 ∷ [])) ≤ 2
behind_few true = omega arith
behind_few false = omega arith

target_few : (t : Bool) → total (cond t [] (U16 ∷ [])) ≤ 2
target_few true = omega arith
target_few false = omega arith

replicated : (n : ℕ) → total (replicate n U8) ≡ n
replicated zero = refl
replicated (suc n) = let h = replicated n in omega (arith, h)

-- operands have at most five bytes
operands_few : (b : ℕ) (f : Form) → Good b f → total (operands f) ≤ 5
operands_few b f g = grind (arith, target_few, replicated, behind_few)

row_few : (b : ℕ) (o : Option Form) (ks : List Kind) → GoodRow b o → option_map operands o ≡ Some ks → total ks ≤ 5
row_few b None ks g e = absurd (cc e)
row_few b (Some f) ks g e = let k : operands f ≡ ks = cc e in subst (λ (l : List Kind). total l ≤ 5) k (operands_few b f g)

kinds_few : (b : ℕ) (ks : List Kind) → kinds b ≡ Some ks → total ks ≤ 5
kinds_few b ks e = row_few b (form b) ks (good_form b) e

-- ---- the front of the code that is left

first_of : (n : ℕ) (l : List ℕ) → 0 < n → slice_index (take n l) 0 ≡ slice_index l 0
first_of n l h = grind arith

byte_of : (code : List ℕ) (at : ℕ) → slice_index (drop at code) 0 ≡ slice_index code at
byte_of code zero = refl
byte_of [] (suc at) = refl
byte_of (x ∷ code) (suc at) = byte_of code at

-- a window of six bytes whose front is the code that is left
pub record IsWindow (code window : List ℕ) (at left : ℕ) : Type 0 where
  pub end : at + left ≡ length code
  pub some : 0 < left
  pub six : length window ≡ 6
  pub front : take (min left 6) window ≡ take (min left 6) (drop at code)

first_byte : (code window : List ℕ) (at left : ℕ) → IsWindow code window at left → slice_index window 0 ≡ slice_index code at
first_byte code window at left w =
    let end = w.end in
    let some : 0 < min left 6 = let h = w.some in omega (arith, h) in
    sym (first_of (min left 6) window some) ∙ ap (λ (l : List ℕ). slice_index l 0) w.front ∙ first_of (min left 6) (drop at code) some ∙ byte_of code at

-- the operands of a decoded row, and its length
made_size : (o : Option Form) (bs : List ℕ) (i : Ins) (n : ℕ) → made_of o bs ≡ Ok (i, n) → (ks : List Kind) × (option_map operands o ≡ Some ks) × (n ≡ total ks + 1)
made_size None bs i n h = absurd (cc h)
made_size (Some f) bs i n h = (operands f, refl, grind (arith, h))

place_size : (r : Result (Ins × ℕ) DecodeFault) (i : Ins) (n : ℕ) → from_place 0 r ≡ Ok (i, n) → r ≡ Ok (i, n)
place_size (Ok p) i n h = grind (arith, h)
place_size (Err e) i n h = absurd (cc h)

window_size : (l : List ℕ) (i : Ins) (n : ℕ) → instruction_at l 0 ≡ Ok (i, n) → (ks : List Kind) × (kinds (slice_index l 0) ≡ Some ks) × (n ≡ total ks + 1)
window_size [] i n h = absurd (cc h)
window_size (b ∷ bs) i n h = made_size (form b) bs i n (place_size (made_of (form b) bs) i n h)

-- if there is no instruction at the front of the window, there is none at the front of the code
pub fault_there : (code window : List ℕ) (at left : ℕ) (e : DecodeFault) → IsWindow code window at left → DecodesTo window 0 (Err e) → DecodesTo code at (Err e)
fault_there code window at left Undefined w u =
    let end = w.end in
    let some = w.some in
    record { inside = omega (arith, end, some); byte = subst (λ (b : ℕ). kinds b ≡ None) (first_byte code window at left w) u.byte }
fault_there code window at left Past w (inl none) = let six = w.six in absurd (omega (arith, none, six))
fault_there code window at left Past w (inr past) = grind (arith, kinds_few (slice_index window 0) past.0 past.1, past.2, w.six)

-- an instruction that is longer than the code that is left
pub past_there : (code window : List ℕ) (at left : ℕ) (i : Ins) (n : ℕ) → IsWindow code window at left → DecodesTo window 0 (Ok (i, n)) → left < n → DecodesTo code at (Err Past)
past_there code window at left i n w d long =
    let end = w.end in
    let size = window_size window i n (decoded_only window 0 (Ok (i, n)) d) in
    let total = size.2 in
    inr (size.0, subst (λ (b : ℕ). kinds b ≡ Some size.0) (first_byte code window at left w) size.1, omega (arith, end, total, long))

-- an instruction that lies within the code that is left
pub stands_there : (code window : List ℕ) (at left : ℕ) (i : Ins) (n : ℕ) → IsWindow code window at left → DecodesTo window 0 (Ok (i, n)) → n ≤ left → DecodesTo code at (Ok (i, at + n))
stands_there code window at left i n w d short =
    let end = w.end in
    let six = w.six in
    let place = d.place in
    let inside = d.inside in
    let few : length (spell i) ≤ min left 6 = omega (arith, short, six, place, inside) in
    record {
      shaped = d.shaped;
      place = omega (arith, place);
      inside = omega (arith, end, short);
      bytes = sym (take-take (length (spell i)) (min left 6) (drop at code) few) ∙ ap (take (length (spell i))) (sym w.front) ∙ take-take (length (spell i)) (min left 6) window few ∙ d.bytes;
    }
