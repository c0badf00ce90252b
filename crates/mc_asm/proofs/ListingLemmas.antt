-- The listing of code, place by place.
use Rattle.std.proofs.Common.{◌≡◌, ℕ, zero, suc, ◌+◌, ◌<◌, ◌≤◌, List, [], ◌∷◌, ◌++◌, length, drop, Option, Some, None, Result, Ok, Err, arith, refl, sym, ap, length-drop, append_assoc, ◌∙◌}
use Rattle.std.specs.Prelude.{codes}
use Rattle.model_text.specs.Text.{ok_as}
use Rattle.model_text.specs.model_machine.specs.Code.{Form, form, made_of, front, from_place, instruction_at}
use Rattle.model_text.specs.Listing.{text_of, line_before, listing_from, listing_of_code}
use Rattle.model_text.specs.model_machine.specs.declared.instruction.DecodeFault.{DecodeFault}
use Rattle.model_text.specs.model_machine.specs.declared.instruction.Ins.{Ins}
use Rattle.std.proofs.lemmas.List.{drop-drop}

-- an instruction has at least one byte
made_some : (o : Option Form) (bs : List ℕ) (p : Ins × ℕ) → made_of o bs ≡ Ok p → 1 ≤ p.1
made_some None bs p h = absurd (cc h)
made_some (Some f) bs p h = grind (arith, h)

pub front_some : (b : ℕ) (bs : List ℕ) (p : Ins × ℕ) → front (b ∷ bs) ≡ Ok p → 1 ≤ p.1
front_some b bs p h = made_some (form b) bs p h

-- ---- fuel

fuel_step : (f g at : ℕ) (b : ℕ) (bs : List ℕ) (r : Result (Ins × ℕ) DecodeFault) → front (b ∷ bs) ≡ r → length bs ≤ f → length bs ≤ g
    → ((l : List ℕ) (n : ℕ) → length l ≤ f → length l ≤ g → listing_from f l n ≡ listing_from g l n) → listing_from (suc f) (b ∷ bs) at ≡ listing_from (suc g) (b ∷ bs) at
unfolding listing_from
fuel_step f g at b bs (Err e) q h k i = rw q refl
fuel_step f g at b bs (Ok p) q h k i =
    let s = front_some b bs p q in
    let d = length-drop p.1 (b ∷ bs) in
    rw q (ap (line_before (text_of p.0)) (i (drop p.1 (b ∷ bs)) (at + p.1) (omega (arith, d, s, h)) (omega (arith, d, s, k))))

pub no_bytes : (f at : ℕ) → listing_from f [] at ≡ Ok []
unfolding listing_from
no_bytes zero at = refl
no_bytes (suc f) at = refl

-- fuel of at least the number of bytes that are left is enough
enough : (f g : ℕ) (l : List ℕ) (at : ℕ) → length l ≤ f → length l ≤ g → listing_from f l at ≡ listing_from g l at
enough f g [] at h k = no_bytes f at ∙ sym (no_bytes g at)
enough zero g (b ∷ bs) at h k = absurd (omega (arith, h))
enough (suc f) zero (b ∷ bs) at h k = absurd (omega (arith, k))
enough (suc f) (suc g) (b ∷ bs) at h k = fuel_step f g at b bs (front (b ∷ bs)) refl (omega (arith, h)) (omega (arith, k)) (λ l n. enough f g l n)

-- ---- place by place

-- the lines of the bytes from a place on
abbrev pub left_listed : List ℕ → ℕ → Result (List ℕ) (ℕ × DecodeFault)
left_listed code at = listing_from (length code) (drop at code) at

pub whole_listed : (code : List ℕ) → listing_of_code code ≡ left_listed code 0
unfolding listing_of_code
whole_listed code = refl

drop_all : (l : List ℕ) (n : ℕ) → length l ≤ n → drop n l ≡ []
drop_all [] zero h = refl
drop_all [] (suc n) h = refl
drop_all (b ∷ l) zero h = absurd (omega (arith, h))
drop_all (b ∷ l) (suc n) h = drop_all l n (omega (arith, h))

pub listed_end : (code : List ℕ) (at : ℕ) → length code ≤ at → left_listed code at ≡ Ok []
listed_end code at h = ap (λ l. listing_from (length code) l at) (drop_all code at h) ∙ no_bytes (length code) at

-- a decoding result is an instruction, and `next` is the place after it
record InstructionFound (at : ℕ) (r : Result (Ins × ℕ) DecodeFault) (i : Ins) (next : ℕ) : Type 0 where
  size : ℕ
  is : r ≡ Ok (i, size)
  place : next ≡ at + size

decoded_in : (at : ℕ) (r : Result (Ins × ℕ) DecodeFault) (i : Ins) (next : ℕ) → from_place at r ≡ Ok (i, next) → InstructionFound at r i next
decoded_in at (Ok p) i next h =
    let e : (p.0, at + p.1) ≡ (i, next) = cc h in
    record { size = p.1; is = ap (λ j. Ok (j, p.1)) (ap (λ (q : Ins × ℕ). q.0) e); place = sym (ap (λ (q : Ins × ℕ). q.1) e) }
decoded_in at (Err e) i next h = absurd (cc h)

fault_in : (at : ℕ) (r : Result (Ins × ℕ) DecodeFault) (e : DecodeFault) → from_place at r ≡ Err e → r ≡ Err e
fault_in at (Ok p) e h = absurd (cc h)
fault_in at (Err f) e h = ap Err (cc h)

more_in : (fuel at : ℕ) (l : List ℕ) (i : Ins) (n : ℕ) → front l ≡ Ok (i, n) → length l ≤ fuel → listing_from fuel l at ≡ line_before (text_of i) (listing_from fuel (drop n l) (at + n))
unfolding listing_from
more_in fuel at [] i n e h = absurd (cc e)
more_in zero at (b ∷ bs) i n e h = absurd (omega (arith, h))
more_in (suc fuel) at (b ∷ bs) i n e h =
    let s = front_some b bs (i, n) e in
    let d = length-drop n (b ∷ bs) in
    rw e (ap (line_before (text_of i)) (enough fuel (suc fuel) (drop n (b ∷ bs)) (at + n) (omega (arith, s, d, h)) (omega (arith, s, d, h))))

fault_at : (fuel at : ℕ) (l : List ℕ) (e : DecodeFault) → front l ≡ Err e → 0 < length l → length l ≤ fuel → listing_from fuel l at ≡ Err (at, e)
unfolding listing_from
fault_at fuel at [] e q p h = absurd (omega (arith, p))
fault_at zero at (b ∷ bs) e q p h = absurd (omega (arith, h))
fault_at (suc fuel) at (b ∷ bs) e q p h = rw q refl

-- the lines from an instruction on are its line and those after it
pub listed_more : (code : List ℕ) (at next : ℕ) (i : Ins) → instruction_at code at ≡ Ok (i, next) → left_listed code at ≡ line_before (text_of i) (left_listed code next)
listed_more code at next i e =
    let f = decoded_in at (front (drop at code)) i next e in
    let d = length-drop at code in
    more_in (length code) at (drop at code) i f.size f.is (omega (arith, d))
    ∙ ap (λ l. line_before (text_of i) (listing_from (length code) l (at + f.size))) (drop-drop f.size at code)
    ∙ ap (λ n. line_before (text_of i) (left_listed code n)) (sym f.place)

-- the lines from a place on where no instruction is decoded are the fault of that place
pub listed_fault : (code : List ℕ) (at : ℕ) (e : DecodeFault) → at < length code → instruction_at code at ≡ Err e → left_listed code at ≡ Err (at, e)
listed_fault code at e h q =
    let d = length-drop at code in
    fault_at (length code) at (drop at code) e (fault_in at (front (drop at code)) e q) (omega (arith, d, h)) (omega (arith, d))

-- a text followed by a line and the lines after it
pub line_behind : (text line : List ℕ) (r : Result (List ℕ) (ℕ × DecodeFault)) → ok_as (λ rest. (text ++ line ++ codes "\n") ++ rest) r ≡ ok_as (λ rest. text ++ rest) (line_before line r)
line_behind text line (Ok rest) = ap Ok (append_assoc (text ++ line) (codes "\n") rest ∙ append_assoc text line (codes "\n" ++ rest) ∙ ap (λ l. text ++ l) (sym (append_assoc line (codes "\n") rest)))
line_behind text line (Err e) = refl

nothing_before : (r : Result (List ℕ) (ℕ × DecodeFault)) → ok_as (λ rest. [] ++ rest) r ≡ r
nothing_before (Ok rest) = refl
nothing_before (Err e) = refl

pub no_text : (code : List ℕ) → ok_as (λ rest. [] ++ rest) (left_listed code 0) ≡ listing_of_code code
no_text code = nothing_before (left_listed code 0) ∙ sym (whole_listed code)
