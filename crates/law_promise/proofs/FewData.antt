-- A command of bytes carries at most 1,024 bytes of data, and its INS is a byte.
use Rattle.std.proofs.Common.{◌≡◌, ℕ, ◌+◌, ◌*◌, ◌<◌, ◌≤◌, Bool, true, false, cond, List, [], ◌∷◌, length, take, Option, Some, None, refl, subst, arith}
use Rattle.std.specs.Prelude.{⊤, ◌==◌, ◌&&◌, nat_le, option_map}
use Rattle.std.proofs.lemmas.Bool.{and_parts, leb-true, eqb-true}
use Rattle.std.proofs.lemmas.List.{length-take}
use Rattle.model_events.specs.model_device.specs.Bytes.{AreBytes}
use Rattle.model_events.specs.model_machine.specs.Apdu.{ApduParts, Rest, short_rest, extended_body, extended_rest, rest_read, apdu_read}

abbrev IsFew : Option Rest → Type 0
IsFew None = ⊤
IsFew (Some r) = length r.body ≤ 1024

front_few : (lc : ℕ) (b : List ℕ) → lc ≤ 1024 → length (take lc b) ≤ 1024
front_few lc b h = omega (arith, length-take lc b)

-- Lc is the number of bytes, or that of the bytes before Le
whole_few : (x y : Bool) (lc p : ℕ) (b : List ℕ) (le : Option ℕ) → lc ≤ 1024 → (length b == lc) ≡ x → IsFew (cond x (Some (record { p3 = p; body = b; le = None })) (cond y (Some (record { p3 = p; body = take lc b; le = le })) None))
whole_few x y lc p b le h e = grind (arith, eqb-true, front_few)

extended_by : (x : Bool) (lc : ℕ) (b : List ℕ) → (nat_le 1 lc && nat_le lc 1024) ≡ x → IsFew (cond x (extended_body lc b) None)
extended_by false lc b e = tt
extended_by true lc b e = whole_few (length b == lc) (length b == lc + 2) lc 0 b _ (leb-true lc 1024 (and_parts (nat_le 1 lc) (nat_le lc 1024) e).1) refl

extended_few : (b : List ℕ) → IsFew (extended_rest b)
extended_few [] = tt
extended_few (h ∷ []) = tt
extended_few (h ∷ l ∷ []) = omega arith
extended_few (h ∷ l ∷ x ∷ xs) = extended_by (nat_le 1 (256 * h + l) && nat_le (256 * h + l) 1024) (256 * h + l) (x ∷ xs) refl

rest_by : (t : Bool) (p x : ℕ) (xs : List ℕ) → p < 256 → IsFew (cond t (extended_rest (x ∷ xs)) (short_rest p (x ∷ xs)))
rest_by true p x xs h = extended_few (x ∷ xs)
rest_by false p x xs h = whole_few (length (x ∷ xs) == p) (length (x ∷ xs) == p + 1) p p (x ∷ xs) _ (omega arith) refl

rest_few : (b : List ℕ) → AreBytes b → IsFew (rest_read b)
rest_few b h = grind (arith, rest_by)

abbrev AreFew : Option ApduParts → Type 0
AreFew None = ⊤
AreFew (Some a) = (length a.body ≤ 1024) × (a.ins < 256)

parts_few : (cla ins p1 p2 : ℕ) (r : Option Rest) → ins < 256 → IsFew r → AreFew (option_map (λ (r : Rest). record { cla = cla; ins = ins; p1 = p1; p2 = p2; p3 = r.p3; body = r.body; le = r.le }) r)
parts_few cla ins p1 p2 None byte h = tt
parts_few cla ins p1 p2 (Some r) byte h = (h, byte)

read_few : (b : List ℕ) → AreBytes b → AreFew (apdu_read b)
unfolding apdu_read
read_few [] h = tt
read_few (x ∷ []) h = tt
read_few (x ∷ y ∷ []) h = tt
read_few (x ∷ y ∷ z ∷ []) h = tt
read_few (cla ∷ ins ∷ p1 ∷ p2 ∷ b) h = parts_few cla ins p1 p2 (rest_read b) h.1.0 (rest_few b h.1.1.1.1)

-- a command of bytes has at most 1,024 bytes of data and one byte as INS
pub few_data : (b : List ℕ) (a : ApduParts) → AreBytes b → apdu_read b ≡ Some a → (length a.body ≤ 1024) × (a.ins < 256)
few_data b a h e = subst AreFew e (read_few b h)
