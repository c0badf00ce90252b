-- A command that reaches an application: its header, how many bytes it has, and how many of them are data.
use Rattle.std.proofs.Common.{◌≡◌, ℕ, ◌+◌, ◌*◌, ◌<◌, ◌≤◌, Bool, true, false, cond, List, [], ◌∷◌, length, take, Option, Some, None, refl, subst, arith}
use Rattle.std.specs.Prelude.{⊤, ◌==◌, ◌&&◌, nat_le, option_map}
use Rattle.std.proofs.lemmas.Bool.{and_parts, leb-true, eqb-true}
use Rattle.std.proofs.lemmas.List.{length-take}
use Rattle.law_prove.specs.model_machine.specs.Apdu.{ApduParts, Rest, short_rest, extended_body, extended_rest, rest_read, apdu_read}
use Rattle.law_prove.specs.model_card.specs.Manager.{WrongClass, ToSelect, ToManager, ToApplication, route_of_parts, route}

-- ---- sizes

-- what follows a header of a command whose fifth byte is a byte: so many data, in so many bytes
abbrev IsFew : ℕ → Option Rest → Type 0
IsFew n None = ⊤
IsFew n (Some r) = r.p3 < 256 → (length r.body ≤ 1024) × (n ≤ 1030)

-- Lc is the number of bytes, or that of the bytes before Le
whole_few : (x y : Bool) (n lc more p : ℕ) (b : List ℕ) (le : Option ℕ) → n ≤ length b + 3 → more ≤ 2 → (p < 256 → lc ≤ 1024) → (length b == lc) ≡ x → (length b == lc + more) ≡ y
    → IsFew n (cond x (Some (record { p3 = p; body = b; le = None })) (cond y (Some (record { p3 = p; body = take lc b; le = le })) None))
whole_few x y n lc more p b le size two low e f = grind (arith, eqb-true, length-take)

extended_by : (x : Bool) (n lc : ℕ) (b : List ℕ) → n ≤ length b + 3 → (nat_le 1 lc && nat_le lc 1024) ≡ x → IsFew n (cond x (extended_body lc b) None)
extended_by x n lc b size e = grind (arith, whole_few, leb-true, and_parts)

extended_few : (n : ℕ) (b : List ℕ) → n ≤ length b + 1 → IsFew n (extended_rest b)
extended_few n [] size = tt
extended_few n (h ∷ []) size = tt
extended_few n (h ∷ l ∷ []) size = λ small. (omega arith, omega (arith, size))
extended_few n (h ∷ l ∷ x ∷ xs) size = extended_by (nat_le 1 (256 * h + l) && nat_le (256 * h + l) 1024) n (256 * h + l) (x ∷ xs) (omega (arith, size)) refl

rest_by : (t : Bool) (n p x : ℕ) (xs : List ℕ) → n ≤ length (x ∷ xs) + 1 → IsFew n (cond t (extended_rest (x ∷ xs)) (short_rest p (x ∷ xs)))
rest_by true n p x xs size = extended_few n (x ∷ xs) size
rest_by false n p x xs size =
    whole_few (length (x ∷ xs) == p) (length (x ∷ xs) == p + 1) n p 1 p (x ∷ xs) _ (omega (arith, size)) (omega arith) (λ small. omega (arith, small)) refl refl

rest_few : (b : List ℕ) → IsFew (length b) (rest_read b)
rest_few b = grind (arith, rest_by)

-- ---- commands

-- the bytes of a command: its header, and what follows it
pub record IsRead (bytes : List ℕ) (a : ApduParts) : Type 0 where
  pub rest : List ℕ
  pub is : bytes ≡ a.cla ∷ a.ins ∷ a.p1 ∷ a.p2 ∷ rest
  pub size : length rest ≤ 1030
  pub few : length a.body ≤ 1024

read_by : (cla ins p1 p2 : ℕ) (b : List ℕ) (a : ApduParts) (o : Option Rest) → rest_read b ≡ o
    → option_map (λ (r : Rest). record { cla = cla; ins = ins; p1 = p1; p2 = p2; p3 = r.p3; body = r.body; le = r.le }) o ≡ Some a → a.p3 < 256 → IsRead (cla ∷ ins ∷ p1 ∷ p2 ∷ b) a
read_by cla ins p1 p2 b a None is e = absurd (cc e)
read_by cla ins p1 p2 b a (Some r) is e =
    let made : ApduParts = record { cla = cla; ins = ins; p1 = p1; p2 = p2; p3 = r.p3; body = r.body; le = r.le } in
    let same : made ≡ a = cc e in
    let few : IsFew (length b) (Some r) = subst (λ (o : Option Rest). IsFew (length b) o) is (rest_few b) in
    subst (λ (z : ApduParts). z.p3 < 256 → IsRead (cla ∷ ins ∷ p1 ∷ p2 ∷ b) z) same (λ small. record { rest = b; is = refl; size = (few small).1; few = (few small).0 })

read_is : (bytes : List ℕ) (a : ApduParts) → apdu_read bytes ≡ Some a → a.p3 < 256 → IsRead bytes a
unfolding apdu_read
read_is [] a e = absurd (cc e)
read_is (x ∷ []) a e = absurd (cc e)
read_is (x ∷ y ∷ []) a e = absurd (cc e)
read_is (x ∷ y ∷ z ∷ []) a e = absurd (cc e)
read_is (cla ∷ ins ∷ p1 ∷ p2 ∷ b) a e = read_by cla ins p1 p2 b a (rest_read b) refl e

-- a command that reaches an application: no other takes it
pub record Reaches (bytes : List ℕ) (a : ApduParts) : Type 0 where
  pub read : apdu_read bytes ≡ Some a
  pub no_ff : (a.cla == 0xFF) ≡ false
  pub no_select : (a.cla == 0 && a.ins == 0xA4 && a.p1 == 4) ≡ false
  pub no_be : (a.cla == 0xBE) ≡ false

classes_by : (x y z : Bool) (bytes : List ℕ) (b a : ApduParts) → apdu_read bytes ≡ Some b → (b.cla == 0xFF) ≡ x → (b.cla == 0 && b.ins == 0xA4 && b.p1 == 4) ≡ y → (b.cla == 0xBE) ≡ z
    → cond x WrongClass (cond y (ToSelect b) (cond z (ToManager b) (ToApplication b))) ≡ ToApplication a → Reaches bytes a
classes_by true y z bytes b a read ff select be e = absurd (cc e)
classes_by false true z bytes b a read ff select be e = absurd (cc e)
classes_by false false true bytes b a read ff select be e = absurd (cc e)
classes_by false false false bytes b a read ff select be e =
    let same : b ≡ a = cc e in
    subst (λ (c : ApduParts). Reaches bytes c) same (record { read = read; no_ff = ff; no_select = select; no_be = be })

reached_by : (o : Option ApduParts) (bytes : List ℕ) (a : ApduParts) → apdu_read bytes ≡ o → route_of_parts o ≡ ToApplication a → Reaches bytes a
reached_by None bytes a read e = absurd (cc e)
reached_by (Some b) bytes a read e = classes_by (b.cla == 0xFF) (b.cla == 0 && b.ins == 0xA4 && b.p1 == 4) (b.cla == 0xBE) bytes b a read refl refl refl e

-- a command that is routed to an application reaches it
pub reached : (bytes : List ℕ) (a : ApduParts) → route bytes ≡ ToApplication a → Reaches bytes a
reached bytes a e = reached_by (apdu_read bytes) bytes a refl e

-- such a command has its header and what follows it
pub read_of : (bytes : List ℕ) (a : ApduParts) → route bytes ≡ ToApplication a → a.p3 < 256 → IsRead bytes a
read_of bytes a e = read_is bytes a (reached bytes a e).read
