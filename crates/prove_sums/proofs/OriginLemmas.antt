-- Lists of origins, and their lengths.
use Rattle.std.proofs.Common.{◌≡◌, ◌∙◌, ℕ, zero, suc, ◌+◌, ◌-◌, ◌<◌, Bool, true, false, cond, List, [], ◌∷◌, ◌++◌, length, filter, refl, sym, ap, append_assoc, arith}
use Rattle.std.specs.Prelude.{map}
use Rattle.std.proofs.lemmas.List.{append-nil, length-map, map-append}
use Rattle.prove_facts.specs.model_prove.specs.Sets.{numbers_from}
use Rattle.prove_forms.specs.model_sums.specs.Origins as origins
use Rattle.prove_forms.specs.declared.origins.Listed.{Listed}
use Rattle.prove_forms.specs.declared.origins.Origin.{Origin}
use Rattle.prove_forms.specs.Origins.{listed_value, listed_values, origin_value, origin_values}

-- the origins of n bytes are n
from_long : (o : origins.Origins) (a n : ℕ) → length (origins.origins_from o a n) ≡ n
from_long o a zero = refl
from_long o a (suc n) = ap suc (from_long o (suc a) n)

-- those of n bytes as they are written are n
pub from_length : (o : origins.Origins) (a n : ℕ) (bytes : List Origin) → origin_values bytes ≡ origins.origins_from o a n → length bytes ≡ n
from_length o a n bytes e = sym (length-map bytes origin_value) ∙ ap (λ (x : List origins.Origin). length x) e ∙ from_long o a n

-- ---- bytes that come from nowhere

abbrev Rows : Type 0
Rows = List (ℕ × origins.Origin)

kept_or_not : (b : Bool) (v : ℕ) (old : Rows) (rest : List ℕ) (all : Rows) → old ++ map (λ (a : ℕ). (a, origins.Unknown)) (cond b (v ∷ rest) rest) ≡ all
    → (old ++ cond b ((v, origins.Unknown) ∷ []) []) ++ map (λ (a : ℕ). (a, origins.Unknown)) rest ≡ all
kept_or_not true v old rest all h = append_assoc old ((v, origins.Unknown) ∷ []) (map (λ (a : ℕ). (a, origins.Unknown)) rest) ∙ h
kept_or_not false v old rest all h = ap (λ (l : Rows). l ++ map (λ (a : ℕ). (a, origins.Unknown)) rest) (append-nil old) ∙ h

next_numbers : (p : ℕ → Bool) (v n m : ℕ) → n ≡ suc m → filter p (numbers_from v n) ≡ cond (p v) (v ∷ filter p (numbers_from (v + 1) m)) (filter p (numbers_from (v + 1) m))
next_numbers p v n m e =
    let u : suc v ≡ v + 1 = omega arith in
    ap (λ (k : ℕ). filter p (numbers_from v k)) e
    ∙ ap (λ (k : ℕ). cond (p v) (v ∷ filter p (numbers_from k m)) (filter p (numbers_from k m))) u

-- those so far, and those of the numbers that are left, are all
pub reached_next : (p : ℕ → Bool) (v to : ℕ) (b : Bool) (old new all : Rows) → v < to → b ≡ p v → new ≡ old ++ cond b ((v, origins.Unknown) ∷ []) []
    → old ++ map (λ (a : ℕ). (a, origins.Unknown)) (filter p (numbers_from v (to - v))) ≡ all
    → new ++ map (λ (a : ℕ). (a, origins.Unknown)) (filter p (numbers_from (v + 1) (to - (v + 1)))) ≡ all
reached_next p v to b old new all l i e h =
    let rest = filter p (numbers_from (v + 1) (to - (v + 1))) in
    ap (λ (x : Rows). x ++ map (λ (a : ℕ). (a, origins.Unknown)) rest) (e ∙ ap (λ (c : Bool). old ++ cond c ((v, origins.Unknown) ∷ []) []) i)
    ∙ kept_or_not (p v) v old rest all
    (ap (λ (r : List ℕ). old ++ map (λ (a : ℕ). (a, origins.Unknown)) r) (sym (next_numbers p v (to - v) (to - (v + 1)) (omega (arith, l)))) ∙ h)

filter_parts : (p : ℕ → Bool) (a b : List ℕ) → filter p (a ++ b) ≡ filter p a ++ filter p b
filter_parts p [] b = refl
filter_parts p (x ∷ a) b = part_by (p x) x (filter p (a ++ b)) (filter p a) (filter p b) (filter_parts p a b)
  where
    part_by : (c : Bool) (x : ℕ) (all xs ys : List ℕ) → all ≡ xs ++ ys → cond c (x ∷ all) all ≡ cond c (x ∷ xs) xs ++ ys
    part_by true x all xs ys e = ap (λ (l : List ℕ). x ∷ l) e
    part_by false x all xs ys e = e

-- those of two parts, and the others
pub reached_all : (p : ℕ → Bool) (a b : List ℕ) (l0 l1 l2 l3 own : List Listed) → l0 ≡ []
    → listed_values l1 ≡ listed_values l0 ++ map (λ (x : ℕ). (x, origins.Unknown)) (filter p a)
    → listed_values l2 ≡ listed_values l1 ++ map (λ (x : ℕ). (x, origins.Unknown)) (filter p b) → l3 ≡ l2 ++ own
    → listed_values l3 ≡ map (λ (x : ℕ). (x, origins.Unknown)) (filter p (a ++ b)) ++ listed_values own
reached_all p a b l0 l1 l2 l3 own e f g h =
    let lost : ℕ → ℕ × origins.Origin = λ x. (x, origins.Unknown) in
    ap listed_values h ∙ map-append listed_value l2 own
    ∙ ap (λ (x : Rows). x ++ listed_values own)
    (g ∙ ap (λ (x : Rows). x ++ map lost (filter p b)) (f ∙ ap (λ (x : List Listed). listed_values x ++ map lost (filter p a)) e)
    ∙ sym (map-append lost (filter p a) (filter p b)) ∙ ap (λ (x : List ℕ). map lost x) (sym (filter_parts p a b)))
