-- Lists of origins.
use Rattle.std.specs.Prelude.{◌≡◌, ℕ, suc, ◌+◌, ◌-◌, ◌<◌, Bool, List, [], ◌∷◌, ◌++◌, length, get_or, drop, refl}
use Rattle.std.proofs.Common.{arith, ap, sym, ◌∙◌}
use Rattle.std.proofs.lemmas.List.{map-append, append_assoc}
use Rattle.std.proofs.Math.Seq.{drop-cons}
use Rattle.model_sums.specs.Origins as origins
use Rattle.prove_forms.specs.declared.origins.Origin.{Origin}
use Rattle.prove_forms.specs.Origins.{origin_value, origin_values, listed_from}

abbrev pub Entries : Type 0
Entries = List (ℕ × origins.Origin)

-- origins of these entries
abbrev pub made : Bool → Entries → origins.Origins
made own entries = record { own = own; listed = entries }

-- the bytes from a place on
pub bytes_after : (os : List Origin) (i : ℕ) (d : Origin) → i < length os → origin_values (drop i os) ≡ origin_value (get_or os i d) ∷ origin_values (drop (i + 1) os)
bytes_after os i d h =
    let next : suc i ≡ i + 1 = omega arith in
    ap (λ (r : List Origin). origin_values r) (drop-cons os i d h) ∙ ap (λ (k : ℕ). origin_value (get_or os i d) ∷ origin_values (drop k os)) next

-- one byte more is read
pub read_next : (gs : List Origin) (g : Origin) (o : origins.Origins) (a i n : ℕ) → i < n → origin_value g ≡ origins.origin_at o (a + i)
    → origin_values (gs ++ g ∷ []) ++ origins.origins_from o (a + (i + 1)) (n - (i + 1)) ≡ origin_values gs ++ origins.origins_from o (a + i) (n - i)
read_next gs g o a i n h e =
    let rest : List origins.Origin = origins.origins_from o (a + (i + 1)) (n - (i + 1)) in
    let less : n - i ≡ suc (n - (i + 1)) = omega (arith, h) in
    let next : a + (i + 1) ≡ suc (a + i) = omega arith in
    ap (λ (r : List origins.Origin). r ++ rest) (map-append origin_value gs (g ∷ [])) ∙ append_assoc (origin_values gs) (origin_value g ∷ []) rest
    ∙ ap (λ (x : origins.Origin). origin_values gs ++ (x ∷ rest)) e
    ∙ ap (λ (k : ℕ). origin_values gs ++ (origins.origin_at o (a + i) ∷ origins.origins_from o k (n - (i + 1)))) next
    ∙ ap (λ (k : ℕ). origin_values gs ++ origins.origins_from o (a + i) k) (sym less)

-- what is written stands before what was listed
pub with_is : (a : ℕ) (gs : List origins.Origin) (o : origins.Origins)
    → origins.with_origins a gs o ≡ made o.own (listed_from a gs ++ o.listed)
with_is a [] o = refl
with_is a (g ∷ gs) o = ap (λ (r : origins.Origins). record r { listed = (a, g) ∷ r.listed }) (with_is (suc a) gs o)
