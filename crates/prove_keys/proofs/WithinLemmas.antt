-- Facts of some bytes alone follow where facts of all bytes do.
use Rattle.std.proofs.Common.{◌≡◌, ℕ, Bool, true, false, ◌&&◌, cond, List, [], ◌∷◌, Option, Some, None, refl, sym, ap, ◌∙◌}
use Rattle.std.specs.Prelude.{◌==◌, nat_le, nat_lt, filter, unwrap_or}
use Rattle.std.proofs.lemmas.Bool.{and_parts, eqb-true}
use Rattle.prove_facts.specs.model_prove.specs.Sets.{Set, all_bytes, is_subset}
use Rattle.prove_facts.specs.model_prove.specs.Facts.{Facts, fact_at, values_at, within, fact_follows, follow}
use Rattle.prove_facts.specs.model_prove.specs.Compares.{Compare}
use Rattle.prove_facts.specs.model_prove.specs.Keys.{known_follows, compare_follows}
use Rattle.prove_keys.specs.declared.known.PackedKnown.{PackedKnown}
use Rattle.prove_keys.specs.Known.{known_of, settled_of, packed_bytes, packed_compare}
use Rattle.prove_keys.proofs.SameLemmas.{both}

-- the facts of the bytes whose addresses pass a test
abbrev those : (ℕ → Bool) → Facts → Facts
those p f = filter (λ e. p e.0) f

-- a byte that passes has the fact that it has
fact_in : (p : ℕ → Bool) (f : Facts) (a : ℕ) → p a ≡ true → fact_at (those p f) a ≡ fact_at f a
fact_in p [] a h = refl
fact_in p (e ∷ f) a h = cases (p e.0) (e.0 == a) refl refl (fact_in p f a h)
  where
    lost : p e.0 ≡ false → (e.0 == a) ≡ true → ⊥
    lost fails same =
        let pass : p e.0 ≡ true = ap p (eqb-true e.0 a same) ∙ h in
        cc (sym pass ∙ fails)

    cases : (b c : Bool) → p e.0 ≡ b → (e.0 == a) ≡ c → fact_at (those p f) a ≡ fact_at f a → fact_at (those p (e ∷ f)) a ≡ fact_at (e ∷ f) a
    cases true c pass same rest =
        ap (λ (d : Bool). fact_at (cond d (e ∷ those p f) (those p f)) a) pass ∙ ap (λ (o : Option Set). cond (e.0 == a) (Some e.1) o) rest
    cases false true pass same rest = absurd (lost pass same)
    cases false false pass same rest =
        ap (λ (d : Bool). fact_at (cond d (e ∷ those p f) (those p f)) a) pass ∙ rest ∙ sym (ap (λ (d : Bool). cond d (Some e.1) (fact_at f a)) same)

-- facts of these bytes follow from those of the same bytes
follow_in : (p : ℕ → Bool) (f g : Facts) → follow f g ≡ true → follow (those p f) (those p g) ≡ true
follow_in p f [] h = refl
follow_in p f (e ∷ g) h = cases (p e.0) refl (follow_in p f g (and_parts (fact_follows f e) (follow f g) h).1)
  where
    cases : (b : Bool) → p e.0 ≡ b → follow (those p f) (those p g) ≡ true → follow (those p f) (those p (e ∷ g)) ≡ true
    cases true pass rest =
        let here : fact_follows (those p f) e ≡ true =
        ap (λ (o : Option Set). is_subset (unwrap_or o all_bytes) e.1) (fact_in p f e.0 pass) ∙ (and_parts (fact_follows f e) (follow f g) h).0
        in
        ap (λ (d : Bool). follow (those p f) (cond d (e ∷ those p g) (those p g))) pass ∙ both _ _ here rest
    cases false pass rest = ap (λ (d : Bool). follow (those p f) (cond d (e ∷ those p g) (those p g))) pass ∙ rest

-- what is known at a place without protection follows if all bytes and the last compare do
pub settled_follows : (fixed : ℕ) (f : Facts) (c : Compare) (p : PackedKnown) → follow f (packed_bytes p) ≡ true → compare_follows c (packed_compare p) ≡ true
    → known_follows (settled_of fixed f c) (known_of false fixed p) ≡ true
settled_follows fixed f c p bytes compare =
    both _ _ (both _ _ bytes (follow_in (λ a. nat_le 0 a && nat_lt a fixed) f (packed_bytes p) bytes)) compare
