-- Texts in two parts.
use Rattle.std.proofs.Common.{◌≡◌, ℕ, Bool, List, ◌∷◌, Option, Some, None, refl}
use Rattle.std.specs.Prelude.{◌==◌}
use Rattle.model_text.specs.Text.{first_cut}
use Rattle.mc_asm.specs.Parts.{pair_of, two_parts}
use Rattle.mc_text.proofs.ReadingLemmas.{pieces_at, pieces_cut}

-- the second part of two
abbrev pub second_part : List ℕ → List ℕ × Option (List ℕ) → Option (List ℕ × List ℕ)
second_part a (b, None) = Some (a, b)
second_part a (b, Some rest) = None

abbrev pub parts_after : (ℕ → Bool) → List ℕ × Option (List ℕ) → Option (List ℕ × List ℕ)
parts_after f (a, None) = None
parts_after f (a, Some rest) = second_part a (first_cut f rest)

pair_more : (f : ℕ → Bool) (a b : List ℕ) (p : List ℕ × Option (List ℕ)) → pair_of (a ∷ b ∷ pieces_cut f p) ≡ None
pair_more f a b (c, None) = refl
pair_more f a b (c, Some rest) = refl

pair_second : (f : ℕ → Bool) (a : List ℕ) (p : List ℕ × Option (List ℕ)) → pair_of (a ∷ pieces_cut f p) ≡ second_part a p
pair_second f a (b, None) = refl
pair_second f a (b, Some rest) = rw (pieces_at f rest) (pair_more f a b (first_cut f rest))

pair_first : (f : ℕ → Bool) (p : List ℕ × Option (List ℕ)) → pair_of (pieces_cut f p) ≡ parts_after f p
pair_first f (a, None) = refl
pair_first f (a, Some rest) = rw (pieces_at f rest) (pair_second f a (first_cut f rest))

-- the two parts of a text, from its first cut and the first cut of the rest
pub two_parts_cut : (c : ℕ) (t : List ℕ) → two_parts c t ≡ parts_after (λ d. d == c) (first_cut (λ d. d == c) t)
two_parts_cut c t = rw (pieces_at (λ d. d == c) t) (pair_first (λ d. d == c) (first_cut (λ d. d == c) t))
