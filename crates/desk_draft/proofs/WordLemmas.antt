-- The words whose second operand is a length, and operands that are alone.
use Rattle.std.proofs.Common.{◌≡◌, ℕ, Bool, true, false, List, [], ◌∷◌, ◌++◌, length, Option, Some, None, refl, ap, sym, ◌∙◌, arith}
use Rattle.std.specs.Prelude.{◌||◌, ◌==◌, bytes_eq, is_none}
use Rattle.mc_text.specs.model_device.specs.Bytes.{has_name}
use Rattle.mc_text.specs.model_text.specs.Text.{first_cut, pieces}
use Rattle.mc_text.proofs.ReadingLemmas.{pieces_at, pieces_cut}
use Rattle.desk_draft.specs.Operands.{sized_words, moving_words, one_block_words, two_block_words}

or_assoc : (a b c : Bool) → (a || (b || c)) ≡ ((a || b) || c)
or_assoc true b c = refl
or_assoc false b c = refl

in_both : (n : List ℕ) (xs ys : List (List ℕ)) → has_name n (xs ++ ys) ≡ (has_name n xs || has_name n ys)
in_both n [] ys = refl
in_both n (x ∷ xs) ys = ap (λ b. bytes_eq x n || b) (in_both n xs ys) ∙ or_assoc (bytes_eq x n) (has_name n xs) (has_name n ys)

-- a word by its family
pub sized_by_families : (n : List ℕ) → has_name n sized_words ≡ (has_name n moving_words || (has_name n one_block_words || has_name n two_block_words))
sized_by_families n = in_both n moving_words (one_block_words ++ two_block_words) ∙ ap (λ b. has_name n moving_words || b) (in_both n one_block_words two_block_words)

-- ---- one piece

some_piece : (p : List ℕ × Option (List ℕ)) → 0 ≡ length (pieces_cut (λ c. c == 44) p) → ⊥
some_piece (a, None) h = omega (arith, h)
some_piece (a, Some t) h = omega (arith, h)

pub one_of : (p : List ℕ × Option (List ℕ)) → is_none p.1 ≡ (length (pieces_cut (λ c. c == 44) p) == 1)
one_of (a, None) = refl
one_of (a, Some t) = grind (arith, some_piece (first_cut (λ c. c == 44) t), pieces_at (λ c. c == 44) t)

-- a text of operands has one where no comma cuts it
pub one_piece : (t : List ℕ) (b : Option (List ℕ)) → b ≡ (first_cut (λ c. c == 44) t).1 → is_none b ≡ (length (pieces (λ c. c == 44) t) == 1)
one_piece t b e = rw e (one_of (first_cut (λ c. c == 44) t) ∙ ap (λ ps. length ps == 1) (sym (pieces_at (λ c. c == 44) t)))
