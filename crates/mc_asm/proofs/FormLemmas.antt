-- The table of words by families.
use Rattle.std.proofs.Common.{◌≡◌, ℕ, zero, suc, Bool, true, false, cond, List, [], ◌∷◌, take, drop, Option, Some, refl, ap, ◌∙◌}
use Rattle.std.specs.Prelude.{bytes_eq}
use Rattle.model_text.specs.model_device.specs.Bytes.{lookup, or_else}
use Rattle.model_text.specs.Assembly.{words, WordForm}
use Rattle.mc_asm.specs.Forms.{register_words, stack_words, call_words, memory_words, number_words, block_words}

found_first : (b : Bool) (f : WordForm) (o p : Option WordForm) → cond b (Some f) (or_else o p) ≡ or_else (cond b (Some f) o) p
found_first true f o p = refl
found_first false f o p = refl

two_parts_of : (n : ℕ) (ws : List (List ℕ × WordForm)) (w : List ℕ) → lookup ws w ≡ or_else (lookup (take n ws) w) (lookup (drop n ws) w)
two_parts_of zero ws w = refl
two_parts_of (suc n) [] w = refl
two_parts_of (suc n) (e ∷ ws) w = rw (two_parts_of n ws w) (found_first (bytes_eq e.0 w) e.1 (lookup (take n ws) w) (lookup (drop n ws) w))

-- a word is looked up in each family in turn
pub by_families : (w : List ℕ) → lookup words w ≡ or_else (lookup register_words w) (or_else (lookup stack_words w) (or_else (lookup call_words w) (or_else (lookup memory_words w) (or_else (lookup number_words w) (lookup block_words w)))))
by_families w =
    two_parts_of 8 words w
    ∙ ap (or_else (lookup register_words w)) (two_parts_of 9 (drop 8 words) w
    ∙ ap (or_else (lookup stack_words w)) (two_parts_of 6 (drop 17 words) w
    ∙ ap (or_else (lookup call_words w)) (two_parts_of 6 (drop 23 words) w
    ∙ ap (or_else (lookup memory_words w)) (two_parts_of 8 (drop 29 words) w))))
