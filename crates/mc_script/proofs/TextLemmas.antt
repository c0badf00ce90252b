-- The text of static bytes.
use Rattle.std.proofs.Common.{◌≡◌, ℕ, zero, suc, ◌+◌, List, [], ◌∷◌, ◌++◌, take, drop, sym, ap, ◌∙◌, append_assoc, arith}
use Rattle.mc_text.proofs.TextLemmas.{hex_text_split}
use Rattle.model_play.specs.model_text.specs.Listing.{hex_text}
use Rattle.model_play.specs.model_device.proofs.ListLemmas.{drop_none}

-- the rest of a list after two fronts of it
pub left_behind : (at c : ℕ) (f : List ℕ) → drop c (drop at f) ≡ drop (at + c) f
left_behind zero c f = let e : zero + c ≡ c = omega arith in ap (λ (k : ℕ). drop k f) (sym e)
left_behind (suc at) c [] = drop_none c ∙ sym (drop_none (suc at + c))
left_behind (suc at) c (x ∷ f) = let e : suc at + c ≡ suc (at + c) = omega arith in left_behind at c f ∙ ap (λ (k : ℕ). drop k (x ∷ f)) (sym e)

-- a piece of static bytes, after those before it
pub hex_piece_on : (t a f p : List ℕ) (at c : ℕ) → p ≡ take c (drop at f) → drop c (drop at f) ≡ drop (at + c) f → t ++ hex_text (drop at f) ≡ a → (t ++ hex_text p) ++ hex_text (drop (at + c) f) ≡ a
hex_piece_on t a f p at c is behind h =
    append_assoc t (hex_text p) (hex_text (drop (at + c) f))
    ∙ ap (λ (x : List ℕ). t ++ (hex_text x ++ hex_text (drop (at + c) f))) is
    ∙ ap (λ (x : List ℕ). t ++ (hex_text (take c (drop at f)) ++ hex_text x)) (sym behind)
    ∙ ap (λ (x : List ℕ). t ++ x) (hex_text_split c (drop at f))
    ∙ h
