-- Pending words that hold pieces.
use Rattle.std.proofs.Common.{◌≡◌, ℕ, ◌+◌, ◌*◌, ◌/◌, ◌%◌, ◌<◌, List, [], length, get_or, Option, Some, None, refl, sym, ap, subst, ◌∙◌, arith}
use Rattle.std.specs.Prelude.{IfSome, option_map, unwrap_or}
use Rattle.model_device.specs.Pieces.{laid_pieces, touched_words, pending_at, HoldPieces, LieIn, word_pieces, laid_words}
use Rattle.std.proofs.lemmas.List.{ext_get_or, get_or-take, length-take}
use Rattle.mc_trans.proofs.Overlay.{length_laid, length_laid_low, laid_covered}
use Rattle.mc_trans.proofs.Touched.{untouched, words_begin_in, covered_word}

pub none_held : (l : List ℕ) → HoldPieces l [] []
unfolding touched_words
none_held l = record { pending = record { ascending = tt; whole = tt }; touched_words = refl; bytes = λ n k small fits. tt }

byte_is : (l : List ℕ) (ps ws : List (ℕ × List ℕ)) (i : ℕ) (o : Option (List ℕ)) → pending_at ws (i / 8) ≡ o → LieIn (length l) ps → HoldPieces l ps ws → i < length l → get_or (laid_pieces l ps) i 0 ≡ unwrap_or (option_map (λ b. get_or b (i % 8) 0) o) (get_or l i 0)
byte_is l ps ws i None e lie held lt = untouched l ps ws i lie held.touched_words e
byte_is l ps ws i (Some b) e lie held lt =
    let whole : 8 * (i / 8) + i % 8 ≡ i = omega arith in
    let here : IfSome (Some b) (λ b. get_or b (i % 8) 0 ≡ get_or (laid_pieces l ps) (8 * (i / 8) + i % 8) 0) = subst (λ o. IfSome o (λ b. get_or b (i % 8) 0 ≡ get_or (laid_pieces l ps) (8 * (i / 8) + i % 8) 0)) e (held.bytes (i / 8) (i % 8) (omega arith) (omega arith)) in
    sym (here ∙ ap (λ (k : ℕ). get_or (laid_pieces l ps) k 0) whole)

pub word_byte : (l : List ℕ) (ps ws : List (ℕ × List ℕ)) (i : ℕ) → LieIn (length l) ps → HoldPieces l ps ws → i < length l → get_or (laid_pieces l ps) i 0 ≡ unwrap_or (option_map (λ b. get_or b (i % 8) 0) (pending_at ws (i / 8))) (get_or l i 0)
word_byte l ps ws i = byte_is l ps ws i (pending_at ws (i / 8)) refl

-- pending words written over a list make what the pieces that they hold make
pub words_laid : (l : List ℕ) (ps ws : List (ℕ × List ℕ)) → LieIn (length l) ps → HoldPieces l ps ws → laid_words l ws ≡ laid_pieces l ps
words_laid l ps ws lie held =
    let begin = words_begin_in l ps ws lie held.touched_words in
    let pieces = word_pieces ws in
    let long = length_laid_low (length l) l pieces begin (omega arith) in
    let len : length (laid_words l ws) ≡ length l = omega (arith, length-take (length l) (laid_pieces l pieces)) in
    ext_get_or 0 (laid_words l ws) (laid_pieces l ps) (len ∙ sym (length_laid l ps lie)) (λ i lt.
    let within : i < length l = omega arith in
    get_or-take (length l) (laid_pieces l pieces) i 0 within
    ∙ laid_covered (length l) l pieces i begin (omega arith)
    ∙ ap (λ (o : Option ℕ). unwrap_or o (get_or l i 0)) (covered_word 0 i ws held.pending.ascending held.pending.whole)
    ∙ sym (word_byte l ps ws i lie held within)
    )
