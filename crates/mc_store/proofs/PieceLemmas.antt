-- Bytes of a section set in one word.
use Rattle.std.proofs.Common.{◌≡◌, ◌≢◌, ℕ, suc, ◌+◌, ◌-◌, ◌*◌, ◌%◌, ◌/◌, ◌≤◌, List, [], ◌++◌, length, take, drop, sym, ◌∙◌, ap, arith, append_assoc}
use Rattle.std.specs.Prelude.{slice_set}
use Rattle.std.proofs.lemmas.List.{length-set, get_or-set_same, get_or-set_other, take-append-le, drop-append-le, length-take-le, take-append-drop, take_all, drop_all}
use Rattle.std.proofs.lemmas.Bool.{cases_lt}
use Rattle.std.proofs.Math.Seq.{take-append-add, drop-append-add}
use Rattle.mc_words.specs.model_device.specs.Bytes.{up, splice}
use Rattle.mc_words.specs.model_device.specs.Device.{IsSized}
use Rattle.mc_words.specs.model_device.specs.Card.{word, cells, section}
use Rattle.mc_bank.proofs.LeftLemmas.{front_piece, splice_splice}
use Rattle.mc_store.specs.Store.{IsInWord}
use Rattle.mc_blocks.proofs.Sections.{cells_more, cells_append, length_cells, same_cells}
use Rattle.mc_words.specs.model_device.proofs.ListLemmas.{splice_none}

-- ---- bytes set in one word

inside : (a w c b : List ℕ) (r : ℕ) → r + length b ≤ length w → splice (a ++ (w ++ c)) (length a + r) b ≡ a ++ (splice w r b ++ c)
inside a w c b r fits =
    let t = take r w in
    let d = drop (r + length b) w in
    ap (λ (l : List ℕ). l ++ b ++ drop (length a + r + length b) (a ++ (w ++ c))) (take-append-add a (w ++ c) r ∙ ap (λ (l : List ℕ). a ++ l) (take-append-le r w c (omega (arith, fits))))
    ∙ ap (λ (n : ℕ). (a ++ t) ++ b ++ drop n (a ++ (w ++ c))) (let e : length a + r + length b ≡ length a + (r + length b) = omega arith in e)
    ∙ ap (λ (l : List ℕ). (a ++ t) ++ b ++ l) (drop-append-add a (w ++ c) (r + length b) ∙ drop-append-le (r + length b) w c fits)
    ∙ ap (λ (l : List ℕ). l ++ (d ++ c)) (append_assoc a t b)
    ∙ append_assoc a (t ++ b) (d ++ c)
    ∙ ap (λ (l : List ℕ). a ++ l) (sym (append_assoc (t ++ b) d c))

cells_piece : (m : List (List ℕ)) (q k j r : ℕ) (b : List ℕ) → IsSized m → q + k + suc j ≤ length m → r + length b ≤ 8 → cells (slice_set m (q + k) (splice (word m (q + k)) r b)) q (k + suc j) ≡ splice (cells m q (k + suc j)) (8 * k + r) b
cells_piece m q k j r b image h fits =
    let x = splice (word m (q + k)) r b in
    let n = slice_set m (q + k) x in
    let size : length n ≡ length m = length-set m (q + k) x in
    let other = λ (i : ℕ) (ne : i ≢ q + k). get_or-set_other m (q + k) i x [] ne in
    let a = cells m q k in
    let w = word m (q + k) in
    let c = cells m (q + k + 1) j in
    let old : cells m q (k + suc j) ≡ a ++ (w ++ c) = cells_append m k (suc j) q h ∙ ap (λ (l : List ℕ). a ++ l) (cells_more m (q + k) j (omega arith)) in
    let new : cells n q (k + suc j) ≡ a ++ (x ++ c) =
    cells_append n k (suc j) q (omega (arith, size))
    ∙ ap (λ (l : List ℕ). l ++ cells n (q + k) (suc j)) (same_cells m n k q size (omega arith) (λ i low high. other i (λ e. absurd (omega (arith, e)))))
    ∙ ap (λ (l : List ℕ). a ++ l) (cells_more n (q + k) j (omega (arith, size)) ∙ ap (λ (l : List ℕ). l ++ cells n (q + k + 1) j) (get_or-set_same m (q + k) x [] (omega arith))
    ∙ ap (λ (l : List ℕ). x ++ l) (same_cells m n j (q + k + 1) size (omega arith) (λ i low high. other i (λ e. absurd (omega (arith, e)))))) in
    let long : length a ≡ 8 * k = length_cells m k q image (omega arith) in
    let wide : length w ≡ 8 = image.words (q + k) (omega arith) in
    new ∙ sym (ap (λ (l : List ℕ). splice l (8 * k + r) b) old ∙ ap (λ (t : ℕ). splice (a ++ (w ++ c)) (t + r) b) (sym long) ∙ inside a w c b r (omega (arith, wide, fits)))

-- bytes set in one word of a section
pub section_write : (m : List (List ℕ)) (q len at : ℕ) (b : List ℕ) → IsSized m → q + up len 8 ≤ length m → IsInWord len at (length b) → section (slice_set m (q + at / 8) (splice (word m (q + at / 8)) (at % 8) b)) q len ≡ splice (section m q len) at b
section_write m q len at b image h i =
    let some = i.some in
    let ends = i.section in
    let fits = i.word in
    let k = at / 8 in
    let j = up len 8 - k - 1 in
    let split : up len 8 ≡ k + suc j = omega arith in
    let whole : length (cells m q (up len 8)) ≡ 8 * up len 8 = length_cells m (up len 8) q image h in
    let cut : 8 * k + at % 8 ≡ at = omega arith in
    let n = slice_set m (q + k) (splice (word m (q + k)) (at % 8) b) in
    let one : cells n q (up len 8) ≡ splice (cells m q (up len 8)) at b =
    ap (λ (x : ℕ). cells n q x) split ∙ cells_piece m q k j (at % 8) b image (omega arith) fits ∙ ap (λ (x : ℕ). splice (cells m q (k + suc j)) x b) cut ∙ ap (λ (x : ℕ). splice (cells m q x) at b) (sym split) in
    ap (λ (l : List ℕ). take len l) one ∙ front_piece len (cells m q (up len 8)) at b ends (omega (arith, whole))

-- ---- a piece in two parts

-- in two parts, of which the first has k bytes if there are as many
pub splice_parts : (l : List ℕ) (at k : ℕ) (b : List ℕ) → at ≤ length l → splice (splice l at (take k b)) (at + k) (drop k b) ≡ splice l at b
splice_parts l at k b le = grind (arith, cases_lt, drop_all, splice_none, take_all, length-take-le, splice_splice, take-append-drop)
