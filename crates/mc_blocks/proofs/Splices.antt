-- Setting words of a section writes pieces over its bytes.
use Rattle.std.proofs.Common.{◌≡◌, ◌≢◌, ℕ, zero, suc, ◌+◌, ◌-◌, ◌*◌, ◌<◌, ◌≤◌, List, [], ◌∷◌, ◌++◌, length, take, drop, map, refl, sym, ◌∙◌, ap, subst, arith, length-append, append_assoc}
use Rattle.std.specs.Prelude.{slice_set}
use Rattle.std.specs.List.{AllByRecursion}
use Rattle.std.proofs.lemmas.List.{take_at, drop_at, get_or-set_same, get_or-set_other, length-set, take-take}
use Rattle.std.proofs.lemmas.Bool.Decides.{eqb_tells}
use Rattle.mc_words.specs.model_device.specs.Bytes.{up, splice}
use Rattle.mc_words.specs.model_device.specs.Pieces.{laid_pieces, word_pieces, laid_words}
use Rattle.mc_words.specs.model_device.specs.Device.{IsSized}
use Rattle.mc_words.specs.model_device.specs.Image.{image_with}
use Rattle.mc_words.specs.model_device.specs.Card.{word, cells, section}
use Rattle.mc_words.specs.model_device.proofs.ListLemmas.{splice_longer}
use Rattle.mc_blocks.proofs.Sections.{cells_more, cells_append, length_cells, same_cells}

-- ---- words of eight bytes

pub image_set : (m : List (List ℕ)) (k : ℕ) (x : List ℕ) → IsSized m → k < length m → length x ≡ 8 → IsSized (slice_set m k x)
image_set m k x image lt eight = grind (arith, length-set, eqb_tells, get_or-set_same, get_or-set_other)

-- the bytes of k words after one of them is set
pub cells_set : (m : List (List ℕ)) (q k r : ℕ) (x : List ℕ) → IsSized m → q + k + suc r ≤ length m → length x ≡ 8 → cells (slice_set m (q + k) x) q (k + suc r) ≡ splice (cells m q (k + suc r)) (8 * k) x
cells_set m q k r x image h eight =
    let n = slice_set m (q + k) x in
    let size : length n ≡ length m = length-set m (q + k) x in
    let other = λ (i : ℕ) (ne : i ≢ q + k). get_or-set_other m (q + k) i x [] ne in
    let a = cells m q k in
    let b = word m (q + k) in
    let c = cells m (q + k + 1) r in
    let old : cells m q (k + suc r) ≡ a ++ (b ++ c) = cells_append m k (suc r) q h ∙ ap (λ (l : List ℕ). a ++ l) (cells_more m (q + k) r (omega arith)) in
    let new : cells n q (k + suc r) ≡ a ++ (x ++ c) =
    cells_append n k (suc r) q (omega (arith, size))
    ∙ ap (λ (l : List ℕ). l ++ cells n (q + k) (suc r)) (same_cells m n k q size (omega arith) (λ i low high. other i (λ e. absurd (omega (arith, e)))))
    ∙ ap (λ (l : List ℕ). a ++ l) (cells_more n (q + k) r (omega (arith, size)) ∙ ap (λ (l : List ℕ). l ++ cells n (q + k + 1) r) (get_or-set_same m (q + k) x [] (omega arith))
    ∙ ap (λ (l : List ℕ). x ++ l) (same_cells m n r (q + k + 1) size (omega arith) (λ i low high. other i (λ e. absurd (omega (arith, e)))))) in
    let long : length a ≡ 8 * k = length_cells m k q image (omega arith) in
    let wide : length b ≡ 8 = image.words (q + k) (omega arith) in
    let both : length (a ++ b) ≡ 8 * k + length x = length-append a b ∙ (omega (arith, long, wide, eight)) in
    let spliced : splice (a ++ (b ++ c)) (8 * k) x ≡ a ++ (x ++ c) =
    ap (λ (l : List ℕ). l ++ x ++ drop (8 * k + length x) (a ++ (b ++ c))) (take_at a (b ++ c) (8 * k) long)
    ∙ ap (λ (l : List ℕ). a ++ x ++ drop (8 * k + length x) l) (sym (append_assoc a b c))
    ∙ ap (λ (l : List ℕ). a ++ x ++ l) (drop_at (a ++ b) c (8 * k + length x) both)
    ∙ append_assoc a x c in
    new ∙ sym (ap (λ (l : List ℕ). splice l (8 * k) x) old ∙ spliced)

-- ---- prefixes of lists

front_over : (n : ℕ) (k l b : List ℕ) → n ≤ length k → n ≤ length l → take n k ≡ take n l → take n (b ++ drop (length b) k) ≡ take n (b ++ drop (length b) l)
front_over n k l [] hk hl e = e
front_over zero k l (y ∷ ys) hk hl e = refl
front_over (suc n) [] l (y ∷ ys) hk hl e = absurd (omega arith)
front_over (suc n) (c ∷ k) [] (y ∷ ys) hk hl e = absurd (omega arith)
front_over (suc n) (c ∷ k) (d ∷ l) (y ∷ ys) hk hl e =
    let rest : take n k ≡ take n l = cc in
    ap (λ (t : List ℕ). y ∷ t) (front_over n k l ys (omega arith) (omega arith) rest)

splice_more : (c : ℕ) (l : List ℕ) (at : ℕ) (b : List ℕ) → splice (c ∷ l) (suc at) b ≡ c ∷ splice l at b
splice_more c l at b = ap (λ (n : ℕ). c ∷ (take at l ++ b ++ drop n (c ∷ l))) (let e : suc at + length b ≡ suc (at + length b) = omega arith in e)

-- lists with an equal prefix still have it after equal bytes are written over it
pub same_front : (n at : ℕ) (k l b : List ℕ) → at ≤ n → n ≤ length k → n ≤ length l → take n k ≡ take n l → take n (splice k at b) ≡ take n (splice l at b)
same_front n zero k l b low hk hl e =
    ap (λ (x : ℕ). take n (b ++ drop x k)) (let z : 0 + length b ≡ length b = omega arith in z)
    ∙ front_over n k l b hk hl e
    ∙ sym (ap (λ (x : ℕ). take n (b ++ drop x l)) (let z : 0 + length b ≡ length b = omega arith in z))
same_front zero (suc at) k l b low hk hl e = absurd (omega arith)
same_front (suc n) (suc at) [] l b low hk hl e = absurd (omega arith)
same_front (suc n) (suc at) (c ∷ k) [] b low hk hl e = absurd (omega arith)
same_front (suc n) (suc at) (c ∷ k) (d ∷ l) b low hk hl e =
    let first : c ≡ d = cc in
    let rest : take n k ≡ take n l = cc in
    ap (λ (t : List ℕ). take (suc n) t) (splice_more c k at b)
    ∙ ap (λ (x : ℕ). x ∷ take n (splice k at b)) first
    ∙ ap (λ (t : List ℕ). d ∷ t) (same_front n at k l b (omega arith) (omega arith) (omega arith) rest)
    ∙ sym (ap (λ (t : List ℕ). take (suc n) t) (splice_more d l at b))

pub same_pieces : (n : ℕ) (ws : List (ℕ × List ℕ)) (k l : List ℕ) → n ≤ length k → n ≤ length l → AllByRecursion (λ w. 8 * w.0 < n) ws → take n k ≡ take n l → take n (laid_pieces k (word_pieces ws)) ≡ take n (laid_pieces l (word_pieces ws))
same_pieces n [] k l hk hl a e = e
same_pieces n (w ∷ ws) k l hk hl a e =
    let lt : 8 * w.0 < n = a.0 in
    let one = splice_longer k (8 * w.0) w.1 in
    let two = splice_longer l (8 * w.0) w.1 in
    same_pieces n ws (splice k (8 * w.0) w.1) (splice l (8 * w.0) w.1) (omega (arith, one)) (omega (arith, two)) a.1 (same_front n (8 * w.0) k l w.1 (omega arith) hk hl e)

-- ---- words written

-- pairs of a word's number from q on and a word
abbrev from_place : ℕ → List (ℕ × List ℕ) → List (ℕ × List ℕ)
from_place q ws = map (λ w. (q + w.0, w.1)) ws

pub cells_laid : (m : List (List ℕ)) (q n : ℕ) (ws : List (ℕ × List ℕ)) → IsSized m → q + n ≤ length m → AllByRecursion (λ w. w.0 < n) ws → AllByRecursion (λ w. length w.1 ≡ 8) ws
    → IsSized (image_with m (from_place q ws)) × (cells (image_with m (from_place q ws)) q n ≡ laid_pieces (cells m q n) (word_pieces ws))
cells_laid m q n [] image h a w8 = (image, refl)
cells_laid m q n (w ∷ ws) image h a w8 =
    let k = w.0 in
    let lt : k < n = a.0 in
    let r = n - k - 1 in
    let split : n ≡ k + suc r = omega arith in
    let next = slice_set m (q + k) w.1 in
    let size : length next ≡ length m = length-set m (q + k) w.1 in
    let rest = cells_laid next q n ws (image_set m (q + k) w.1 image (omega arith) w8.0) (omega (arith, size)) a.1 w8.1 in
    let one : cells next q n ≡ splice (cells m q n) (8 * k) w.1 = subst (λ (x : ℕ). cells next q x ≡ splice (cells m q x) (8 * k) w.1) (sym split) (cells_set m q k r w.1 image (omega arith) w8.0) in
    (rest.0, rest.1 ∙ ap (λ (l : List ℕ). laid_pieces l (word_pieces ws)) one)

number_in : (n : ℕ) (ws : List (ℕ × List ℕ)) → AllByRecursion (λ w. 8 * w.0 < n) ws → AllByRecursion (λ w. w.0 < up n 8) ws
number_in n [] a = tt
number_in n (w ∷ ws) a = let lt : 8 * w.0 < n = a.0 in (omega arith, number_in n ws a.1)

-- the bytes of a section of n bytes after words are written over it
pub record SectionLaid (m : List (List ℕ)) (q n : ℕ) (ws : List (ℕ × List ℕ)) : Type 0 where
  pub image : IsSized (image_with m (from_place q ws))
  pub bytes : section (image_with m (from_place q ws)) q n ≡ laid_words (section m q n) ws
  pub numbers : AllByRecursion (λ w. w.0 < up n 8) ws

pub section_laid : (m : List (List ℕ)) (q n : ℕ) (ws : List (ℕ × List ℕ)) → IsSized m → q + up n 8 ≤ length m → length (section m q n) ≡ n → AllByRecursion (λ w. 8 * w.0 < n) ws → AllByRecursion (λ w. length w.1 ≡ 8) ws → SectionLaid m q n ws
section_laid m q n ws image h is a w8 =
    let few : AllByRecursion (λ w. w.0 < up n 8) ws = number_in n ws a in
    let c = cells_laid m q (up n 8) ws image h few w8 in
    let all = cells m q (up n 8) in
    let long : length all ≡ 8 * up n 8 = length_cells m (up n 8) q image h in
    let enough : n ≤ 8 * up n 8 = omega arith in
    let same : take n all ≡ take n (take n all) = sym (take-take n n all (omega arith)) in
    record {
      image = c.0;
      bytes = ap (λ (l : List ℕ). take n l) c.1 ∙ same_pieces n ws all (section m q n) (omega (arith, long, enough)) (omega (arith, is)) a same
          ∙ ap (λ (k : ℕ). take k (laid_pieces (section m q n) (word_pieces ws))) (sym is);
      numbers = few;
    }
