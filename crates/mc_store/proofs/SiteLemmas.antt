-- What a write into a word of a hole does to the sections of a site there.
use Rattle.std.proofs.Common.{◌≡◌, ◌≢◌, ℕ, zero, suc, ◌+◌, ◌-◌, ◌/◌, ◌%◌, ◌<◌, ◌≤◌, List, [], ◌∷◌, ◌++◌, length, take, drop, refl, sym, ◌∙◌, ap, arith, length-append, length-drop, inl, inr}
use Rattle.std.specs.Prelude.{slice_set, ◌⊎◌}
use Rattle.std.proofs.lemmas.Bool.{cases_lt}
use Rattle.std.proofs.lemmas.List.{length-take-le, take-take, take-append-le, get_or-set_other, length-set, take_all, drop_all}
use Rattle.mc_bank.specs.model_card.specs.declared.card.Part.{Part}
use Rattle.mc_bank.specs.model_card.specs.declared.card.Part.TheVariants.{Code, Data, Dir, Fci}
use Rattle.mc_bank.specs.model_card.specs.declared.card.Sizes.{Sizes}
use Rattle.mc_words.specs.model_device.specs.Bytes.{up, down, splice}
use Rattle.mc_words.specs.model_device.specs.Pieces.{laid_pieces}
use Rattle.mc_bank.specs.model_card.specs.Manager.{in_words, word_parts}
use Rattle.mc_words.specs.model_device.specs.Device.{IsSized}
use Rattle.mc_words.specs.model_device.specs.Card.{word, section}
use Rattle.mc_bank.specs.model_card.specs.Items.{Site}
use Rattle.mc_bank.specs.Bank.{FitsLimits, part_len}
use Rattle.mc_store.specs.Store.{words_of_sizes, part_from, part_in, piece_write, IsInWord}
use Rattle.mc_store.proofs.PieceLemmas.{section_write, splice_parts}
use Rattle.mc_blocks.proofs.Sections.{section_front, same_section, length_section}
use Rattle.mc_blocks.proofs.Splices.{image_set}
use Rattle.mc_words.specs.model_device.proofs.ListLemmas.{length_splice, splice_none}

-- ---- bytes

-- the front before a place is not touched from there on
front_stays : (i at : ℕ) (l b : List ℕ) → i ≤ at → at ≤ length l → take i (splice l at b) ≡ take i l
front_stays i at l b low high =
    let size : length (take at l) ≡ at = length-take-le at l high in
    let more : length (take at l ++ b) ≡ length (take at l) + length b = length-append (take at l) b in
    take-append-le i (take at l ++ b) (drop (at + length b) l) (omega (arith, size, more))
    ∙ take-append-le i (take at l) b (omega (arith, size))
    ∙ take-take i at l low

-- ---- words

module _ (m : List (List ℕ)) (image : IsSized m) where
  -- bytes of one word of a section
  section_piece : (q n at : ℕ) (b : List ℕ) → q + up n 8 ≤ length m → IsInWord n at (length b)
      → section (slice_set m (q + down at 8) (splice (word m (q + down at 8)) (at % 8) b)) q n ≡ splice (section m q n) at b
  section_piece q n at b h inside = section_write m q n at b image h inside

  -- a word outside a section
  section_apart : (k q n : ℕ) (x : List ℕ) → q + up n 8 ≤ length m → (k < q) ⊎ (q + up n 8 ≤ k) → section (slice_set m k x) q n ≡ section m q n
  section_apart k q n x h apart = grind (arith, same_section, length-set, get_or-set_other)

  -- bytes after the front of a section
  section_behind : (q i n at : ℕ) (b : List ℕ) → q + up n 8 ≤ length m → i ≤ at → IsInWord n at (length b)
      → section (slice_set m (q + down at 8) (splice (word m (q + down at 8)) (at % 8) b)) q i ≡ section m q i
  section_behind q i n at b h low inside =
      let some : 1 ≤ length b = inside.some in
      let ends : at + length b ≤ n = inside.section in
      let few : at % 8 + length b ≤ 8 = inside.word in
      let k = q + at / 8 in
      let x = splice (word m k) (at % 8) b in
      let lt : k < length m = omega arith in
      let eight : length (word m k) ≡ 8 = image.words k lt in
      let size : length x ≡ 8 = length_splice (word m k) (at % 8) b (omega (arith, eight)) ∙ eight in
      let w = slice_set m k x in
      let long : length w ≡ length m = length-set m k x in
      let whole : length (section m q n) ≡ n = length_section m q n image h in
      sym (section_front w q i n (image_set m k x image lt size) (omega arith) (omega (arith, long)))
      ∙ ap (λ (l : List ℕ). take i l) (section_piece q n at b h inside)
      ∙ front_stays i at (section m q n) b low (omega (arith, whole))
      ∙ section_front m q i n image (omega arith) h

-- ---- sites

part_inside : (p : Part) (z : Sizes) (q : ℕ) → FitsLimits z → part_from p z q + up (part_len p z) 8 ≤ q + words_of_sizes z
part_inside p z q l = grind arith

-- the words of one section are apart from those of another
parts_apart : (p o : Part) (z : Sizes) (q at n : ℕ) → FitsLimits z → IsInWord (part_len p z) at n → o ≢ p
    → (part_from p z q + down at 8 < part_from o z q) ⊎ (part_from o z q + up (part_len o z) 8 ≤ part_from p z q + down at 8)
parts_apart p o z q at n l i ne = grind arith

module _ (m : List (List ℕ)) (image : IsSized m) (s : Site) (limits : FitsLimits s.sizes) (ends : s.place + words_of_sizes s.sizes ≤ length m) where
  within : (p : Part) → part_from p s.sizes s.place + up (part_len p s.sizes) 8 ≤ length m
  within p = let low = part_inside p s.sizes s.place limits in omega (arith, low, ends)

  static_within : part_from Data s.sizes s.place + up s.sizes.fixed 8 ≤ length m
  static_within = omega (arith, ends)

  -- a section has its length
  pub part_length : (p : Part) → length (part_in m s p) ≡ part_len p s.sizes
  unfolding part_in
  part_length p = length_section m (part_from p s.sizes s.place) (part_len p s.sizes) image (within p)

  -- a piece of a section
  pub piece_part : (p : Part) (at : ℕ) (b : List ℕ) → IsInWord (part_len p s.sizes) at (length b)
      → part_in (slice_set m (piece_write m (part_from p s.sizes s.place) at b).0 (piece_write m (part_from p s.sizes s.place) at b).1) s p ≡ splice (part_in m s p) at b
  unfolding part_in
  piece_part p at b inside = section_piece m image (part_from p s.sizes s.place) (part_len p s.sizes) at b (within p) inside

  pub piece_other : (p o : Part) (at : ℕ) (b : List ℕ) → IsInWord (part_len p s.sizes) at (length b) → o ≢ p
      → part_in (slice_set m (piece_write m (part_from p s.sizes s.place) at b).0 (piece_write m (part_from p s.sizes s.place) at b).1) s o ≡ part_in m s o
  unfolding part_in
  piece_other p o at b inside ne =
      section_apart m image (part_from p s.sizes s.place + down at 8) (part_from o s.sizes s.place) (part_len o s.sizes) _ (within o) (parts_apart p o s.sizes s.place at (length b) limits inside ne)

  -- bytes after the data
  pub blank_part : (p : Part) (at : ℕ) (b : List ℕ) → s.sizes.init ≤ at → IsInWord s.sizes.fixed at (length b)
      → part_in (slice_set m (piece_write m (part_from Data s.sizes s.place) at b).0 (piece_write m (part_from Data s.sizes s.place) at b).1) s p ≡ part_in m s p
  unfolding part_in
  blank_part Data at b low inside = section_behind m image (part_from Data s.sizes s.place) s.sizes.init s.sizes.fixed at b static_within low inside
  blank_part Code at b low inside = section_apart m image _ (part_from Code s.sizes s.place) s.sizes.code _ (within Code) (inr (omega arith))
  blank_part Dir at b low inside = section_apart m image _ (part_from Dir s.sizes s.place) s.sizes.dir _ (within Dir) (inl (let some = inside.some in let last = inside.section in omega arith))
  blank_part Fci at b low inside = section_apart m image _ (part_from Fci s.sizes s.place) s.sizes.fci _ (within Fci) (inl (let some = inside.some in let last = inside.section in omega arith))

  -- a word of the record
  pub note_part : (p : Part) (i : ℕ) (x : List ℕ) → i < 4 → part_in (slice_set m (s.place + 1 + i) x) s p ≡ part_in m s p
  unfolding part_in
  note_part p i x few = section_apart m image (s.place + 1 + i) (part_from p s.sizes s.place) (part_len p s.sizes) x (within p) (inl (note_before p))
    where
      note_before : (o : Part) → s.place + 1 + i < part_from o s.sizes s.place
      note_before o = grind arith

-- ---- a piece of several words

pub no_words : (n at : ℕ) → in_words n at [] ≡ []
no_words zero at = refl
no_words (suc n) at = refl

laid_words : (n : ℕ) (l : List ℕ) (at : ℕ) (b : List ℕ) → length b ≤ n → at + length b ≤ length l → laid_pieces l (in_words n at b) ≡ splice l at b
laid_words zero l at [] few h = sym (splice_none l at)
laid_words zero l at (x ∷ xs) few h = absurd (omega arith)
laid_words (suc n) l at [] few h = sym (splice_none l at)
laid_words (suc n) l at (x ∷ xs) few h =
    let b = x ∷ xs in
    let k = 8 - at % 8 in
    let left : length (drop k b) ≡ length b - k = length-drop k b in
    let some : 1 ≤ k = omega arith in
    elim (cases_lt (length b) k) [
      | inl short ↦
          ap (λ (y : List ℕ). laid_pieces (splice l at (take k b)) (in_words n (at + k) y)) (drop_all k b (omega (arith, short)))
          ∙ ap (λ (ps : List (ℕ × List ℕ)). laid_pieces (splice l at (take k b)) ps) (no_words n (at + k))
          ∙ ap (λ (y : List ℕ). splice l at y) (take_all k b (omega (arith, short)))
      | inr long ↦
          let front : length (take k b) ≡ k = length-take-le k b (omega (arith, long)) in
          let same : length (splice l at (take k b)) ≡ length l = length_splice l at (take k b) (omega (arith, front, long, h)) in
          laid_words n (splice l at (take k b)) (at + k) (drop k b) (omega (arith, left, few, some)) (omega (arith, left, same, long, h)) ∙ splice_parts l at k b (omega arith)
    ]

-- the parts of a piece in their words are the piece
pub laid_parts : (l : List ℕ) (at : ℕ) (b : List ℕ) → at + length b ≤ length l → laid_pieces l (word_parts at b) ≡ splice l at b
laid_parts l at b h = laid_words (length b) l at b (omega arith) h
