-- Blocks as the code reads them, the blocks from a place on, and the spans of used blocks and of holes.
use Rattle.std.specs.Prelude.{◌≡◌, ℕ, ◌+◌, ◌-◌, ◌<◌, ◌≤◌, Bool, true, false, cond, not, ◌&&◌, ◌||◌, nat_le, nat_lt, ◌==◌, List, [], ◌∷◌, ◌++◌, length, take, map, slice_index, bytes_eq, Option, Some, None, MatchBool}
use Rattle.mc_words.specs.model_device.specs.Bytes.{has_name}
use Rattle.mc_words.specs.model_device.specs.Card.{Block, word, blocks_from, record_at, name_in}
use Rattle.mc_words.specs.model_device.specs.Layout.{is_record, root, bad_header, bad_block}
use Rattle.mc_blocks.specs.declared.block.Block.{Block as Read}

-- a block that the code read, as the definition's value
abbrev pub block_of : Read → Block
block_of b = record { place = b.place; used = b.used; words = b.words; link = b.link }

-- a block that the code read, if it read one
abbrev pub read_block : Option Read → Option Block
read_block None = None
read_block (Some b) = Some (block_of b)

-- a block if it ends within a device of `size` words
abbrev pub block_within : ℕ → Option Block → Option Block
block_within size None = None
block_within size (Some b) = cond (nat_le (b.place + b.words) size) (Some b) None

-- the blocks from word p on
abbrev pub blocks_at : List (List ℕ) → ℕ → List Block
blocks_at m p = blocks_from (length m - p) m p

-- the first bad header from word p on
abbrev pub bad_from : List (List ℕ) → ℕ → Bool → Option ℕ
bad_from m p after_hole = bad_block (length m - p) m p after_hole

-- whether a used block is good after `used` others with these names: a good record, a new name, and fewer than 32
-- blocks before it
abbrev pub is_admissible : List (List ℕ) → Block → List (List ℕ) → ℕ → Bool
is_admissible m b names used =
    is_record (record_at m b.place) b.words && not (has_name (name_in (record_at m b.place)) names) && nat_lt used 32

-- the records of the blocks so far, before and after one more block: a good used block adds its record, a hole adds
-- none
abbrev pub Admits : List (List ℕ) → Block → List (List ℕ) → Bool → List (List ℕ) → Type 0
Admits m b old true new =
    MatchBool b.used ((is_admissible m b (map name_in old) (length old) ≡ true) × (new ≡ old ++ record_at m b.place ∷ [])) (new ≡ old)
Admits m b old false new = (b.used ≡ true) × (is_admissible m b (map name_in old) (length old) ≡ false)

-- a block that was read and is good after the one before it
abbrev pub FollowsBlock : ℕ → Bool → Option Block → Block → Type 0
FollowsBlock size after_hole o b = (o ≡ Some b) × (bad_header size after_hole o ≡ false)

-- whether a word is a root of layout 1 or 2 on a device of `size` words, whichever hole it names
abbrev pub is_root_word : List ℕ → ℕ → Bool
is_root_word w size =
    let v = slice_index w 3 in
    (v == 1 || v == 2) && bytes_eq (take 6 w) (take 6 (root v size 0))

-- the used blocks, each as its place and its number of words
abbrev pub used_spans : List Block → List (ℕ × ℕ)
used_spans [] = []
used_spans (b ∷ bs) = cond b.used ((b.place, b.words) ∷ used_spans bs) (used_spans bs)

-- the holes, each as its place and its number of words
abbrev pub hole_spans : List Block → List (ℕ × ℕ)
hole_spans [] = []
hole_spans (b ∷ bs) = cond b.used (hole_spans bs) ((b.place, b.words) ∷ hole_spans bs)

-- words n agree with m in the header of each of these blocks and in all words of those that are used
abbrev pub WordsAgree : List (List ℕ) → List (List ℕ) → List Block → Type 0
WordsAgree m n [] = Unit {0}
WordsAgree m n (b ∷ bs) =
    (word n b.place ≡ word m b.place) × (b.used ≡ true → (i : ℕ) → b.place ≤ i → i < b.place + b.words → word n i ≡ word m i) × WordsAgree m n bs
