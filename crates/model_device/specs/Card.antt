-- The card that the words of a device hold: a map from names to applications, read from its used blocks by their
-- lengths.
use Rattle.std.specs.Prelude.{ℕ, zero, suc, ◌+◌, Bool, cond, ◌&&◌, ◌||◌, nat_le, ◌==◌, List, [], ◌∷◌, length, take, drop, slice_index, slice_index_or, Option, Some, None}
use Rattle.std.specs.List.{concat}
use Rattle.model_device.specs.Bytes.{up, be2, insert}
use Rattle.model_device.specs.Image.{After, Words, NoWords, after}

-- an application: `fixed` is its static segment, `deny` its access list, `place` the number of the word in which its
-- block begins
pub record App : Type 0 where
  pub code : List ℕ
  pub fixed : List ℕ
  pub session : ℕ
  pub deny : ℕ
  pub dir : List ℕ
  pub fci : List ℕ
  pub place : ℕ

-- a card: its words, the version of its layout, and its applications by their names
pub record Card : Type 0 where
  pub size : ℕ
  pub layout : ℕ
  pub apps : List (List ℕ × App)

-- an application with its block at another place
abbrev pub app_at_place : ℕ → App → App
app_at_place p a = record a { place = p }

-- the number of words of a block with sections of these lengths: header, record, and each section rounded up to whole
-- words
abbrev pub words_of_lengths : ℕ → ℕ → ℕ → ℕ → ℕ
words_of_lengths code fixed dir fci = 5 + up code 8 + up fixed 8 + up dir 8 + up fci 8

-- the number of words of an application's block
abbrev pub words_of_app : App → ℕ
words_of_app a = words_of_lengths (length a.code) (length a.fixed) (length a.dir) (length a.fci)

-- ---- blocks

-- a block of the heap: the place of its header, whether it is used or a hole, its number of words with the header, and
-- its link
pub record Block : Type 0 where
  pub place : ℕ
  pub used : Bool
  pub words : ℕ
  pub link : ℕ

-- the first byte of the header of a used block
abbrev pub used_tag : ℕ
used_tag = 0x55

-- the first byte of the header of a hole
abbrev pub hole_tag : ℕ
hole_tag = 0x48

-- the word with this number, empty past the end
abbrev pub word : List (List ℕ) → ℕ → List ℕ
word m p = slice_index_or m p []

-- whether a word is a header: tag, 0, its number of words (2 bytes, at least 1), link (2 bytes), 0, 0
abbrev pub is_header : List ℕ → Bool
is_header x =
    (slice_index x 0 == used_tag || slice_index x 0 == hole_tag) && slice_index x 1 == 0
    && nat_le 1 (be2 x 2) && slice_index x 6 == 0 && slice_index x 7 == 0

-- the block whose header is the word at p, if that is a header
abbrev pub header : ℕ → List ℕ → Option Block
header p x =
    cond (is_header x) (Some (record { place = p; used = slice_index x 0 == used_tag; words = be2 x 2; link = be2 x 4 })) None

-- a block that ends within the device and those after it, else none
abbrev pub block_and : ℕ → Option Block → (ℕ → List Block) → List Block
block_and size None rest = []
block_and size (Some b) rest = cond (nat_le (b.place + b.words) size) (b ∷ rest (b.place + b.words)) []

-- at most n blocks from word p on, each right after the one before, up to the first word that heads no block within the
-- device
unfoldable pub blocks_from : ℕ → List (List ℕ) → ℕ → List Block
blocks_from zero m p = []
blocks_from (suc n) m p = block_and (length m) (header p (word m p)) (λ q. blocks_from n m q)

-- the first word of the heap
abbrev pub heap_start : ℕ
heap_start = 131

-- the blocks of the heap
abbrev pub blocks : List (List ℕ) → List Block
blocks m = blocks_from (length m) m heap_start

-- ---- applications

-- the n words from p on, joined
abbrev pub cells : List (List ℕ) → ℕ → ℕ → List ℕ
cells m p n = concat (take n (drop p m))

-- a section of n bytes from the start of word p
abbrev pub section : List (List ℕ) → ℕ → ℕ → List ℕ
section m p n = take n (cells m p (up n 8))

-- the 32 bytes of the record of the block at p: name (16), its length, the lengths of DIR and FCI, 0,
-- the lengths of code, static and session (2 each), the access list (2), four zeros
abbrev pub record_at : List (List ℕ) → ℕ → List ℕ
record_at m p = cells m (p + 1) 4

-- the name in a record
abbrev pub name_in : List ℕ → List ℕ
name_in r = take (slice_index r 16) r

-- the name in the record of the block at p
abbrev pub name_at : List (List ℕ) → ℕ → List ℕ
name_at m p = name_in (record_at m p)

-- the application whose record is r, in the block at p
abbrev pub app_of : List (List ℕ) → ℕ → List ℕ → App
app_of m p r =
    let code = be2 r 20 in
    let fixed = be2 r 22 in
    let dir = slice_index r 17 in
    let fci = slice_index r 18 in
    record {
      code = section m (p + 5) code;
      fixed = section m (p + 5 + up code 8) fixed;
      session = be2 r 24;
      deny = be2 r 26;
      dir = section m (p + 5 + up code 8 + up fixed 8) dir;
      fci = section m (p + 5 + up code 8 + up fixed 8 + up dir 8) fci;
      place = p;
    }

-- the application of the block at p
abbrev pub app_at : List (List ℕ) → ℕ → App
app_at m p = app_of m p (record_at m p)

-- the applications of the used blocks, by name
unfoldable pub apps_of : List (List ℕ) → List Block → List (List ℕ × App)
apps_of m [] = []
apps_of m (b ∷ bs) = cond b.used (insert (apps_of m bs) (name_at m b.place) (app_at m b.place)) (apps_of m bs)

-- the card that words with a closed journal hold
abbrev pub card_of : List (List ℕ) → Card
card_of m = record { size = length m; layout = slice_index (word m 0) 3; apps = apps_of m (blocks m) }

-- the words after the replay of the journal; if the journal is refused, the words as they are
abbrev pub words_after : After → List (List ℕ) → List (List ℕ)
words_after (Words w) m = w
words_after (NoWords p) m = m

-- the card that an image holds once its journal is replayed
abbrev pub means : List (List ℕ) → Card
means m = card_of (words_after (after m) m)
