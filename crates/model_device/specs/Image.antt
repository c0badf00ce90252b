-- The journals of a device as redo logs: which one is open, the writes that it holds, and the image after their replay.
use Rattle.std.specs.Prelude.{ℕ, zero, suc, ◌+◌, ◌-◌, ◌*◌, Bool, true, false, ◌&&◌, ◌||◌, nat_lt, nat_le, ◌==◌, List, [], ◌∷◌, ◌++◌, length, take, drop, slice_index_or, slice_set, bytes_eq, codes, Option, Some, None, Result, Ok, Err}
use Rattle.model_device.specs.Bytes.{up, zeros, be2}

-- the two journals, of layout 1 and of layout 2
pub data Journal : Type 0 where
  One : Journal
  Two : Journal

-- the words of a device
abbrev pub Image : Type 0
Image = List (List ℕ)

-- pairs of a word's number and a word
abbrev pub Pairs : Type 0
Pairs = List (ℕ × List ℕ)

-- the word with this number
abbrev pub word_at : List (List ℕ) → ℕ → List ℕ
word_at m i = slice_index_or m i []

-- ---- which journal is open

-- the commit record of a journal: the word that opens its gate
abbrev pub opening : Journal → List ℕ
opening One = codes "OPEN-1--"
opening Two = codes "OPEN-2--"

-- the word that shuts either gate
abbrev pub shut_word : List ℕ
shut_word = codes "SHUT----"

-- the place of a journal's gate, the word that holds its commit record
abbrev pub gate : Journal → ℕ
gate One = 1
gate Two = 130

-- whether a journal is open: its gate holds the commit record, and no other word opens it
abbrev pub is_open : Journal → List (List ℕ) → Bool
is_open j m = bytes_eq (word_at m (gate j)) (opening j)

-- which journals are open
pub data Which : Type 0 where
  Both : Which
  Only : Journal → Which
  Neither : Which

-- which journals are open, from whether journal 2 is and whether journal 1 is
abbrev pub which_of : Bool → Bool → Which
which_of true true = Both
which_of true false = Only Two
which_of false true = Only One
which_of false false = Neither

-- which journals of an image are open
abbrev pub which : List (List ℕ) → Which
which m = which_of (is_open Two m) (is_open One m)

-- ---- what an open journal holds

-- whether a number may be the count of pairs in a head: 1 to 64
abbrev pub is_count : ℕ → Bool
is_count c = nat_le 1 c && nat_le c 64

-- whether a number may be a target: word 0, or a word of the heap
abbrev pub within : ℕ → ℕ → Bool
within size t = (t == 0) || (nat_le 131 t && nat_lt t size)

-- a number, if the test accepted it
abbrev pub when : Bool → ℕ → Option ℕ
when true n = Some n
when false n = None

-- the number in a word of six zero bytes and a number of two bytes, if the test accepts it
abbrev pub number : (ℕ → Bool) → List ℕ → Option ℕ
number test g = when (bytes_eq (take 6 g) (zeros 6) && test (be2 g 6)) (be2 g 6)

-- the count of pairs in the head, if it is valid
abbrev pub count : List (List ℕ) → Option ℕ
count m = number is_count (word_at m 2)

-- targets, or the place of the first bad target word
abbrev pub Targets : Type 0
Targets = Result (List ℕ) ℕ

-- targets, and those after them
abbrev pub before : List ℕ → Result (List ℕ) ℕ → Result (List ℕ) ℕ
before now (Ok ts) = Ok (now ++ ts)
before now (Err p) = Err p

-- journal 1: a target and those after it, or the place of its word if that holds none
abbrev pub one_before : Option ℕ → ℕ → Result (List ℕ) ℕ → Result (List ℕ) ℕ
one_before (Some t) place rest = before (t ∷ []) rest
one_before None place rest = Err place

-- journal 1: n targets from pair i on
unfoldable pub targets_1 : List (List ℕ) → ℕ → ℕ → Result (List ℕ) ℕ
targets_1 m i zero = Ok []
targets_1 m i (suc n) =
    let rest = targets_1 m (i + 1) n in
    one_before (number (within (length m)) (word_at m (3 + 2 * i))) (3 + 2 * i) rest

-- the four numbers of a target word of journal 2
abbrev pub four : List ℕ → List ℕ
four g = be2 g 0 ∷ be2 g 2 ∷ be2 g 4 ∷ be2 g 6 ∷ []

-- whether all numbers are 0
abbrev pub all_zero : List ℕ → Bool
all_zero [] = true
all_zero (n ∷ ns) = (n == 0) && all_zero ns

-- whether targets ascend from `least` on, each word 0 or in the heap
abbrev pub ascend : ℕ → ℕ → List ℕ → Bool
ascend size least [] = true
ascend size least (t ∷ ts) = nat_le least t && (within size t && ascend size (t + 1) ts)

-- the least target that may come after these
abbrev pub after_all : ℕ → List ℕ → ℕ
after_all least [] = least
after_all least (t ∷ ts) = after_all (t + 1) ts

-- the targets of a valid target word and those after them, or the place of an invalid one
abbrev pub all_before : Bool → List ℕ → ℕ → Result (List ℕ) ℕ → Result (List ℕ) ℕ
all_before true now place rest = before now rest
all_before false now place rest = Err place

-- journal 2: n targets in k target words from word 3 + i on, the first of them at least `least`
unfoldable pub targets_2 : List (List ℕ) → ℕ → ℕ → ℕ → ℕ → Result (List ℕ) ℕ
targets_2 m i zero n least = Ok []
targets_2 m i (suc k) n least =
    let all = four (word_at m (3 + i)) in
    let rest = targets_2 m (i + 1) k (n - 4) (after_all least (take n all)) in
    all_before (all_zero (drop n all) && ascend (length m) least (take n all)) (take n all) (3 + i) rest

-- the targets of a journal with w pairs
abbrev pub targets : Journal → List (List ℕ) → ℕ → Result (List ℕ) ℕ
targets One m w = targets_1 m 0 w
targets Two m w = targets_2 m 0 (up w 4) w 0

-- the value of pair i
abbrev pub value : Journal → List (List ℕ) → ℕ → List ℕ
value One m i = word_at m (4 + 2 * i)
value Two m i = word_at m (19 + i)

-- the targets with their values, from pair i on
unfoldable pub pairs : Journal → List (List ℕ) → ℕ → List ℕ → List (ℕ × List ℕ)
pairs j m i [] = []
pairs j m i (t ∷ ts) = (t, value j m i) ∷ pairs j m (i + 1) ts

-- ---- a look at a journal

-- what a look at a journal finds: a bad word at a place, no committed write, or committed pairs that are pending
pub data Look : Type 0 where
  Refused : ℕ → Look
  Closed : Look
  Pending : Journal → List (ℕ × List ℕ) → Look

-- a look at a journal, from its targets
abbrev pub look_by_targets : Journal → List (List ℕ) → Result (List ℕ) ℕ → Look
look_by_targets j m (Ok ts) = Pending j (pairs j m 0 ts)
look_by_targets j m (Err p) = Refused p

-- a look at a journal, from its head
abbrev pub look_by_head : Journal → List (List ℕ) → Option ℕ → Look
look_by_head j m None = Refused 2
look_by_head j m (Some w) = look_by_targets j m (targets j m w)

-- a look at a journal, from whether its gate is open
abbrev pub look_by_gate : Journal → List (List ℕ) → Bool → Look
look_by_gate j m false = Closed
look_by_gate j m true = look_by_head j m (count m)

-- a look at one journal alone
abbrev pub look_j : Journal → List (List ℕ) → Look
look_j j m = look_by_gate j m (is_open j m)

-- a look at the journal that is open; no more than one may be
abbrev pub look_at : List (List ℕ) → Which → Look
look_at m Both = Refused 1
look_at m (Only j) = look_j j m
look_at m Neither = Closed

-- a look at the journals of an image
abbrev pub look : List (List ℕ) → Look
look m = look_at m (which m)

-- ---- after the replay

-- the words with the pairs written over them in order: if a place comes twice, the last counts
abbrev pub image_with : List (List ℕ) → List (ℕ × List ℕ) → List (List ℕ)
image_with m [] = m
image_with m (p ∷ ps) = image_with (slice_set m p.0 p.1) ps

-- an image after the replay, or the place of the word by which the journal is refused
pub data After : Type 0 where
  NoWords : ℕ → After
  Words : List (List ℕ) → After

-- the words after the replay of what a look found: its pairs are written, its gate is shut
abbrev pub image_after_replay : List (List ℕ) → Look → After
image_after_replay m (Refused p) = NoWords p
image_after_replay m Closed = Words m
image_after_replay m (Pending j ps) = Words (image_with m (ps ++ (gate j, shut_word) ∷ []))

-- the number of writes that recovery still has to make after a look: its pairs, and the gate
abbrev pub debt : Look → ℕ
debt (Refused p) = 0
debt Closed = 0
debt (Pending j ps) = length ps + 1

-- the image after the replay
abbrev pub after : List (List ℕ) → After
after m = image_after_replay m (look m)

-- the number of writes that recovery still has to make on an image
abbrev pub count_of_recovery_writes : List (List ℕ) → ℕ
count_of_recovery_writes m = debt (look m)

-- an image after the replay of one journal alone
abbrev pub after_j : Journal → List (List ℕ) → After
after_j j m = image_after_replay m (look_j j m)

-- the number of writes that recovery of one journal alone still has to make
abbrev pub owed_j : Journal → List (List ℕ) → ℕ
owed_j j m = debt (look_j j m)
