-- The header words that a card must hold, the changes between two of them, and the first fault of an image.
use Rattle.std.specs.Prelude.{◌≡◌, ℕ, zero, suc, ◌+◌, ◌-◌, Bool, true, false, cond, not, ◌&&◌, ◌||◌, nat_lt, nat_le, ◌==◌, List, [], ◌∷◌, ◌++◌, length, take, drop, slice_index, bytes_eq, filter, Option, Some, None}
use Rattle.std.specs.List.{list_any}
use Rattle.model_device.specs.declared.cause.Cause.{Cause}
use Rattle.model_device.specs.declared.cause.Cause.TheVariants.{BadJournal, NoRoot, BadBlock, BadRecord, BadChain}
use Rattle.model_device.specs.Limits.{most_code, most_static, most_session}
use Rattle.model_device.specs.Bytes.{be2, bytes2, zeros, has_name, or_else}
use Rattle.model_device.specs.Image.{Look, Refused, Closed, Pending, look, after}
use Rattle.model_device.specs.Card.{App, Card, Block, words_of_app, words_of_lengths, used_tag, hole_tag, word, header, blocks, heap_start, record_at, name_in, words_after}

-- ---- places

-- an ascending list of places with what lies there, and one more
abbrev pub put_at : {A : Type 0} → ℕ → A → List (ℕ × A) → List (ℕ × A)
put_at p x [] = (p, x) ∷ []
put_at p x (e ∷ es) = cond (nat_lt p e.0) ((p, x) ∷ e ∷ es) (e ∷ put_at p x es)

-- the place and the number of words of each application's block, ascending
abbrev pub spans_of : List (List ℕ × App) → List (ℕ × ℕ)
spans_of [] = []
spans_of (e ∷ es) = put_at (e.1).place (words_of_app e.1) (spans_of es)

-- the place and the number of words of the block of each application of a card, ascending
abbrev pub spans : Card → List (ℕ × ℕ)
spans card = spans_of card.apps

-- the gap from p up to q, if there is one
abbrev pub gap : ℕ → ℕ → List (ℕ × ℕ)
gap p q = cond (nat_lt p q) ((p, q - p) ∷ []) []

-- the gaps from p on between these spans, up to the end
abbrev pub gaps_from : ℕ → List (ℕ × ℕ) → ℕ → List (ℕ × ℕ)
gaps_from p [] end = gap p end
gaps_from p (s ∷ ss) end = gap p s.0 ++ gaps_from (s.0 + s.1) ss end

-- the maximal runs of heap words outside all blocks, ascending: place and length
abbrev pub gaps : Card → List (ℕ × ℕ)
gaps card = gaps_from heap_start (spans card) card.size

-- the place of the first gap, or 0
abbrev pub first_place : List (ℕ × ℕ) → ℕ
first_place [] = 0
first_place (g ∷ gs) = g.0

-- the first gap of at least n words
abbrev pub first_fitting : ℕ → List (ℕ × ℕ) → Option ℕ
first_fitting n [] = None
first_fitting n (g ∷ gs) = cond (nat_le n g.1) (Some g.0) (first_fitting n gs)

-- ---- header words

-- the header of a hole of n words, with the place of the next
abbrev pub hole_header : ℕ → ℕ → List ℕ
hole_header n link = hole_tag ∷ 0 ∷ (bytes2 n ++ bytes2 link ++ 0 ∷ 0 ∷ [])

-- the header of a used block of n words
abbrev pub used_header : ℕ → List ℕ
used_header n = used_tag ∷ 0 ∷ (bytes2 n ++ zeros 4)

-- the root, word 0: `MEL`, the version of the layout, the size of the device in words, and the place of the first hole
-- or 0
abbrev pub root : ℕ → ℕ → ℕ → List ℕ
root version size first = 0x4D ∷ 0x45 ∷ 0x4C ∷ version ∷ (bytes2 size ++ bytes2 first)

-- the headers of the gaps, each with the place of the next
abbrev pub gap_headers : List (ℕ × ℕ) → List (ℕ × List ℕ)
gap_headers [] = []
gap_headers (g ∷ gs) = (g.0, hole_header g.1 (first_place gs)) ∷ gap_headers gs

-- the headers of the applications among those of the gaps
abbrev pub with_used : List (ℕ × ℕ) → List (ℕ × List ℕ) → List (ℕ × List ℕ)
with_used [] headers = headers
with_used (s ∷ ss) headers = put_at s.0 (used_header s.1) (with_used ss headers)

-- the root and the header of each block and each gap, ascending
unfoldable pub layout : Card → List (ℕ × List ℕ)
layout card =
    (0, root card.layout card.size (first_place (gaps card))) ∷ with_used (spans card) (gap_headers (gaps card))

-- whether two pairs have one place and one word
abbrev pub same_pair : ℕ × List ℕ → ℕ × List ℕ → Bool
same_pair a b = a.0 == b.0 && bytes_eq a.1 b.1

-- the header words to write from card a to card b: those of the layout of b that are not in that of a
unfoldable pub step_of : Card → Card → List (ℕ × List ℕ)
step_of a b = filter (λ e. not (list_any (same_pair e) (layout a))) (layout b)

-- ---- faults, each with its first place

-- place 0, if word 0 is no root of layout 1 or 2 with this size
abbrev pub no_root : List (List ℕ) → Option ℕ
no_root m =
    let v = slice_index (word m 0) 3 in
    cond ((v == 1 || v == 2) && bytes_eq (take 6 (word m 0)) (take 6 (root v (length m) 0))) None (Some 0)

-- whether a header is bad: it is none, its block passes the end, or it is a hole right after a hole
abbrev pub bad_header : ℕ → Bool → Option Block → Bool
bad_header size after_hole None = true
bad_header size after_hole (Some b) = nat_lt size (b.place + b.words) || (after_hole && not b.used)

-- the place after a block
abbrev pub next_block : ℕ → Option Block → ℕ
next_block size None = size
next_block size (Some b) = b.place + b.words

-- whether a block is a hole
abbrev pub is_hole : Option Block → Bool
is_hole None = false
is_hole (Some b) = not b.used

-- the place of the first bad header from p on
unfoldable pub bad_block : ℕ → List (List ℕ) → ℕ → Bool → Option ℕ
bad_block zero m p after_hole = None
bad_block (suc n) m p after_hole =
    let h = header p (word m p) in
    cond (p == length m) None (
    cond (bad_header (length m) after_hole h) (Some p) (bad_block n m (next_block (length m) h) (is_hole h))
    )

-- whether a record is valid: its name, its limits and zeros, and its lengths, which make a block of this number of
-- words
abbrev pub is_record : List ℕ → ℕ → Bool
is_record r words =
    let n = slice_index r 16 in
    nat_le 5 n && nat_le n 16 && bytes_eq (take (16 - n) (drop n r)) (zeros (16 - n))
    && nat_le (slice_index r 17) 128 && nat_le (slice_index r 18) 128 && slice_index r 19 == 0
    && nat_le 1 (be2 r 20) && nat_le (be2 r 20) most_code && nat_le (be2 r 22) most_static && nat_le (be2 r 24) most_session
    && nat_le (be2 r 26) 15 && bytes_eq (drop 28 r) (zeros 4)
    && words == words_of_lengths (be2 r 20) (be2 r 22) (slice_index r 17) (slice_index r 18)

-- the place of the first used block whose record is bad, whose name an earlier block has, or that is the 33rd
unfoldable pub bad_record : List (List ℕ) → List Block → List (List ℕ) → ℕ → Option ℕ
bad_record m [] names used = None
bad_record m (b ∷ bs) names used =
    let r = record_at m b.place in
    cond b.used (
    cond (is_record r b.words && not (has_name (name_in r) names) && nat_lt used 32) (bad_record m bs (name_in r ∷ names) (used + 1)) (Some b.place)
    ) (bad_record m bs names used)

-- the place of the first hole, or 0
abbrev pub first_hole : List Block → ℕ
first_hole [] = 0
first_hole (b ∷ bs) = cond b.used (first_hole bs) b.place

-- the place of the first block with a wrong link; right is 0 for a used block, the next hole or 0 for a hole
abbrev pub bad_link : List Block → Option ℕ
bad_link [] = None
bad_link (b ∷ bs) = cond (b.link == cond b.used 0 (first_hole bs)) (bad_link bs) (Some b.place)

-- the place of the first wrong link in the list of holes, from the root's on
abbrev pub bad_chain : List (List ℕ) → List Block → Option ℕ
bad_chain m bs = or_else (cond (be2 (word m 0) 6 == first_hole bs) None (Some 0)) (bad_link bs)

-- a place as a fault with this cause
abbrev pub by_cause : Cause → Option ℕ → Option (Cause × ℕ)
by_cause cause None = None
by_cause cause (Some p) = Some (cause, p)

-- the first fault of words with a closed journal
abbrev pub words_fault : List (List ℕ) → Option (Cause × ℕ)
words_fault m =
    or_else (by_cause NoRoot (no_root m)) (
    or_else (by_cause BadBlock (bad_block (length m) m heap_start false)) (
    or_else (by_cause BadRecord (bad_record m (blocks m) [] 0)) (by_cause BadChain (bad_chain m (blocks m)))
    )
    )

-- the first fault of an image, from a look at its journals
abbrev pub fault_of : Look → List (List ℕ) → Option (Cause × ℕ)
fault_of (Refused p) m = Some (BadJournal, p)
fault_of Closed m = words_fault m
fault_of (Pending j ps) m = words_fault (words_after (after m) m)

-- the first fault of an image, and its place
abbrev pub fault : List (List ℕ) → Option (Cause × ℕ)
fault m = fault_of (look m) m

-- an image without a fault, which holds a card
abbrev pub IsWellLaid : List (List ℕ) → Type 0
IsWellLaid m = fault m ≡ None
