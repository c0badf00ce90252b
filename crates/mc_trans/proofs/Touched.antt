-- The words that pieces touch.
use Rattle.std.proofs.Common.{◌≡◌, ◌≢◌, ℕ, suc, ◌+◌, ◌-◌, ◌*◌, ◌/◌, ◌%◌, ◌≤◌, ◌<◌, Bool, true, false, cond, List, [], ◌∷◌, length, get_or, Option, Some, None, refl, sym, ap, subst, ◌∙◌, inl, inr, arith}
use Rattle.std.specs.Prelude.{nat_le, nat_eq, ◌||◌, option_map, slice_get}
use Rattle.std.specs.List.{AllByRecursion}
use Rattle.std.proofs.lemmas.Bool.{cases_lt, eqb-false, ne_eqb, le-leb, or_parts, lt-leb}
use Rattle.std.proofs.lemmas.Bool.Decides.{nat_tests, eqb_tells}
use Rattle.model_device.specs.Bytes.{splice, or_else}
use Rattle.model_device.specs.Pieces.{covering_byte, laid_pieces, word_pieces, with_number, with_words, with_touched, touched_words, numbers, pending_at, Ascend, LieIn}
use Rattle.model_device.proofs.ListLemmas.{length_splice}
use Rattle.mc_trans.proofs.Overlay.{splice_before, splice_behind, BeginIn, get_some}
use Rattle.std.proofs.lemmas.Option.{slice_get_past}

-- whether a number is in a list of numbers
abbrev pub mem : ℕ → List ℕ → Bool
mem m [] = false
mem m (k ∷ ks) = nat_eq k m || mem m ks

-- a number more
pub mem_number : (m n : ℕ) (ns : List ℕ) → mem m (with_number n ns) ≡ (nat_eq n m || mem m ns)
mem_number m n [] = refl
mem_number m n (k ∷ ks) = grind (arith, nat_tests, mem_number m n ks)

other_word : (m at i : ℕ) → i ≡ at → nat_eq (at / 8) m ≡ false → i / 8 ≢ m
other_word m at i e here same = eqb-false (at / 8) m here (ap (λ (k : ℕ). k / 8) (sym e) ∙ same)

-- a number that is not among the numbers with those of a piece's words is not among the numbers, and no word of the
-- piece has it
not_words : (m at : ℕ) (b ns : List ℕ) → mem m (with_words at b ns) ≡ false → (mem m ns ≡ false) × ((i : ℕ) → at ≤ i → i < at + length b → i / 8 ≢ m)
not_words m at [] ns none = (none, λ i low high. absurd (omega arith))
not_words m at (x ∷ b) ns none =
    let rest = not_words m (at + 1) b (with_number (at / 8) ns) none in
    let split = or_parts (nat_eq (at / 8) m) (mem m ns) (sym (mem_number m (at / 8) ns) ∙ rest.0) in
    (split.1, λ i low high. one_of m at b i low high split.0 rest.1)
  where
    one_of : (m at : ℕ) (b : List ℕ) (i : ℕ) → at ≤ i → i < at + suc (length b) → nat_eq (at / 8) m ≡ false → ((i : ℕ) → at + 1 ≤ i → i < at + 1 + length b → i / 8 ≢ m) → i / 8 ≢ m
    one_of m at b i low high here later = elim (cases_lt at i) [ inl lt ↦ later i (omega arith) (omega arith) | inr le ↦ other_word m at i (omega arith) here ]

not_touched : (m : ℕ) (ns : List ℕ) (ps : List (ℕ × List ℕ)) → mem m (with_touched ns ps) ≡ false → mem m ns ≡ false
not_touched m ns [] none = none
not_touched m ns (p ∷ ps) none = (not_words m p.0 p.1 ns (not_touched m (with_words p.0 p.1 ns) ps none)).0

-- a byte of a word that no piece touches is unchanged
stays : (l ns : List ℕ) (ps : List (ℕ × List ℕ)) (i : ℕ) → LieIn (length l) ps → mem (i / 8) (with_touched ns ps) ≡ false → get_or (laid_pieces l ps) i 0 ≡ get_or l i 0
stays l ns [] i lie none = refl
stays l ns (p ∷ ps) i lie none =
    let same = length_splice l p.0 p.1 lie.0.1 in
    let rest = stays (splice l p.0 p.1) (with_words p.0 p.1 ns) ps i (subst (λ (n : ℕ). LieIn n ps) (sym same) lie.1) none in
    let out = (not_words (i / 8) p.0 p.1 ns (not_touched (i / 8) (with_words p.0 p.1 ns) ps none)).1 i in
    rest ∙ outside l p i (omega (arith, lie.0.1)) out
  where
    outside : (l : List ℕ) (p : ℕ × List ℕ) (i : ℕ) → p.0 ≤ length l → (p.0 ≤ i → i < p.0 + length p.1 → i / 8 ≢ i / 8) → get_or (splice l p.0 p.1) i 0 ≡ get_or l i 0
    outside l p i fits out =
        elim (cases_lt i p.0) [
          | inl lt ↦ splice_before l p.0 p.1 i fits lt
          | inr le ↦ elim (cases_lt i (p.0 + length p.1)) [ inl lt ↦ absurd (out le lt refl) | inr past ↦ splice_behind l p.0 p.1 i fits past ]
        ]

-- a number under which no word is pending is not among the numbers
pub no_number : (ws : List (ℕ × List ℕ)) (m : ℕ) → pending_at ws m ≡ None → mem m (numbers ws) ≡ false
no_number [] m e = refl
no_number (w ∷ ws) m e = grind (arith, nat_tests, no_number ws m)

pub untouched : (l : List ℕ) (ps ws : List (ℕ × List ℕ)) (i : ℕ) → LieIn (length l) ps → numbers ws ≡ touched_words ps → pending_at ws (i / 8) ≡ None → get_or (laid_pieces l ps) i 0 ≡ get_or l i 0
unfolding touched_words
untouched l ps ws i lie e none = stays l [] ps i lie (ap (mem (i / 8)) (sym e) ∙ no_number ws (i / 8) none)

-- words that begin below the end of a list
abbrev pub BelowEnd : ℕ → List ℕ → Type 0
BelowEnd end ns = AllByRecursion (λ n. 8 * n < end) ns

below_number : (end n : ℕ) (ns : List ℕ) → 8 * n < end → BelowEnd end ns → BelowEnd end (with_number n ns)
below_number end n [] lt all = (lt, tt)
below_number end n (k ∷ ks) lt all = grind (arith, nat_tests, below_number end n ks)

below_words : (end at : ℕ) (b ns : List ℕ) → at + length b ≤ end → BelowEnd end ns → BelowEnd end (with_words at b ns)
below_words end at [] ns fits all = all
below_words end at (x ∷ b) ns fits all = below_words end (at + 1) b (with_number (at / 8) ns) (omega arith) (below_number end (at / 8) ns (omega arith) all)

below_touched : (end : ℕ) (ns : List ℕ) (ps : List (ℕ × List ℕ)) → LieIn end ps → BelowEnd end ns → BelowEnd end (with_touched ns ps)
below_touched end ns [] lie all = all
below_touched end ns (p ∷ ps) lie all = below_touched end (with_words p.0 p.1 ns) ps lie.1 (below_words end p.0 p.1 ns lie.0.1 all)

words_begin : (end : ℕ) (ws : List (ℕ × List ℕ)) → BelowEnd end (numbers ws) → BeginIn end (word_pieces ws)
words_begin end [] all = tt
words_begin end (w ∷ ws) all = (omega (arith, all.0), words_begin end ws all.1)

pub words_begin_in : (l : List ℕ) (ps ws : List (ℕ × List ℕ)) → LieIn (length l) ps → numbers ws ≡ touched_words ps → BeginIn (length l) (word_pieces ws)
unfolding touched_words
words_begin_in l ps ws lie e = words_begin (length l) ws (subst (BelowEnd (length l)) (sym e) (below_touched (length l) [] ps lie tt))

-- ---- the word that covers a byte

none_later : (least i : ℕ) (ws : List (ℕ × List ℕ)) → Ascend least (numbers ws) → i / 8 < least → (covering_byte (word_pieces ws) i ≡ None) × (pending_at ws (i / 8) ≡ None)
none_later least i [] asc lt = (refl, refl)
none_later least i (w ∷ ws) asc lt =
    let rest = none_later (w.0 + 1) i ws asc.1 (omega (arith, asc.0)) in
    let out : nat_le (8 * w.0) i ≡ false = lt-leb (8 * w.0) i (omega (arith, asc.0)) in
    let other : nat_eq w.0 (i / 8) ≡ false = ne_eqb _ _ (λ same. omega (arith, asc.0)) in
    (rw (rest.0, out) refl, rw (other, rest.1) refl)

or_else_none : (o : Option ℕ) → or_else o None ≡ o
or_else_none (Some x) = refl
or_else_none None = refl

-- the byte of a word at a place
byte_in : (w : ℕ × List ℕ) (i : ℕ) → length w.1 ≡ 8 → w.0 ≡ i / 8 → cond (nat_le (8 * w.0) i) (slice_get w.1 (i - 8 * w.0)) None ≡ Some (get_or w.1 (i % 8) 0)
byte_in w i eight here =
    let low : nat_le (8 * w.0) i ≡ true = le-leb _ _ (omega arith) in
    let place : i - 8 * w.0 ≡ i % 8 = omega arith in
    rw (low, place, get_some w.1 (i % 8) (omega arith)) refl

byte_out : (w : ℕ × List ℕ) (i : ℕ) → length w.1 ≡ 8 → w.0 ≢ i / 8 → cond (nat_le (8 * w.0) i) (slice_get w.1 (i - 8 * w.0)) None ≡ None
byte_out w i eight other =
    elim (cases_lt i (8 * w.0)) [
      | inl lt ↦ rw (lt-leb (8 * w.0) i lt) refl
      | inr le ↦ rw (le-leb (8 * w.0) i le, slice_get_past w.1 (i - 8 * w.0) (omega arith)) refl
    ]

pub covered_word : (least i : ℕ) (ws : List (ℕ × List ℕ)) → Ascend least (numbers ws) → AllByRecursion (λ w. length w.1 ≡ 8) ws → covering_byte (word_pieces ws) i ≡ option_map (λ b. get_or b (i % 8) 0) (pending_at ws (i / 8))
covered_word least i [] asc whole = refl
covered_word least i (w ∷ ws) asc whole =
    elim (eqb_tells w.0 (i / 8)) [
      | inl here ↦ rw ((none_later (w.0 + 1) i ws asc.1 (omega (arith, here.1))).0, byte_in w i whole.0 here.1, here.0) refl
      | inr other ↦ rw (byte_out w i whole.0 other.1, or_else_none (covering_byte (word_pieces ws) i), other.0) (covered_word (w.0 + 1) i ws asc.1 whole.1)
    ]
