-- Bytes put into the words of a static segment, word by word.
use Rattle.std.proofs.Common.{◌≡◌, ℕ, zero, suc, ◌+◌, ◌-◌, ◌*◌, ◌/◌, ◌%◌, ◌≤◌, ◌<◌, ◌⊎◌, Bool, true, false, cond, List, [], ◌∷◌, ◌++◌, length, take, drop, get_or, Option, Some, None, refl, sym, ap, subst, ◌∙◌, inl, inr, arith, append_assoc}
use Rattle.std.specs.Prelude.{is_none, is_some, not, slice_index, IfSome}
use Rattle.std.specs.List.{AllByRecursion}
use Rattle.std.proofs.Math.Seq.{take-add}
use Rattle.std.proofs.lemmas.Bool.Decides.{nat_tests}
use Rattle.std.proofs.lemmas.List.{take_all, append-nil}
use Rattle.mc_words.specs.model_device.specs.Bytes.{splice}
use Rattle.mc_words.specs.model_device.specs.Pieces.{laid_pieces, numbers, pending_at, put_word, not_pending, Ascend, ArePending, HoldPieces, LieIn}
use Rattle.mc_words.specs.model_device.proofs.ImageLemmas.{all_append}
use Rattle.mc_trans.proofs.Words.{put_pending}
use Rattle.mc_trans.proofs.Touched.{untouched}
use Rattle.mc_trans.proofs.Putting.{piece_put, pieces_joined}
use Rattle.mc_words.specs.model_device.proofs.ListLemmas.{length_splice}
use Rattle.mc_segs.specs.HeldFrames.{ArePendingIn}
use Rattle.mc_segs.specs.Puts.{words_under, IsWordOf, PutsBytes, PutsPiece}

-- ---- counts

none_below : (n least : ℕ) (ws : List (ℕ × List ℕ)) → n < least → Ascend least (numbers ws) → pending_at ws n ≡ None
none_below n least [] lt asc = refl
none_below n least (w ∷ ws) lt asc = grind (arith, nat_tests, none_below n (w.0 + 1) ws)

length_put : (n least : ℕ) (b : List ℕ) (ws : List (ℕ × List ℕ)) → Ascend least (numbers ws) → length (put_word n b ws) ≡ length ws + cond (is_none (pending_at ws n)) 1 0
length_put n least b [] asc = refl
length_put n least b (w ∷ ws) asc = grind (arith, nat_tests, length_put n (w.0 + 1) b ws, none_below n (w.0 + 1) ws)

other_put : (n m : ℕ) (b : List ℕ) (ws : List (ℕ × List ℕ)) → n < m → pending_at (put_word n b ws) m ≡ pending_at ws m
other_put n m b [] lt = grind (arith, nat_tests)
other_put n m b (w ∷ ws) lt = grind (arith, nat_tests, other_put n m b ws)

later_put : (n m count : ℕ) (b : List ℕ) (ws : List (ℕ × List ℕ)) → n < m → not_pending m count (put_word n b ws) ≡ not_pending m count ws
later_put n m zero b ws lt = refl
later_put n m (suc count) b ws lt = rw (other_put n m b ws lt, later_put n (m + 1) count b ws (omega arith)) refl

-- a word that is put counts as pending and no more as not pending
pub count_put : (n count : ℕ) (b : List ℕ) (ws : List (ℕ × List ℕ)) → ArePending ws → length (put_word n b ws) + not_pending (n + 1) count (put_word n b ws) ≡ length ws + not_pending n (suc count) ws
count_put n count b ws are = omega (arith, length_put n 0 b ws are.ascending, later_put n (n + 1) count b ws (omega arith))

-- ---- one word

within_put : (end n : ℕ) (b : List ℕ) (ws : List (ℕ × List ℕ)) → 8 * n < end → AllByRecursion (λ w. 8 * w.0 < end) ws → AllByRecursion (λ w. 8 * w.0 < end) (put_word n b ws)
within_put end n b [] lt all = (lt, tt)
within_put end n b (w ∷ ws) lt all = grind (arith, nat_tests, within_put end n b ws)

-- the bytes of a word, before bytes are put into it, are those of the segment with the pieces that the words hold
base_byte : (l : List ℕ) (ps ws : List (ℕ × List ℕ)) (n k : ℕ) (word : List ℕ) (o : Option (List ℕ)) → pending_at ws n ≡ o → IsWordOf l ws n word → LieIn (length l) ps → HoldPieces l ps ws → k < 8 → 8 * n + k < length l → get_or word k 0 ≡ get_or (laid_pieces l ps) (8 * n + k) 0
base_byte l ps ws n k word (Some b) e is lie held lt within =
    let same : word ≡ b = subst (λ (o : Option (List ℕ)). IfSome o (λ b. word ≡ b)) e is.there in
    let byte : get_or b k 0 ≡ get_or (laid_pieces l ps) (8 * n + k) 0 = subst (λ (o : Option (List ℕ)). IfSome o (λ b. get_or b k 0 ≡ get_or (laid_pieces l ps) (8 * n + k) 0)) e (held.bytes n k lt within) in
    ap (λ (t : List ℕ). get_or t k 0) same ∙ byte
base_byte l ps ws n k word None e is lie held lt within =
    let number : (8 * n + k) / 8 ≡ n = omega arith in
    is.fresh e k lt within ∙ sym (untouched l ps ws (8 * n + k) lie held.touched_words (ap (pending_at ws) number ∙ e))

-- bytes as a piece, and no piece if there are no bytes
abbrev pub some_piece : ℕ → List ℕ → List (ℕ × List ℕ)
some_piece at [] = []
some_piece at (b ∷ bs) = (at, b ∷ bs) ∷ []

some_piece_is : (at : ℕ) (b : List ℕ) → 0 < length b → some_piece at b ≡ (at, b) ∷ []
some_piece_is at [] some = absurd (omega arith)
some_piece_is at (x ∷ b) some = refl

next_held : (l : List ℕ) (ps ws : List (ℕ × List ℕ)) (at n j : ℕ) (a piece word : List ℕ) → LieIn (length l) ps → HoldPieces l (ps ++ some_piece at a) ws → IsWordOf l ws n word → 0 < length piece → j + length piece ≤ 8 → 8 * n + j ≡ at + length a → at + length a + length piece ≤ length l
    → HoldPieces l (ps ++ some_piece at (a ++ piece)) (put_word n (splice word j piece) ws)
next_held l ps ws at n j [] piece word lie held is some small place range =
    let base = subst (λ (t : List (ℕ × List ℕ)). HoldPieces l t ws) (append-nil ps) held in
    let put = piece_put l ps ws n j word piece lie base is.eight (λ k lt within. base_byte l ps ws n k word (pending_at ws n) refl is lie base lt within) some small (omega arith) in
    let begin : 8 * n + j ≡ at = omega arith in
    let moved : HoldPieces l (ps ++ (at, piece) ∷ []) (put_word n (splice word j piece) ws) = subst (λ (i : ℕ). HoldPieces l (ps ++ (i, piece) ∷ []) (put_word n (splice word j piece) ws)) begin put in
    subst (λ (t : List (ℕ × List ℕ)). HoldPieces l (ps ++ t) (put_word n (splice word j piece) ws)) (sym (some_piece_is at piece some)) moved
next_held l ps ws at n j (x ∷ a) piece word lie held is some small place range =
    let front = x ∷ a in
    let all = ps ++ (at, front) ∷ [] in
    let lie_all : LieIn (length l) all = all_append (λ (p : ℕ × List ℕ). (0 < length p.1) × (p.0 + length p.1 ≤ length l)) ps ((at, front) ∷ []) lie ((omega arith, omega arith), tt) in
    let after = put_word n (splice word j piece) ws in
    let put = piece_put l all ws n j word piece lie_all held is.eight (λ k lt within. base_byte l all ws n k word (pending_at ws n) refl is lie_all held lt within) some small (omega arith) in
    let moved : HoldPieces l (all ++ (at + length front, piece) ∷ []) after = subst (λ (i : ℕ). HoldPieces l (all ++ (i, piece) ∷ []) after) place put in
    let two : HoldPieces l (ps ++ (at, front) ∷ (at + length front, piece) ∷ []) after = subst (λ (t : List (ℕ × List ℕ)). HoldPieces l t after) (append_assoc ps ((at, front) ∷ []) ((at + length front, piece) ∷ [])) moved in
    pieces_joined l ps after at front piece lie (omega arith) two

-- ---- word by word

-- the words after the first bytes a are put at `at`
pub record PutsSome (l : List ℕ) (ws : List (ℕ × List ℕ)) (at : ℕ) (a : List ℕ) (after : List (ℕ × List ℕ)) : Type 0 where
  pub pending : ArePendingIn (length l) after
  pub holds : (ps : List (ℕ × List ℕ)) → LieIn (length l) ps → HoldPieces l ps ws → HoldPieces l (ps ++ some_piece at a) after

pub puts_next : (l : List ℕ) (begin ws after : List (ℕ × List ℕ)) (at n j : ℕ) (a piece next : List ℕ) → PutsSome l begin at a ws → PutsPiece l ws n j piece after → 0 < length piece → j + length piece ≤ 8 → 8 * n + j ≡ at + length a → at + length a + length piece ≤ length l → length after ≤ 64
    → a ++ piece ≡ next → PutsSome l begin at next after
puts_next l begin ws after at n j a piece next done put some small place range few is =
    let now = splice put.word j piece in
    let eight : length now ≡ 8 = length_splice put.word j piece (omega (arith, put.is.eight)) ∙ put.is.eight in
    let all : PutsSome l begin at (a ++ piece) (put_word n now ws) = record {
      pending = record { few = subst (λ (t : List (ℕ × List ℕ)). length t ≤ 64) put.words few; pending = put_pending n now ws done.pending.pending eight; within = within_put (length l) n now ws (omega arith) done.pending.within };
      holds = λ ps lie held. next_held l ps ws at n j a piece put.word lie (done.holds ps lie held) put.is some small place range;
    } in
    subst (λ (t : List (ℕ × List ℕ)). PutsSome l begin at next t) (sym put.words) (subst (λ (t : List ℕ). PutsSome l begin at t (put_word n now ws)) is all)

-- bytes that lie in one word, put into no pending words
pub one_put : (l : List ℕ) (len at : ℕ) (from word : List ℕ) → len ≡ length l → length word ≡ 8 → ((k : ℕ) → k < 8 → 8 * (at / 8) + k < len → slice_index word k ≡ slice_index l (8 * (at / 8) + k)) → 1 ≤ length from → at % 8 + length from ≤ 8 → at + length from ≤ len
    → PutsBytes l [] at from ((at / 8, splice word (at % 8) from) ∷ [])
one_put l len at from word same eight fresh some one range =
    let n = at / 8 in
    let after : List (ℕ × List ℕ) = (n, splice word (at % 8) from) ∷ [] in
    let is : IsWordOf l [] n word = record { eight = eight; there = tt; fresh = λ none k lt within. fresh k lt (subst (λ (m : ℕ). 8 * (at / 8) + k < m) (sym same) within) } in
    let put : PutsPiece l [] n (at % 8) from after = record { word = word; is = is; words = refl } in
    let none : PutsSome l [] at [] [] = record {
      pending = record { few = omega arith; pending = record { ascending = tt; whole = tt }; within = tt };
      holds = λ ps lie held. subst (λ (t : List (ℕ × List ℕ)). HoldPieces l t []) (sym (append-nil ps)) held;
    } in
    let next = puts_next l [] [] after at n (at % 8) [] from from none put (omega arith) one (omega arith) (omega arith) (omega arith) refl in
    let words : words_under at (length from) ≡ 1 = omega arith in
    record {
      pending = next.pending;
      count = sym (ap (λ (c : ℕ). 0 + not_pending n c []) words);
      holds = λ ps lie held. subst (λ (t : List (ℕ × List ℕ)). HoldPieces l (ps ++ t) after) (some_piece_is at from (omega arith)) (next.holds ps lie held);
    }

-- the bytes up to the end of word n are those before it and those in it
pub next_bytes : (from : List ℕ) (at n low high : ℕ) → low - at ≡ 8 * n - at → low ≤ high → high ≤ at + length from → ((high ≡ 8 * n + 8) ⊎ (high ≡ at + length from × (high ≤ 8 * n + 8))) → at ≤ low
    → take (8 * n - at) from ++ take (high - at - (low - at)) (drop (low - at) from) ≡ take (8 * (n + 1) - at) from
next_bytes from at n low high begin order range end after =
    let first : take (8 * n - at) from ≡ take (low - at) from = ap (λ (k : ℕ). take k from) (sym begin) in
    let two : take (low - at) from ++ take (high - at - (low - at)) (drop (low - at) from) ≡ take (low - at + (high - at - (low - at))) from = sym (take-add (low - at) (high - at - (low - at)) from) in
    let sum : low - at + (high - at - (low - at)) ≡ high - at = omega arith in
    ap (λ (t : List ℕ). t ++ take (high - at - (low - at)) (drop (low - at) from)) first ∙ two ∙ ap (λ (k : ℕ). take k from) sum ∙ last end
  where
    last : ((high ≡ 8 * n + 8) ⊎ (high ≡ at + length from × (high ≤ 8 * n + 8))) → take (high - at) from ≡ take (8 * (n + 1) - at) from
    last (inl whole) = ap (λ (k : ℕ). take k from) (omega arith)
    last (inr part) = take_all (high - at) from (omega (arith, part.0)) ∙ sym (take_all (8 * (n + 1) - at) from (omega (arith, part.0, part.1)))

pub count_next : (l : List ℕ) (ws after : List (ℕ × List ℕ)) (n j last total : ℕ) (piece : List ℕ) → ArePending ws → PutsPiece l ws n j piece after → n < last → length ws + not_pending n (last - n) ws ≡ total → length after + not_pending (n + 1) (last - (n + 1)) after ≡ total
count_next l ws after n j last total piece are put lt so =
    let one : last - n ≡ suc (last - (n + 1)) = omega arith in
    let now : length ws + not_pending n (suc (last - (n + 1))) ws ≡ total = subst (λ (c : ℕ). length ws + not_pending n c ws ≡ total) one so in
    subst (λ (t : List (ℕ × List ℕ)). length t + not_pending (n + 1) (last - (n + 1)) t ≡ total) (sym put.words) (count_put n (last - (n + 1)) (splice put.word j piece) ws are ∙ now)

-- the number of words in n..end that are not pending, by the first of them
pub missing_next : (n end : ℕ) (ws : List (ℕ × List ℕ)) (b : Bool) → is_none (pending_at ws n) ≡ b → n < end → not_pending n (end - n) ws ≡ cond b 1 0 + not_pending (n + 1) (end - (n + 1)) ws
missing_next n end ws b is lt =
    let one : end - n ≡ suc (end - (n + 1)) = omega arith in
    ap (λ (c : ℕ). not_pending n c ws) one ∙ ap (λ (t : Bool). cond t 1 0 + not_pending (n + 1) (end - (n + 1)) ws) is

pub none_from : (o : Option (List ℕ)) (r b : Bool) → is_some o ≡ not r → r ≡ b → is_none o ≡ b
none_from None true b e is = is
none_from None false b e is = absurd (cc e)
none_from (Some x) true b e is = absurd (cc e)
none_from (Some x) false b e is = is
