-- Pending words by place.
use Rattle.std.proofs.Common.{◌≡◌, ◌≢◌, ℕ, ◌+◌, ◌-◌, ◌≤◌, ◌<◌, Bool, true, false, cond, List, [], ◌∷◌, length, get_or, Some, None, refl, sym, subst, ◌∙◌, arith, one-add}
use Rattle.std.proofs.Math.ListN.{set}
use Rattle.std.specs.Prelude.{nat_le, position, insert, not}
use Rattle.std.specs.List.{position_or_len, AllByRecursion}
use Rattle.std.proofs.lemmas.Bool.{ltb-false}
use Rattle.std.proofs.lemmas.Bool.Decides.{nat_tests}
use Rattle.std.proofs.lemmas.List.Recursion.{is_position_or_len}
use Rattle.std.proofs.lemmas.List.Sums.{prefix_len-le-length}
use Rattle.model_device.specs.Pieces.{Ascend, ArePending, numbers, pending_at, put_word}
use Rattle.mc_trans.specs.Place.{place}

-- a word with its number
abbrev NumberedWord : Type 0
NumberedWord = ℕ × List ℕ

abbrev nothing : NumberedWord
nothing = (0, [])

place_is : (n : ℕ) (ws : List NumberedWord) → place n ws ≡ position_or_len (λ w. nat_le n w.0) ws
place_is n ws = is_position_or_len (place n) (λ w. nat_le n w.0) refl (λ x xs. rw one-add refl) ws

first_some : (b : Bool) (k i : ℕ) → cond b (Some k) None ≡ Some i → i ≡ k
first_some true k i e = cc
first_some false k i e = absurd cc

first_none : (b : Bool) (k : ℕ) → cond b (Some k) None ≡ None → b ≡ false
first_none true k e = absurd cc
first_none false k e = refl

pub place_some : (n : ℕ) (ws : List NumberedWord) (i : ℕ) → position (λ w. nat_le n w.0) ws ≡ Some i → i ≡ place n ws
place_some n ws i e = first_some _ (position_or_len (λ w. nat_le n w.0) ws) i e ∙ sym (place_is n ws)

pub place_none : (n : ℕ) (ws : List NumberedWord) → position (λ w. nat_le n w.0) ws ≡ None → length ws ≡ place n ws
place_none n ws e =
    let past = ltb-false (position_or_len (λ w. nat_le n w.0) ws) (length ws) (first_none _ (position_or_len (λ w. nat_le n w.0) ws) e) in
    let within = prefix_len-le-length (λ (w : NumberedWord). not (nat_le n w.0)) ws in
    omega (arith, place_is n ws)

-- a number above the last one belongs after all words, and is above the first one too
behind_all : (n least : ℕ) (w : NumberedWord) (ws : List NumberedWord) → Ascend least (numbers (w ∷ ws)) → (get_or (w ∷ ws) (length ws) nothing).0 < n → (w.0 < n) × (length (w ∷ ws) ≡ place n (w ∷ ws))
behind_all n least w [] asc above = grind (arith, nat_tests)
behind_all n least w (v ∷ vs) asc above = grind (arith, nat_tests, behind_all n (w.0 + 1) v vs)

pub place_behind : (n : ℕ) (ws : List NumberedWord) → ArePending ws → 0 < length ws → (get_or ws (length ws - 1) nothing).0 < n → length ws ≡ place n ws
place_behind n [] are some above = absurd (omega arith)
place_behind n (w ∷ ws) are some above = (behind_all n 0 w ws are.ascending (subst (λ (k : ℕ). (get_or (w ∷ ws) k nothing).0 < n) (omega arith) above)).1

-- a word whose number is there replaces the word with that number
pub put_there : (n : ℕ) (b : List ℕ) (ws : List NumberedWord) (i : ℕ) → i ≡ place n ws → i < length ws → (get_or ws i nothing).0 ≡ n → put_word n b ws ≡ set ws i (n, b)
put_there n b [] i e lt at = absurd (omega arith)
put_there n b (w ∷ ws) i e lt at = grind (arith, nat_tests, put_there n b ws (place n ws) refl)

-- any other word is inserted at its place
pub put_between : (n : ℕ) (b : List ℕ) (ws : List NumberedWord) (i : ℕ) → i ≡ place n ws → (i < length ws → (get_or ws i nothing).0 ≢ n) → put_word n b ws ≡ insert ws i (n, b)
put_between n b [] i e other = grind (arith, nat_tests)
put_between n b (w ∷ ws) i e other = grind (arith, nat_tests, put_between n b ws (place n ws) refl)

pub is_pending : (n : ℕ) (ws : List NumberedWord) (i : ℕ) → i ≡ place n ws → i < length ws → (get_or ws i nothing).0 ≡ n → pending_at ws n ≡ Some (get_or ws i nothing).1
is_pending n [] i e lt at = absurd (omega arith)
is_pending n (w ∷ ws) i e lt at = grind (arith, nat_tests, is_pending n ws (place n ws) refl)

-- no word is pending under a number below all numbers, nor under one that the word at its place does not have
above_none : (n least : ℕ) (ws : List NumberedWord) → n < least → Ascend least (numbers ws) → pending_at ws n ≡ None
above_none n least [] lt asc = refl
above_none n least (w ∷ ws) lt asc = grind (arith, nat_tests, above_none n (w.0 + 1) ws)

not_pending_from : (n least : ℕ) (ws : List NumberedWord) (i : ℕ) → Ascend least (numbers ws) → i ≡ place n ws → (i < length ws → (get_or ws i nothing).0 ≢ n) → pending_at ws n ≡ None
not_pending_from n least [] i asc e other = refl
not_pending_from n least (w ∷ ws) i asc e other = grind (arith, nat_tests, above_none n (w.0 + 1) ws, not_pending_from n (w.0 + 1) ws (place n ws))

pub not_pending : (n : ℕ) (ws : List NumberedWord) (i : ℕ) → ArePending ws → i ≡ place n ws → (i < length ws → (get_or ws i nothing).0 ≢ n) → pending_at ws n ≡ None
not_pending n ws i are e other = not_pending_from n 0 ws i are.ascending e other

-- words that ascend still ascend after a put
put_ascends : (n least : ℕ) (b : List ℕ) (ws : List NumberedWord) → least ≤ n → Ascend least (numbers ws) → Ascend least (numbers (put_word n b ws))
put_ascends n least b [] le asc = (le, tt)
put_ascends n least b (w ∷ ws) le asc = grind (arith, nat_tests, put_ascends n (w.0 + 1) b ws)

abbrev IsWholeWord : NumberedWord → Type 0
IsWholeWord w = length w.1 ≡ 8

put_whole : (n : ℕ) (b : List ℕ) (ws : List NumberedWord) → length b ≡ 8 → AllByRecursion IsWholeWord ws → AllByRecursion IsWholeWord (put_word n b ws)
put_whole n b [] eight all = (eight, tt)
put_whole n b (w ∷ ws) eight all = grind (arith, nat_tests, put_whole n b ws)

pub put_pending : (n : ℕ) (b : List ℕ) (ws : List NumberedWord) → ArePending ws → length b ≡ 8 → ArePending (put_word n b ws)
put_pending n b ws are eight = record { ascending = put_ascends n 0 b ws (omega arith) are.ascending; whole = put_whole n b ws eight are.whole }

pub there_pending : (n : ℕ) (b : List ℕ) (ws : List NumberedWord) (i : ℕ) → ArePending ws → length b ≡ 8 → i ≡ place n ws → i < length ws → (get_or ws i nothing).0 ≡ n → ArePending (set ws i (n, b))
there_pending n b ws i are eight e lt at = subst ArePending (put_there n b ws i e lt at) (put_pending n b ws are eight)

pub between_pending : (n : ℕ) (b : List ℕ) (ws : List NumberedWord) (i : ℕ) → ArePending ws → length b ≡ 8 → i ≡ place n ws → (i < length ws → (get_or ws i nothing).0 ≢ n) → ArePending (insert ws i (n, b))
between_pending n b ws i are eight e other = subst ArePending (put_between n b ws i e other) (put_pending n b ws are eight)
