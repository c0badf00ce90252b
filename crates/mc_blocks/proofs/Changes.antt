-- The pairs of one list that are not in another, if the places of both ascend.
use Rattle.std.proofs.Common.{◌≡◌, ◌≢◌, ℕ, ◌+◌, ◌/◌, ◌%◌, ◌<◌, ◌≤◌, Bool, true, false, ◌&&◌, ◌||◌, List, [], ◌∷◌, ◌++◌, refl, sym, ◌∙◌, ap, arith, cond, not}
use Rattle.std.specs.Prelude.{◌==◌, bytes_eq}
use Rattle.std.specs.List.{list_any}
use Rattle.std.proofs.lemmas.Bool.{eq-eqb, ne_eqb, and_from, and_right, false_from_ne_true}
use Rattle.std.proofs.lemmas.List.Elements.{filter-append}
use Rattle.std.proofs.lemmas.Slice.Eq.{bytes_eq-Decides}
use Rattle.mc_words.specs.model_device.specs.Layout.{same_pair, hole_header, root}
use Rattle.mc_blocks.specs.Plans.{changes, link_word}
use Rattle.std.proofs.lemmas.List.Folds.{list_any-append}

-- all places from p on, and all places before p
abbrev pub From : ℕ → List (ℕ × List ℕ) → Type 0
From p [] = Unit {0}
From p (e ∷ es) = (p ≤ e.0) × From p es

abbrev pub Before : ℕ → List (ℕ × List ℕ) → Type 0
Before p [] = Unit {0}
Before p (e ∷ es) = (e.0 < p) × Before p es

pub from_weaker : (p q : ℕ) (l : List (ℕ × List ℕ)) → q ≤ p → From p l → From q l
from_weaker p q [] h a = tt
from_weaker p q (e ∷ es) h a = let low : p ≤ e.0 = a.0 in (omega arith, from_weaker p q es h a.1)

other_place : (e f : ℕ × List ℕ) → e.0 ≢ f.0 → same_pair e f ≡ false
other_place e f ne = ap (λ (t : Bool). t && bytes_eq e.1 f.1) (ne_eqb e.0 f.0 ne)

pub none_from : (e : ℕ × List ℕ) (p : ℕ) (l : List (ℕ × List ℕ)) → e.0 < p → From p l → list_any (same_pair e) l ≡ false
none_from e p [] lt f = refl
none_from e p (x ∷ xs) lt f =
    let low : p ≤ x.0 = f.0 in
    let ne : e.0 ≢ x.0 = λ h. absurd (omega (arith, h)) in
    ap (λ (t : Bool). t || list_any (same_pair e) xs) (other_place e x ne) ∙ none_from e p xs lt f.1

none_before : (e : ℕ × List ℕ) (p : ℕ) (l : List (ℕ × List ℕ)) → p ≤ e.0 → Before p l → list_any (same_pair e) l ≡ false
none_before e p [] low b = refl
none_before e p (x ∷ xs) low b =
    let lt : x.0 < p = b.0 in
    let ne : e.0 ≢ x.0 = λ h. absurd (omega (arith, h)) in
    ap (λ (t : Bool). t || list_any (same_pair e) xs) (other_place e x ne) ∙ none_before e p xs low b.1

or_false : (a b : Bool) → b ≡ false → (a || b) ≡ a
or_false true b h = refl
or_false false b h = h

front : (p : ℕ) (a b new : List (ℕ × List ℕ)) → From p b → Before p new → changes (a ++ b) new ≡ changes a new
front p a b [] f n = refl
front p a b (x ∷ xs) f n =
    ap (λ (t : Bool). cond (not t) (x ∷ changes (a ++ b) xs) (changes (a ++ b) xs)) (list_any-append (same_pair x) a b ∙ or_false (list_any (same_pair x) a) (list_any (same_pair x) b) (none_from x p b n.0 f))
    ∙ ap (λ (l : List (ℕ × List ℕ)). cond (not (list_any (same_pair x) a)) (x ∷ l) l) (front p a b xs f n.1)

pub back : (p : ℕ) (a b new : List (ℕ × List ℕ)) → Before p a → From p new → changes (a ++ b) new ≡ changes b new
back p a b [] f n = refl
back p a b (x ∷ xs) f n =
    ap (λ (t : Bool). cond (not t) (x ∷ changes (a ++ b) xs) (changes (a ++ b) xs)) (list_any-append (same_pair x) a b ∙ ap (λ (t : Bool). t || list_any (same_pair x) b) (none_before x p a n.0 f))
    ∙ ap (λ (l : List (ℕ × List ℕ)). cond (not (list_any (same_pair x) b)) (x ∷ l) l) (back p a b xs f n.1)

-- the changes before a place, and those from it on
pub split : (p : ℕ) (a b c d : List (ℕ × List ℕ)) → Before p a → From p b → Before p c → From p d → changes (a ++ b) (c ++ d) ≡ changes a c ++ changes b d
split p a b c d ba fb bc fd = grind (arith, filter-append, front, back)

pub self_pair : (e : ℕ × List ℕ) → same_pair e e ≡ true
self_pair e = and_from (e.0 == e.0) (bytes_eq e.1 e.1) (eq-eqb e.0 e.0 refl) ((bytes_eq-Decides e.1 e.1).1 refl)

pub one_same : (e : ℕ × List ℕ) → changes (e ∷ []) (e ∷ []) ≡ []
one_same e = ap (λ (t : Bool). cond (not (t || false)) (e ∷ []) []) (self_pair e)

-- a word that differs at its place
pub one_other : (e f : ℕ × List ℕ) → bytes_eq f.1 e.1 ≡ false → changes (e ∷ []) (f ∷ []) ≡ f ∷ []
one_other e f h = ap (λ (t : Bool). cond (not (t || false)) (f ∷ []) []) (and_right (f.0 == e.0) (bytes_eq f.1 e.1) h)

-- an equal pair in front of both lists adds no change
pub under_same : (e : ℕ × List ℕ) (old new : List (ℕ × List ℕ)) → From (e.0 + 1) old → From (e.0 + 1) new → changes (e ∷ old) (e ∷ new) ≡ changes old new
under_same e old new fo fn =
    let lt : e.0 < e.0 + 1 = omega arith in
    split (e.0 + 1) (e ∷ []) old (e ∷ []) new (lt, tt) fo (lt, tt) fn ∙ ap (λ (l : List (ℕ × List ℕ)). l ++ changes old new) (one_same e)

-- a pair whose word differs in front of both lists adds itself
pub under_other : (e f : ℕ × List ℕ) (old new : List (ℕ × List ℕ)) → e.0 ≡ f.0 → bytes_eq f.1 e.1 ≡ false → From (e.0 + 1) old → From (e.0 + 1) new → changes (e ∷ old) (f ∷ new) ≡ f ∷ changes old new
under_other e f old new same h fo fn =
    let lt : e.0 < e.0 + 1 = omega arith in
    let also : f.0 < e.0 + 1 = omega (arith, same) in
    split (e.0 + 1) (e ∷ []) old (f ∷ []) new (lt, tt) fo (also, tt) fn ∙ ap (λ (l : List (ℕ × List ℕ)). l ++ changes old new) (one_other e f h)

-- an equal second pair in both lists adds no change
pub second_same : (e f u : ℕ × List ℕ) (old new : List (ℕ × List ℕ)) → e.0 ≡ f.0 → e.0 < u.0 → From (u.0 + 1) old → From (u.0 + 1) new
    → changes (e ∷ u ∷ old) (f ∷ u ∷ new) ≡ changes (e ∷ old) (f ∷ new)
second_same e f u old new same lt fo fn =
    let one : e.0 < e.0 + 1 = omega arith in
    let two : f.0 < e.0 + 1 = omega (arith, same) in
    let low : e.0 + 1 ≤ u.0 = omega arith in
    let old-from : From (e.0 + 1) old = from_weaker (u.0 + 1) (e.0 + 1) old (omega arith) fo in
    let new-from : From (e.0 + 1) new = from_weaker (u.0 + 1) (e.0 + 1) new (omega arith) fn in
    split (e.0 + 1) (e ∷ []) (u ∷ old) (f ∷ []) (u ∷ new) (one, tt) (low, old-from) (two, tt) (low, new-from)
    ∙ ap (λ (l : List (ℕ × List ℕ)). changes (e ∷ []) (f ∷ []) ++ l) (under_same u old new fo fn)
    ∙ sym (split (e.0 + 1) (e ∷ []) old (f ∷ []) new (one, tt) old-from (two, tt) new-from)

-- ---- words that differ

bytes2_same : (a b : ℕ) → a < 65536 → b < 65536 → a / 256 % 256 ≡ b / 256 % 256 → a % 256 ≡ b % 256 → a ≡ b
bytes2_same a b la lb h l = omega arith

pub holes_differ : (n k l j : ℕ) → l < 65536 → j < 65536 → l ≢ j → bytes_eq (hole_header n l) (hole_header k j) ≡ false
holes_differ n k l j ll lj ne = grind (arith, false_from_ne_true, bytes_eq-Decides, bytes2_same)

pub lengths_differ : (n k l j : ℕ) → n < 65536 → k < 65536 → n ≢ k → bytes_eq (hole_header n l) (hole_header k j) ≡ false
lengths_differ n k l j ln lk ne = grind (arith, false_from_ne_true, bytes_eq-Decides, bytes2_same)

pub roots_differ : (v s l j : ℕ) → l < 65536 → j < 65536 → l ≢ j → bytes_eq (root v s l) (root v s j) ≡ false
roots_differ v s l j ll lj ne = grind (arith, false_from_ne_true, bytes_eq-Decides, bytes2_same)

links_by : (v s n l j : ℕ) (t : Bool) → l < 65536 → j < 65536 → l ≢ j → bytes_eq (cond t (root v s l) (hole_header n l)) (cond t (root v s j) (hole_header n j)) ≡ false
links_by v s n l j true ll lj ne = roots_differ v s l j ll lj ne
links_by v s n l j false ll lj ne = holes_differ n n l j ll lj ne

-- a link that names another place
pub links_differ : (v s : ℕ) (g : ℕ × ℕ) (l j : ℕ) → l < 65536 → j < 65536 → l ≢ j → bytes_eq (link_word v s g l).1 (link_word v s g j).1 ≡ false
links_differ v s g l j ll lj ne = links_by v s g.1 l j (g.0 == 0) ll lj ne
