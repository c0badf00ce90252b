-- The tear lemma: what an atomic write leaves that was stopped at any of its device writes, whatever word that left.
use Rattle.std.proofs.Common.{◌≡◌, ◌≢◌, ◌⊎◌, ℕ, zero, suc, ◌+◌, ◌-◌, ◌<◌, ◌≤◌, Bool, true, false, cond, not, ◌&&◌, ◌||◌, ◌==◌, List, [], ◌∷◌, ◌++◌, length, map, refl, sym, ◌∙◌, ap, subst, inl, inr, arith}
use Rattle.std.specs.Prelude.{bytes_eq, nat_le, slice_set}
use Rattle.std.specs.List.{AllByRecursion}
use Rattle.std.proofs.lemmas.List.{get_or-set_same, get_or-set_other, length-set}
use Rattle.std.proofs.lemmas.Bool.{cases_lt, le-ltb, lt-ltb, leb-true, eqb-true, ltb-true, and_parts, or_cases}
use Rattle.std.proofs.lemmas.Bool.Decides.{eqb_tells}
use Rattle.std.specs.Cmp.Lexicographic.{same_text}
use Rattle.model_device.specs.Image.{Journal, One, Two, opening, shut_word, gate, word_at, is_open, within, ascend, image_with, Look, Closed, Pending, look_by_gate, look_j, image_after_replay, debt}
use Rattle.model_device.specs.Stopped.{InJournal, cost, opens_at, stands, owes, word_of_number, entries, replay, writes, IsAtomic, image_after_stop, image_if_written, SameOutside, LeavesOwing, LaidWhole}
use Rattle.model_device.proofs.ImageLemmas.{HoldsWords, all_map, length_laid, laid_append, laid_other, laid_point, laid_holds, laid_last, uncovered, covers, holds_point, Ascends}
use Rattle.model_device.proofs.LookLemmas.{look_same, gate_inside, head_inside}
use Rattle.model_device.proofs.GeometryLemmas.{InEntries, Geometry, geometry, look_written, targets_within}

-- ---- lists of writes that were stopped

pub length_torn : (m : List (List ℕ)) (ps : List (ℕ × List ℕ)) (k : ℕ) (x : List ℕ) → length (image_after_stop m ps k x) ≡ length m
length_torn m [] k x = refl
length_torn m (p ∷ ps) zero x = refl
length_torn m (p ∷ ps) (suc zero) x = length-set m p.0 x
length_torn m (p ∷ ps) (suc (suc k)) x = length_torn (slice_set m p.0 p.1) ps (suc k) x ∙ length-set m p.0 p.1

pub torn_other : (m : List (List ℕ)) (ps : List (ℕ × List ℕ)) (k : ℕ) (x : List ℕ) (i : ℕ) → AllByRecursion (λ p. p.0 ≢ i) ps → word_at (image_after_stop m ps k x) i ≡ word_at m i
torn_other m [] k x i a = refl
torn_other m (p ∷ ps) zero x i a = refl
torn_other m (p ∷ ps) (suc zero) x i a = get_or-set_other m p.0 i x [] (λ e. a.0 (sym e))
torn_other m (p ∷ ps) (suc (suc k)) x i a = torn_other (slice_set m p.0 p.1) ps (suc k) x i a.1 ∙ get_or-set_other m p.0 i p.1 [] (λ e. a.0 (sym e))

pub torn_within : (m : List (List ℕ)) (a b : List (ℕ × List ℕ)) (k : ℕ) (x : List ℕ) → 1 ≤ k → k ≤ length a → image_after_stop m (a ++ b) k x ≡ image_after_stop m a k x
torn_within m [] b k x low high = absurd (omega arith)
torn_within m (p ∷ a) b zero x low high = absurd (omega arith)
torn_within m (p ∷ a) b (suc zero) x low high = refl
torn_within m (p ∷ a) b (suc (suc k)) x low high = torn_within (slice_set m p.0 p.1) a b (suc k) x (omega arith) (omega arith)

pub torn_past : (m : List (List ℕ)) (a b : List (ℕ × List ℕ)) (n k : ℕ) (x : List ℕ) → 1 ≤ k → n ≡ length a + k → image_after_stop m (a ++ b) n x ≡ image_after_stop (image_with m a) b k x
torn_past m [] b n k x low e = let same : n ≡ k = omega (arith, e) in ap (λ (t : ℕ). image_after_stop m b t x) same
torn_past m (p ∷ a) b zero k x low e = absurd (omega (arith, e))
torn_past m (p ∷ a) b (suc zero) k x low e = absurd (omega (arith, e))
torn_past m (p ∷ a) b (suc (suc n)) k x low e = torn_past (slice_set m p.0 p.1) a b (suc n) k x low (omega (arith, e))

-- ---- tests

pub open_same : (j : Journal) (x : List ℕ) → bytes_eq x (opening j) ≡ true → x ≡ opening j
open_same j x h = same_text x (opening j) (sym h)

pub shut_closed : (j : Journal) → bytes_eq shut_word (opening j) ≡ false
shut_closed One = refl
shut_closed Two = refl

eqb_apart : (a b : ℕ) → a ≢ b → (a == b) ≡ false
eqb_apart a b h = elim (eqb_tells a b) [ inl here ↦ absurd (h here.1) | inr apart ↦ apart.0 ]

eqb_here : (a b : ℕ) → a ≡ b → (a == b) ≡ true
eqb_here a b h = elim (eqb_tells a b) [ inl here ↦ here.0 | inr apart ↦ absurd (apart.1 h) ]

-- a target is no place of a journal
target_is : (size t : ℕ) → within size t ≡ true → (t ≡ 0) ⊎ (131 ≤ t)
target_is size t h = grind (arith, or_cases, eqb-true, leb-true, and_parts)

outside_is : (j : Journal) (t : ℕ) → (t ≡ 0) ⊎ (131 ≤ t) → InJournal j t → ⊥
outside_is One t h inside = omega (arith, h, inside)
outside_is Two t h inside = omega (arith, h, inside)

pub target_outside : (j : Journal) (size t : ℕ) → within size t ≡ true → InJournal j t → ⊥
target_outside j size t h inside = outside_is j t (target_is size t h) inside

pub targets_outside : (j : Journal) (size : ℕ) (list : List (ℕ × List ℕ)) (i : ℕ) → AllByRecursion (λ p. within size p.0 ≡ true) list → InJournal j i → AllByRecursion (λ p. p.0 ≢ i) list
targets_outside j size list i a inside =
    all_map (λ p. within size p.0 ≡ true) (λ p. p.0 ≢ i) (λ p w e. target_outside j size p.0 w (subst (λ (t : ℕ). InJournal j t) (sym e) inside)) list a

pub within_below : (size t : ℕ) → 256 ≤ size → within size t ≡ true → t < size
within_below size t h w = grind (arith, or_cases, eqb-true, ltb-true, and_parts)

pub ascends_list : (size least : ℕ) (list : List (ℕ × List ℕ)) → ascend size least (map (λ p. p.0) list) ≡ true → Ascends least list
ascends_list size least [] h = tt
ascends_list size least (p ∷ ps) h =
    let a = and_parts (nat_le least p.0) (within size p.0 && ascend size (p.0 + 1) (map (λ q. q.0) ps)) h in
    (leb-true least p.0 a.0, ascends_list size (p.0 + 1) ps (and_parts (within size p.0) (ascend size (p.0 + 1) (map (λ q. q.0) ps)) a.1).1)

pub gate_bound : (j : Journal) → (gate j ≤ 130) × (gate j ≢ 2)
gate_bound One = (omega arith, λ e. absurd (omega (arith, e)))
gate_bound Two = (omega arith, λ e. absurd (omega (arith, e)))

-- a place outside is not one of these
apart_from : (j : Journal) (i k : ℕ) → InJournal j k → (InJournal j i → ⊥) → k ≢ i
apart_from j i k inside out e = out (subst (λ (t : ℕ). InJournal j t) e inside)

-- ---- what the two kinds of image mean

pub closed_look : (j : Journal) (n : List (List ℕ)) → is_open j n ≡ false → look_j j n ≡ Closed
closed_look j n h = ap (λ (b : Bool). look_by_gate j n b) h

pub closed_leaves : (j : Journal) (n t : List (List ℕ)) → is_open j n ≡ false → SameOutside j n t → LeavesOwing j n 0 t
closed_leaves j n t h same =
    record { owed = ap debt (closed_look j n h); after = n; is = ap (λ (l : Look). image_after_replay n l) (closed_look j n h); same = same }

pub pending_leaves : (j : Journal) (n t : List (List ℕ)) (ps : List (ℕ × List ℕ)) → look_j j n ≡ Pending j ps → SameOutside j (image_with n (replay j ps)) t → LeavesOwing j n (length ps + 1) t
pending_leaves j n t ps h same =
    record { owed = ap debt h; after = image_with n (replay j ps); is = ap (λ (l : Look). image_after_replay n l) h; same = same }

-- ---- the tear lemma

module _ (j : Journal) (m : List (List ℕ)) (list : List (ℕ × List ℕ)) (low : 256 ≤ length m) (high : length m ≤ 16384)
    (atomic : IsAtomic (length m) list) (closed : is_open j m ≡ false) where
  geo : Geometry j (length m) list
  geo = geometry j (length m) list high atomic

  within_all : AllByRecursion (λ p. within (length m) p.0 ≡ true) list
  within_all = targets_within (length m) list atomic

  entries_apart : (i : ℕ) → (InEntries j i → ⊥) → AllByRecursion (λ p. p.0 ≢ i) (entries j list)
  entries_apart i out = all_map (λ p. InEntries j p.0) (λ p. p.0 ≢ i) (λ p inside e. out (subst (λ (t : ℕ). InEntries j t) e inside)) (entries j list) geo.places

  -- the words with the log entries written; then with the head; then with the commit record
  abbrev at_values : List (List ℕ)
  at_values = image_with m (entries j list)

  abbrev at_head : List (List ℕ)
  at_head = slice_set at_values 2 (word_of_number (length list))

  abbrev at_gate : List (List ℕ) → List ℕ → List (List ℕ)
  at_gate n x = slice_set n (gate j) x

  length_values : length at_values ≡ length m
  length_values = length_laid m (entries j list)

  length_head : length at_head ≡ length m
  length_head = length-set at_values 2 (word_of_number (length list)) ∙ length_values

  gate_at : (n : List (List ℕ)) (x : List ℕ) → length n ≡ length m → word_at (at_gate n x) (gate j) ≡ x
  gate_at n x same = get_or-set_same n (gate j) x [] (let b = gate_bound j in omega (arith, b.0, same))

  other_at : (n : List (List ℕ)) (x : List ℕ) (i : ℕ) → i ≢ gate j → word_at (at_gate n x) i ≡ word_at n i
  other_at n x i apart = get_or-set_other n (gate j) i x [] apart

  other_head : (i : ℕ) → i ≢ 2 → word_at at_head i ≡ word_at at_values i
  other_head i apart = get_or-set_other at_values 2 i (word_of_number (length list)) [] apart

  -- what was written is found if the gate is open
  written : look_j j (at_gate at_head (opening j)) ≡ Pending j list
  written =
      let n = at_gate at_head (opening j) in
      look_written j (length m) list geo atomic n (length-set at_head (gate j) (opening j) ∙ length_head)
      (holds_point at_values n (entries j list)
      (all_map (λ p. InEntries j p.0) (λ p. word_at n p.0 ≡ word_at at_values p.0)
      (λ p inside. other_at at_head (opening j) p.0 inside.apart ∙ other_head p.0 (λ e. let low : 3 ≤ p.0 = inside.low in absurd (omega (arith, e)))) (entries j list) geo.places)
      (laid_holds m 3 (entries j list) geo.ascends (all_map (λ p. InEntries j p.0) (λ p. p.0 < length m) (λ p inside. let high : p.0 ≤ 130 = inside.high in omega arith) (entries j list) geo.places)))
      (other_at at_head (opening j) 2 (λ e. (gate_bound j).1 (sym e)) ∙ get_or-set_same at_values 2 (word_of_number (length list)) [] (omega (arith, length_values)))
      (gate_at at_head (opening j) length_head)

  -- outside, nothing was changed so far
  values_outside : (i : ℕ) → (InJournal j i → ⊥) → word_at at_values i ≡ word_at m i
  values_outside i out = laid_other m (entries j list) i (entries_apart i (λ inside. out inside.inside))

  head_outside : (i : ℕ) → (InJournal j i → ⊥) → word_at at_head i ≡ word_at m i
  head_outside i out = other_head i (λ e. apart_from j i 2 (head_inside j) out (sym e)) ∙ values_outside i out

  gate_outside : (n : List (List ℕ)) (x : List ℕ) (i : ℕ) → (InJournal j i → ⊥) → word_at (at_gate n x) i ≡ word_at n i
  gate_outside n x i out = other_at n x i (λ e. apart_from j i (gate j) (gate_inside j) out (sym e))

  -- the gate is as it was
  still_closed : (n : List (List ℕ)) → word_at n (gate j) ≡ word_at m (gate j) → is_open j n ≡ false
  still_closed n e = ap (λ (w : List ℕ). bytes_eq w (opening j)) e ∙ closed

  entries_gate : AllByRecursion (λ p. p.0 ≢ gate j) (entries j list)
  entries_gate = all_map (λ p. InEntries j p.0) (λ p. p.0 ≢ gate j) (λ p inside. inside.apart) (entries j list) geo.places

  -- stopped in its targets and values
  in_values : (k : ℕ) (x : List ℕ) → LeavesOwing j (image_after_stop m (entries j list) k x) 0 m
  in_values k x = grind (arith, closed_leaves, still_closed, torn_other, entries_gate, length_torn, entries_apart)

  -- stopped in its head
  in_head : (x : List ℕ) → LeavesOwing j (slice_set at_values 2 x) 0 m
  in_head x =
      grind (arith, closed_leaves, still_closed, get_or-set_other, gate_bound, laid_other, entries_gate, length-set, length_values, apart_from, head_inside, values_outside)

  -- replayed from an image that is as before outside but for targets
  replayed_same : (n : List (List ℕ)) → length n ≡ length m → ((i : ℕ) → (InJournal j i → ⊥) → covers list i ≡ false → word_at n i ≡ word_at m i) → SameOutside j (image_with n (replay j list)) (image_with m list)
  replayed_same n same h = grind (arith, length_laid, laid_last, gate_outside, laid_point)

  -- stopped in its gate: it is durable if the word that was left is the commit record
  in_gate_open : (x : List ℕ) → x ≡ opening j → LeavesOwing j (at_gate at_head x) (length list + 1) (image_with m list)
  in_gate_open x e = grind (arith, pending_leaves, written, replayed_same, length-set, length_head, gate_outside, head_outside)

  in_gate_closed : (x : List ℕ) → bytes_eq x (opening j) ≡ false → LeavesOwing j (at_gate at_head x) 0 m
  in_gate_closed x e = grind (arith, closed_leaves, gate_at, length_head, length-set, gate_outside, head_outside)

  -- stopped in its targets
  abbrev opened_image : List (List ℕ)
  opened_image = at_gate at_head (opening j)

  length_opened : length opened_image ≡ length m
  length_opened = length-set at_head (gate j) (opening j) ∙ length_head

  opened_outside : (i : ℕ) → (InJournal j i → ⊥) → word_at opened_image i ≡ word_at m i
  opened_outside i out = gate_outside at_head (opening j) i out ∙ head_outside i out

  torn_in_targets : (k : ℕ) (x : List ℕ) → LeavesOwing j (image_after_stop opened_image list k x) (length list + 1) (image_with m list)
  torn_in_targets k x =
      let n = image_after_stop opened_image list k x in
      pending_leaves j n (image_with m list) list
      (look_same j n opened_image (record { size = length_torn opened_image list k x; words = λ i inside. torn_other opened_image list k x i (targets_outside j (length m) list i within_all inside) }) ∙ written)
      (replayed_same n (length_torn opened_image list k x ∙ length_opened) (λ i out free. torn_other opened_image list k x i (uncovered list i free) ∙ opened_outside i out))

  -- stopped in its last write
  length_targets : length (image_with opened_image list) ≡ length m
  length_targets = length_laid opened_image list ∙ length_opened

  last_outside : (x : List ℕ) (i : ℕ) → (InJournal j i → ⊥) → word_at (at_gate (image_with opened_image list) x) i ≡ word_at (image_with m list) i
  last_outside x i out = gate_outside (image_with opened_image list) x i out ∙ laid_point opened_image m list i length_opened (λ free. opened_outside i out)

  in_last_closed : (x : List ℕ) → bytes_eq x (opening j) ≡ false → LeavesOwing j (at_gate (image_with opened_image list) x) 0 (image_with m list)
  in_last_closed x e = grind (arith, closed_leaves, gate_at, length_targets, length-set, length_laid, last_outside)

  last_inside : (i : ℕ) → InJournal j i → word_at (at_gate (image_with opened_image list) (opening j)) i ≡ word_at opened_image i
  last_inside i inside = elim (eqb_tells i (gate j)) [
    | inl here ↦ subst (λ (t : ℕ). word_at (at_gate (image_with opened_image list) (opening j)) t ≡ word_at opened_image t) (sym here.1)
        (gate_at (image_with opened_image list) (opening j) length_targets ∙ sym (gate_at at_head (opening j) length_head))
    | inr apart ↦ other_at (image_with opened_image list) (opening j) i apart.1 ∙ laid_other opened_image list i (targets_outside j (length m) list i within_all inside)
  ]

  in_last_open : (x : List ℕ) → x ≡ opening j → LeavesOwing j (at_gate (image_with opened_image list) x) (length list + 1) (image_with m list)
  in_last_open x e =
      grind (arith, pending_leaves, look_same, length-set, length_laid, last_inside, written, replayed_same, length_targets, gate_outside, laid_other, uncovered, opened_outside)

  -- ---- which of these a stop is

  tear_is : (n : List (List ℕ)) (k : ℕ) (x : List ℕ) (o : ℕ) (s : Bool) → stands j (length list) k x ≡ s → owes j (length list) k x ≡ o → LeavesOwing j n o (image_if_written s m list)
      → LeavesOwing j n (owes j (length list) k x) (image_if_written (stands j (length list) k x) m list)
  tear_is n k x o s hs ho h =
      subst (λ (t : Bool). LeavesOwing j n (owes j (length list) k x) (image_if_written t m list)) (sym hs) (subst (λ (t : ℕ). LeavesOwing j n t (image_if_written s m list)) (sym ho) h)

  owes_by : (k : ℕ) (x : List ℕ) (s : Bool) → stands j (length list) k x ≡ s
      → owes j (length list) k x ≡ cond (s && not ((k == cost j (length list)) && not (bytes_eq x (opening j)))) (length list + 1) 0
  owes_by k x s hs = ap (λ (t : Bool). cond (t && not ((k == cost j (length list)) && not (bytes_eq x (opening j)))) (length list + 1) 0) hs

  stands_before : (k : ℕ) (x : List ℕ) → k < opens_at j (length list) → stands j (length list) k x ≡ false
  stands_before k x lt = grind (arith, le-ltb, eqb_apart)

  stands_at : (k : ℕ) (x : List ℕ) → k ≡ opens_at j (length list) → stands j (length list) k x ≡ bytes_eq x (opening j)
  stands_at k x e = grind (arith, le-ltb, eqb_here)

  stands_after : (k : ℕ) (x : List ℕ) → opens_at j (length list) < k → stands j (length list) k x ≡ true
  stands_after k x lt = ap (λ (b : Bool). b || ((k == opens_at j (length list)) && bytes_eq x (opening j))) (lt-ltb (opens_at j (length list)) k lt)

  owes_before_last : (k : ℕ) (x : List ℕ) → stands j (length list) k x ≡ true → k ≢ cost j (length list) → owes j (length list) k x ≡ length list + 1
  owes_before_last k x hs apart =
      owes_by k x true hs ∙ ap (λ (b : Bool). cond (not (b && not (bytes_eq x (opening j)))) (length list + 1) 0) (eqb_apart k (cost j (length list)) apart)

  owes_last : (k : ℕ) (x : List ℕ) (b : Bool) → stands j (length list) k x ≡ true → k ≡ cost j (length list) → bytes_eq x (opening j) ≡ b → owes j (length list) k x ≡ cond (not (not b)) (length list + 1) 0
  owes_last k x b hs e hb = grind (arith, owes_by, eqb_here)

  -- the atomic write that was stopped at its write k, which left x
  Tears : ℕ → List ℕ → List (List ℕ) → Type 0
  Tears k x n = LeavesOwing j n (owes j (length list) k x) (image_if_written (stands j (length list) k x) m list)

  tear_1 : (k : ℕ) (x : List ℕ) → 1 ≤ k → k ≤ length (entries j list) → Tears k x (image_after_stop m (writes j list) k x)
  unfolding Tears
  tear_1 k x low h =
      let before : stands j (length list) k x ≡ false = stands_before k x (omega (arith, geo.opens)) in
      tear_is (image_after_stop m (writes j list) k x) k x 0 false before (owes_by k x false before)
      (subst (λ (n : List (List ℕ)). LeavesOwing j n 0 m) (sym (torn_within m (entries j list) _ k x low h)) (in_values k x))

  tear_2 : (k : ℕ) (x : List ℕ) → k ≡ length (entries j list) + 1 → Tears k x (image_after_stop m (writes j list) k x)
  unfolding Tears
  tear_2 k x e =
      let before : stands j (length list) k x ≡ false = stands_before k x (omega (arith, geo.opens, e)) in
      tear_is (image_after_stop m (writes j list) k x) k x 0 false before (owes_by k x false before)
      (subst (λ (n : List (List ℕ)). LeavesOwing j n 0 m) (sym (torn_past m (entries j list) ((2, word_of_number (length list)) ∷ (gate j, opening j) ∷ replay j list) k 1 x (omega arith) e)) (in_head x))

  tear_3 : (k : ℕ) (x : List ℕ) (b : Bool) → bytes_eq x (opening j) ≡ b → k ≡ length (entries j list) + 2 → Tears k x (image_after_stop m (writes j list) k x)
  unfolding Tears
  tear_3 k x true hb e =
      let it : stands j (length list) k x ≡ true = stands_at k x (e ∙ geo.opens) ∙ hb in
      tear_is (image_after_stop m (writes j list) k x) k x (length list + 1) true it (owes_before_last k x it (λ c. absurd (omega (arith, c, e, geo.costs))))
      (subst (λ (n : List (List ℕ)). LeavesOwing j n (length list + 1) (image_with m list)) (sym (torn_past m (entries j list) ((2, word_of_number (length list)) ∷ (gate j, opening j) ∷ replay j list) k 2 x (omega arith) e)) (in_gate_open x (open_same j x hb)))
  tear_3 k x false hb e =
      let it : stands j (length list) k x ≡ false = stands_at k x (e ∙ geo.opens) ∙ hb in
      tear_is (image_after_stop m (writes j list) k x) k x 0 false it (owes_by k x false it)
      (subst (λ (n : List (List ℕ)). LeavesOwing j n 0 m) (sym (torn_past m (entries j list) ((2, word_of_number (length list)) ∷ (gate j, opening j) ∷ replay j list) k 2 x (omega arith) e)) (in_gate_closed x hb))

  torn_opened : (k i : ℕ) (x : List ℕ) → k ≡ length (entries j list) + suc (suc (suc i)) → image_after_stop m (writes j list) k x ≡ image_after_stop (slice_set (slice_set (image_with m (entries j list)) 2 (word_of_number (length list))) (gate j) (opening j)) (replay j list) (suc i) x
  torn_opened k i x e = torn_past m (entries j list) ((2, word_of_number (length list)) ∷ (gate j, opening j) ∷ replay j list) k (suc (suc (suc i))) x (omega arith) e

  tear_4 : (k i : ℕ) (x : List ℕ) → k ≡ length (entries j list) + suc (suc (suc i)) → i < length list → Tears k x (image_after_stop m (writes j list) k x)
  unfolding Tears
  tear_4 k i x e lt =
      let it : stands j (length list) k x ≡ true = stands_after k x (omega (arith, geo.opens, e)) in
      tear_is (image_after_stop m (writes j list) k x) k x (length list + 1) true it (owes_before_last k x it (λ c. absurd (omega (arith, c, e, geo.costs))))
      (subst (λ (n : List (List ℕ)). LeavesOwing j n (length list + 1) (image_with m list))
      (sym (torn_opened k i x e ∙ torn_within opened_image list ((gate j, shut_word) ∷ []) (suc i) x (omega arith) (omega arith))) (torn_in_targets (suc i) x))

  torn_last : (k i : ℕ) (x : List ℕ) → k ≡ length (entries j list) + suc (suc (suc i)) → i ≡ length list → image_after_stop m (writes j list) k x ≡ slice_set (image_with opened_image list) (gate j) x
  torn_last k i x e is = torn_opened k i x e ∙ torn_past opened_image list ((gate j, shut_word) ∷ []) (suc i) 1 x (omega arith) (omega (arith, is))

  tear_5 : (k i : ℕ) (x : List ℕ) (b : Bool) → bytes_eq x (opening j) ≡ b → k ≡ length (entries j list) + suc (suc (suc i)) → i ≡ length list → Tears k x (image_after_stop m (writes j list) k x)
  unfolding Tears
  tear_5 k i x true hb e is =
      let it : stands j (length list) k x ≡ true = stands_after k x (omega (arith, geo.opens, e)) in
      tear_is (image_after_stop m (writes j list) k x) k x (length list + 1) true it (owes_last k x true it (omega (arith, e, is, geo.costs)) hb)
      (subst (λ (n : List (List ℕ)). LeavesOwing j n (length list + 1) (image_with m list)) (sym (torn_last k i x e is)) (in_last_open x (open_same j x hb)))
  tear_5 k i x false hb e is =
      let it : stands j (length list) k x ≡ true = stands_after k x (omega (arith, geo.opens, e)) in
      tear_is (image_after_stop m (writes j list) k x) k x 0 true it (owes_last k x false it (omega (arith, e, is, geo.costs)) hb)
      (subst (λ (n : List (List ℕ)). LeavesOwing j n 0 (image_with m list)) (sym (torn_last k i x e is)) (in_last_closed x hb))

  pub tear : (k : ℕ) (x : List ℕ) → 1 ≤ k → k ≤ cost j (length list) → LeavesOwing j (image_after_stop m (writes j list) k x) (owes j (length list) k x) (image_if_written (stands j (length list) k x) m list)
  unfolding Tears
  tear k x low h = elim (cases_lt (length (entries j list)) k) [
    | inr in_entries ↦ tear_1 k x low in_entries
    | inl past ↦ elim (eqb_tells k (length (entries j list) + 1)) [
      | inl here ↦ tear_2 k x here.1
      | inr no_head ↦ elim (eqb_tells k (length (entries j list) + 2)) [
        | inl here ↦ tear_3 k x (bytes_eq x (opening j)) refl here.1
        | inr no_gate ↦
            let i = k - (length (entries j list) + 3) in
            let e : k ≡ length (entries j list) + suc (suc (suc i)) = omega (arith, no_head.1, no_gate.1) in
            elim (cases_lt i (length list)) [
              | inl in_targets ↦ tear_4 k i x e in_targets
              | inr last ↦ tear_5 k i x (bytes_eq x (opening j)) refl e (omega (arith, e, geo.costs))
            ]
      ]
    ]
  ]

  -- ---- an atomic write that was not stopped

  laid_writes : image_with m (writes j list) ≡ slice_set (image_with opened_image list) (gate j) shut_word
  laid_writes = laid_append m (entries j list) ((2, word_of_number (length list)) ∷ (gate j, opening j) ∷ replay j list) ∙ laid_last opened_image list (gate j, shut_word)

  list_holds : HoldsWords (image_with m list) list
  list_holds = laid_holds m 0 list (ascends_list (length m) 0 list atomic.targets) (all_map (λ p. within (length m) p.0 ≡ true) (λ p. p.0 < length m) (λ p w. within_below (length m) p.0 low w) list within_all)

  pub done : LaidWhole j m list (image_with m (writes j list))
  done =
      let n = slice_set (image_with opened_image list) (gate j) shut_word in
      subst (λ (t : List (List ℕ)). LaidWhole j m list t) (sym laid_writes)
      (record {
        gate = gate_at (image_with opened_image list) shut_word length_targets;
        targets = holds_point (image_with m list) n list
            (all_map (λ p. within (length m) p.0 ≡ true) (λ p. word_at n p.0 ≡ word_at (image_with m list) p.0) (λ p w. last_outside shut_word p.0 (target_outside j (length m) p.0 w)) list within_all) list_holds;
        same = record { size = length-set (image_with opened_image list) (gate j) shut_word ∙ length_targets ∙ sym (length_laid m list); words = last_outside shut_word };
      })
