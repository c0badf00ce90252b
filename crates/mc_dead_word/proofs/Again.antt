-- A power-up that stopped at a target of its recovery stops there again.
use Rattle.std.proofs.Common.{◌≡◌, ℕ, ◌+◌, ◌<◌, ◌≤◌, Bool, true, false, cond, List, [], ◌∷◌, ◌++◌, length, Some, refl, sym, ap, subst, ◌∙◌, append_assoc, arith}
use Rattle.std.specs.Prelude.{◌==◌, bytes_eq}
use Rattle.std.specs.List.{AllByRecursion}
use Rattle.model_play.specs.model_device.specs.Image.{within, look, look_at, count_of_recovery_writes, is_open, debt, gate, opening, which, which_of, shut_word, Journal, One, Two, Look, Closed, Pending, Refused, Which, Both, Only, Neither}
use Rattle.model_play.specs.model_device.specs.Stopped.{image_after_stop, owed_writes}
use Rattle.model_play.specs.model_device.proofs.LookLemmas.{gate_inside, good_pending, look_same, SameInside}
use Rattle.model_play.specs.model_device.proofs.StoppedLemmas.{length_torn, targets_outside, torn_other, torn_within}
use Rattle.mc_store.specs.Power.{base_of_words, migration_writes, power_writes}
use Rattle.mc_store.specs.Store.{settled_words}
use Rattle.mc_dead_word.specs.Powers.{after_power, after_powers, first_to, stops_at}
use Rattle.mc_dead_word.specs.Laws.{SettledLaw, StuckLaw}
use Rattle.mc_dead_word.proofs.Powers.{first_among, settled_after, settled_read, settled_shut}

-- ---- the first write to a word, in a front

front_first : (p k : ℕ) (a b : List (ℕ × List ℕ)) (n : ℕ) → first_to p k (a ++ b) ≡ Some n → n ≤ k + length a → first_to p k a ≡ Some n
front_first p k [] b n h few = absurd (let low = (first_among p k b n h).low in omega (arith, low, few))
front_first p k (w ∷ a) b n h few = by (w.0 == p) h (λ e. front_first p (k + 1) a b n e (omega (arith, few)))
  where
    by : (t : Bool) → cond t (Some (k + 1)) (first_to p (k + 1) (a ++ b)) ≡ Some n → (first_to p (k + 1) (a ++ b) ≡ Some n → first_to p (k + 1) a ≡ Some n) → cond t (Some (k + 1)) (first_to p (k + 1) a) ≡ Some n
    by true e later = e
    by false e later = later e

first_front : (p k : ℕ) (a b : List (ℕ × List ℕ)) (n : ℕ) → first_to p k a ≡ Some n → first_to p k (a ++ b) ≡ Some n
first_front p k [] b n h = absurd (cc h)
first_front p k (w ∷ a) b n h = by (w.0 == p) h (λ e. first_front p (k + 1) a b n e)
  where
    by : (t : Bool) → cond t (Some (k + 1)) (first_to p (k + 1) a) ≡ Some n → (first_to p (k + 1) a ≡ Some n → first_to p (k + 1) (a ++ b) ≡ Some n) → cond t (Some (k + 1)) (first_to p (k + 1) (a ++ b)) ≡ Some n
    by true e later = e
    by false e later = later e

-- ---- a stop at a target

-- the journals of two images look the same
record LooksSame (n m : List (List ℕ)) : Type 0 where
  inside : (j : Journal) → SameInside j n m

same_gate : (n m : List (List ℕ)) (j : Journal) → LooksSame n m → is_open j n ≡ is_open j m
same_gate n m j s = ap (λ (w : List ℕ). bytes_eq w (opening j)) ((s.inside j).words (gate j) (gate_inside j))

same_by : (n m : List (List ℕ)) (w : Which) → LooksSame n m → look_at n w ≡ look_at m w
same_by n m Both s = refl
same_by n m (Only j) s = look_same j n m (s.inside j)
same_by n m Neither s = refl

same_look : (n m : List (List ℕ)) → LooksSame n m → look n ≡ look m
same_look n m s =
    ap (λ (b : Bool). look_at n (which_of b (is_open One n))) (same_gate n m Two s)
    ∙ ap (λ (b : Bool). look_at n (which_of (is_open Two m) b)) (same_gate n m One s)
    ∙ same_by n m (which m) s

torn_looks : (m : List (List ℕ)) (ps : List (ℕ × List ℕ)) (k : ℕ) (x : List ℕ) → AllByRecursion (λ q. within (length m) q.0 ≡ true) ps → LooksSame (image_after_stop m ps k x) m
torn_looks m ps k x all =
    record { inside = λ j. record { size = length_torn m ps k x; words = λ i is. torn_other m ps k x i (targets_outside j (length m) ps i all is) } }

-- what is owed on these words, by a look
record OwesTargets (m : List (List ℕ)) : Type 0 where
  j : Journal
  ps : List (ℕ × List ℕ)
  is : look m ≡ Pending j ps
  all : AllByRecursion (λ q. within (length m) q.0 ≡ true) ps

within_by : (m : List (List ℕ)) (w : Which) (j : Journal) (ps : List (ℕ × List ℕ)) → look_at m w ≡ Pending j ps → AllByRecursion (λ q. within (length m) q.0 ≡ true) ps
within_by m w j ps h = grind (arith, good_pending)

owes_by : (m : List (List ℕ)) (l : Look) → look m ≡ l → 1 ≤ debt l → OwesTargets m
owes_by m (Refused p) e h = absurd (omega (arith, h))
owes_by m Closed e h = absurd (omega (arith, h))
owes_by m (Pending j ps) e h = record { j = j; ps = ps; is = e; all = within_by m (which m) j ps e }

module _ (m : List (List ℕ)) (p k : ℕ) (x : List ℕ) (fails : stops_at p m ≡ Some k) (early : k < count_of_recovery_writes m) where
  owes : OwesTargets m
  owes = owes_by m (look m) refl (omega (arith, early))

  few : k ≤ length owes.ps
  few = let count : count_of_recovery_writes m ≡ length owes.ps + 1 = ap debt owes.is in omega (arith, early, count)

  low : 1 ≤ k
  low = (first_among p 0 (power_writes m) k fails).low

  abbrev rest : List (List ℕ) → List (ℕ × List ℕ)
  rest n = migration_writes (base_of_words n) (settled_words n)

  writes_are : (n : List (List ℕ)) → look n ≡ Pending owes.j owes.ps → power_writes n ≡ owes.ps ++ ((gate owes.j, shut_word) ∷ rest n)
  unfolding power_writes
  writes_are n h = ap (λ (l : Look). owed_writes l ++ rest n) h ∙ append_assoc owes.ps ((gate owes.j, shut_word) ∷ []) (rest n)

  left : after_power p x m ≡ image_after_stop m owes.ps k x
  left = grind (arith, writes_are, owes, torn_within, low, few)

  looks : look (after_power p x m) ≡ look m
  looks = ap look left ∙ same_look (image_after_stop m owes.ps k x) m (torn_looks m owes.ps k x owes.all)

  front : first_to p 0 owes.ps ≡ Some k
  front =
      front_first p 0 owes.ps ((gate owes.j, shut_word) ∷ rest m) k (sym (ap (λ (ws : List (ℕ × List ℕ)). first_to p 0 ws) (writes_are m owes.is)) ∙ fails) (let most : k ≤ length owes.ps = few in omega (arith, most))

  again : stops_at p (after_power p x m) ≡ Some k
  again =
      let n = after_power p x m in
      ap (λ (ws : List (ℕ × List ℕ)). first_to p 0 ws) (writes_are n (looks ∙ owes.is)) ∙ first_front p 0 owes.ps ((gate owes.j, shut_word) ∷ rest n) k front

  still : k < count_of_recovery_writes (after_power p x m)
  still = subst (λ (l : Look). k < debt l) (sym looks) early

-- power-ups that stop at a target of their recovery stop there again
pub stuck_from : (p k : ℕ) (xs m : List (List ℕ)) → stops_at p m ≡ Some k → k < count_of_recovery_writes m → stops_at p (after_powers p xs m) ≡ Some k
stuck_from p k [] m h early = h
stuck_from p k (x ∷ xs) m h early = stuck_from p k xs (after_power p x m) (again m p k x h early) (still m p k x h early)

-- a power-up that stops at a write of its recovery but the last stops there each later time
pub stuck_law : StuckLaw
stuck_law m device p k h early xs = stuck_from p k xs m h early

-- a settled card is read whichever word fails
pub settled_law : SettledLaw
settled_law m device = record { read = settled_read m device; after = settled_after m device; gate = settled_shut m device }
