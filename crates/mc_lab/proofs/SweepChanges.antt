-- The observed state after a stop in items of which none changes it, or one does.
use Rattle.std.specs.Prelude.{◌≡◌, ℕ, ◌+◌, ◌-◌, ◌<◌, ◌≤◌, Bool, true, false, cond, not, ◌&&◌, ◌||◌, nat_lt, nat_le, ◌==◌, bytes_eq, List, [], ◌∷◌, Option, Some, None, refl}
use Rattle.std.proofs.Common.{arith, ap, sym, subst, ◌∙◌}
use Rattle.std.proofs.lemmas.Slice.Eq.{bytes_eq-Decides}
use Rattle.std.proofs.lemmas.Bool.{lt-ltb, and_from as joined, not-false, not-true, or_from, and_right, leb-false, and_parts}
use Rattle.std.proofs.lemmas.Bool.Decides.{nat_tests}
use Rattle.law_explore.specs.model_device.specs.Image.{Two}
use Rattle.law_explore.specs.model_device.specs.Image as image
use Rattle.law_explore.specs.model_device.specs.Stopped.{cost, opens_at, stands}
use Rattle.law_explore.specs.model_device.specs.Card.{App}
use Rattle.law_explore.specs.model_card.specs.Items.{Change, Item, Plain, Atomic, moves, apps_after_change, apps_after_items, at_stop, Stopped}
use Rattle.mc_lab.specs.Sweeps.{static_bytes_under, is_same_held, are_same_held}
use Rattle.mc_lab.specs.SweepLaws.{changes, count_of_changes, opening_write}

-- ---- equal observed states

held_same : (a b : Option (List ℕ)) → is_same_held a b ≡ true → a ≡ b
held_same a b h = grind (arith, bytes_eq-Decides)

held_itself : (a : Option (List ℕ)) → is_same_held a a ≡ true
held_itself None = refl
held_itself (Some a) = (bytes_eq-Decides a a).1 refl

-- accounts that the test finds the same are equal
pub all_same_held : (a b : List (Option (List ℕ))) → are_same_held a b ≡ true → a ≡ b
all_same_held [] [] h = refl
all_same_held (x ∷ xs) (y ∷ ys) h =
    grind (arith, and_parts (is_same_held x y) (are_same_held xs ys) h, held_same x y (and_parts (is_same_held x y) (are_same_held xs ys) h).0, all_same_held xs ys (and_parts (is_same_held x y) (are_same_held xs ys) h).1)
all_same_held [] (y ∷ ys) h = absurd (cc h)
all_same_held (x ∷ xs) [] h = absurd (cc h)

-- an account is the same as itself
pub all_held_itself : (a : List (Option (List ℕ))) → are_same_held a a ≡ true
all_held_itself [] = refl
all_held_itself (x ∷ xs) = joined (is_same_held x x) (are_same_held xs xs) (held_itself x) (all_held_itself xs)

other_way : (a b : List (Option (List ℕ))) (t : Bool) → are_same_held a b ≡ false → are_same_held b a ≡ t → t ≡ false
other_way a b true h e = absurd (cc (h, subst (λ (x : List (Option (List ℕ))). are_same_held x b ≡ true) (all_same_held b a e) (all_held_itself b)))
other_way a b false h e = refl

-- accounts that differ do so either way round
pub apart_turned : (a b : List (Option (List ℕ))) → are_same_held a b ≡ false → are_same_held b a ≡ false
apart_turned a b h = other_way a b (are_same_held b a) h refl

-- ---- items

module _ (names : List (List ℕ)) where
  abbrev after_one : List (List ℕ × App) → Item → List (List ℕ × App)
  after_one apps i = apps_after_items apps (i ∷ [])

  kept : (apps : List (List ℕ × App)) (i : Item) → changes names apps i ≡ false → static_bytes_under names apps ≡ static_bytes_under names (after_one apps i)
  kept apps i h = all_same_held _ _ (not-false (are_same_held (static_bytes_under names apps) (static_bytes_under names (after_one apps i))) h)

  plain_kept : (apps : List (List ℕ × App)) → changes names apps Plain ≡ false
  plain_kept apps = ap (λ (t : Bool). not t) (all_held_itself (static_bytes_under names apps))

  -- the static bytes after a stop in an atomic write
  flight_held : (apps : List (List ℕ × App)) (w : ℕ) (c : Change) (k : ℕ) (b : Bool) → static_bytes_under names apps ≡ static_bytes_under names (apps_after_change c apps) → static_bytes_under names (apps_after_items apps (cond b (Atomic w c ∷ []) [])) ≡ static_bytes_under names apps
  flight_held apps w c k true h = sym h
  flight_held apps w c k false h = refl

  zero_first : (t : Bool) (n : ℕ) → cond t 1 0 + n ≡ 0 → (t ≡ false) × (n ≡ 0)
  zero_first true n h = absurd (omega arith)
  zero_first false n h = (refl, omega arith)

  chosen_held : (apps : List (List ℕ × App)) (b : Bool) (s t : Stopped) (h : List (Option (List ℕ))) → static_bytes_under names (apps_after_items apps s.whole) ≡ h → static_bytes_under names (apps_after_items apps t.whole) ≡ h → static_bytes_under names (apps_after_items apps (cond b s t).whole) ≡ h
  chosen_held apps true s t h first second = first
  chosen_held apps false s t h first second = second

  -- if no item changes the observed state, a stop leaves it unchanged, and so do all items
  pub none_stopped : (is : List Item) (apps : List (List ℕ × App)) (k : ℕ) (x : List ℕ) → count_of_changes names apps is ≡ 0 → static_bytes_under names (apps_after_items apps (at_stop is k x).whole) ≡ static_bytes_under names apps
  none_stopped [] apps k x h = refl
  none_stopped (Plain ∷ is) apps k x h =
      let z = zero_first (changes names apps Plain) (count_of_changes names apps is) h in
      chosen_held apps (k == 1) _ _ _ refl (none_stopped is apps (k - 1) x z.1)
  none_stopped (Atomic w c ∷ is) apps k x h =
      let z = zero_first (changes names apps (Atomic w c)) (count_of_changes names (apps_after_change c apps) is) h in
      let same : static_bytes_under names apps ≡ static_bytes_under names (apps_after_change c apps) = kept apps (Atomic w c) z.0 in
      chosen_held apps (nat_le k (cost Two w)) _ _ _ (flight_held apps w c k (stands Two w k x) same) (none_stopped is (apps_after_change c apps) (k - cost Two w) x z.1 ∙ sym same)

  -- items that change no observed bytes leave the static bytes under the names
  pub none_done : (is : List Item) (apps : List (List ℕ × App)) → count_of_changes names apps is ≡ 0 → static_bytes_under names (apps_after_items apps is) ≡ static_bytes_under names apps
  none_done [] apps h = refl
  none_done (Plain ∷ is) apps h = let z = zero_first (changes names apps Plain) (count_of_changes names apps is) h in none_done is apps z.1
  none_done (Atomic w c ∷ is) apps h =
      let z = zero_first (changes names apps (Atomic w c)) (count_of_changes names (apps_after_change c apps) is) h in
      none_done is (apps_after_change c apps) z.1 ∙ sym (kept apps (Atomic w c) z.0)

  -- the observed state after a stop at write `k`, if one item changes it
  pub record Splits (apps : List (List ℕ × App)) (is : List Item) : Type 0 where
    pub low : 1 ≤ opening_write names apps is
    pub high : opening_write names apps is < moves is
    pub apart : are_same_held (static_bytes_under names apps) (static_bytes_under names (apps_after_items apps is)) ≡ false
    pub before : (k : ℕ) (x : List ℕ) → bytes_eq x (image.opening Two) ≡ false → 1 ≤ k → k ≤ opening_write names apps is → static_bytes_under names (apps_after_items apps (at_stop is k x).whole) ≡ static_bytes_under names apps
    pub after : (k : ℕ) (x : List ℕ) → opening_write names apps is < k → k ≤ moves is → static_bytes_under names (apps_after_items apps (at_stop is k x).whole) ≡ static_bytes_under names (apps_after_items apps is)

  chosen_if : (apps : List (List ℕ × App)) (b : Bool) (s t : Stopped) (h : List (Option (List ℕ))) → (b ≡ true → static_bytes_under names (apps_after_items apps s.whole) ≡ h) → (b ≡ false → static_bytes_under names (apps_after_items apps t.whole) ≡ h) → static_bytes_under names (apps_after_items apps (cond b s t).whole) ≡ h
  chosen_if apps true s t h first second = first refl
  chosen_if apps false s t h first second = second refl

  -- a stop in an atomic write: before its gate is open, and after
  early : (w k : ℕ) (x : List ℕ) → bytes_eq x (image.opening Two) ≡ false → k ≤ opens_at Two w → stands Two w k x ≡ false
  early w k x shuts h = or_from (nat_lt (opens_at Two w) k) ((k == opens_at Two w) && bytes_eq x (image.opening Two)) (grind (arith, nat_tests)) (and_right (k == opens_at Two w) (bytes_eq x (image.opening Two)) shuts)

  late : (w k : ℕ) (x : List ℕ) → opens_at Two w < k → stands Two w k x ≡ true
  late w k x h = ap (λ (b : Bool). b || ((k == opens_at Two w) && bytes_eq x (image.opening Two))) (lt-ltb (opens_at Two w) k h)

  early_held : (apps : List (List ℕ × App)) (w : ℕ) (c : Change) (b : Bool) → b ≡ false → static_bytes_under names (apps_after_items apps (cond b (Atomic w c ∷ []) [])) ≡ static_bytes_under names apps
  early_held apps w c true is = absurd (cc is)
  early_held apps w c false is = refl

  late_held : (apps : List (List ℕ × App)) (w : ℕ) (c : Change) (b : Bool) → b ≡ true → static_bytes_under names (apps_after_items apps (cond b (Atomic w c ∷ []) [])) ≡ static_bytes_under names (apps_after_change c apps)
  late_held apps w c true is = refl
  late_held apps w c false is = absurd (cc is)

  gate_within : (w : ℕ) → (2 ≤ opens_at Two w) × (opens_at Two w < cost Two w)
  gate_within w = (omega arith, omega arith)

  -- the item that changes the observed state
  changed_splits : (w : ℕ) (c : Change) (is : List Item) (apps : List (List ℕ × App)) → changes names apps (Atomic w c) ≡ true → count_of_changes names (apps_after_change c apps) is ≡ 0 → Splits apps (Atomic w c ∷ is)
  changed_splits w c is apps e h =
      let o : opening_write names apps (Atomic w c ∷ is) ≡ opens_at Two w = ap (λ (t : Bool). cond t (opens_at Two w) (cost Two w + opening_write names (apps_after_change c apps) is)) e in
      let within = gate_within w in
      let rest : static_bytes_under names (apps_after_items (apps_after_change c apps) is) ≡ static_bytes_under names (apps_after_change c apps) = none_done is (apps_after_change c apps) h in
      record {
        low = omega (arith, o, within.0);
        high = omega (arith, o, within.1);
        apart = ap (λ (y : List (Option (List ℕ))). are_same_held (static_bytes_under names apps) y) rest ∙ not-true _ e;
        before = λ k x shuts low high.
            chosen_if apps (nat_le k (cost Two w)) _ _ _
            (λ t. early_held apps w c (stands Two w k x) (early w k x shuts (omega (arith, o))))
            (λ t. absurd (let past : cost Two w < k = leb-false k (cost Two w) t in omega (arith, o, within.1)));
        after = λ k x low high.
            chosen_if apps (nat_le k (cost Two w)) _ _ _
            (λ t. late_held apps w c (stands Two w k x) (late w k x (omega (arith, o))) ∙ sym rest)
            (λ t. none_stopped is (apps_after_change c apps) (k - cost Two w) x h ∙ sym rest);
      }

  -- an item before it
  passed_splits : (w : ℕ) (c : Change) (is : List Item) (apps : List (List ℕ × App)) → changes names apps (Atomic w c) ≡ false → Splits (apps_after_change c apps) is → Splits apps (Atomic w c ∷ is)
  passed_splits w c is apps e s =
      grind (arith, ap (λ (t : Bool). cond t (opens_at Two w) (cost Two w + opening_write names (apps_after_change c apps) is)) e, kept apps (Atomic w c) e, s.low, s.high)

  atomic_splits : (w : ℕ) (c : Change) (is : List Item) (apps : List (List ℕ × App)) (t : Bool) → changes names apps (Atomic w c) ≡ t → (count_of_changes names (apps_after_change c apps) is ≡ 1 → Splits (apps_after_change c apps) is)
      → cond t 1 0 + count_of_changes names (apps_after_change c apps) is ≡ 1 → Splits apps (Atomic w c ∷ is)
  atomic_splits w c is apps true e more h = changed_splits w c is apps e (omega arith)
  atomic_splits w c is apps false e more h = passed_splits w c is apps e (more (omega arith))

  plain_splits : (is : List Item) (apps : List (List ℕ × App)) → Splits apps is → Splits apps (Plain ∷ is)
  plain_splits is apps s = grind (arith, ap (λ (t : Bool). cond t 0 (1 + opening_write names apps is)) (plain_kept apps), s.low, s.high)

  plain_one : (t : Bool) (n : ℕ) → t ≡ false → cond t 1 0 + n ≡ 1 → n ≡ 1
  plain_one true n e h = absurd (cc e)
  plain_one false n e h = omega arith

  -- one item that changes the observed state does so with the write that opens its gate
  pub one_splits : (is : List Item) (apps : List (List ℕ × App)) → count_of_changes names apps is ≡ 1 → Splits apps is
  one_splits [] apps h = absurd (omega arith)
  one_splits (Plain ∷ is) apps h = plain_splits is apps (one_splits is apps (plain_one (changes names apps Plain) (count_of_changes names apps is) (plain_kept apps) h))
  one_splits (Atomic w c ∷ is) apps h = atomic_splits w c is apps (changes names apps (Atomic w c)) refl (one_splits is (apps_after_change c apps)) h
