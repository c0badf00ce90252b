-- Lists of items and one name: those that do not touch it, those that change other static bytes alone, and what keeps
-- over them.
use Rattle.std.proofs.Common.{◌≡◌, ℕ, ◌-◌, Bool, true, false, cond, List, [], ◌∷◌, ◌++◌, Option, Some, None, refl, sym, ap, subst, ◌∙◌, arith}
use Rattle.std.specs.Prelude.{⊤, ◌==◌, bytes_eq, nat_le}
use Rattle.std.proofs.lemmas.Bool.{or_parts, false_from_ne_true}
use Rattle.model_events.specs.model_device.specs.Bytes.{lookup, insert, remove, has_name}
use Rattle.model_events.specs.model_device.specs.Image.{Two}
use Rattle.model_events.specs.model_device.specs.Stopped.{cost, stands}
use Rattle.model_events.specs.model_device.specs.Card.{App}
use Rattle.model_events.specs.model_machine.specs.Chain.{Write, map_changed}
use Rattle.law_bytes.specs.model_card.specs.Items.{Change, Fixed, Created, Deleted, Item, Plain, Atomic, apps_after_items, Stopped, with_item, in_flight, at_stop, write_items}
use Rattle.law_bytes.specs.law_family.proofs.Stops.{AreOthers}
use Rattle.law_promise.specs.History.{unless_created, after_items}
use Rattle.law_promise.specs.Along.{IsAppIf, CreatesOnly}
use Rattle.law_promise.specs.Domain.{Domain, IsSound, IdleCovered}
use Rattle.law_promise.proofs.Chains.{beside_changed}
use Rattle.model_events.specs.model_device.proofs.MapLemmas.{lookup_beside, lookup_inserted_lem, lookup_left, lookup_removed_lem, name_is_itself, same_name}

-- ---- items that do not touch a name

-- an item does not touch a name
abbrev pub Avoids : List ℕ → Item → Type 0
Avoids n Plain = ⊤
Avoids n (Atomic w (Fixed k ps)) = bytes_eq k n ≡ false
Avoids n (Atomic w (Created k a)) = bytes_eq k n ≡ false
Avoids n (Atomic w (Deleted k)) = bytes_eq k n ≡ false

-- no item touches a name
abbrev pub AllAvoid : List ℕ → List Item → Type 0
AllAvoid n [] = ⊤
AllAvoid n (i ∷ is) = Avoids n i × AllAvoid n is

-- two lists of items that do not touch a name do not touch it together
pub avoid_append : (n : List ℕ) (is js : List Item) → AllAvoid n is → AllAvoid n js → AllAvoid n (is ++ js)
avoid_append n [] js a b = b
avoid_append n (i ∷ is) js a b = (a.0, avoid_append n is js a.1 b)

-- items that do not touch a name leave what the card has under it
pub avoid_lookup : (n : List ℕ) (is : List Item) (m : List (List ℕ × App)) → AllAvoid n is → lookup (apps_after_items m is) n ≡ lookup m n
avoid_lookup n [] m a = refl
avoid_lookup n (Plain ∷ is) m a = avoid_lookup n is m a.1
avoid_lookup n (Atomic w (Fixed k ps) ∷ is) m a = avoid_lookup n is (map_changed m k (Some ps)) a.1 ∙ beside_changed m k n (Some ps) a.0
avoid_lookup n (Atomic w (Created k x) ∷ is) m a = avoid_lookup n is (insert m k x) a.1 ∙ lookup_beside m k x n a.0
avoid_lookup n (Atomic w (Deleted k) ∷ is) m a = avoid_lookup n is (remove m k) a.1 ∙ lookup_left m k n a.0

-- they leave its history
pub avoid_history : {E : Type 0} (n : List ℕ) (is : List Item) (h : List E) → AllAvoid n is → after_items n is h ≡ h
avoid_history n [] h a = refl
avoid_history n (Plain ∷ is) h a = avoid_history n is h a.1
avoid_history n (Atomic w (Fixed k ps) ∷ is) h a = avoid_history n is h a.1
avoid_history n (Atomic w (Created k x) ∷ is) h a = ap (λ (b : Bool). after_items n is (unless_created b h)) a.0 ∙ avoid_history n is h a.1
avoid_history n (Atomic w (Deleted k) ∷ is) h a = avoid_history n is h a.1

flight_avoids : (n : List ℕ) (w : ℕ) (c : Change) (b : Bool) → Avoids n (Atomic w c) → AllAvoid n (cond b (Atomic w c ∷ []) [])
flight_avoids n w c true a = (a, tt)
flight_avoids n w c false a = tt

plain_avoids : (n : List ℕ) (b : Bool) (s : Stopped) → AllAvoid n s.whole → AllAvoid n (cond b (record { whole = []; owed = 0 }) (with_item Plain s)).whole
plain_avoids n true s a = tt
plain_avoids n false s a = (tt, a)

atomic_avoids : (n : List ℕ) (b : Bool) (w : ℕ) (c : Change) (f s : Stopped) → Avoids n (Atomic w c) → AllAvoid n f.whole → AllAvoid n s.whole → AllAvoid n (cond b f (with_item (Atomic w c) s)).whole
atomic_avoids n true w c f s i a b = a
atomic_avoids n false w c f s i a b = (i, b)

-- so do those of them that a stop leaves whole
pub whole_avoids : (n : List ℕ) (is : List Item) (k : ℕ) (x : List ℕ) → AllAvoid n is → AllAvoid n (at_stop is k x).whole
whole_avoids n [] k x a = tt
whole_avoids n (Plain ∷ is) k x a = plain_avoids n (k == 1) (at_stop is (k - 1) x) (whole_avoids n is (k - 1) x a.1)
whole_avoids n (Atomic w c ∷ is) k x a =
    atomic_avoids n (nat_le k (cost Two w)) w c (in_flight w c k x) (at_stop is (k - cost Two w) x) a.0
    (flight_avoids n w c (stands Two w k x) a.0) (whole_avoids n is (k - cost Two w) x a.1)

-- ---- items of a run

-- an item changes static bytes at most
abbrev pub IsFixed : Item → Type 0
IsFixed Plain = ⊤
IsFixed (Atomic w (Fixed k ps)) = ⊤
IsFixed (Atomic w (Created k a)) = ⊥
IsFixed (Atomic w (Deleted k)) = ⊥

-- each item changes static bytes at most
abbrev pub AllFixed : List Item → Type 0
AllFixed [] = ⊤
AllFixed (i ∷ is) = IsFixed i × AllFixed is

-- the items of writes change static bytes alone
pub writes_fixed : (ws : List Write) → AllFixed (write_items ws)
writes_fixed [] = tt
writes_fixed (w ∷ ws) = (tt, writes_fixed ws)

flight_fixed : (w : ℕ) (c : Change) (b : Bool) → IsFixed (Atomic w c) → AllFixed (cond b (Atomic w c ∷ []) [])
flight_fixed w c true a = (a, tt)
flight_fixed w c false a = tt

plain_fixed : (b : Bool) (s : Stopped) → AllFixed s.whole → AllFixed (cond b (record { whole = []; owed = 0 }) (with_item Plain s)).whole
plain_fixed true s a = tt
plain_fixed false s a = (tt, a)

atomic_fixed : (b : Bool) (w : ℕ) (c : Change) (f s : Stopped) → IsFixed (Atomic w c) → AllFixed f.whole → AllFixed s.whole → AllFixed (cond b f (with_item (Atomic w c) s)).whole
atomic_fixed true w c f s i a b = a
atomic_fixed false w c f s i a b = (i, b)

-- those of them that a stop leaves whole do so too
pub whole_fixed : (is : List Item) (k : ℕ) (x : List ℕ) → AllFixed is → AllFixed (at_stop is k x).whole
whole_fixed [] k x a = tt
whole_fixed (Plain ∷ is) k x a = plain_fixed (k == 1) (at_stop is (k - 1) x) (whole_fixed is (k - 1) x a.1)
whole_fixed (Atomic w c ∷ is) k x a =
    atomic_fixed (nat_le k (cost Two w)) w c (in_flight w c k x) (at_stop is (k - cost Two w) x) a.0
    (flight_fixed w c (stands Two w k x) a.0) (whole_fixed is (k - cost Two w) x a.1)

-- items that change static bytes at most leave every history
pub fixed_history : {E : Type 0} (n : List ℕ) (is : List Item) (h : List E) → AllFixed is → after_items n is h ≡ h
fixed_history n [] h a = refl
fixed_history n (Plain ∷ is) h a = fixed_history n is h a.1
fixed_history n (Atomic w (Fixed k ps) ∷ is) h a = fixed_history n is h a.1
fixed_history n (Atomic w (Created k x) ∷ is) h a = absurd a.0
fixed_history n (Atomic w (Deleted k) ∷ is) h a = absurd a.0

-- ---- items of the manager

-- a name beside one
pub beside : (n k : List ℕ) → has_name k (n ∷ []) ≡ false → bytes_eq k n ≡ false
beside n k h =
    let apart : bytes_eq n k ≡ false = (or_parts (bytes_eq n k) false h).0 in
    false_from_ne_true (bytes_eq k n) (λ e. cc (sym (name_is_itself n) ∙ (ap (λ (z : List ℕ). bytes_eq n z) (sym (same_name k n e)) ∙ apart)))

module _ {E : Type 0} (o : Domain E) (shown : IsSound o) where
  created_kept : (b : Bool) (h : List E) (m : List (List ℕ × App)) (k : List ℕ) (a : App) → bytes_eq k o.watch.name ≡ b → IsAppIf b o.app a → IdleCovered o h (lookup m o.watch.name) → IdleCovered o (unless_created b h) (lookup (insert m k a) o.watch.name)
  created_kept false h m k a e only kept = subst (IdleCovered o h) (sym (lookup_beside m k a o.watch.name e)) kept
  created_kept true h m k a e only kept =
      grind (arith, subst (λ (n : List ℕ). lookup (insert m k a) n ≡ Some a) (same_name k o.watch.name e) (lookup_inserted_lem m k a))

  left_gone : (h : List E) (found : Option App) → IdleCovered o h found → o.gone h
  left_gone h None kept = kept
  left_gone h (Some a) kept = shown.deleted h a.fixed kept.1

  deleted_kept : (b : Bool) (h : List E) (m : List (List ℕ × App)) (k : List ℕ) → bytes_eq k o.watch.name ≡ b → IdleCovered o h (lookup m o.watch.name) → IdleCovered o h (lookup (remove m k) o.watch.name)
  deleted_kept false h m k e kept = subst (IdleCovered o h) (sym (lookup_left m k o.watch.name e)) kept
  deleted_kept true h m k e kept =
      let none : lookup (remove m k) o.watch.name ≡ None = subst (λ (n : List ℕ). lookup (remove m k) n ≡ None) (same_name k o.watch.name e) (lookup_removed_lem m k) in
      subst (IdleCovered o h) (sym none) (left_gone h (lookup m o.watch.name) kept)

  -- what is idle stays so over items that create it or delete it, and change no static bytes of it
  pub items_kept : (is : List Item) (h : List E) (m : List (List ℕ × App)) → AreOthers (o.watch.name ∷ []) is → CreatesOnly o.watch.name o.app is → IdleCovered o h (lookup m o.watch.name)
      → IdleCovered o (after_items o.watch.name is h) (lookup (apps_after_items m is) o.watch.name)
  items_kept [] h m a only kept = kept
  items_kept (Plain ∷ is) h m a only kept = items_kept is h m a.1 only kept
  items_kept (Atomic w (Fixed k ps) ∷ is) h m a only kept =
      items_kept is h (map_changed m k (Some ps)) a.1 only (subst (IdleCovered o h) (sym (beside_changed m k o.watch.name (Some ps) (beside o.watch.name k a.0))) kept)
  items_kept (Atomic w (Created k x) ∷ is) h m a only kept =
      items_kept is (unless_created (bytes_eq k o.watch.name) h) (insert m k x) a.1 only.1 (created_kept (bytes_eq k o.watch.name) h m k x refl only.0 kept)
  items_kept (Atomic w (Deleted k) ∷ is) h m a only kept = items_kept is h (remove m k) a.1 only (deleted_kept (bytes_eq k o.watch.name) h m k refl kept)
