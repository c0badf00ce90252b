-- The sizes of applications, as a map has them, through changes of static bytes.
use Rattle.std.proofs.Common.{◌≡◌, ℕ, ◌-◌, ◌≤◌, Bool, true, false, cond, List, [], ◌∷◌, ◌++◌, length, Option, Some, None, refl, sym, ap, subst, ◌∙◌}
use Rattle.std.specs.Prelude.{⊤, bytes_eq}
use Rattle.std.specs.List.{AllByRecursion}
use Rattle.model_card.specs.model_device.specs.Bytes.{lookup, insert, remove}
use Rattle.model_card.specs.model_device.specs.Pieces.{laid_pieces}
use Rattle.model_card.specs.model_device.specs.Card.{App}
use Rattle.model_card.specs.model_machine.specs.Chain.{Write, with_pieces, changed_app, map_changed}
use Rattle.model_card.specs.Items.{Change, Fixed, Created, Deleted, Item, Plain, Atomic, apps_after_change, apps_after_items, Stopped, at_stop, in_flight, with_item}
use Rattle.model_card.specs.model_device.specs.Image.{Two}
use Rattle.model_card.specs.model_device.specs.Stopped.{cost, stands}
use Rattle.model_card.specs.model_device.specs.Limits.{most_static}
use Rattle.std.specs.Prelude.{nat_le, ◌==◌}
use Rattle.law_rows.specs.Keeping.{PiecesWithin}
use Rattle.law_machine.specs.Limited.{AreLimited}
use Rattle.law_rows.proofs.Keeping.{length_laid}
use Rattle.model_card.specs.model_device.proofs.MapLemmas.{same_name, lookup_inserted_lem, lookup_beside, lookup_removed_lem, lookup_left}

-- the lengths of static and session bytes of an application, if there is one
abbrev pub size_of : Option App → Option (ℕ × ℕ)
size_of None = None
size_of (Some a) = Some (length a.fixed, a.session)

-- those of the application under a name
abbrev pub size_in : List (List ℕ × App) → List ℕ → Option (ℕ × ℕ)
size_in m n = size_of (lookup m n)

-- two maps have applications of the same sizes
abbrev pub SameSizes : List (List ℕ × App) → List (List ℕ × App) → Type 0
SameSizes m d = (n : List ℕ) → size_in d n ≡ size_in m n

-- pieces that lie in the static bytes of an application, if it is there
abbrev pub InsideApp : Option (ℕ × ℕ) → List (ℕ × List ℕ) → Type 0
InsideApp None ps = ⊤
InsideApp (Some s) ps = PiecesWithin s.0 ps

-- a change of static bytes
changed_size : (o : Option App) (m : List (List ℕ × App)) (n : List ℕ) (ps : List (ℕ × List ℕ)) → lookup m n ≡ o → InsideApp (size_of o) ps → SameSizes m (changed_app m n ps o)
changed_size None m n ps e h k = refl
changed_size (Some a) m n ps e h k = by (bytes_eq n k) refl
  where
    same : length (laid_pieces a.fixed ps) ≡ length a.fixed
    same = length_laid ps a.fixed h

    by : (b : Bool) → bytes_eq n k ≡ b → size_in (insert m n (with_pieces ps a)) k ≡ size_in m k
    by true is =
        subst (λ (j : List ℕ). size_in (insert m n (with_pieces ps a)) j ≡ size_in m j) (same_name n k is)
        (ap size_of (lookup_inserted_lem m n (with_pieces ps a)) ∙ ap (λ (l : ℕ). Some (l, a.session)) same ∙ sym (ap size_of e))
    by false is = ap size_of (lookup_beside m n (with_pieces ps a) k is)

-- a change inside the static bytes of its application keeps all sizes
pub changed_sizes : (m : List (List ℕ × App)) (n : List ℕ) (ps : List (ℕ × List ℕ)) → InsideApp (size_in m n) ps → SameSizes m (map_changed m n (Some ps))
changed_sizes m n ps h = changed_size (lookup m n) m n ps refl h

-- ---- writes

-- a write whose pieces lie in its application
abbrev pub WriteFits : List (List ℕ × App) → Write → Type 0
WriteFits m w = InsideApp (size_in m w.name) w.pieces

-- pieces that lie in an application lie in one of the same size
pub moved_inside : (m d : List (List ℕ × App)) (n : List ℕ) (ps : List (ℕ × List ℕ)) → SameSizes m d → InsideApp (size_in m n) ps → InsideApp (size_in d n) ps
moved_inside m d n ps same h = subst (λ (s : Option (ℕ × ℕ)). InsideApp s ps) (sym (same n)) h

-- writes that fit a map fit one of the same sizes
pub moved_writes : (m d : List (List ℕ × App)) (ws : List Write) → SameSizes m d → AllByRecursion (WriteFits m) ws → AllByRecursion (WriteFits d) ws
moved_writes m d [] same a = tt
moved_writes m d (w ∷ ws) same a = (moved_inside m d w.name w.pieces same a.0, moved_writes m d ws same a.1)

-- ---- limited maps

-- an application is within the limit of static bytes, if there is one
abbrev pub Limit : Option (ℕ × ℕ) → Type 0
Limit None = ⊤
Limit (Some s) = s.0 ≤ most_static

-- each application of a map is within the limit
abbrev pub Limited : List (List ℕ × App) → Type 0
Limited m = (n : List ℕ) → Limit (size_in m n)

limit_of : (o : Option App) (a : App) → o ≡ Some a → Limit (size_of o) → length a.fixed ≤ most_static
limit_of None a e h = absurd (cc e)
limit_of (Some b) a e h = let same : b ≡ a = cc e in subst (λ (c : App). length c.fixed ≤ most_static) same h

-- the applications of a map within the limit are so one by one
pub are_limited : (m : List (List ℕ × App)) → Limited m → AreLimited m
are_limited m h n a e = limit_of (lookup m n) a e (h n)

-- a map of the same sizes is within the limit
pub limited_same : (m d : List (List ℕ × App)) → SameSizes m d → Limited m → Limited d
limited_same m d same h n = subst Limit (sym (same n)) (h n)

-- a map stays within the limit with an application that is
pub limited_inserted : (m : List (List ℕ × App)) (n : List ℕ) (a : App) → Limited m → length a.fixed ≤ most_static → Limited (insert m n a)
limited_inserted m n a h small k = by (bytes_eq n k) refl
  where
    by : (b : Bool) → bytes_eq n k ≡ b → Limit (size_in (insert m n a) k)
    by true is = subst (λ (j : List ℕ). Limit (size_in (insert m n a) j)) (same_name n k is) (subst (λ (o : Option App). Limit (size_of o)) (sym (lookup_inserted_lem m n a)) small)
    by false is = subst (λ (o : Option App). Limit (size_of o)) (sym (lookup_beside m n a k is)) (h k)

-- a map stays within the limit without an application
pub limited_removed : (m : List (List ℕ × App)) (n : List ℕ) → Limited m → Limited (remove m n)
limited_removed m n h k = by (bytes_eq n k) refl
  where
    by : (b : Bool) → bytes_eq n k ≡ b → Limit (size_in (remove m n) k)
    by true is = subst (λ (j : List ℕ). Limit (size_in (remove m n) j)) (same_name n k is) (subst (λ (o : Option App). Limit (size_of o)) (sym (lookup_removed_lem m n)) tt)
    by false is = subst (λ (o : Option App). Limit (size_of o)) (sym (lookup_left m n k is)) (h k)

-- ---- items

-- a change that keeps a map limited
abbrev pub ChangeFits : List (List ℕ × App) → Change → Type 0
ChangeFits m (Fixed n ps) = InsideApp (size_in m n) ps
ChangeFits m (Created n a) = length a.fixed ≤ most_static
ChangeFits m (Deleted n) = ⊤

-- the items keep a map within the limit, one after the other
abbrev pub ItemsFit : List (List ℕ × App) → List Item → Type 0
ItemsFit m [] = ⊤
ItemsFit m (Plain ∷ is) = ItemsFit m is
ItemsFit m (Atomic w c ∷ is) = ChangeFits m c × ItemsFit (apps_after_change c m) is

limited_changed : (m : List (List ℕ × App)) (c : Change) → Limited m → ChangeFits m c → Limited (apps_after_change c m)
limited_changed m (Fixed n ps) h f = limited_same m (apps_after_change (Fixed n ps) m) (changed_sizes m n ps f) h
limited_changed m (Created n a) h f = limited_inserted m n a h f
limited_changed m (Deleted n) h f = limited_removed m n h

-- items that fit leave a map within the limit
pub limited_done : (is : List Item) (m : List (List ℕ × App)) → Limited m → ItemsFit m is → Limited (apps_after_items m is)
limited_done [] m h f = h
limited_done (Plain ∷ is) m h f = limited_done is m h f
limited_done (Atomic w c ∷ is) m h f = limited_done is (apps_after_change c m) (limited_changed m c h f.0) f.1

fit_cond : (m : List (List ℕ × App)) (b : Bool) (s t : Stopped) → ItemsFit m s.whole → ItemsFit m t.whole → ItemsFit m (cond b s t).whole
fit_cond m true s t h k = h
fit_cond m false s t h k = k

fit_flight : (m : List (List ℕ × App)) (w : ℕ) (c : Change) (b : Bool) → ChangeFits m c → ItemsFit m (cond b (Atomic w c ∷ []) [])
fit_flight m w c true h = (h, tt)
fit_flight m w c false h = tt

-- the whole items of a stop
pub fit_whole : (is : List Item) (m : List (List ℕ × App)) (k : ℕ) (x : List ℕ) → ItemsFit m is → ItemsFit m (at_stop is k x).whole
fit_whole [] m k x f = tt
fit_whole (Plain ∷ is) m k x f = fit_cond m (k == 1) (record { whole = []; owed = 0 }) (with_item Plain (at_stop is (k - 1) x)) tt (fit_whole is m (k - 1) x f)
fit_whole (Atomic w c ∷ is) m k x f =
    fit_cond m (nat_le k (cost Two w)) (in_flight w c k x) (with_item (Atomic w c) (at_stop is (k - cost Two w) x)) (fit_flight m w c (stands Two w k x) f.0) (f.0, fit_whole is (apps_after_change c m) (k - cost Two w) x f.1)

-- items in order
pub fit_append : (is js : List Item) (m : List (List ℕ × App)) → ItemsFit m is → ItemsFit (apps_after_items m is) js → ItemsFit m (is ++ js)
fit_append [] js m f g = g
fit_append (Plain ∷ is) js m f g = fit_append is js m f g
fit_append (Atomic w c ∷ is) js m f g = (f.0, fit_append is js (apps_after_change c m) f.1 g)

-- a map whose applications are within the limit one by one is
pub limited_from : (m : List (List ℕ × App)) → AreLimited m → Limited m
limited_from m h n = by (lookup m n) refl
  where
    by : (o : Option App) → lookup m n ≡ o → Limit (size_of o)
    by None e = tt
    by (Some a) e = h n a e
