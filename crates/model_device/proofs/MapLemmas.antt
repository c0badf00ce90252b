-- Names and the maps that they key: the order of names, what a map has under a name after an insertion or a removal,
-- and maps whose names ascend.
use Rattle.std.specs.Prelude.{◌≡◌, ℕ, Bool, true, false, cond, not, List, [], ◌∷◌, length, bytes_eq, Some, None}
use Rattle.std.specs.List.{AllByRecursion}
use Rattle.std.proofs.Common.{suc, refl, ap, sym, subst, ◌∙◌, arith}
use Rattle.std.proofs.lemmas.Slice.Eq.{bytes_eq-Decides}
use Rattle.std.proofs.lemmas.Bool.{false_from_ne_true}
use Rattle.std.proofs.lemmas.Bool.Decides.{nat_tests}
use Rattle.model_device.specs.Bytes.{AscendByName, has_name, lookup, insert, remove, name_before}

-- ---- names

pub same_name : (a b : List ℕ) → bytes_eq a b ≡ true → a ≡ b
same_name a b h = (bytes_eq-Decides a b).0 h

pub name_is_itself : (a : List ℕ) → bytes_eq a a ≡ true
name_is_itself a = (bytes_eq-Decides a a).1 refl

pub other_way : (a b : List ℕ) → bytes_eq a b ≡ false → bytes_eq b a ≡ false
other_way a b h = false_from_ne_true (bytes_eq b a) (λ e. cc (h, subst (λ (c : List ℕ). bytes_eq c b ≡ true) (same_name b a e) (name_is_itself b)))

pub not_after : (a b : List ℕ) → name_before a b ≡ true → name_before b a ≡ false
not_after [] [] h = absurd (cc h)
not_after [] (y ∷ ys) h = refl
not_after (x ∷ xs) [] h = absurd (cc h)
not_after (x ∷ xs) (y ∷ ys) h = grind (arith, nat_tests, h, not_after xs ys)

pub one_before : (a b : List ℕ) → bytes_eq a b ≡ false → name_before a b ≡ false → name_before b a ≡ true
one_before [] [] p h = absurd (cc p)
one_before [] (y ∷ ys) p h = absurd (cc h)
one_before (x ∷ xs) [] p h = refl
one_before (x ∷ xs) (y ∷ ys) p h = grind (arith, nat_tests, p, h, one_before xs ys)

pub before_both : (a b c : List ℕ) → name_before a b ≡ true → name_before b c ≡ true → name_before a c ≡ true
before_both [] [] c h k = absurd (cc h)
before_both [] (y ∷ ys) [] h k = absurd (cc k)
before_both [] (y ∷ ys) (z ∷ zs) h k = refl
before_both (x ∷ xs) [] c h k = absurd (cc h)
before_both (x ∷ xs) (y ∷ ys) [] h k = absurd (cc k)
before_both (x ∷ xs) (y ∷ ys) (z ∷ zs) h k = grind (arith, nat_tests, h, k, before_both xs ys zs)

-- names on two sides of a list of names are two
two_names : (K : List (List ℕ)) (a b : List ℕ) (x : Bool) → has_name a K ≡ x → has_name b K ≡ not x → a ≡ b → ⊥
two_names K a b true p q e = cc (ap (λ n. has_name n K) e)
two_names K a b false p q e = cc (ap (λ n. has_name n K) e)

pub apart : (K : List (List ℕ)) (a b : List ℕ) (x : Bool) → has_name a K ≡ x → has_name b K ≡ not x → bytes_eq a b ≡ false
apart K a b x p q = false_from_ne_true (bytes_eq a b) (λ e. two_names K a b x p q (same_name a b e))

-- ---- maps

module _ {A : Type 0} where
  pub lookup_there : (e : List ℕ × A) (es : List (List ℕ × A)) (n : List ℕ) → bytes_eq e.0 n ≡ false → lookup (e ∷ es) n ≡ lookup es n
  lookup_there e es n h = ap (λ b. cond b (Some e.1) (lookup es n)) h

  -- ---- insertion

  pub lookup_inserted_lem : (es : List (List ℕ × A)) (n : List ℕ) (a : A) → lookup (insert es n a) n ≡ Some a
  lookup_inserted_lem [] n a = grind (arith, name_is_itself n)
  lookup_inserted_lem (e ∷ es) n a = grind (arith, name_is_itself n, lookup_inserted_lem es n a)

  pub lookup_beside : (es : List (List ℕ × A)) (n : List ℕ) (a : A) (k : List ℕ) → bytes_eq n k ≡ false → lookup (insert es n a) k ≡ lookup es k
  lookup_beside [] n a k p = grind (arith, p)
  lookup_beside (e ∷ es) n a k p = grind (arith, p, same_name e.0 n, lookup_beside es n a k p)

  -- a second insertion under a name takes the place of the first
  pub insert_twice : (es : List (List ℕ × A)) (n : List ℕ) (a b : A) → insert (insert es n a) n b ≡ insert es n b
  insert_twice [] n a b = grind (arith, name_is_itself n)
  insert_twice (e ∷ es) n a b = grind (arith, name_is_itself n, insert_twice es n a b)

  pub length_inserted : (es : List (List ℕ × A)) (n : List ℕ) (a : A) → lookup es n ≡ None → length (insert es n a) ≡ suc (length es)
  length_inserted [] n a h = refl
  length_inserted (e ∷ es) n a h = grind (arith, h, length_inserted es n a)

  pub length_same : (es : List (List ℕ × A)) (n : List ℕ) (a b : A) → length (insert es n a) ≡ length (insert es n b)
  length_same [] n a b = refl
  length_same (e ∷ es) n a b = grind (arith, length_same es n a b)

  -- insertions under two names may change places
  pub insert_swap : (es : List (List ℕ × A)) (n : List ℕ) (a : A) (m : List ℕ) (b : A) → bytes_eq n m ≡ false → insert (insert es n a) m b ≡ insert (insert es m b) n a
  insert_swap [] n a m b p = grind (arith, p, other_way n m, not_after n m, not_after m n, one_before n m)
  insert_swap (e ∷ es) n a m b p = grind (arith, other_way, same_name, not_after, one_before, before_both, insert_swap es n a m b p)

  -- ---- removal

  pub lookup_removed_lem : (es : List (List ℕ × A)) (n : List ℕ) → lookup (remove es n) n ≡ None
  lookup_removed_lem [] n = refl
  lookup_removed_lem (e ∷ es) n = by_test (bytes_eq e.0 n) refl (lookup_removed_lem es n)
    where
      by_test : (x : Bool) → bytes_eq e.0 n ≡ x → lookup (remove es n) n ≡ None → lookup (cond x (remove es n) (e ∷ remove es n)) n ≡ None
      by_test true h r = r
      by_test false h r = lookup_there e (remove es n) n h ∙ r

  pub lookup_left : (es : List (List ℕ × A)) (n k : List ℕ) → bytes_eq n k ≡ false → lookup (remove es n) k ≡ lookup es k
  lookup_left [] n k p = refl
  lookup_left (e ∷ es) n k p = by_test (bytes_eq e.0 n) refl (lookup_left es n k p)
    where
      by_test : (x : Bool) → bytes_eq e.0 n ≡ x → lookup (remove es n) k ≡ lookup es k → lookup (cond x (remove es n) (e ∷ remove es n)) k ≡ lookup (e ∷ es) k
      by_test true h r = r ∙ sym (lookup_there e es k (subst (λ (m : List ℕ). bytes_eq m k ≡ false) (sym (same_name e.0 n h)) p))
      by_test false h r = ap (λ o. cond (bytes_eq e.0 k) (Some e.1) o) r

  pub remove_none : (es : List (List ℕ × A)) (n : List ℕ) → lookup es n ≡ None → remove es n ≡ es
  remove_none [] n h = refl
  remove_none (e ∷ es) n h = grind (arith, h, remove_none es n)

  pub remove_inserted : (es : List (List ℕ × A)) (n : List ℕ) (a : A) → lookup es n ≡ None → remove (insert es n a) n ≡ es
  remove_inserted [] n a h = grind (arith, name_is_itself n)
  remove_inserted (e ∷ es) n a h = grind (arith, h, name_is_itself n, remove_none es n, remove_inserted es n a)

  -- ---- what holds of every entry

  -- what holds of all entries, holds of one that is found
  pub each_found : (P : List ℕ × A → Type 0) (es : List (List ℕ × A)) (n : List ℕ) (a : A) → AllByRecursion P es → lookup es n ≡ Some a → P (n, a)
  each_found P [] n a h e = absurd (cc e)
  each_found P (f ∷ es) n a h e = by (bytes_eq f.0 n) refl e (λ k. each_found P es n a h.1 k)
    where
      by : (b : Bool) → bytes_eq f.0 n ≡ b → cond b (Some f.1) (lookup es n) ≡ Some a → (lookup es n ≡ Some a → P (n, a)) → P (n, a)
      by true is e rest =
          let same : f.1 ≡ a = cc e in
          subst (λ (x : A). P (n, x)) same (subst (λ (k : List ℕ). P (k, f.1)) (same_name f.0 n is) h.0)
      by false is e rest = rest e

  -- an insertion keeps what holds of all entries
  pub each_inserted : (P : List ℕ × A → Type 0) (es : List (List ℕ × A)) (n : List ℕ) (a : A) → P (n, a) → AllByRecursion P es → AllByRecursion P (insert es n a)
  each_inserted P [] n a p h = (p, tt)
  each_inserted P (e ∷ es) n a p h = by_tests (bytes_eq e.0 n) (name_before n e.0) (each_inserted P es n a p h.1)
    where
      by_tests : (x y : Bool) → AllByRecursion P (insert es n a) → AllByRecursion P (cond x ((n, a) ∷ es) (cond y ((n, a) ∷ e ∷ es) (e ∷ insert es n a)))
      by_tests true y r = (p, h.1)
      by_tests false true r = (p, h)
      by_tests false false r = (h.0, r)

  pub each_removed : (P : List ℕ × A → Type 0) (es : List (List ℕ × A)) (n : List ℕ) → AllByRecursion P es → AllByRecursion P (remove es n)
  each_removed P [] n h = tt
  each_removed P (e ∷ es) n h = by (bytes_eq e.0 n) (each_removed P es n h.1)
    where
      by : (b : Bool) → AllByRecursion P (remove es n) → AllByRecursion P (cond b (remove es n) (e ∷ remove es n))
      by true r = r
      by false r = (h.0, r)

  -- ---- ascending names

  -- what comes after an entry comes after what is before the entry
  behind_all : (m n : List ℕ) (es : List (List ℕ × A)) → name_before m n ≡ true → AllByRecursion (λ f. name_before n f.0 ≡ true) es → AllByRecursion (λ f. name_before m f.0 ≡ true) es
  behind_all m n [] b h = tt
  behind_all m n (e ∷ es) b h = (before_both m n e.0 b h.0, behind_all m n es b h.1)

  pub ascending_inserted : (es : List (List ℕ × A)) (n : List ℕ) (a : A) → AscendByName es → AscendByName (insert es n a)
  ascending_inserted [] n a h = (tt, tt)
  ascending_inserted (e ∷ es) n a h = by_tests (bytes_eq e.0 n) (name_before n e.0) refl refl (ascending_inserted es n a h.1)
    where
      by_tests : (x y : Bool) → bytes_eq e.0 n ≡ x → name_before n e.0 ≡ y → AscendByName (insert es n a) → AscendByName (cond x ((n, a) ∷ es) (cond y ((n, a) ∷ e ∷ es) (e ∷ insert es n a)))
      by_tests true y p q r = (subst (λ (m : List ℕ). AllByRecursion (λ f. name_before m f.0 ≡ true) es) (same_name e.0 n p) h.0, h.1)
      by_tests false true p q r = ((q, behind_all n e.0 es q h.0), h)
      by_tests false false p q r = (each_inserted (λ f. name_before e.0 f.0 ≡ true) es n a (one_before n e.0 (other_way e.0 n p) q) h.0, r)

  pub ascending_removed : (es : List (List ℕ × A)) (n : List ℕ) → AscendByName es → AscendByName (remove es n)
  ascending_removed [] n h = tt
  ascending_removed (e ∷ es) n h = by (bytes_eq e.0 n) (ascending_removed es n h.1)
    where
      by : (b : Bool) → AscendByName (remove es n) → AscendByName (cond b (remove es n) (e ∷ remove es n))
      by true r = r
      by false r = (each_removed (λ f. name_before e.0 f.0 ≡ true) es n h.0, r)

  -- an insertion under a name that is there makes no entry more
  pub length_again : (es : List (List ℕ × A)) (n : List ℕ) (a b : A) → AscendByName es → lookup es n ≡ Some a → length (insert es n b) ≡ length es
  length_again [] n a b h e = absurd (cc e)
  length_again (f ∷ es) n a b h e = by (bytes_eq f.0 n) e (λ k. length_again es n a b h.1 k)
    where
      by : (x : Bool) → cond x (Some f.1) (lookup es n) ≡ Some a → (lookup es n ≡ Some a → length (insert es n b) ≡ length es)
          → length (cond x ((n, b) ∷ es) (cond (name_before n f.0) ((n, b) ∷ f ∷ es) (f ∷ insert es n b))) ≡ suc (length es)
      by true e rest = refl
      by false e rest =
          let before : name_before f.0 n ≡ true = each_found (λ g. name_before f.0 g.0 ≡ true) es n a h.0 e in
          ap (λ (y : Bool). length (cond y ((n, b) ∷ f ∷ es) (f ∷ insert es n b))) (not_after f.0 n before) ∙ ap suc (rest e)
