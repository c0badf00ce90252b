-- A group of equal values in a list: how many they are, where the first is, and what lies inside.
use Rattle.std.proofs.Common.{◌≡◌, ◌≢◌, ℕ, zero, suc, ◌+◌, ◌<◌, ◌≤◌, List, [], ◌∷◌, ◌++◌, length, get_or, replicate, refl, sym, subst, arith, length-append}
use Rattle.std.proofs.lemmas.List.{length-replicate}
use Rattle.std.specs.List.{AllByRecursion}
use Rattle.model_device.specs.Image.{Two}
use Rattle.model_device.specs.Stopped.{cost}
use Rattle.lab_history.specs.Durable.{count_in, first_in, IsGroup}

counts_none : (xs : List ℕ) (n : ℕ) → AllByRecursion (λ x. x ≢ n) xs → count_in xs n ≡ 0
counts_none [] n h = refl
counts_none (x ∷ xs) n h = grind (arith, h.0, counts_none xs n h.1)

counts_same : (k n : ℕ) (back : List ℕ) → AllByRecursion (λ x. x ≢ n) back → count_in (replicate k n ++ back) n ≡ k
counts_same zero n back h = counts_none back n h
counts_same (suc k) n back h = grind (arith, counts_same k n back h)

-- a value of which k stand in a row, and no other, is there k times
pub counts_group : (front : List ℕ) (k n : ℕ) (back : List ℕ) → AllByRecursion (λ x. x ≢ n) front → AllByRecursion (λ x. x ≢ n) back → count_in (front ++ replicate k n ++ back) n ≡ k
counts_group [] k n back f b = counts_same k n back b
counts_group (x ∷ front) k n back f b = grind (arith, f.0, counts_group front k n back f.1 b)

-- the first of them is after those in front
pub first_of_group : (front : List ℕ) (k n : ℕ) (back : List ℕ) → AllByRecursion (λ x. x ≢ n) front → 1 ≤ k → first_in (front ++ replicate k n ++ back) n ≡ length front
first_of_group [] zero n back f h = absurd (omega (arith, h))
first_of_group [] (suc k) n back f h = grind arith
first_of_group (x ∷ front) k n back f h = grind (arith, f.0, first_of_group front k n back f.1 h)

-- each of their places has the value, and is one of the list
same_at : (k n i : ℕ) (back : List ℕ) → i < k → get_or (replicate k n ++ back) i 0 ≡ n
same_at zero n i back h = absurd (omega (arith, h))
same_at (suc k) n zero back h = refl
same_at (suc k) n (suc i) back h = same_at k n i back (omega (arith, h))

pub value_in_group : (front : List ℕ) (k n i : ℕ) (back : List ℕ) → length front ≤ i → i < length front + k → get_or (front ++ replicate k n ++ back) i 0 ≡ n
value_in_group [] k n i back f h = same_at k n i back (omega (arith, h))
value_in_group (x ∷ front) k n zero back f h = absurd (omega (arith, f))
value_in_group (x ∷ front) k n (suc i) back f h = value_in_group front k n i back (omega (arith, f)) (omega (arith, h))

pub long_group : (front : List ℕ) (k n : ℕ) (back : List ℕ) → length (front ++ replicate k n ++ back) ≡ length front + (k + length back)
long_group front k n back = simp (length-append, length-replicate) (omega arith)

-- what is known of a device write of an atomic write: it is there, what was done before it, and how many are like it from
-- where on
pub record Known (turns : List ℕ) (i : ℕ) (front : List ℕ) (words turn : ℕ) : Type 0 where
  pub there : i < length turns
  pub value : get_or turns i 0 ≡ turn
  pub count : count_in turns turn ≡ cost Two words
  pub first : first_in turns turn ≡ length front

pub group_is : (turns : List ℕ) (i : ℕ) (front : List ℕ) (words turn : ℕ) (back : List ℕ) → IsGroup turns i front words turn back → Known turns i front words turn
group_is turns i front words turn back h =
    let k = cost Two words in
    let long = long_group front k turn back in
    subst (λ (ts : List ℕ). Known ts i front words turn) (sym h.is) (record {
      there = omega (arith, long, h.to);
      value = value_in_group front k turn i back h.from h.to;
      count = counts_group front k turn back h.before h.after;
      first = first_of_group front k turn back h.before (omega arith);
    })
