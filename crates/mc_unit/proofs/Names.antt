-- The first name in a template, object by object.
use Rattle.std.proofs.Common.{◌≡◌, ℕ, zero, suc, ◌+◌, ◌≤◌, true, false, List, [], ◌∷◌, length, take, drop, Option, Some, None, refl, sym, ◌∙◌, arith, length-drop}
use Rattle.std.specs.Prelude.{bytes_eq, option_and_then}
use Rattle.model_card.specs.Units.{Object, name_among, object_at, size_at, tag_len, value_at}
use Rattle.std.proofs.lemmas.Bool.Decides.{nat_tests}

some_is : {A : Type 0} {x y : A} → Some x ≡ Some y → x ≡ y
some_is e = cc

-- the two steps of a sequence that is `Some`
then_some : {A B : Type 0} (f : A → Option B) (o : Option A) (y : B) → option_and_then f o ≡ Some y → (x : A) × (o ≡ Some x) × (f x ≡ Some y)
then_some f None y e = absurd cc
then_some f (Some x) y e = (x, refl, e)

tag_some : (b : List ℕ) (n : ℕ) → tag_len b ≡ Some n → 1 ≤ n
tag_some b n e = grind (arith, nat_tests)

size_shorter : (b : List ℕ) (s : ℕ × List ℕ) → size_at b ≡ Some s → length s.1 + 1 ≤ length b
size_shorter b s e = grind (arith, nat_tests)

value_shorter : (t : List ℕ) (s : ℕ × List ℕ) (o : Object) → value_at t s ≡ Some o → length o.rest ≤ length s.1
value_shorter t s o e = grind (arith, nat_tests, length-drop)

-- the bytes after an object are at least two fewer than those from it on
pub object_shorter : (b : List ℕ) (o : Object) → object_at b ≡ Some o → length o.rest + 2 ≤ length b
unfolding object_at
object_shorter b o e =
    let n = then_some (λ n. option_and_then (value_at (take n b)) (size_at (drop n b))) (tag_len b) o e in
    let s = then_some (value_at (take n.0 b)) (size_at (drop n.0 b)) o n.2 in
    omega (arith, tag_some b n.0 n.1, size_shorter (drop n.0 b) s.0 s.1, value_shorter (take n.0 b) s.0 o s.2, length-drop n.0 b)

-- no bytes have no name
pub name_of_nothing : (n : ℕ) → name_among n [] ≡ None
unfolding name_among object_at
name_of_nothing zero = refl
name_of_nothing (suc n) = refl

-- one object, if the claim holds for the bytes after it
one_more : (n m : ℕ) (b : List ℕ) (o : Option Object) → object_at b ≡ o → length b ≤ suc n → length b ≤ suc m
    → ((r : List ℕ) → length r ≤ n → length r ≤ m → name_among n r ≡ name_among m r) → name_among (suc n) b ≡ name_among (suc m) b
unfolding name_among
one_more n m b None e h k all = rw e refl
one_more n m b (Some o) e h k all =
    let shorter = object_shorter b o e in
    rw (e, all o.rest (omega arith) (omega arith)) refl

-- any bound on the number of objects that is at least the number of bytes yields the same name
pub name_enough : (n m : ℕ) (b : List ℕ) → length b ≤ n → length b ≤ m → name_among n b ≡ name_among m b
name_enough n m [] h k = name_of_nothing n ∙ sym (name_of_nothing m)
name_enough zero m (x ∷ xs) h k = absurd (omega arith)
name_enough (suc n) zero (x ∷ xs) h k = absurd (omega arith)
name_enough (suc n) (suc m) (x ∷ xs) h k = one_more n m (x ∷ xs) (object_at (x ∷ xs)) refl h k (name_enough n m)

pub name_here : (b : List ℕ) (o : Object) → object_at b ≡ Some o → bytes_eq o.tag (79 ∷ []) ≡ true → length o.rest + 2 ≤ length b → name_among (length b) b ≡ Some o.value
unfolding name_among
name_here [] o e h s = absurd (omega arith)
name_here (x ∷ xs) o e h s = rw (e, h) refl

pub name_behind : (b : List ℕ) (o : Object) → object_at b ≡ Some o → bytes_eq o.tag (79 ∷ []) ≡ false → length o.rest + 2 ≤ length b → name_among (length b) b ≡ name_among (length o.rest) o.rest
unfolding name_among
name_behind [] o e h s = absurd (omega arith)
name_behind (x ∷ xs) o e h s = rw (e, h) (name_enough (length xs) (length o.rest) o.rest (omega arith) (omega arith))

pub name_nowhere : (b : List ℕ) → object_at b ≡ None → name_among (length b) b ≡ None
unfolding name_among
name_nowhere [] e = refl
name_nowhere (x ∷ xs) e = rw e refl
