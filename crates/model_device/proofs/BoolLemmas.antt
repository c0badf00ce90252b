-- Tests and options: what std's lemmas on them leave out.
use Rattle.std.proofs.Common.{arith, ◌≡◌, ℕ, ◌≤◌, Bool, true, false, cond, ◌||◌, Option, Some, None, refl}
use Rattle.std.specs.Prelude.{◌&&◌, is_some, IsSome}
use Rattle.std.proofs.lemmas.Bool.{and_parts}
use Rattle.model_device.specs.Bytes.{or_else}

pub and_false : (a : Bool) → (a && false) ≡ false
and_false true = refl
and_false false = refl

pub and_true : (a : Bool) → (a && true) ≡ a
and_true true = refl
and_true false = refl

pub and_first : (a b : Bool) → (a && b) ≡ true → a ≡ true
and_first a b h = (and_parts a b h).0

pub and_second : (a b : Bool) → (a && b) ≡ true → b ≡ true
and_second a b h = (and_parts a b h).1

-- the first two of three, the other way round
pub or_swap : (a b c : Bool) → (a || (b || c)) ≡ (b || (a || c))
or_swap a b c = grind arith

-- a choice of two numbers, each at most n
pub cond_most : (b : Bool) (x y n : ℕ) → x ≤ n → y ≤ n → cond b x y ≤ n
cond_most true x y n h k = h
cond_most false x y n h k = k

-- an option that is no `Some` is `None`
pub no_value : {A : Type 0} (o : Option A) → is_some o ≡ false → o ≡ None
no_value None h = refl
no_value (Some x) h = absurd (cc h)

-- an option that is a `Some`, and its value
pub some_is : {A : Type 0} (o : Option A) → IsSome o → (x : A) × (o ≡ Some x)
some_is None h = absurd (cc h)
some_is (Some x) h = (x, refl)

-- neither of two options has a value
pub or_else_none : {A : Type 0} (a b : Option A) → or_else a b ≡ None → (a ≡ None) × (b ≡ None)
or_else_none None b h = (refl, h)
or_else_none (Some x) b h = absurd (cc h)
