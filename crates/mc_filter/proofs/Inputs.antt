-- An input that was read to its end is all that its source had left.
use Rattle.std.proofs.Common.{◌≡◌, ◌+◌, ◌<◌, ◌≤◌, ℕ, Bool, true, false, nat_le, subst, sym, inl, inr, List, ◌++◌, length, Option, Some, None, refl, ap, ◌∙◌, arith}
use Rattle.std.proofs.lemmas.List.{append-nil, length-append}
use Rattle.std.proofs.Math.Nat.{min-eq_left, min-eq_right}
use Rattle.model_device.specs.Counts.{Rose, last_count}
use Rattle.mc_streams.specs.Streams.{one_more, AtEnd, Took, TookMore}
use Rattle.mc_filter.specs.Inputs.{input_limit, IsAll}

-- an input that was read to its end is all that was left
pub all_read : (old new : Option (List ℕ)) (input : List ℕ) → Took old new input → AtEnd new → IsAll old input
all_read None new input took end = tt
all_read (Some xs) None input took end = absurd took
all_read (Some xs) (Some ys) input took end = took ∙ ap (λ t. input ++ t) end ∙ append-nil input

-- a count plus one rose
rose_more : (old : ℕ) (b : Bool) → nat_le (old + 1) last_count ≡ b → Rose old (one_more old)
rose_more old true e = let below : old + 1 ≤ last_count = grind (arith, e) in inl (rw (min-eq_left below) (omega arith))
rose_more old false e = let past : last_count ≤ old + 1 = grind (arith, e) in inr (min-eq_right past)

-- a count that one call raised rose
pub rose_once : (old new : ℕ) → new ≡ one_more old → Rose old new
rose_once old new once = subst (λ n. Rose old n) (sym once) (rose_more old (nat_le (old + 1) last_count) refl)

-- more bytes than the limit were left
pub record Long (old : Option (List ℕ)) : Type 0 where
  pub input : List ℕ
  pub all : IsAll old input
  pub over : input_limit < length input

-- if more bytes than the limit were read, more were left
pub long_read : (old new : Option (List ℕ)) → TookMore old new input_limit → Long old
long_read None new more = record { input = more.front; all = tt; over = more.over }
long_read (Some xs) None more = absurd more.took
long_read (Some xs) (Some ys) more =
    let parts : length xs ≡ length (more.front ++ ys) = ap length more.took in
    let sum = length-append more.front ys in
    let over = more.over in
    record { input = xs; all = refl; over = omega arith }
