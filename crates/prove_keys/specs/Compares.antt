-- The last compare, as the definition has it.
use Rattle.std.specs.Prelude.{ℕ, Bool, cond}
use Rattle.prove_facts.specs.model_prove.specs.Compares as known
use Rattle.prove_keys.specs.declared.compares.Bounds.{Bounds}
use Rattle.prove_keys.specs.declared.compares.Order.{Order}
use Rattle.prove_keys.specs.declared.compares.Last.{Last}
use Rattle.prove_keys.specs.declared.compares.Last.TheVariants as last
use Rattle.prove_keys.specs.declared.compares.LastSaid.{LastSaid}
use Rattle.prove_keys.specs.declared.compares.LastSaid.TheVariants.{Held, Tested}

-- the bounds of a number
abbrev pub bounds_of : Bounds → known.Compare
bounds_of b = known.Bounds b.at b.n b.low b.high

-- the possible orders of two numbers
abbrev pub orders_of : Order → known.Orders
orders_of o = record { less = o.less; equal = o.equal; greater = o.greater }

-- what two numbers may be to each other
abbrev pub ordered_of : Order → known.Compare
ordered_of o = known.Ordered o.first o.n o.second (orders_of o)

-- the last compare
abbrev pub compare_of : Last → known.Compare
compare_of last.Nothing = known.NoCompare
compare_of (last.Bounds b) = bounds_of b
compare_of (last.Order o) = ordered_of o

-- that n bytes at an address are zero or not
abbrev pub tested : ℕ → ℕ → Bool → known.Compare
tested at n zero = known.Bounds at n (cond zero 0 1) (cond zero 0 (known.greatest n))

-- what the last compare says
abbrev pub said : LastSaid → known.Compare
said (Held l) = compare_of l
said (Tested at n zero) = tested at n zero
