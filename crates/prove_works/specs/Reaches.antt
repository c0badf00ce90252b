-- What an access can reach, as the definition has it.
use Rattle.std.specs.Prelude.{ℕ, zero, suc, ◌-◌, ◌/◌, ◌%◌, Bool, false, not, ◌&&◌, ◌||◌, nat_lt, nat_le, ◌==◌, List, map, filter, drop}
use Rattle.mc_arith.specs.model_machine.specs.Frame.{Frame, is_outside}
use Rattle.prove_facts.specs.model_prove.specs.Sets.{is_in}
use Rattle.prove_facts.specs.model_prove.specs.Digits.{some}
use Rattle.prove_facts.specs.model_prove.specs.Facts.{Facts}
use Rattle.prove_facts.specs.model_prove.specs.Keys as known
use Rattle.prove_facts.specs.model_prove.specs.Reach as reach
use Rattle.prove_facts.specs.Sets.{set_of}
use Rattle.prove_keys.specs.declared.keys.Call.{Call}
use Rattle.prove_keys.specs.Keys.{calls_of}
use Rattle.prove_works.specs.declared.reach.Reach.{Reach}

-- the addresses and the lengths of an access
abbrev pub reach_value : Reach → reach.Reach
reach_value r = record { high = set_of r.high; low = set_of r.low; lengths = set_of r.lengths }

-- whether one of the lengths has a byte d after an address, and lies whole in a segment
abbrev pub has_length : Frame → List ℕ → ℕ → ℕ → Bool
has_length f ns a d = some (λ n. nat_lt d n && not (is_outside f a n)) ns

-- whether an access reaches a byte from d bytes before it
abbrev pub reaches : Frame → reach.Reach → ℕ → ℕ → Bool
reaches f r a d =
    nat_le d a && is_in ((a - d) / 256) r.high && is_in ((a - d) % 256) r.low && has_length f r.lengths (a - d) d

-- whether one does from less than d bytes before it
abbrev pub reaches_below : Frame → reach.Reach → ℕ → ℕ → Bool
reaches_below f r a zero = false
reaches_below f r a (suc d) = reaches f r a d || reaches_below f r a d

-- the facts without that of a byte, if it is reached
abbrev pub without_reached : Frame → reach.Reach → ℕ → Facts → Facts
without_reached f r a facts = filter (λ e. not (reach.is_reached f r a && (e.0 == a))) facts

-- the calls from places of a list on
abbrev pub calls_from : List Call → List ℕ → List (List known.Call)
calls_from calls places = map (λ i. calls_of (drop i calls)) places
