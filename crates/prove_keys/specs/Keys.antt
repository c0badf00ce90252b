-- The keys of the tables, as the definitions have them.
use Rattle.std.specs.Prelude.{ℕ, Bool, List, [], ◌∷◌, ◌++◌, get_or}
use Rattle.prove_facts.specs.model_rules.specs.Keeping.{Amounts}
use Rattle.prove_facts.specs.model_prove.specs.Keys as known
use Rattle.prove_keys.specs.declared.keys.Call.{Call}
use Rattle.prove_keys.specs.declared.keys.Registers.{Registers}
use Rattle.prove_keys.specs.declared.keys.Begun.{Begun}
use Rattle.prove_keys.specs.declared.keys.Begun.TheVariants as begun
use Rattle.prove_keys.specs.declared.keys.MomentKey.{MomentKey}
use Rattle.prove_keys.specs.declared.keys.PlaceKey.{PlaceKey}

-- an open call
abbrev pub call_of : Call → known.Call
call_of c = record { dt = c.end; lb = c.lb; at = c.place }

-- open calls, the oldest first, as the definition has them: the newest first
abbrev pub calls_of : List Call → List known.Call
calls_of [] = []
calls_of (c ∷ cs) = calls_of cs ++ call_of c ∷ []

-- how a frame began, by what the `command` and `answer` lines make of the commands of each class
abbrev pub start_of : List (List Bool) → Begun → known.Start
start_of classes begun.Delegated = known.Delegated
start_of classes (begun.Class n) = known.OfClass (get_or classes n [])

-- amounts under their names
abbrev pub amounts_of : List (List ℕ) → List ℕ → Amounts
amounts_of [] ks = []
amounts_of (name ∷ names) [] = []
amounts_of (name ∷ names) (k ∷ ks) = (name, k) ∷ amounts_of names ks

-- a key of a place, from how the frame began, the allowances, the registers and the open calls
abbrev pub key_of : known.Start → Amounts → Registers → List Call → known.PlaceKey
key_of start a r calls =
    record {
      at = r.at;
      start = start;
      allowances = a;
      c = r.c;
      z = r.z;
      dt = r.dt;
      lb = r.lb;
      protected = r.protected;
      calls = calls_of calls;
    }

-- a place, with the names of the allowances and the classes of commands
abbrev pub place_of : List (List ℕ) → List (List Bool) → PlaceKey → known.PlaceKey
place_of names classes k = key_of (start_of classes k.begun) (amounts_of names k.amounts.items) k.registers k.calls.items

-- a moment, with the names of the allowances
abbrev pub moment_of : List (List ℕ) → MomentKey → known.MomentKey
moment_of names k = record { selected = k.selected; allowances = amounts_of names k.amounts.items }
