-- A place with what is known there, as the definition has it, but for how its frame began and its allowances.
use Rattle.std.specs.Prelude.{◌≡◌, ℕ, Bool, List, ◌∷◌}
use Rattle.prove_facts.specs.model_rules.specs.Keeping.{Amounts}
use Rattle.prove_facts.specs.model_prove.specs.Facts.{Facts}
use Rattle.prove_facts.specs.model_prove.specs.Compares.{Compare}
use Rattle.prove_facts.specs.model_prove.specs.Keys.{Start, Call}
use Rattle.prove_facts.specs.model_prove.specs.Steps as steps
use Rattle.prove_keys.specs.Compares.{said}
use Rattle.prove_keys.specs.Keys.{calls_of}
use Rattle.prove_keys.specs.declared.keys.Registers.{Registers}
use Rattle.prove_spots.specs.declared.spot.Spot.TheInside.{Inside}

-- what of a spot a row can change
pub record Ground : Type 0 where
  pub at : ℕ
  pub c : Bool
  pub z : Bool
  pub dt : ℕ
  pub lb : ℕ
  pub protected : Bool
  pub calls : List Call
  pub bytes : Facts
  pub kept : Facts
  pub compare : Compare

-- the ground of the fields
abbrev pub ground_of : Inside → Ground
ground_of s =
    record {
      at = s.registers.at;
      c = s.registers.c;
      z = s.registers.z;
      dt = s.registers.dt;
      lb = s.registers.lb;
      protected = s.registers.protected;
      calls = calls_of s.calls.items;
      bytes = s.bytes;
      kept = s.kept;
      compare = said s.last;
    }

-- the spot of a ground, of a frame that began so and with these allowances
abbrev pub spot_of : Start → Amounts → Ground → steps.Spot
spot_of start a g =
    record {
      key = record {
        at = g.at;
        start = start;
        allowances = a;
        c = g.c;
        z = g.z;
        dt = g.dt;
        lb = g.lb;
        protected = g.protected;
        calls = g.calls;
      };
      known = record { bytes = g.bytes; kept = g.kept; compare = g.compare };
    }

-- a ground with other facts of the bytes as they are read
abbrev pub with_bytes : Facts → Ground → Ground
with_bytes f g = record g { bytes = f }

-- a ground with other facts of the static bytes as power would leave them
abbrev pub with_kept : Facts → Ground → Ground
with_kept f g = record g { kept = f }

-- a ground with another last compare
abbrev pub with_compare : Compare → Ground → Ground
with_compare c g = record g { compare = c }

-- the registers of a ground
abbrev pub HasRegisters : Ground → Registers → Type 0
HasRegisters g r = (g.at ≡ r.at) × (g.c ≡ r.c) × (g.z ≡ r.z) × (g.dt ≡ r.dt) × (g.lb ≡ r.lb) × (g.protected ≡ r.protected)

-- a ground at another place
abbrev pub with_at : ℕ → Ground → Ground
with_at a g = record g { at = a }

-- a ground with other open calls
abbrev pub with_calls : List Call → Ground → Ground
with_calls cs g = record g { calls = cs }

-- a ground with another DT
abbrev pub with_dt : ℕ → Ground → Ground
with_dt dt g = record g { dt = dt }

-- a ground with one more open call
abbrev pub with_call : ℕ → Call → Ground → Ground
with_call to c g = record g { lb = c.dt; at = to; calls = c ∷ g.calls }

-- a ground with LB and the place that a call saved
abbrev pub with_saved : Call → Ground → Ground
with_saved c g = record g { lb = c.lb; at = c.at }

-- a ground with the protection on or off
abbrev pub with_protection : Bool → Ground → Ground
with_protection b g = record g { protected = b }
