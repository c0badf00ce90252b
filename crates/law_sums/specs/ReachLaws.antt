-- Law of a write within a reach: what is known after it holds, if no byte that is not reached changed.
use Rattle.std.specs.Prelude.{◌≡◌, ℕ, ◌≤◌, false, List, length}
use Rattle.model_sums.specs.model_machine.specs.Frame.{Frame, dynamic_base, dynamic_end}
use Rattle.model_sums.specs.model_rules.specs.Rules.{Total}
use Rattle.model_sums.specs.model_rules.specs.Keeping.{Sum}
use Rattle.model_sums.specs.model_prove.specs.Facts.{Memory}
use Rattle.model_sums.specs.model_prove.specs.Reach.{Reach, is_reached}
use Rattle.model_sums.specs.Sums.{Sums}
use Rattle.model_sums.specs.Says.{Holds}
use Rattle.model_sums.specs.Moves.{reached}

-- of a frame whose segments lie apart
abbrev pub ReachLaw : Type 0
ReachLaw =
    (ts : List Total) (u : Sums) (first : List ℕ) (m k : Memory) (sums : List Sum) (f : Frame) (r : Reach) → length f.fixed ≤ dynamic_base → f.dt ≤ dynamic_end
    → ((b : ℕ) → is_reached f r b ≡ false → m b ≡ k b) → Holds ts u first m sums → Holds ts (reached ts f r u) first k sums
