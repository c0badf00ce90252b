-- What a row of too many combinations does, as the definition's value, and what of its shape matters.
use Rattle.std.specs.Prelude.{◌≡◌, ℕ, Bool, List, [], ◌∷◌, Option, None}
use Rattle.model_machine.specs.declared.instruction.Ins.{Ins}
use Rattle.model_machine.specs.declared.machine.Abend.{Abend}
use Rattle.model_machine.specs.Frame.{Frame}
use Rattle.model_machine.specs.Shapes.{Act, Stays, Answers, Jumps, Calls, Returns, Pushes, Replaces, Writes, Protects, Shape}
use Rattle.model_prove.specs.Sets.{numbers_from}
use Rattle.model_prove.specs.Facts.{Facts}
use Rattle.model_prove.specs.Reach.{lengths_at, reach_at}
use Rattle.model_prove.specs.Reach as reach
use Rattle.model_prove.specs.Arrivals.{Setting}
use Rattle.model_prove.specs.Steps.{Spot, coarse_done, coarse_for}
use Rattle.prove_scenes.specs.declared.coarse_rows.Lengths.{Lengths}
use Rattle.prove_scenes.specs.declared.coarse_rows.Lengths.TheVariants.{One, Names, At}
use Rattle.prove_scenes.specs.declared.coarse_rows.Coarse.{Coarse}
use Rattle.prove_scenes.specs.declared.coarse_rows.Coarse.TheVariants as coarse
use Rattle.prove_scenes.specs.Outlines.{outlined_next}

-- the lengths of a write
abbrev pub lengths_value : Facts → Lengths → List ℕ
lengths_value k (One n) = n ∷ []
lengths_value k Names = numbers_from 6 12
lengths_value k (At a) = lengths_at k a

-- what a row does
abbrev pub coarse_value : Facts → Coarse → reach.Coarse
coarse_value k (coarse.PushesAny n) = reach.PushesAny n
coarse_value k (coarse.Shifts n) = reach.Shifts n
coarse_value k coarse.Compares = reach.Compares
coarse_value k coarse.Searches = reach.Searches
coarse_value k (coarse.WritesWithin at lengths) = reach.WritesWithin (reach_at k at (lengths_value k lengths))
coarse_value k coarse.Leads = reach.Leads

-- the flags of a row that matter
abbrev pub coarse_flags : reach.Coarse → Option (Bool × Bool) → Option (Bool × Bool)
coarse_flags (reach.PushesAny n) flags = None
coarse_flags (reach.Shifts n) flags = None
coarse_flags reach.Compares flags = None
coarse_flags reach.Searches flags = None
coarse_flags (reach.WritesWithin r) flags = flags
coarse_flags reach.Leads flags = flags

-- an act, of which matters whether it stays
abbrev pub coarse_act : Act → Act
coarse_act Stays = Stays
coarse_act (Answers sw la) = Protects 0
coarse_act (Jumps taken to) = Protects 0
coarse_act (Calls taken to) = Protects 0
coarse_act (Returns less more) = Protects 0
coarse_act (Pushes b) = Protects 0
coarse_act (Replaces b) = Protects 0
coarse_act (Writes a n b) = Protects 0
coarse_act (Protects mode) = Protects 0

-- what of a shape matters to a row of too many combinations
abbrev pub coarse_outlined : reach.Coarse → Shape → Shape
coarse_outlined c h =
    record {
      dt = h.dt;
      act = coarse_act h.act;
      flags = coarse_flags c h.flags;
      next = outlined_next h.next;
    }

-- what follows a row of too many combinations follows from what of its shape matters
abbrev pub CoarseOutlineLaw : Type 0
CoarseOutlineLaw =
    (cause : Option Abend) (s : Setting) (i : Ins) (f : Frame) (h : Shape) (c : reach.Coarse) (p q : Spot)
    → coarse_done cause s i f (coarse_outlined c h) (coarse_for (coarse_outlined c h).act c) p q
    ≡ coarse_done cause s i f h (coarse_for h.act c) p q
