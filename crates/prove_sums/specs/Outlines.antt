-- What of a row's shape matters to what is known for sums.
use Rattle.std.specs.Prelude.{◌≡◌, List}
use Rattle.mc_arith.specs.model_machine.specs.declared.instruction.Ins.{Ins}
use Rattle.mc_arith.specs.model_machine.specs.Frame.{Frame}
use Rattle.mc_arith.specs.model_machine.specs.Shapes.{Shape}
use Rattle.prove_facts.specs.model_rules.specs.Rules.{Total}
use Rattle.prove_facts.specs.model_prove.specs.Keys.{PlaceKey}
use Rattle.prove_facts.specs.model_prove.specs.Reach.{Coarse}
use Rattle.prove_facts.specs.model_prove.specs.Steps.{coarse_for}
use Rattle.prove_facts.specs.model_prove.specs.Work.{Work}
use Rattle.prove_forms.specs.model_sums.specs.Sums.{Sums}
use Rattle.prove_forms.specs.model_sums.specs.Moves.{moved, moved_coarsely}
use Rattle.prove_scenes.specs.Coarse.{coarse_outlined}
use Rattle.prove_scenes.specs.Outlines.{outlined}

-- what is known after a row follows from what of its shape matters
abbrev pub MoveLaw : Type 0
MoveLaw = (ts : List Total) (k : PlaceKey) (i : Ins) (h : Shape) (w : Work) (u : Sums) → moved ts k i (outlined w h) w u ≡ moved ts k i h w u

-- what is known after a row of too many combinations follows from what of its shape matters
abbrev pub CoarseMoveLaw : Type 0
CoarseMoveLaw =
    (ts : List Total) (f : Frame) (h : Shape) (c : Coarse) (u : Sums)
    → moved_coarsely ts (record f { dt = (coarse_outlined c h).dt }) (coarse_for (coarse_outlined c h).act c) u
    ≡ moved_coarsely ts (record f { dt = h.dt }) (coarse_for h.act c) u
