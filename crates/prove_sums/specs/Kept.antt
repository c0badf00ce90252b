-- Which loaded blocks are kept.
use Rattle.std.specs.Prelude.{◌+◌, Bool, cond, not, ◌&&◌, ◌||◌, nat_le, List, [], ◌∷◌}
use Rattle.mc_arith.specs.model_machine.specs.Frame.{public_base}
use Rattle.prove_facts.specs.model_prove.specs.Reach.{some_reached}
use Rattle.prove_forms.specs.model_sums.specs.Sums.{More}
use Rattle.prove_scenes.specs.Scenes.{frame_to}
use Rattle.prove_works.specs.Reaches.{reach_value}
use Rattle.prove_sums.specs.declared.kept.Kept.{Kept}
use Rattle.prove_sums.specs.declared.kept.Kept.TheVariants as kept

-- whether a loaded block is kept
abbrev pub is_kept : Kept → More → Bool
is_kept (kept.Below dt) r = nat_le (r.at + r.n) dt
is_kept kept.NotPublic r = nat_le (r.at + r.n) public_base && nat_le (r.from + r.n) public_base
is_kept (kept.NotReached scene dt reach) r =
    not (some_reached (frame_to scene.now dt) (reach_value reach.now) r.at r.n || some_reached (frame_to scene.now dt) (reach_value reach.now) r.from r.n)

-- a loaded block as a list, if it is kept
abbrev pub if_kept : Kept → More → List More
if_kept k r = cond (is_kept k r) (r ∷ []) []
