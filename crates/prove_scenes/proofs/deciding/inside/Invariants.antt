use Rattle.std.proofs.Common.{◌≡◌, ◌+◌, ◌-◌, ◌≤◌, ◌++◌}
use Rattle.arrayvec.specs.ArrayVec.{array_vec_len}
use Rattle.model_prove.specs.Sets.{numbers_from}
use Rattle.model_prove.specs.Steps as steps
use Rattle.prove_scenes.proofs.deciding.inside.Given as goal

-- those that are inside so far, and those of the places that are left, are those of all
abbrev pub invariant-loop-i : goal.invariant-loop-i
invariant-loop-i l =
    record {
      items : l.list.items ++ steps.inside l.scene (numbers_from (l.places.from + l.i) (l.places.count - l.i)) ≡ steps.inside l.scene (numbers_from l.places.from l.places.count);
      size : array_vec_len l.list ≤ l.i;
    }
