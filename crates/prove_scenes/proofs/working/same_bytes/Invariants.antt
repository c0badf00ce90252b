use Rattle.std.proofs.Common.{◌≡◌}
use Rattle.std.specs.Prelude.{replicate}
use Rattle.arrayvec.specs.ArrayVec.{array_vec_len}
use Rattle.prove_scenes.proofs.working.same_bytes.Given as goal

-- there are as many bytes as turns
abbrev pub invariant-loop-i : goal.invariant-loop-i
invariant-loop-i l =
    record {
      items : l.bytes.items ≡ replicate l._i l.value;
      size : array_vec_len l.bytes ≡ l._i;
    }
