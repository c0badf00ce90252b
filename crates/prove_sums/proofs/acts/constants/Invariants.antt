use Rattle.std.proofs.Common.{◌≡◌, ◌++◌, drop}
use Rattle.prove_forms.specs.model_sums.specs.Moves as moves
use Rattle.prove_forms.specs.Origins.{origin_values}
use Rattle.prove_sums.proofs.acts.constants.Given as goal

-- those so far, and those of the bytes that are left, are all
abbrev pub invariant-loop-byte : goal.invariant-loop-byte
invariant-loop-byte l = origin_values l.list.items ++ moves.constants (drop l.byte-index l.bytes) ≡ moves.constants l.bytes
