use Rattle.std.proofs.Common.{◌≡◌, ◌*◌, map, take, drop}
use Rattle.model_machine.specs.Des.{bits, rounds}
use Rattle.mc_des.specs.Words.{key_bits}
use Rattle.mc_des.proofs.rounds.passed.Given as goal

abbrev pub invariant-loop-i : goal.invariant-loop-i
invariant-loop-i l =
    rounds (drop (2 * l.i) (map key_bits l.keys)) (bits 32 l.left) (bits 32 l.right)
    ≡ rounds (map key_bits l.keys) (take 32 (bits 64 l.fn.block)) (drop 32 (bits 64 l.fn.block))
