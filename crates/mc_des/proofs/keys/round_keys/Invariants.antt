use Rattle.std.proofs.Common.{◌≡◌, ◌<◌, ◌^◌, ◌++◌, length, map, take, drop}
use Rattle.std.specs.Int.{w64, to_be_bytes}
use Rattle.model_machine.specs.Des.{bits, schedule, shifts, round_keys}
use Rattle.mc_des.specs.Words.{key_bits}
use Rattle.mc_des.proofs.keys.round_keys.Given as goal

abbrev pub invariant-loop-i : goal.invariant-loop-i
invariant-loop-i l =
    record {
      left : l.left < 2 ^ 28;
      right : l.right < 2 ^ 28;
      size : length l.keys ≡ 16;
      keys : map key_bits (take l.i l.keys) ++ schedule (drop l.i shifts) (bits 28 l.left) (bits 28 l.right) ≡ round_keys (to_be_bytes w64 l.fn.key);
    }
