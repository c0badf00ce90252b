use Rattle.std.proofs.Common.{◌≡◌, ◌-◌, ◌*◌, ◌/◌, length, drop}
use Rattle.std.specs.Int.{w64, to_be_bytes}
use Rattle.model_machine.specs.Modes.{last_of_chain, blocks_of}
use Rattle.model_machine.specs.Des.{tdes_encipher, tdes_signature}
use Rattle.mc_des.proofs.tdes_signature.Given as goal

abbrev pub invariant-loop-i : goal.invariant-loop-i
invariant-loop-i l =
    last_of_chain (tdes_encipher l.fn.key) (to_be_bytes w64 l.last) (blocks_of (length l.message / 8 - l.i) 8 (drop (8 * l.i) l.message))
    ≡ tdes_signature l.fn.key l.fn.start l.message
