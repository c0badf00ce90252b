use Rattle.std.proofs.Common.{◌≡◌, ◌-◌, ◌*◌, ◌/◌, length, drop}
use Rattle.model_machine.specs.Modes.{last_of_chain, blocks_of}
use Rattle.model_machine.specs.Aes.{aes_encipher, aes_signature}
use Rattle.mc_aes.specs.State.{state_bytes}
use Rattle.mc_aes.proofs.aes_signature.Given as goal

abbrev pub invariant-loop-i : goal.invariant-loop-i
invariant-loop-i l =
    last_of_chain (aes_encipher l.fn.key) (state_bytes l.last) (blocks_of (length l.message / 16 - l.i) 16 (drop (16 * l.i) l.message))
    ≡ aes_signature l.fn.key l.fn.start l.message
