use Rattle.std.proofs.Common.{◌≡◌, map, drop, reverse}
use Rattle.model_machine.specs.Aes.{inverse_cipher_block, rounds_back}
use Rattle.mc_aes.specs.State.{state_bytes}
use Rattle.mc_aes.proofs.cipher.decipher_with.Given as goal

abbrev pub invariant-loop-i : goal.invariant-loop-i
invariant-loop-i l = rounds_back (drop l.i (reverse (map state_bytes l.keys))) (state_bytes l.state) ≡ inverse_cipher_block (reverse (map state_bytes l.keys)) (state_bytes l.fn.block)
