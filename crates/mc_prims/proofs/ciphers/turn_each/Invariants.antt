use Rattle.std.proofs.Common.{◌≡◌, ◌-◌, ◌*◌, ◌/◌, ◌++◌, length, take, drop}
use Rattle.model_machine.specs.Modes.{ecb, each, blocks_of}
use Rattle.mc_isa.specs.Primitives.{cipher_of}
use Rattle.mc_prims.specs.Table.{block_under_key}
use Rattle.mc_prims.proofs.ciphers.turn_each.Given as goal

-- the blocks done so far, followed by the other blocks enciphered or deciphered, are the whole message so
abbrev pub invariant-loop-i : goal.invariant-loop-i
invariant-loop-i l =
    let turn = block_under_key l.way (cipher_of l.cipher) l.key in
    take (l.size * l.i) l.message ++ each turn (blocks_of (length l.fn.message / l.size - l.i) l.size (drop (l.size * l.i) l.message)) ≡ ecb turn l.size l.fn.message
