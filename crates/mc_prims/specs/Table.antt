-- The code's primitives, ciphers and surroundings as values of the definition's types.
use Rattle.std.specs.Prelude.{ℕ, List}
use Rattle.model_machine.specs.Blocks.{Worked, shift_left_block, shift_right_block}
use Rattle.model_machine.specs.Primitives as model
use Rattle.mc_isa.specs.declared.primitive.Cipher.{Cipher}
use Rattle.mc_prims.specs.declared.ciphers.Way.{Way}
use Rattle.mc_prims.specs.declared.ciphers.Way.TheVariants as way
use Rattle.mc_prims.specs.declared.bits.Side.{Side}
use Rattle.mc_prims.specs.declared.bits.Side.TheVariants as side
use Rattle.mc_prims.specs.declared.dispatch.Around.{Around}

-- a block enciphered or deciphered by a cipher and a key
abbrev pub block_under_key : Way → model.Cipher → List ℕ → List ℕ → List ℕ
block_under_key way.Encipher c = model.encipherment c
block_under_key way.Decipher c = model.decipherment c

-- a block shifted left or right by a number of bits
abbrev pub shift_block : Side → List ℕ → ℕ → Worked
shift_block side.Left = shift_left_block
shift_block side.Right = shift_right_block

-- the surroundings of a primitive as the definition's value
abbrev pub surroundings_of : Around → model.Around
surroundings_of a = record { case = a.case; delegator = a.delegator }
