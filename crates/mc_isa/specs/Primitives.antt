-- The primitives and ciphers of the code as those of the definition.
use Rattle.law_rows.specs.model_machine.specs.Primitives as model
use Rattle.mc_isa.specs.declared.primitive.Cipher.{Cipher}
use Rattle.mc_isa.specs.declared.primitive.Cipher.TheVariants as cipher
use Rattle.mc_isa.specs.declared.primitive.Primitive.{Primitive}
use Rattle.mc_isa.specs.declared.primitive.Primitive.TheVariants as prim

-- a cipher as the definition's value
abbrev pub cipher_of : Cipher → model.Cipher
cipher_of cipher.Des = model.Des
cipher_of cipher.TripleDes = model.TripleDes
cipher_of cipher.Aes = model.Aes

-- a primitive as the definition's value
abbrev pub primitive_of : Primitive → model.Primitive
primitive_of prim.CheckCase = model.CheckCase
primitive_of prim.LoadCcr = model.LoadCcr
primitive_of prim.StoreCcr = model.StoreCcr
primitive_of prim.Lookup = model.Lookup
primitive_of prim.MemoryCompare = model.MemoryCompare
primitive_of prim.MemoryCopy = model.MemoryCopy
primitive_of prim.Delegate = model.DelegateTo
primitive_of prim.DelegatorAid = model.DelegatorAid
primitive_of prim.Digest = model.Digest
primitive_of prim.CompareFixed = model.CompareFixed
primitive_of prim.CopyFixed = model.CopyFixed
primitive_of prim.SetProtection = model.SetProtection
primitive_of (prim.Encipher c) = model.Encipher (cipher_of c)
primitive_of (prim.Decipher c) = model.Decipher (cipher_of c)
primitive_of (prim.Sign c) = model.Sign (cipher_of c)
primitive_of prim.BitByte = model.BitByte
primitive_of prim.ShiftLeft = model.ShiftLeft
primitive_of prim.ShiftRight = model.ShiftRight
primitive_of prim.BitWord = model.BitWord
