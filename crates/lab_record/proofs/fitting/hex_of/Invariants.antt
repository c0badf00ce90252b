-- the text so far, and that of the bytes that are left, are the whole text
use Rattle.std.proofs.Common.{◌≡◌, ◌++◌, drop}
use Rattle.mc_isa.specs.model_text.specs.Listing.{hex_text}
use Rattle.lab_record.proofs.fitting.hex_of.Given as goal

abbrev pub invariant-loop-byte : goal.invariant-loop-byte
invariant-loop-byte l = l.text.items ++ hex_text (drop l.byte-index l.bytes) ≡ hex_text l.fn.bytes
