use Rattle.std.proofs.Common.{◌≡◌, ◌++◌, drop}
use Rattle.model_text.specs.Listing.{hex_text}
use Rattle.mc_text.proofs.pushing.push_bytes.Given as goal

-- the text so far with the digits of the bytes that are left is the old text with all digits
abbrev pub invariant-loop-byte : goal.invariant-loop-byte
invariant-loop-byte l = l.text.items ++ hex_text (drop l.byte-index l.bytes) ≡ l.fn.text.items ++ hex_text l.bytes
