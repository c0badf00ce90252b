use Rattle.std.proofs.Common.{◌≡◌, ◌+◌, ◌*◌, ◌++◌, length, drop}
use Rattle.model_text.specs.Listing.{hex_text}
use Rattle.mc_text.proofs.gather.add_hex.Given as goal

-- the text so far, followed by the digits of the bytes that are left, is the old text followed by all digits, and there
-- is room for them
abbrev pub invariant-loop-byte : goal.invariant-loop-byte
invariant-loop-byte g l =
    record {
      reported : l.text.items ++ hex_text (drop l.byte-index l.bytes) ≡ l.fn.text.items ++ hex_text l.bytes;
      room : length l.text.items ≡ length l.fn.text.items + 2 * l.byte-index;
    }
