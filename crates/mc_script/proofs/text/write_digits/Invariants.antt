use Rattle.std.proofs.Common.{◌≡◌, ◌*◌, ◌++◌, length, take, drop}
use Rattle.model_play.specs.model_text.specs.Listing.{hex_text}
use Rattle.mc_script.proofs.text.write_digits.Given as goal

-- the digits so far, followed by those of the bytes that are left, are all digits
abbrev pub invariant-loop-at : goal.invariant-loop-at
invariant-loop-at l =
    record {
      size : length l.into ≡ 2 * length l.bytes;
      shown : take (2 * l.at) l.into ++ hex_text (drop l.at l.bytes) ≡ hex_text l.bytes;
    }
