use Rattle.std.proofs.Common.{◌≡◌, ℕ, ◌+◌, ◌<◌, length, drop, get_or}
use Rattle.std.specs.Prelude.{unwrap_or}
use Rattle.mc_words.specs.model_device.specs.Pieces.{covering_byte, word_pieces}
use Rattle.mc_bank.specs.Bank.{app_of}
use Rattle.mc_segs.proofs.access.read_static.Given as goal

-- writing the words that are left over the bytes so far makes what writing all words over the bank's bytes makes
abbrev pub invariant-loop-number : goal.invariant-loop-number
invariant-loop-number g l =
    let fixed = (app_of (g.B.Bank.state l.bank).apps (g.B.Bank.named l.bank l.frame.slot)).fixed in
    record {
      len : length l.into ≡ length l.fn.into;
      bytes : (i : ℕ) → i < length l.fn.into → unwrap_or (covering_byte (word_pieces (drop l.number-index l.number-items)) (l.at + i)) (get_or l.into i 0) ≡ unwrap_or (covering_byte (word_pieces l.number-items) (l.at + i)) (get_or fixed (l.at + i) 0);
    }
