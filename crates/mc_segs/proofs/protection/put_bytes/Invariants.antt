use Rattle.std.proofs.Common.{◌≡◌, ◌+◌, ◌-◌, ◌*◌, ◌/◌, length, take}
use Rattle.mc_words.specs.model_device.specs.Pieces.{not_pending}
use Rattle.mc_bank.specs.Bank.{app_of}
use Rattle.mc_segs.specs.Puts.{words_under}
use Rattle.mc_segs.proofs.PutLemmas.{PutsSome}
use Rattle.mc_segs.proofs.protection.put_bytes.Given as goal

-- the bytes before this word are put, and the words not yet pending are counted from this word on
abbrev pub invariant-loop-number : goal.invariant-loop-number
invariant-loop-number g l =
    let fixed = (app_of (g.B.Bank.state l.bank).apps (g.B.Bank.named l.bank l.slot)).fixed in
    let last = (l.at + length l.from - 1) / 8 + 1 in
    record {
      puts : PutsSome fixed l.fn.words l.at (take (8 * l.number - l.at) l.from) l.words;
      count : length l.words + not_pending l.number (last - l.number) l.words ≡ length l.fn.words + not_pending (l.at / 8) (words_under l.at (length l.from)) l.fn.words;
    }
