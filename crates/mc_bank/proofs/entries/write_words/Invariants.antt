use Rattle.std.proofs.Common.{◌≡◌, ◌+◌, ◌*◌, ◌≤◌, length, drop}
use Rattle.std.specs.List.{AllByRecursion}
use Rattle.model_card.specs.model_device.specs.Pieces.{laid_pieces, word_pieces}
use Rattle.mc_bank.proofs.entries.write_words.Given as goal

abbrev pub invariant-loop-number : goal.invariant-loop-number
invariant-loop-number l =
    record {
      long : length l.into ≡ length l.fn.into;
      room : AllByRecursion (λ w. 8 * w.0 + 8 ≤ length l.fn.into) (drop l.number-index l.list);
      rest : laid_pieces l.into (word_pieces (drop l.number-index l.list)) ≡ laid_pieces l.fn.into (word_pieces l.list);
    }
