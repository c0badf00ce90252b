use Rattle.std.proofs.Common.{refl}
use Rattle.law_promise.specs.Computed.{broken_at}
use Rattle.example_purse.proofs.WrongPurses.{reads_again_broken}
use Rattle.example_purse.proofs.worked.amount_read_again_is_raised.Goals as goal

pub returns : goal.returns
unfolding broken_at
returns c = record { at = refl; ordered = refl; law = reads_again_broken }
