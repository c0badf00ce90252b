use Rattle.std.proofs.Common.{refl}
use Rattle.law_promise.specs.Computed.{broken_at}
use Rattle.example_purse.proofs.WrongPurses.{early_reset_broken}
use Rattle.example_purse.proofs.worked.early_reset_is_guessed.Goals as goal

pub returns : goal.returns
unfolding broken_at
returns c = record { at = refl; costs = refl; law = early_reset_broken }
