use Rattle.std.proofs.Common.{refl}
use Rattle.law_promise.specs.Computed.{broken_at}
use Rattle.example_purse.proofs.WrongPurses.{early_session_broken}
use Rattle.example_purse.proofs.worked.early_session_is_open.Goals as goal

pub returns : goal.returns
unfolding broken_at
returns c = record { at = refl; law = early_session_broken }
