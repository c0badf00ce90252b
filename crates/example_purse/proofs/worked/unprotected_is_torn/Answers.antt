use Rattle.std.proofs.Common.{refl}
use Rattle.law_promise.specs.Computed.{broken_at}
use Rattle.example_purse.proofs.WrongPurses.{unprotected_broken}
use Rattle.example_purse.proofs.worked.unprotected_is_torn.Goals as goal

pub returns : goal.returns
unfolding broken_at
returns c = record { at = refl; law = unprotected_broken }
