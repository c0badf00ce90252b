use Rattle.example_purse.proofs.PurseLaws.{guesses_law}
use Rattle.example_purse.proofs.guesses.Goals as goal

pub returns : goal.returns
returns c = guesses_law
