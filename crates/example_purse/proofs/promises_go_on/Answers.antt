use Rattle.example_purse.proofs.PurseLaws.{books_go_on, guesses_go_on, sessions_go_on}
use Rattle.example_purse.proofs.promises_go_on.Goals as goal

pub returns : goal.returns
returns c = record { guesses = guesses_go_on; books = books_go_on; sessions = sessions_go_on }
