use Rattle.example_purse.proofs.PurseLaws.{books_law}
use Rattle.example_purse.proofs.books.Goals as goal

pub returns : goal.returns
returns c = books_law
