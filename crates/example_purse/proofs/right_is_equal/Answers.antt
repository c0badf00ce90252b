use Rattle.example_purse.proofs.Facts.{right_law}
use Rattle.example_purse.proofs.right_is_equal.Goals as goal

pub returns : goal.returns
returns c = right_law
