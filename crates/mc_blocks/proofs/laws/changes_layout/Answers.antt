use Rattle.mc_blocks.proofs.Built.{other_layout}
use Rattle.mc_blocks.proofs.laws.changes_layout.Goals as goal

pub returns-clause-laid : goal.returns-clause-laid
returns-clause-laid c = λ m n image h size root first agree. (other_layout m n image h size root first agree).0

pub returns-clause-card : goal.returns-clause-card
returns-clause-card c = λ m n image h size root first agree. (other_layout m n image h size root first agree).1
