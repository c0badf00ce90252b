use Rattle.mc_blocks.proofs.Built.{same_card}
use Rattle.mc_blocks.proofs.laws.keeps_card.Goals as goal

pub returns-clause-laid : goal.returns-clause-laid
returns-clause-laid c = λ m n image h size same agree. (same_card m n image h size same agree).good

pub returns-clause-card : goal.returns-clause-card
returns-clause-card c = λ m n image h size same agree. (same_card m n image h size same agree).card
