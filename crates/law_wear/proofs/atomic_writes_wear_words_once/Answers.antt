use Rattle.law_wear.proofs.AtomicWear.{atomic_wear_law}
use Rattle.law_wear.proofs.atomic_writes_wear_words_once.Goals as goal

pub returns : goal.returns
returns c = record { once = atomic_wear_law }
