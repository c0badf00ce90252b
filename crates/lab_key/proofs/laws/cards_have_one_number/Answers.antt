use Rattle.lab_key.proofs.Entries.{one_card_number}
use Rattle.lab_key.proofs.laws.cards_have_one_number.Goals as goal

pub returns : goal.returns
returns c = one_card_number
