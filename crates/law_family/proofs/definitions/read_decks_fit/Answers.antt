use Rattle.law_family.proofs.DeckBytes.{read_lines_law, read_decks_law}
use Rattle.law_family.proofs.definitions.read_decks_fit.Goals as goal

pub returns-clause-lines : goal.returns-clause-lines
returns-clause-lines c = read_lines_law

pub returns-clause-plays : goal.returns-clause-plays
returns-clause-plays c = read_decks_law
