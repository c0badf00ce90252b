-- The commands of a line, and those of a load that are still to be sent.
use Rattle.model_play.specs.DeckGrammar.{DeckLine}
use Rattle.model_play.specs.DeckGrammar as line
use Rattle.mc_unit.specs.Parts.{parts_of}
use Rattle.mc_script.specs.declared.commands.CardLine.{CardLine}
use Rattle.mc_script.specs.declared.commands.CardLine.TheVariants as command

-- the line of a deck that a command is
abbrev pub deck_line_of : CardLine → DeckLine
deck_line_of (command.Select aid) = line.Sent (line.Select aid.now)
deck_line_of (command.Delete aid) = line.Sent (line.Delete aid.now)
deck_line_of (command.Apdu bytes) = line.Sent (line.Apdu bytes.now)
deck_line_of (command.Load u fixed session) = line.Sent (line.Load (parts_of u.now) fixed session)
