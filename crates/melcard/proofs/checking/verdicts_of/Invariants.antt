use Rattle.melcard.proofs.CheckingLemmas.{VerdictsLead}
use Rattle.melcard.proofs.checking.verdicts_of.Given as goal

-- a text for the lines that are left, appended to the text up to here, is one for the deck
abbrev pub invariant-loop-i : goal.invariant-loop-i
invariant-loop-i l = VerdictsLead l.deck l.i l.text.items
