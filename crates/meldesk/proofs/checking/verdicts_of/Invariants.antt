use Rattle.desk_draft.specs.Listings.{Desk}
use Rattle.desk_draft.specs.Loads.{AreLoads}
use Rattle.meldesk.proofs.CheckLemmas.{VerdictsLead}
use Rattle.meldesk.proofs.checking.verdicts_of.Given as goal

-- the verdicts so far lead to those on the deck
abbrev pub invariant-loop-i : goal.invariant-loop-i
invariant-loop-i l = (d : Desk) → AreLoads l.loads d.deck d.sources → VerdictsLead d l.deck l.i l.made.passes l.made.text.items
