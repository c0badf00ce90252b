-- The verdicts on the load lines of a deck, computed by following all facts of short code.
use Rattle.std.specs.Prelude.{ℕ, List, [], ◌∷◌, flat_map, Option, Result, Ok, Err}
use Rattle.model_play.specs.declared.deck.DeckCause.{DeckCause}
use Rattle.model_play.specs.DeckGrammar.{DeckLine, Sent, Load, deck_read}
use Rattle.model_stack.specs.StackShape.{Main, fact, look}
use Rattle.model_examples.specs.Checked.{facts_in, calls_in, verdict_of}

-- the greatest depth of the stack of code that is accepted, if 120 rounds find all facts
unfoldable pub verdict : List ℕ → ℕ → Option ℕ
unfolding facts_in look
verdict code session =
    let fs = facts_in 120 code (fact Main 0 0 ∷ []) in
    verdict_of code session fs (calls_in code fs)

-- the verdict on a line, if it is a load line
abbrev pub line_verdict : ℕ × DeckLine → List (ℕ × Option ℕ)
unfolding verdict
line_verdict (n, Sent (Load u fixed session)) = (n, verdict u.code session) ∷ []
line_verdict (n, _) = []

-- the verdicts on the load lines of a deck
abbrev pub verdicts_of : Result (List (ℕ × DeckLine)) (ℕ × DeckCause) → List (ℕ × Option ℕ)
unfolding line_verdict
verdicts_of (Ok ls) = flat_map line_verdict ls
verdicts_of (Err e) = []

-- the number of each load line of a deck's text, with the greatest depth of the stack of its code if that is accepted
unfoldable pub verdicts : List ℕ → List (ℕ × Option ℕ)
unfolding deck_read verdicts_of
verdicts text = verdicts_of (deck_read text)
