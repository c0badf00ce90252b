-- What the purse promises follows from its outline.
use Rattle.std.proofs.Common.{ℕ, List, []}
use Rattle.law_promise.specs.model_play.specs.Play.{Step, plays, start}
use Rattle.law_promise.specs.Kept.{LineKept}
use Rattle.law_promise.proofs.OutlineDomain.{kept_along, kept_from}
use Rattle.law_promise.proofs.FromOutline.{along_as, along_from, fixed_from}
use Rattle.example_purse.specs.Purse.{Event, purse_watch, purse_app}
use Rattle.example_purse.specs.Laws.{Begins, InEveryPlayFrom, KeepsGuesses, KeepsBooks, KeepsSessions, InEveryPlay, SaysGuesses, SaysBooks, SaysSessions, GuessesLaw, BooksLaw, SessionsLaw}
use Rattle.example_purse.proofs.Places.{purse_outline, PurseKept}
use Rattle.example_purse.proofs.PurseOutline.{purse_shown}

-- what follows of each line
from_outline : (says : List Event → Step → List Event → Type 0) → ((h : List Event) (t : Step) (k : List Event) → LineKept purse_outline h t k → says h t k) → InEveryPlay says
from_outline says f ls m ws =
    along_from purse_watch purse_app (LineKept purse_outline) says f [] (plays (start m) ls ws) (kept_along purse_outline purse_shown ls m ws)

guesses : (h : List Event) (t : Step) (k : List Event) → LineKept purse_outline h t k → SaysGuesses h t k
guesses h t k x = fixed_from purse_outline k (KeepsGuesses k) t.after (λ fixed kept. record { few = kept.few; left = kept.left; costs = kept.costs; tries = kept.tries; pin = kept.pin }) x.0

books : (h : List Event) (t : Step) (k : List Event) → LineKept purse_outline h t k → SaysBooks h t k
books h t k x = (fixed_from purse_outline k (KeepsBooks k) t.after (λ fixed kept. record { balance = kept.balance; number = kept.number; ordered = kept.ordered }) x.0, x.1)

sessions : (h : List Event) (t : Step) (k : List Event) → LineKept purse_outline h t k → SaysSessions h t k
sessions h t k x = fixed_from purse_outline k (λ fixed. KeepsSessions k) t.after (λ fixed kept. kept.sessions) x.0

-- no more than three wrong PINs are compared in a row
pub guesses_law : GuessesLaw
guesses_law = from_outline SaysGuesses guesses

-- each debit lowers the balance and raises the number as one
pub books_law : BooksLaw
books_law = from_outline SaysBooks books

-- each durable debit was made in a session in which the PIN was shown
pub sessions_law : SessionsLaw
sessions_law = from_outline SaysSessions sessions

-- ---- from a history

begun : (h : List Event) (fixed : List ℕ) → Begins h fixed → PurseKept h fixed
begun h fixed b =
    record {
      size = b.size;
      few = b.guesses.few;
      left = b.guesses.left;
      costs = b.guesses.costs;
      tries = b.guesses.tries;
      pin = b.guesses.pin;
      balance = b.books.balance;
      number = b.books.number;
      ordered = b.books.ordered;
      sessions = b.sessions;
    }

from_history : (says : List Event → Step → List Event → Type 0) → ((h : List Event) (t : Step) (k : List Event) → LineKept purse_outline h t k → says h t k) → InEveryPlayFrom says
from_history says f h ls m ws =
    along_as purse_watch purse_app PurseKept Begins (LineKept purse_outline) says begun f h (plays (start m) ls ws) (kept_from purse_outline purse_shown h ls m ws)

-- the bound of wrong PINs holds from a history that the static bytes begin with
pub guesses_go_on : InEveryPlayFrom SaysGuesses
guesses_go_on = from_history SaysGuesses guesses

-- the books are kept from such a history
pub books_go_on : InEveryPlayFrom SaysBooks
books_go_on = from_history SaysBooks books

-- debits need a shown PIN from such a history
pub sessions_go_on : InEveryPlayFrom SaysSessions
sessions_go_on = from_history SaysSessions sessions
