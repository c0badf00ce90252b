-- What the counter promises follows from its outline.
use Rattle.std.proofs.Common.{ℕ, List, []}
use Rattle.law_bytes.specs.model_play.specs.Play.{Step, plays, start}
use Rattle.law_promise.specs.Along.{OnFixed, OnAnswer, command_for}
use Rattle.law_promise.specs.Kept.{LineKept}
use Rattle.law_promise.specs.Counter.{BeginsCount, CounterFromLaw, CounterLaw, KeepsCount, counter_name, counter_watch, counter_app, AnswersCount}
use Rattle.law_promise.proofs.OutlineDomain.{kept_along, kept_from}
use Rattle.law_promise.proofs.FromOutline.{along_as, along_from, fixed_from}
use Rattle.law_promise.proofs.CounterOutline.{CountKept, counter_outline, counter_shown}

counts : (h fixed : List ℕ) → CountKept h fixed → KeepsCount h fixed
counts h fixed k = record { holds = k.holds; rises = k.rises }

line : (h : List ℕ) (t : Step) (k : List ℕ) → LineKept counter_outline h t k
    → OnFixed counter_name (KeepsCount k) t.after × OnAnswer (AnswersCount h k) (command_for counter_name t.before t.line) t.result
line h t k x = (fixed_from counter_outline k (KeepsCount k) t.after (λ fixed kept. counts k fixed kept) x.0, x.1)

-- the counter keeps its promise in every play from a card without it
pub counter_law : CounterLaw
counter_law ls m ws =
    along_from counter_watch counter_app (LineKept counter_outline) _ line [] (plays (start m) ls ws) (kept_along counter_outline counter_shown ls m ws)

-- bytes that begin with a history
begun : (h fixed : List ℕ) → BeginsCount h fixed → CountKept h fixed
begun h fixed b = record { size = b.size; holds = b.keeps.holds; small = b.small; rises = b.keeps.rises }

-- the counter keeps its promise from a history that the counter on the first card begins with
pub counter_from_law : CounterFromLaw
counter_from_law h ls m ws =
    along_as counter_watch counter_app CountKept BeginsCount (LineKept counter_outline) _ begun line h (plays (start m) ls ws) (kept_from counter_outline counter_shown h ls m ws)
