-- The rule on a card that may already hold the application when power first comes: with a history that the static bytes
-- begin with, what is said goes on from there.
use Rattle.std.specs.Prelude.{◌⊎◌, ℕ, List, [], ◌∷◌, Option, Some, None, ⊤}
use Rattle.std.specs.List.{AllByRecursion}
use Rattle.model_events.specs.model_device.specs.Bytes.{lookup}
use Rattle.model_events.specs.model_device.specs.Device.{IsImage}
use Rattle.model_events.specs.model_device.specs.Card.{App}
use Rattle.law_bytes.specs.model_play.specs.DeckGrammar.{DeckLine}
use Rattle.law_bytes.specs.model_play.specs.DeckGrammar as line
use Rattle.law_bytes.specs.model_play.specs.Given.{apps_in}
use Rattle.law_bytes.specs.model_play.specs.Play.{State, BeforePower, AfterPower, FailedWrite, Step, plays, start}
use Rattle.law_bytes.specs.model_play.specs.ReadyAgain.{IsLine}
use Rattle.model_events.specs.Deeds.{Watch}
use Rattle.law_promise.specs.History.{after_step}
use Rattle.law_promise.specs.Along.{stopped_step, CreatesOnly, OnAnswer, command_for}
use Rattle.law_promise.specs.Outline.{Outline}
use Rattle.law_promise.specs.Kept.{IsLike, LineKept}
use Rattle.law_promise.specs.Domain.{Domain, BaseCovered, IdleCovered, StopsAtWrite}

-- ---- outlines

-- an application, if one is there, is like this one, and its static bytes are as `begins` says after this history
abbrev pub BeginsIn : {E : Type 0} → App → (List E → List ℕ → Type 0) → List E → Option App → Type 0
BeginsIn app begins h None = ⊤
BeginsIn app begins h (Some a) = IsLike app a × begins h a.fixed

-- the card that the first power line finds has none of the name, or such an application
abbrev pub FindsFrom : {E : Type 0} → Watch E → App → (List E → List ℕ → Type 0) → List E → State → DeckLine → State → Type 0
FindsFrom w app begins h (BeforePower m b a) line.Power after = BeginsIn app begins h (lookup (apps_in after) w.name)
FindsFrom w app begins h (BeforePower m b a) _ after = ⊤
FindsFrom w app begins h (AfterPower s) l after = ⊤

-- a line brings no other application under the name onto the card, and finds none that begins otherwise
pub record BringsFrom {E : Type 0} (w : Watch E) (app : App) (begins : List E → List ℕ → Type 0) (h : List E) (t : Step) : Type 0 where
  pub creates : CreatesOnly w.name app t.whole
  pub finds : FindsFrom w app begins h t.before t.line t.after

-- After each line of a play, and after each device write at which it could be stopped, as long as no other application
-- came under the name: `says` holds of the history before the line, of the line, and of the history after it. The first
-- card may hold the application, with static bytes that begin with this history.
abbrev pub AlongFrom : {E : Type 0} → Watch E → App → (List E → List ℕ → Type 0) → (List E → Step → List E → Type 0) → List E → List Step → Type 0
AlongFrom w app begins says h [] = ⊤
AlongFrom w app begins says h (t ∷ ts) =
    (BringsFrom w app begins h t → says h t (after_step w t h) × AlongFrom w app begins says (after_step w t h) ts)
    × ((c : FailedWrite) → BringsFrom w app begins h (stopped_step t c) → says h (stopped_step t c) (after_step w (stopped_step t c) h))

-- what an outline says, for every history, every deck, every image and every list of failed writes, possible or not
abbrev pub IsKeptFrom : {E : Type 0} → Outline E → Type 0
IsKeptFrom {E} o = (h : List E) (ls : List (ℕ × DeckLine)) (m : List (List ℕ)) (ws : List (Option FailedWrite)) → AlongFrom o.watch o.app o.keeps (LineKept o) h (plays (start m) ls ws)

-- ---- domains

-- the card that the first power line finds is one that the domain covers after this history, with no selection
abbrev pub FindsCovered : {E : Type 0} → Domain E → List E → State → DeckLine → State → Type 0
FindsCovered o h (BeforePower m b a) line.Power after = IdleCovered o h (lookup (apps_in after) o.watch.name)
FindsCovered o h (BeforePower m b a) _ after = ⊤
FindsCovered o h (AfterPower s) l after = ⊤

-- a line brings no other application under the name, and finds nothing that the domain does not cover
pub record BringsCovered {E : Type 0} (o : Domain E) (h : List E) (t : Step) : Type 0 where
  pub creates : CreatesOnly o.watch.name o.app t.whole
  pub finds : FindsCovered o h t.before t.line t.after

-- what a domain covers of a state; before the first power line nothing is said
abbrev pub StateFound : {E : Type 0} → Domain E → List E → State → Type 0
StateFound o h (BeforePower m b a) = ⊤
StateFound o h (AfterPower s) = BaseCovered o h s.base s.live

-- of a line: the state after it, and the answer to a command of the selected application
abbrev pub LineFound : {E : Type 0} → Domain E → List E → Step → List E → Type 0
LineFound o before t after = StateFound o after t.after × OnAnswer (λ a sw. o.answers a before after sw) (command_for o.watch.name t.before t.line) t.result

-- along a play, as long as stops come at device writes, or at all if the domain covers stops anywhere
abbrev pub AlongFound : {E : Type 0} → Domain E → List E → List Step → Type 0
AlongFound o h [] = ⊤
AlongFound o h (t ∷ ts) =
    (BringsCovered o h t → o.anywhere ⊎ StopsAtWrite t → LineFound o h t (after_step o.watch t h) × AlongFound o (after_step o.watch t h) ts)
    × ((c : FailedWrite) → BringsCovered o h (stopped_step t c) → o.anywhere ⊎ StopsAtWrite (stopped_step t c) → LineFound o h (stopped_step t c) (after_step o.watch (stopped_step t c) h))

-- for every history, every deck, every image and every list of failed writes; of lines and words of bytes if the domain
-- is of bytes
abbrev pub IsCoveredFrom : {E : Type 0} → Domain E → Type 0
IsCoveredFrom {E} o =
    (h : List E) (ls : List (ℕ × DeckLine)) (m : List (List ℕ)) (ws : List (Option FailedWrite)) → (o.of_bytes → AllByRecursion (λ l. IsLine l.1) ls) → (o.of_bytes → IsImage m)
    → AlongFound o h (plays (start m) ls ws)
