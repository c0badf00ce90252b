-- The rule: what an outline says holds along every play, as long as no other application comes under its name.
use Rattle.std.specs.Prelude.{◌≡◌, ℕ, Bool, true, false, List, [], length, bytes_eq, Option, Some, None, ⊤}
use Rattle.model_events.specs.model_device.specs.Bytes.{lookup}
use Rattle.model_events.specs.model_device.specs.Card.{App}
use Rattle.model_events.specs.model_device.specs.PowerUp.{Base, OnCard, AtFault}
use Rattle.law_bytes.specs.model_card.specs.Manager.{Selected}
use Rattle.law_bytes.specs.model_play.specs.DeckGrammar.{DeckLine}
use Rattle.law_bytes.specs.model_play.specs.Play.{Live, Running, Unpowered, Muted, State, BeforePower, AfterPower, FailedWrite, Step, plays, start}
use Rattle.law_promise.specs.Along.{Along, OnAnswer, command_for}
use Rattle.law_promise.specs.Outline.{Outline}

-- an application has the code, the session bytes and the access list of another
pub record IsLike (app a : App) : Type 0 where
  pub code : a.code ≡ app.code
  pub session : a.session ≡ app.session
  pub deny : a.deny ≡ app.deny

-- what keeps, of the application where it is there
abbrev pub KeptIn : {E : Type 0} → Outline E → List E → Option App → Type 0
KeptIn o h None = ⊤
KeptIn o h (Some a) = IsLike o.app a × o.keeps h a.fixed

-- what holds of its session bytes, which are as many as it has; it is there
abbrev pub SessionKept : {E : Type 0} → Outline E → List E → Option App → List ℕ → Type 0
SessionKept o h None session = ⊥
SessionKept o h (Some a) session = o.holds h a.fixed session × (length session ≡ o.app.session)

-- of a selection, where it is the application
abbrev pub SessionIf : {E : Type 0} → Bool → Outline E → List E → Option App → List ℕ → Type 0
SessionIf true o h found session = SessionKept o h found session
SessionIf false o h found session = ⊤

-- of what is selected
abbrev pub SelectedKept : {E : Type 0} → Outline E → List E → List (List ℕ × App) → Option Selected → Type 0
SelectedKept o h m None = ⊤
SelectedKept o h m (Some s) = SessionIf (bytes_eq s.name o.watch.name) o h (lookup m o.watch.name) s.session

-- of a card that runs or not
abbrev pub LiveKept : {E : Type 0} → Outline E → List E → List (List ℕ × App) → Live → Type 0
LiveKept o h m (Running session_state) = SelectedKept o h m session_state.selected
LiveKept o h m Unpowered = ⊤
LiveKept o h m Muted = ⊤

-- of the card that the first power line found
abbrev pub BaseKept : {E : Type 0} → Outline E → List E → Base → Live → Type 0
BaseKept o h (OnCard c) v = KeptIn o h (lookup c.apps o.watch.name) × LiveKept o h c.apps v
BaseKept o h (AtFault cause p) v = ⊤

-- of a state of a play
abbrev pub StateKept : {E : Type 0} → Outline E → List E → State → Type 0
StateKept o h (BeforePower m b a) = ⊤
StateKept o h (AfterPower s) = BaseKept o h s.base s.live

-- what an outline says of a line: of the state after it, and of the answer to a command of the selected application
abbrev pub LineKept : {E : Type 0} → Outline E → List E → Step → List E → Type 0
LineKept o before t after = StateKept o after t.after × OnAnswer (λ a sw. o.answers a before after sw) (command_for o.watch.name t.before t.line) t.result

-- for every deck, every image and every list of failed writes, possible or not
abbrev pub IsKept : {E : Type 0} → Outline E → Type 0
IsKept o = (ls : List (ℕ × DeckLine)) (m : List (List ℕ)) (ws : List (Option FailedWrite)) → Along o.watch o.app (LineKept o) [] (plays (start m) ls ws)
