-- What is of bytes in a play: the applications of its card, the session and the open load of a running card.
use Rattle.std.specs.Prelude.{ℕ, List, [], ◌∷◌, Option, Some, None, ⊤}
use Rattle.std.specs.List.{AllByRecursion}
use Rattle.law_family.specs.model_device.specs.Bytes.{AreBytes}
use Rattle.law_family.specs.model_device.specs.Device.{IsImage}
use Rattle.law_family.specs.model_device.specs.PowerUp.{Base, OnCard, AtFault}
use Rattle.law_family.specs.model_card.specs.Manager.{Selected, Open, SessionState}
use Rattle.law_family.specs.model_play.specs.DeckGrammar.{DeckLine}
use Rattle.law_family.specs.model_play.specs.Play.{Live, Running, Unpowered, Muted, State, BeforePower, AfterPower, FailedWrite, Step, plays, start}
use Rattle.law_family.specs.model_play.specs.ReadyAgain.{IsLine}
use Rattle.law_bytes.specs.OfChains.{IsName, AreByteApps}

-- a selection, if there is one: a name, and session bytes that are bytes
abbrev pub IsSelection : Option Selected → Type 0
IsSelection None = ⊤
IsSelection (Some s) = IsName s.name × AreBytes s.session

-- an open load, if there is one, has received bytes
abbrev pub IsLoad : Option Open → Type 0
IsLoad None = ⊤
IsLoad (Some o) = AreBytes o.got.code × AreBytes o.got.init × AreBytes o.got.dir

-- the session state of a card
pub record IsByteSession (s : SessionState) : Type 0 where
  pub selected : IsSelection s.selected
  pub load : IsLoad s.load

-- a running card, or none
abbrev pub IsByteLive : Live → Type 0
IsByteLive (Running session_state) = IsByteSession session_state
IsByteLive Unpowered = ⊤
IsByteLive Muted = ⊤

-- a card of bytes
abbrev pub IsByteBase : Base → Live → Type 0
IsByteBase (OnCard c) v = AreByteApps c.apps × IsByteLive v
IsByteBase (AtFault cause p) v = ⊤

-- a state of bytes
abbrev pub IsByteState : State → Type 0
IsByteState (BeforePower m b a) = IsImage m
IsByteState (AfterPower s) = IsByteBase s.base s.live

-- each state of a play
abbrev pub AreByteStates : List Step → Type 0
AreByteStates [] = ⊤
AreByteStates (t ∷ ts) = IsByteState t.after × AreByteStates ts

-- Lines of bytes on an image of words of bytes play through states of bytes, whichever writes fail.
abbrev pub PlayBytesLaw : Type 0
PlayBytesLaw =
    (ls : List (ℕ × DeckLine)) (m : List (List ℕ)) (ws : List (Option FailedWrite)) → AllByRecursion (λ l. IsLine l.1) ls → IsImage m
    → AreByteStates (plays (start m) ls ws)
