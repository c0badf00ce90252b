-- The turns of a play, each with its chain.
use Rattle.std.specs.Prelude.{ℕ, zero, suc, Bool, true, false, List, [], ◌∷◌, ◌++◌, map, Option, Some, None}
use Rattle.law_family.specs.model_machine.specs.Apdu.{ApduParts}
use Rattle.law_family.specs.model_device.specs.Card.{App, Card}
use Rattle.law_family.specs.model_machine.specs.Chain.{Chain, Turn, Follows, Continues, Ends, turn_of, start as begun}
use Rattle.law_family.specs.model_card.specs.Items.{card_done}
use Rattle.law_family.specs.model_card.specs.Manager.{Selected, SessionState, Route, WrongLength, WrongClass, ToSelect, ToManager, ToApplication, route}
use Rattle.law_family.specs.model_play.specs.Play.{Live, Running, Unpowered, Muted, State, BeforePower, AfterPower, Step, is_done}
use Rattle.law_family.specs.model_device.specs.PowerUp.{Base, OnCard, AtFault}
use Rattle.law_family.specs.model_card.specs.Commands.{command}
use Rattle.law_family.specs.model_play.specs.Laws.{bytes_of}

-- the turns of the chain that goes on, if one does
abbrev pub turns_on : Follows → (Chain → List (Chain × Turn)) → List (Chain × Turn)
turns_on (Continues ch) rest = rest ch
turns_on (Ends o) rest = []

-- the turns of a chain with the given budget
unfoldable pub turns_from : ℕ → Chain → List (Chain × Turn)
turns_from zero ch = (ch, (turn_of zero ch).turn) ∷ []
turns_from (suc n) ch = (ch, (turn_of (suc n) ch).turn) ∷ turns_on (turn_of (suc n) ch).follows (λ c. turns_from n c)

-- the turns of a command that is passed to the selected application
abbrev pub turns_passed : List (List ℕ × App) → ℕ → Option Selected → ApduParts → List (Chain × Turn)
turns_passed map budget None a = []
turns_passed map budget (Some s) a = turns_from budget (begun map s.name s.session a)

-- the turns of a command by its route
abbrev pub turns_routed : List (List ℕ × App) → SessionState → ℕ → Route → List (Chain × Turn)
turns_routed map session_state budget (ToApplication a) = turns_passed map budget session_state.selected a
turns_routed map session_state budget WrongLength = []
turns_routed map session_state budget WrongClass = []
turns_routed map session_state budget (ToSelect a) = []
turns_routed map session_state budget (ToManager a) = []

-- the turns after a command, if it was answered by 9000 alone
abbrev pub turns_behind : Bool → List (Chain × Turn) → List (Chain × Turn)
turns_behind true later = later
turns_behind false later = []

-- the turns of commands in order, up to the first that is not answered by 9000 alone
abbrev pub turns_sent : Card → SessionState → ℕ → List (List ℕ) → List (Chain × Turn)
turns_sent c session_state budget [] = []
turns_sent c session_state budget (b ∷ bs) =
    let r = command c session_state b budget in
    turns_routed c.apps session_state budget (route b) ++ turns_behind (is_done r.outcome) (turns_sent (card_done c r.items) r.session_state budget bs)

-- the turns of the commands that a running card takes
abbrev pub turns_taken : Live → Base → ℕ → List (List ℕ) → List (Chain × Turn)
turns_taken (Running session_state) (OnCard c) budget bs = turns_sent c session_state budget bs
turns_taken (Running session_state) (AtFault cause p) budget bs = []
turns_taken Unpowered base budget bs = []
turns_taken Muted base budget bs = []

-- the turns of the commands of a line in a state
abbrev pub turns_in : State → List (List ℕ) → List (Chain × Turn)
turns_in (BeforePower m b a) bs = []
turns_in (AfterPower s) bs = turns_taken s.live s.base s.budget bs

-- the turns of a line that was played
abbrev pub turns_with : Step → List (Chain × Turn)
turns_with t = turns_in t.before (bytes_of t.line)

-- turns without their chains
abbrev pub bare : List (Chain × Turn) → List Turn
bare ts = map (λ t. t.1) ts
