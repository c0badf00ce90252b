-- What watchers record of the turns of a command: what each of them sees of a turn, from the chain before it.
use Rattle.std.specs.Prelude.{◌≤◌, ℕ, zero, suc, List, [], ◌∷◌, length, take, Option, Some, None, Result, Ok, Err}
use Rattle.std.specs.List.{AllByRecursion}
use Rattle.model_play.specs.model_device.specs.declared.device.Stop.{Stop}
use Rattle.model_play.specs.model_device.specs.Card.{Card}
use Rattle.model_play.specs.model_machine.specs.Apdu.{ApduParts}
use Rattle.model_play.specs.model_machine.specs.Chain.{Chain, Follows, Continues, Ends, Turn, start, turn_of, turn_of_chain}
use Rattle.model_play.specs.model_card.specs.Manager.{Selected, SessionState, Route, ToApplication, route}
use Rattle.mc_machine.specs.declared.outcome.Turn.{Turn as CodeTurn}
use Rattle.mc_script.specs.Runs.{SentCommand}

-- each frame of a chain has its 512 dynamic bytes, and the chain its 1,041 public ones
pub record IsWide (ch : Chain) : Type 0 where
  pub frames : AllByRecursion (λ f. 512 ≤ length f.dyn) (ch.frame ∷ ch.below)
  pub public : 1041 ≤ length ch.public

-- the turn alone of a chain with this much of the budget left
abbrev pub turn_alone : ℕ → Chain → Turn
turn_alone n ch = (turn_of n ch).turn

-- ---- what is seen of a command

module _ {X : Type 0} (seen : ℕ → Chain → X) where
  -- what is seen of a turn, and of the rest where the chain goes on
  abbrev pub seen_on : X → Follows → (Chain → List X) → List X
  seen_on x (Ends o) rest = x ∷ []
  seen_on x (Continues ch) rest = x ∷ rest ch

  -- what is seen of the turns of a chain with this budget
  unfoldable pub seen_of_run : ℕ → Chain → List X
  unfolding turn_of_chain
  seen_of_run zero ch = seen zero ch ∷ []
  seen_of_run (suc n) ch = seen_on (seen (suc n) ch) (turn_of_chain ch).follows (λ c. seen_of_run n c)

  -- what is seen of a command for the selected application
  abbrev pub seen_of_application : Card → Option Selected → ApduParts → ℕ → List X
  seen_of_application c None a budget = []
  seen_of_application c (Some s) a budget = seen_of_run budget (start c.apps s.name s.session a)

  -- what is seen of a command by its route
  abbrev pub seen_of_route : Card → SessionState → ℕ → Route → List X
  seen_of_route c session_state budget (ToApplication a) = seen_of_application c session_state.selected a budget
  seen_of_route c session_state budget _ = []

  -- what is seen of a command that is sent to a card, if no stop hits it
  abbrev pub seen_of : SentCommand → List X
  seen_of s = seen_of_route s.card s.session_state s.budget (route s.bytes)

  -- ---- what is recorded of it

  module _ {W : Type 0} (watched : W → List X → W → Type 0) where
    -- of some turns a watcher recorded as many of these
    abbrev pub Records : List X → W → List Turn → W → Type 0
    Records all q ts r = watched q (take (length ts) all) r

    -- a watcher as a runner: of some turns of a command it recorded what is seen of them
    abbrev pub Watches : SentCommand → W → List Turn → W → Type 0
    Watches s = Records (seen_of s)

    -- a watcher recorded what is seen of a turn of a chain, and nothing of one whose write stopped
    abbrev pub WatchesTurn : ℕ → Chain → Result CodeTurn Stop → W → W → Type 0
    WatchesTurn n ch (Ok t) q r = watched q (seen n ch ∷ []) r
    WatchesTurn n ch (Err s) q r = watched q [] r
