-- Rules that are kept in every play are broken in no exploration of a deck that brings only their application: the
-- premise as a test, and the laws.
use Rattle.std.specs.Prelude.{◌≡◌, ◌≢◌, ℕ, zero, suc, Bool, true, false, not, ◌&&◌, ◌==◌, List, [], ◌∷◌, is_none, Option, Some, None, Result, Ok, Err}
use Rattle.law_histories.specs.model_device.specs.Bytes.{lookup}
use Rattle.law_histories.specs.model_card.specs.Manager.{Route, WrongLength, WrongClass, ToSelect, ToManager, ToApplication, route}
use Rattle.law_histories.specs.model_play.specs.DeckGrammar.{DeckLine}
use Rattle.law_histories.specs.model_play.specs.DeckGrammar as line
use Rattle.law_histories.specs.model_play.specs.Given.{apps_in}
use Rattle.law_histories.specs.model_play.specs.Play.{State, BeforePower, AfterPower, play_at_power}
use Rattle.law_histories.specs.law_promise.specs.Computed.{creates_only, all_bring_only}
use Rattle.law_histories.specs.law_promise.specs.History.{command_in}
use Rattle.law_histories.specs.law_explore.specs.Rules.{Move}
use Rattle.law_histories.specs.law_explore.specs.States.{CardState, play_of, warm_state, play_of_deck, first_play}
use Rattle.law_histories.specs.law_explore.specs.Tries.{Try, tries_of, step_of}
use Rattle.law_histories.specs.law_explore.specs.Search.{Broken}
use Rattle.law_histories.specs.model_rules.specs.Rules.{Target}
use Rattle.law_histories.specs.model_rules.specs.Keeping.{Standing}
use Rattle.law_histories.specs.law_rules.specs.Law.{AreKept}
use Rattle.law_histories.specs.Histories.{AppExploration, app_exploration_read, deck_steps, first_standing_of}
use Rattle.law_histories.specs.Searches.{Node, Round, Halt, round_of_states, first_round, app_search}

-- ---- decks

-- whether a deck that has no power line leaves a card without the name
abbrev pub leaves_none : List ℕ → State → Bool
leaves_none n (BeforePower m b a) = is_none (lookup (apps_in (AfterPower (play_at_power m b a))) n)
leaves_none n (AfterPower s) = true

-- Whether a deck brings only the application of its rules under its name, as it is played on a blank device: each line
-- creates no other, and the card that the first power line finds has none of the name.
unfoldable pub deck_brings : AppExploration → Bool
unfolding deck_steps play_of_deck play_at_power
deck_brings x = all_bring_only x.target.name x.target.app (deck_steps x.lines) && leaves_none x.target.name (play_of_deck x.lines)

-- ---- tries

-- whether a try creates no other application under the name
abbrev pub try_brings : Target → CardState → Try → Bool
try_brings g c t = creates_only g.name g.app (step_of (play_of c) t.move t.manner).whole

-- whether each of some tries of a state does not
abbrev pub tries_bring : Target → CardState → List Try → Bool
tries_bring g c [] = true
tries_bring g c (t ∷ ts) = try_brings g c t && tries_bring g c ts

-- whether each try of some states does not
abbrev pub nodes_bring : AppExploration → List Node → Bool
nodes_bring x [] = true
nodes_bring x (n ∷ ns) = tries_bring x.target n.state (tries_of x.moves n.state) && nodes_bring x ns

-- after a depth: of the new states
abbrev pub after_brings : Result Round Halt → (List Node → Round → Bool) → Bool
after_brings (Err h) again = true
after_brings (Ok q) again = again q.fresh q

-- whether each try of n depths of a search does not, from the states of one
unfoldable pub depths_bring : ℕ → ℕ → AppExploration → List Node → Round → Bool
unfolding round_of_states tries_of
depths_bring zero limit x ns q = true
depths_bring (suc n) limit x ns q = nodes_bring x ns && after_brings (round_of_states limit x ns (record q { fresh = [] })) (λ ms p. depths_bring n limit x ms p)

-- of a search from where the exploration begins
abbrev pub search_brings : ℕ → ℕ → AppExploration → Result Standing (List ℕ) → Bool
search_brings limit n x (Err name) = true
search_brings limit n x (Ok s) =
    let c = warm_state (first_play x.lines) s.allowances in
    depths_bring n limit x (record { state = c; standing = s; path = [] } ∷ []) (first_round x c)

-- Whether an exploration brings only the application of its rules: the deck does, and each try of the search.
unfoldable pub exploration_brings : ℕ → ℕ → AppExploration → Bool
unfolding deck_brings first_standing_of first_play depths_bring
exploration_brings limit n x = deck_brings x && search_brings limit n x (first_standing_of x)

-- ---- moves

-- whether a command is a CREATE
abbrev pub is_creation : Route → Bool
is_creation (ToManager a) = a.ins == 0x16
is_creation WrongLength = false
is_creation WrongClass = false
is_creation (ToSelect a) = false
is_creation (ToApplication a) = false

-- whether the command of a line, if it has one, is a CREATE
abbrev pub creates_by : Option (List ℕ) → Bool
creates_by None = false
creates_by (Some b) = is_creation (route b)

-- whether a line may create an application: a load may, and a CREATE
abbrev pub may_create : DeckLine → Bool
may_create (line.Sent (line.Load u fixed session)) = true
may_create (line.Sent (line.Select n)) = creates_by (command_in (line.Sent (line.Select n)))
may_create (line.Sent (line.Delete n)) = creates_by (command_in (line.Sent (line.Delete n)))
may_create (line.Sent (line.Apdu b)) = creates_by (command_in (line.Sent (line.Apdu b)))
may_create _ = false

-- whether none of some moves may
abbrev pub none_creates : List Move → Bool
none_creates [] = true
none_creates (m ∷ ms) = not (may_create m.line) && none_creates ms

-- Whether a deck brings only the application of its rules, and no move of its exploration may create one.
unfoldable pub brings_only_target : AppExploration → Bool
unfolding deck_brings
brings_only_target x = deck_brings x && none_creates x.moves

-- ---- what is proved

-- Rules that are kept in every play are broken in no exploration of a deck that they stand in and that brings only their
-- application, whatever the depth and the greatest number of states.
abbrev pub ExplorationLaw : Type 0
ExplorationLaw =
    (limit n : ℕ) (text : List ℕ) (x : AppExploration) → app_exploration_read text ≡ Ok x → AreKept x.rules → exploration_brings limit n x ≡ true
    → (name : List ℕ) (path : List Try) → (app_search limit n x).ending ≢ Broken name path

-- For this it is enough that the deck does, and that no move may create an application: then it is so of every depth.
abbrev pub OnlyTargetLaw : Type 0
OnlyTargetLaw =
    (limit n : ℕ) (text : List ℕ) (x : AppExploration) → app_exploration_read text ≡ Ok x → AreKept x.rules → brings_only_target x ≡ true
    → (name : List ℕ) (path : List Try) → (app_search limit n x).ending ≢ Broken name path
