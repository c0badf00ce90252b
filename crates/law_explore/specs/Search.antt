-- The search through all states, breadth first.
use Rattle.std.specs.Prelude.{ℕ, zero, suc, ◌+◌, Bool, true, false, nat_lt, List, [], ◌∷◌, ◌++◌, length, map, codes, decimal, Result, Ok, Err}
use Rattle.model_play.specs.model_text.specs.Text.{◌>>=◌}
use Rattle.model_play.specs.model_text.specs.Listing.{hex_text}
use Rattle.model_play.specs.model_device.specs.PowerUp.{Base, OnCard, AtFault}
use Rattle.model_play.specs.DeckGrammar.{DeckLine}
use Rattle.model_play.specs.DeckGrammar as line
use Rattle.model_play.specs.Play.{Armed, Unarmed, ArmedCut, ArmedFail, Live, Running, armed_stop_in, State}
use Rattle.law_explore.specs.Rules.{Move, OnRule, Rules, Exploration}
use Rattle.law_explore.specs.States.{CardState, warm_state, warm_in, first_play, is_known}
use Rattle.law_explore.specs.Tries.{Manner, Whole, CutAt, Try, tries_of, outcome, heard_after}

-- ---- one depth

-- a state that was found, and the tries that lead to it, the last first
pub record Node : Type 0 where
  pub state : CardState
  pub path : List Try

-- what tries came to so far: their number, and for each `on` line whether it applied to one of them
pub record Tally : Type 0 where
  pub tries : ℕ
  pub heard : List Bool

-- what no tries came to, by the `on` lines
abbrev pub no_tries : List OnRule → Tally
no_tries ons = record { tries = 0; heard = map (λ r. false) ons }

-- what tries came to, with one more from a state
abbrev pub tally_with : List OnRule → CardState → Try → Tally → Tally
tally_with ons c t a = record { tries = a.tries + 1; heard = heard_after ons c t a.heard }

-- what was found so far: all states, those of this depth in the order in which they were found, the number of states,
-- and what the tries came to
pub record Round : Type 0 where
  pub known : List CardState
  pub fresh : List Node
  pub count : ℕ
  pub tally : Tally

-- what ends a search within a depth: an allowance that is spent below zero, by these tries, the last first; or one
-- state too many
pub data Halt : Type 0 where
  RuleBroken : (name : List ℕ) (path : List Try) → Halt
  Full : Halt

-- a search that ended within a depth: why, the number of states, and what the tries came to
pub record HaltedRound : Type 0 where
  pub halt : Halt
  pub count : ℕ
  pub tally : Tally

-- one try more, from a state
abbrev pub with_try : List OnRule → CardState → Try → Round → Round
with_try ons c t r = record r { tally = tally_with ons c t r.tally }

-- a search that ends here
abbrev pub halt_of : Halt → Round → HaltedRound
halt_of h r = record { halt = h; count = r.count; tally = r.tally }

-- a new state, if there is room for one more
abbrev pub with_new : Bool → Node → Round → Result Round HaltedRound
with_new true n r = Ok (record r { known = n.state ∷ r.known; fresh = r.fresh ++ n ∷ []; count = r.count + 1 })
with_new false n r = Err (halt_of Full r)

-- a state that was reached, by whether it is known
abbrev pub with_reached : Bool → ℕ → Node → Round → Result Round HaltedRound
with_reached true limit n r = Ok r
with_reached false limit n r = with_new (nat_lt r.count limit) n r

-- a try by its outcome
abbrev pub after_outcome : Result CardState (List ℕ) → ℕ → List Try → Round → Result Round HaltedRound
after_outcome (Err name) limit path r = Err (halt_of (RuleBroken name path) r)
after_outcome (Ok c) limit path r = with_reached (is_known c r.known) limit (record { state = c; path = path }) r

-- the tries of a state, one after the other
unfoldable pub round_of_tries : ℕ → List OnRule → Node → List Try → Round → Result Round HaltedRound
unfolding outcome is_known heard_after
round_of_tries limit ons n [] r = Ok r
round_of_tries limit ons n (t ∷ ts) r = after_outcome (outcome ons n.state t) limit (t ∷ n.path) (with_try ons n.state t r) >>= λ q. round_of_tries limit ons n ts q

-- the states of a depth, one after the other
unfoldable pub round_of_states : ℕ → Rules → List Node → Round → Result Round HaltedRound
unfolding round_of_tries tries_of
round_of_states limit rules [] r = Ok r
round_of_states limit rules (n ∷ ns) r = round_of_tries limit rules.ons n (tries_of rules.moves n.state) r >>= λ q. round_of_states limit rules ns q

-- ---- all depths

-- how a search ends: no new state is left; the last depth still had new states; an allowance was spent below zero; or
-- there were too many states, at this depth
pub data Ending : Type 0 where
  All : Ending
  AtDepth : (depth : ℕ) → Ending
  Broken : (name : List ℕ) (path : List Try) → Ending
  TooMany : (depth : ℕ) → Ending

-- a search: the number of new states of each depth that is done, the number of states, what the tries came to, and how
-- it ends
pub record Search : Type 0 where
  pub news : List ℕ
  pub states : ℕ
  pub tally : Tally
  pub ending : Ending

-- a search that ends before another depth is done
abbrev pub search_end : Ending → ℕ → Tally → Search
search_end e states a = record { news = []; states = states; tally = a; ending = e }

-- how a depth ends a search
abbrev pub ending_of : Halt → ℕ → Ending
ending_of (RuleBroken name path) d = Broken name path
ending_of Full d = TooMany d

-- a search with one depth before it
abbrev pub with_depth : ℕ → Search → Search
with_depth n e = record e { news = n ∷ e.news }

-- after a depth that is done: it goes on from the new states, if there are some
abbrev pub after_depth : List Node → Round → (List Node → Round → Search) → Search
after_depth [] r again = with_depth 0 (search_end All r.count r.tally)
after_depth (n ∷ ns) r again = with_depth (length (n ∷ ns)) (again (n ∷ ns) r)

-- after a depth
abbrev pub after_round : Result Round HaltedRound → ℕ → (List Node → Round → Search) → Search
after_round (Err h) d again = search_end (ending_of h.halt d) h.count h.tally
after_round (Ok r) d again = after_depth r.fresh r again

-- n depths more after depth d, from the states of depth d
unfoldable pub search_on : ℕ → ℕ → ℕ → Rules → List Node → Round → Search
unfolding round_of_states
search_on zero d limit rules ns r = search_end (AtDepth d) r.count r.tally
search_on (suc n) d limit rules ns r =
    after_round (round_of_states limit rules ns (record r { fresh = [] })) (d + 1) (λ ms q. search_on n (d + 1) limit rules ms q)

-- the search of n depths from a state, with at most `limit` states
unfoldable pub search_from : ℕ → ℕ → Rules → CardState → Search
unfolding search_on
search_from n limit rules c =
    search_on n 0 limit rules (record { state = c; path = [] } ∷ []) (record { known = c ∷ []; fresh = []; count = 1; tally = no_tries rules.ons })

-- the most states of a search
abbrev pub most_states : ℕ
most_states = 1000000

-- the first state of a deck: the card after its last line, and its allowances
unfoldable pub first_state : Exploration → CardState
unfolding first_play
first_state x = warm_state (first_play x.lines) x.rules.allowances

-- ---- the lines that lead to a broken rule

-- a statement: its text, and the line of a deck that it is
abbrev pub Statement : Type 0
Statement = List ℕ × DeckLine

-- a power statement
abbrev pub power_statement : Statement
power_statement = (codes "power", line.Power)

-- a statement that arms a cut
abbrev pub cut_statement : ℕ → List ℕ → Statement
cut_statement k x = (codes "cut " ++ decimal k ++ codes " " ++ hex_text x, line.Cut k x)

-- a command too short to be one: a card answers it without a write, and a stop that is armed is dropped
abbrev pub idle_statement : Statement
idle_statement = (codes "apdu 00", line.Sent (line.Apdu (0 ∷ [])))

-- the statements of a move
abbrev pub move_statements : Manner → Move → List Statement
move_statements Whole m = (m.text, m.line) ∷ []
move_statements (CutAt k x) m = cut_statement k x ∷ (m.text, m.line) ∷ power_statement ∷ []

-- the statements of tries in order
abbrev pub path_statements : List Try → List Statement
path_statements [] = []
path_statements (t ∷ ts) = move_statements t.manner t.move ++ path_statements ts

-- whether a move arms a cut
abbrev pub is_cut : Manner → Bool
is_cut Whole = false
is_cut (CutAt k x) = true

-- whether the first of some tries does
abbrev pub begins_cut : List Try → Bool
begins_cut [] = false
begins_cut (t ∷ ts) = is_cut t.manner

-- the statement that drops a stop, if one is armed
abbrev pub drop_statements : Armed → List Statement
drop_statements Unarmed = []
drop_statements (ArmedCut k x) = idle_statement ∷ []
drop_statements (ArmedFail k) = idle_statement ∷ []

-- the statements that lead from the end of a deck to the first state, by whether a cut takes the place of an armed stop
-- next
abbrev pub lead_statements : Live → Base → Armed → Bool → List Statement
lead_statements (Running session_state) b a true = []
lead_statements (Running session_state) b a false = drop_statements a
lead_statements v (OnCard c) a cut = drop_statements a ++ power_statement ∷ []
lead_statements v (AtFault cause place) a cut = drop_statements a

-- the statements that lead from the end of a deck through tries: appended to the deck, they play to the last of them
unfoldable pub statements_to : State → List Try → List Statement
statements_to s ts = lead_statements (warm_in s).live (warm_in s).base (armed_stop_in s) (begins_cut ts) ++ path_statements ts

-- ---- of a deck

-- the search of n depths of a deck with its rules, with at most `limit` states
unfoldable pub search_of : ℕ → ℕ → Exploration → Search
unfolding search_from first_state
search_of limit n x = search_from n limit x.rules (first_state x)
