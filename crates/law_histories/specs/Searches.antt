-- The search through all states of a card with what the rules of one application count, breadth first, and its text.
use Rattle.std.specs.Prelude.{ℕ, zero, suc, ◌+◌, Bool, true, false, nat_lt, List, [], ◌∷◌, ◌++◌, length, reverse, codes, decimal, Result, Ok, Err}
use Rattle.law_explore_text.specs.model_text.specs.Text.{◌>>=◌, ok_as}
use Rattle.law_explore_text.specs.model_play.specs.Play.{State}
use Rattle.law_explore_text.specs.law_explore.specs.States.{CardState, play_of, play_of_deck, first_play, warm_state, state_in, is_known}
use Rattle.law_explore_text.specs.law_explore.specs.Tries.{Try, step_of, recovery, tries_of}
use Rattle.law_explore_text.specs.law_explore.specs.Search.{Ending, All, AtDepth, TooMany, Broken, Statement, statements_to, most_states}
use Rattle.law_explore_text.specs.Report.{depth_lines, broken_text, silent_lines, sums_text}
use Rattle.law_rules.specs.model_rules.specs.Rules.{AppRules, Target}
use Rattle.law_rules.specs.model_rules.specs.Keeping.{Standing}
use Rattle.law_histories.specs.Histories.{AppExploration, first_standing_of, standing_after_steps, steps_of_try, events_of, heard_lines, heard_too}

-- A state that was found: a card with the amounts of the allowances; what stands there, with the sums, which are in no
-- state; and the tries that lead to it, the last first.
pub record Node : Type 0 where
  pub state : CardState
  pub standing : Standing
  pub path : List Try

-- what was found so far: all states, those of this depth in the order in which they were found, the number of states, the
-- number of tries, and for each `on` line whether it applied
pub record Round : Type 0 where
  pub known : List CardState
  pub fresh : List Node
  pub count : ℕ
  pub tries : ℕ
  pub heard : List (ℕ × Bool)

-- a search: the number of new states of each depth that is done, what was found, and how it ends
pub record Search : Type 0 where
  pub news : List ℕ
  pub found : Round
  pub ending : Ending

-- what ends a search within a depth, and what was found
pub data Halt : Type 0 where
  RuleBroken : (name : List ℕ) (path : List Try) (found : Round) → Halt
  Full : (found : Round) → Halt

-- the state after a try, with what stands there, or the name of what is broken
unfoldable pub outcome : AppRules → Target → Node → Try → Result (CardState × Standing) (List ℕ)
unfolding standing_after_steps
outcome r g n t =
    let s = step_of (play_of n.state) t.move t.manner in
    ok_as (λ u. (state_in (recovery t.move.number t.manner s.after) u.allowances, u)) (standing_after_steps r g (steps_of_try (play_of n.state) t.move t.manner) n.standing)

-- one try more
abbrev pub with_try : AppRules → Target → Node → Try → Round → Round
with_try r g n t q =
    record q { tries = q.tries + 1; heard = heard_too q.heard (heard_lines r (events_of g (steps_of_try (play_of n.state) t.move t.manner))) }

-- a new state, if there is room for one more
abbrev pub with_new : Bool → Node → Round → Result Round Halt
with_new true n q = Ok (record q { known = n.state ∷ q.known; fresh = q.fresh ++ n ∷ []; count = q.count + 1 })
with_new false n q = Err (Full q)

-- a state that was reached, by whether it is known
abbrev pub with_reached : Bool → ℕ → Node → Round → Result Round Halt
with_reached true limit n q = Ok q
with_reached false limit n q = with_new (nat_lt q.count limit) n q

-- a try by its outcome
abbrev pub after_outcome : Result (CardState × Standing) (List ℕ) → ℕ → List Try → Round → Result Round Halt
after_outcome (Err name) limit path q = Err (RuleBroken name path q)
after_outcome (Ok c) limit path q = with_reached (is_known c.0 q.known) limit (record { state = c.0; standing = c.1; path = path }) q

-- the tries of a state, one after the other
unfoldable pub round_of_tries : ℕ → AppRules → Target → Node → List Try → Round → Result Round Halt
unfolding outcome is_known
round_of_tries limit r g n [] q = Ok q
round_of_tries limit r g n (t ∷ ts) q = after_outcome (outcome r g n t) limit (t ∷ n.path) (with_try r g n t q) >>= λ p. round_of_tries limit r g n ts p

-- the states of a depth, one after the other
unfoldable pub round_of_states : ℕ → AppExploration → List Node → Round → Result Round Halt
unfolding round_of_tries tries_of
round_of_states limit x [] q = Ok q
round_of_states limit x (n ∷ ns) q = round_of_tries limit x.rules x.target n (tries_of x.moves n.state) q >>= λ p. round_of_states limit x ns p

-- a search that ends here
abbrev pub search_end : Ending → Round → Search
search_end e q = record { news = []; found = q; ending = e }

-- a search with one depth before it
abbrev pub with_depth : ℕ → Search → Search
with_depth n e = record e { news = n ∷ e.news }

-- how a depth ends a search
abbrev pub halted : Halt → ℕ → Search
halted (RuleBroken name path q) d = search_end (Broken name path) q
halted (Full q) d = search_end (TooMany d) q

-- after a depth that is done: it goes on from the new states, if there are some
abbrev pub after_depth : List Node → Round → (List Node → Round → Search) → Search
after_depth [] q again = with_depth 0 (search_end All q)
after_depth (n ∷ ns) q again = with_depth (length (n ∷ ns)) (again (n ∷ ns) q)

-- after a depth
abbrev pub after_round : Result Round Halt → ℕ → (List Node → Round → Search) → Search
after_round (Err h) d again = halted h d
after_round (Ok q) d again = after_depth q.fresh q again

-- n depths more after depth d, from the states of depth d
unfoldable pub search_on : ℕ → ℕ → ℕ → AppExploration → List Node → Round → Search
unfolding round_of_states
search_on zero d limit x ns q = search_end (AtDepth d) q
search_on (suc n) d limit x ns q =
    after_round (round_of_states limit x ns (record q { fresh = [] })) (d + 1) (λ ms p. search_on n (d + 1) limit x ms p)

-- what was found before the first try
abbrev pub first_round : AppExploration → CardState → Round
first_round x c = record { known = c ∷ []; fresh = []; count = 1; tries = 0; heard = heard_lines x.rules [] }

-- the search from where the exploration begins, or from a deck that breaks a rule itself
abbrev pub search_by : ℕ → ℕ → AppExploration → Result Standing (List ℕ) → Search
search_by limit n x (Err name) = search_end (Broken name []) (first_round x (warm_state (first_play x.lines) []))
search_by limit n x (Ok s) =
    let c = warm_state (first_play x.lines) s.allowances in
    search_on n 0 limit x (record { state = c; standing = s; path = [] } ∷ []) (first_round x c)

-- the search of n depths, with at most `limit` states
unfoldable pub app_search : ℕ → ℕ → AppExploration → Search
unfolding first_standing_of search_on first_play
app_search limit n x = search_by limit n x (first_standing_of x)

-- ---- its text

-- the numbers of the lines that applied to no event
abbrev pub silent_of : List (ℕ × Bool) → List ℕ
silent_of [] = []
silent_of ((n, true) ∷ hs) = silent_of hs
silent_of ((n, false) ∷ hs) = n ∷ silent_of hs

-- the end of a search that broke no rule
abbrev pub kept_text : Round → List ℕ → List ℕ
kept_text q how = silent_lines (silent_of q.heard) ++ sums_text q.count q.tries how

-- the statements that lead to a broken rule: none if the deck itself breaks it
abbrev pub way : State → List Try → List Statement
way s [] = []
way s (t ∷ ts) = statements_to s (t ∷ ts)

-- how a search ends, from the end of a deck
abbrev pub ending_text : State → Round → Ending → List ℕ
ending_text s q All = kept_text q (codes " all")
ending_text s q (AtDepth d) = kept_text q (codes " depth " ++ decimal d)
ending_text s q (TooMany d) = kept_text q (codes " depth " ++ decimal d)
ending_text s q (Broken name path) = broken_text name (way s (reverse path))

-- the text of a search, from the end of a deck
abbrev pub text_of_search : State → Search → List ℕ
text_of_search s e = depth_lines 1 e.news ++ ending_text s e.found e.ending

-- the text of the exploration of a deck with the rules of one application, n depths deep, with at most `limit` states
unfoldable pub app_text_within : ℕ → ℕ → AppExploration → List ℕ
unfolding app_search statements_to play_of_deck
app_text_within limit n x = text_of_search (play_of_deck x.lines) (app_search limit n x)

-- the same with at most 1,000,000 states
unfoldable pub app_text : ℕ → AppExploration → List ℕ
unfolding app_text_within
app_text n x = app_text_within most_states n x
