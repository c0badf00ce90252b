-- What is tried in a state: each move whole, and cut in each of its device writes; and what a try does to the card and
-- the allowances.
use Rattle.std.specs.Prelude.{ℕ, zero, suc, ◌+◌, ◌-◌, Bool, true, false, cond, ◌||◌, nat_le, nat_lt, List, [], ◌∷◌, length, filter, map, flat_map, replicate, Option, Some, None, Result, Ok, Err}
use Rattle.model_play.specs.model_device.specs.Bytes.{zeros}
use Rattle.model_play.specs.model_device.specs.Image.{Two, opening}
use Rattle.model_play.specs.model_text.specs.Text.{◌>>=◌, ok_as}
use Rattle.model_play.specs.DeckGrammar.{DeckLine}
use Rattle.model_play.specs.DeckGrammar as line
use Rattle.model_play.specs.Play.{Live, Running, Unpowered, Muted, State, Step, LineResult, step, moves_of}
use Rattle.model_play.specs.TraceText.{shown_turns}
use Rattle.model_play.specs.Transcript.{text_of_result}
use Rattle.law_explore.specs.Rules.{Move, Occasion, AtResult, AtTurn, Effect, Allows, Spends, OnRule}
use Rattle.model_events.specs.Matching.{fits}
use Rattle.law_explore.specs.States.{CardState, play_of, state_in}
use Rattle.model_events.specs.Amounts.{amount_of, turn_text, with_amount}

-- ---- allowances

-- the text of a line's result
abbrev pub result_text : Option LineResult → List ℕ
result_text None = []
result_text (Some r) = text_of_result r

-- on how many occasions of a move that was played a pattern matches
abbrev pub occasions : Occasion → List ℕ → Step → ℕ
occasions AtResult pattern t = cond (fits pattern (result_text t.result)) 1 0
occasions AtTurn pattern t = length (filter (λ u. fits pattern (turn_text u)) (shown_turns t.turns t.stop))

-- how many times an `on` line applies to a move that was played
abbrev pub times : OnRule → Move → Step → ℕ
times r m t =
    let n = occasions r.occasion r.pattern t in
    cond (fits r.move m.text) n 0

-- an allowance reduced if it is enough, else its name: the rule is broken
abbrev pub after_spending : Bool → List ℕ → ℕ → List (List ℕ × ℕ) → Result (List (List ℕ × ℕ)) (List ℕ)
after_spending true name left a = Ok (with_amount name left a)
after_spending false name left a = Err name

-- an effect, once
abbrev pub effect_once : Effect → List ℕ → ℕ → List (List ℕ × ℕ) → Result (List (List ℕ × ℕ)) (List ℕ)
effect_once Allows name k a = Ok (with_amount name k a)
effect_once Spends name k a = after_spending (nat_le k (amount_of a name)) name (amount_of a name - k) a

-- an effect, n times
abbrev pub effect_times : ℕ → Effect → List ℕ → ℕ → List (List ℕ × ℕ) → Result (List (List ℕ × ℕ)) (List ℕ)
effect_times zero e name k a = Ok a
effect_times (suc n) e name k a = effect_once e name k a >>= λ b. effect_times n e name k b

-- the allowances after a move that was played, by the `on` lines in their order, or the name of the first that is
-- broken
unfoldable pub allowances_after : List OnRule → Move → Step → List (List ℕ × ℕ) → Result (List (List ℕ × ℕ)) (List ℕ)
allowances_after [] m t a = Ok a
allowances_after (r ∷ rs) m t a = effect_times (times r m t) r.effect r.name r.amount a >>= λ b. allowances_after rs m t b

-- ---- `on` lines that applied

-- for each `on` line whether it applied before, or applies to one more move that was played
unfoldable pub heard_with : List OnRule → Move → Step → List Bool → List Bool
heard_with [] m t hs = hs
heard_with (r ∷ rs) m t [] = []
heard_with (r ∷ rs) m t (h ∷ hs) =
    let now = nat_lt 0 (times r m t) in
    (h || now) ∷ heard_with rs m t hs

-- ---- tries

-- how a move is made: whole, or cut at a device write, counted from 1, that leaves a word
pub data Manner : Type 0 where
  Whole : Manner
  CutAt : (write : ℕ) (fill : List ℕ) → Manner

-- a move that is made
pub record Try : Type 0 where
  pub move : Move
  pub manner : Manner

-- eight bytes FF
abbrev pub ones : List ℕ
ones = replicate 8 0xFF

-- each of n device writes from write k on, cut with each of three fills: eight bytes 00, eight bytes FF, and the word
-- that opens the journal of layout 2, which every card that runs has
abbrev pub cuts_from : ℕ → ℕ → List Manner
cuts_from k zero = []
cuts_from k (suc n) = CutAt k (zeros 8) ∷ CutAt k ones ∷ CutAt k (opening Two) ∷ cuts_from (k + 1) n

-- how a move of n device writes is tried: whole, and if a card runs cut in each of them
abbrev pub manners : Live → ℕ → List Manner
manners (Running session_state) n = Whole ∷ cuts_from 1 n
manners Unpowered n = Whole ∷ []
manners Muted n = Whole ∷ []

-- the device writes of a move that is whole
abbrev pub writes_of : State → Move → ℕ
writes_of s m = moves_of s (m.number, m.line)

-- the tries of a move in a state
abbrev pub tries_with : CardState → Move → List Try
tries_with c m = map (λ w. record { move = m; manner = w }) (manners c.live (writes_of (play_of c) m))

-- the tries of a state, in order
unfoldable pub tries_of : List Move → CardState → List Try
tries_of ms c = flat_map (tries_with c) ms

-- ---- what a try does

-- the play after a line, when no write of it fails
abbrev pub next : State → ℕ × DeckLine → State
next s l = (step s l None).after

-- the move of a try, as it is played
abbrev pub step_of : State → Move → Manner → Step
step_of s m Whole = step s (m.number, m.line) None
step_of s m (CutAt k x) = step (next s (m.number, line.Cut k x)) (m.number, m.line) None

-- the play after a move: after a cut there is a whole power line
abbrev pub recovery : ℕ → Manner → State → State
recovery n Whole s = s
recovery n (CutAt k x) s = next s (n, line.Power)

-- the state after a try, or the name of the allowance that is spent below zero
unfoldable pub outcome : List OnRule → CardState → Try → Result CardState (List ℕ)
unfolding allowances_after
outcome ons c t =
    let s = step_of (play_of c) t.move t.manner in
    ok_as (λ a. state_in (recovery t.move.number t.manner s.after) a) (allowances_after ons t.move s c.allowances)

-- for each `on` line whether it applied before, or applies to a try
unfoldable pub heard_after : List OnRule → CardState → Try → List Bool → List Bool
unfolding heard_with
heard_after ons c t hs =
    let s = step_of (play_of c) t.move t.manner in
    heard_with ons t.move s hs
