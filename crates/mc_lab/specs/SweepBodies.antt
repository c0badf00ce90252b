-- The data of the code of sweeps, and its plays.
use Rattle.std.specs.Prelude.{◌≡◌, ℕ, ◌+◌, ◌≤◌, ◌<◌, Bool, true, false, List, [], ◌∷◌, ◌++◌, length, take, get_or, map, option_map, Option, Some, None, bytes_eq}
use Rattle.arrayvec.specs.ArrayVec.{ArrayVec}
use Rattle.mc_blocks.specs.declared.image.Unusable.{Unusable}
use Rattle.law_explore.specs.model_device.specs.Image.{opening, Two}
use Rattle.law_explore.specs.model_play.specs.Play.{State, armed_stop_in, is_card_line}
use Rattle.law_explore.specs.model_play.specs.DeckGrammar.{DeckLine}
use Rattle.law_explore.specs.model_play.specs.DeckGrammar as line
use Rattle.mc_lab.specs.declared.sweep_word.SweepWord.{SweepWord}
use Rattle.mc_lab.specs.Sweeps.{word_if, word_by, recovery_states, state_after_power, Tried, cut_write, steady_step, state_on_blank, cut_statement, power, under_cut, under_cuts, writes_behind, is_unarmed, ReportedState, Holds, NoCard}
use Rattle.mc_script.specs.Cuts.{is_off}
use Rattle.mc_lab.specs.declared.sweep_account.Account.{Account}
use Rattle.mc_lab.specs.declared.sweep_trial.TrialLines.{TrialLines}
use Rattle.mc_lab.specs.declared.sweep_trial.TrialLines.TheVariants as trial
use Rattle.mc_lab.specs.declared.sweep_trial.Place.{Place}
use Rattle.mc_lab.specs.declared.sweep_line.Ends.{Ends}
use Rattle.mc_lab.specs.declared.sweep_line.Pair.{Pair}

-- ---- accounts

-- the static bytes under a name, as a value of the model
abbrev pub held_value : Option (ArrayVec ℕ) → Option (List ℕ)
held_value h = option_map (λ b. b.items) h

-- the observed state, by the fault and by the static bytes
abbrev pub state_by_fault : Option Unusable → List (Option (List ℕ)) → ReportedState
state_by_fault None h = Holds h
state_by_fault (Some u) h = NoCard u.cause u.place

-- the observed state of an account
abbrev pub account_value : Account → ReportedState
account_value a = state_by_fault a.fault (map held_value a.held.items)

-- ---- plays

-- the state after a line
abbrev pub next : State → ℕ × DeckLine → State
next s l = (steady_step s l).after

-- the lines that are played of a deck up to a line, and of a cut in it
abbrev pub trial_lines : List (ℕ × DeckLine) → ℕ × DeckLine → TrialLines → List (ℕ × DeckLine)
trial_lines front l trial.Nothing = front
trial_lines front l trial.Whole = front ++ l ∷ []
trial_lines front l (trial.Cut k fill) = under_cut front l k fill
trial_lines front l (trial.Twice k fill again) = under_cuts front l k fill again

-- whether the last cut hit its line
abbrev pub hits : List (ℕ × DeckLine) → ℕ × DeckLine → TrialLines → Bool
hits front l trial.Nothing = true
hits front l trial.Whole = true
hits front l (trial.Cut k fill) = is_off (steady_step (next (state_on_blank front) (cut_statement l.0 k fill)) l).result
hits front l (trial.Twice k fill again) = is_off (steady_step (next (state_on_blank (under_cut front l k fill)) (cut_statement l.0 again fill)) (power l.0)).result

-- the numbers of writes are counted from 1
abbrev pub CanCut : TrialLines → Type 0
CanCut trial.Nothing = Unit {0}
CanCut trial.Whole = Unit {0}
CanCut (trial.Cut k fill) = 1 ≤ k
CanCut (trial.Twice k fill again) = (1 ≤ k) × (1 ≤ again)

-- ---- places

-- the line at a place of a deck
abbrev pub line_at : List (ℕ × DeckLine) → ℕ → ℕ × DeckLine
line_at ls i = get_or ls i (0, line.Named)

-- the lines before the line of a place
abbrev pub front_of : Place → List (ℕ × DeckLine)
front_of p = take p.at p.deck.now

-- the lines up to that of a place, and this one
abbrev pub lines_through : Place → List (ℕ × DeckLine)
lines_through p = take (p.at + 1) p.deck.now

-- the line of a place
abbrev pub line_in : Place → ℕ × DeckLine
line_in p = line_at p.deck.now p.at

-- the names whose static bytes are observed
abbrev pub names_in : Place → List (List ℕ)
names_in p = p.names.now

-- the place is one of the deck
abbrev pub IsPlace : Place → Type 0
IsPlace p = p.at < length p.deck.now

-- the observed state of a play of a place
abbrev pub state_at_place : Place → TrialLines → ReportedState
state_at_place p b = state_after_power (names_in p) (trial_lines (front_of p) (line_in p) b)

-- whether the last cut of a play of a place hit its line
abbrev pub hit_in : Place → TrialLines → Bool
hit_in p b = hits (front_of p) (line_in p) b

-- the number of device writes of the line
abbrev pub writes_in : Place → ℕ
writes_in p = writes_behind (front_of p) (line_in p)

-- the number of device writes of the recovery after a cut in the line
abbrev pub again_in : Place → ℕ → List ℕ → ℕ
again_in p k fill = writes_behind (under_cut (front_of p) (line_in p) k fill) (power (line_in p).0)

-- the recovery after a cut makes at most this many device writes
abbrev pub IsRecoveryBound : Place → TrialLines → ℕ → Type 0
IsRecoveryBound p trial.Nothing most = Unit {0}
IsRecoveryBound p trial.Whole most = Unit {0}
IsRecoveryBound p (trial.Cut k fill) most = again_in p k fill ≤ most
IsRecoveryBound p (trial.Twice k fill again) most = Unit {0}

-- the observed states after a cut in which the recovery is cut too
abbrev pub recovery_states_at : Place → ℕ → List ℕ → List ReportedState
recovery_states_at p k fill = recovery_states (names_in p) (front_of p) (line_in p) k fill

-- the cut of one write of the line
abbrev pub cut_write_at : Place → ℕ → Tried
cut_write_at p k = cut_write (names_in p) (front_of p) (line_in p) (state_at_place p trial.Nothing) (state_at_place p trial.Whole) k

-- an account has room for the names
abbrev pub AccountFits : Account → Place → Type 0
AccountFits a p = length a.held.items ≡ length p.names.now

-- each account has room for `n` names
pub record AccountsHaveRoom (e : Ends) (p : Pair) (n : ℕ) : Type 0 where
  pub before : length e.before.held.items ≡ n
  pub after : length e.after.held.items ≡ n
  pub first : length p.first.held.items ≡ n
  pub now : length p.now.held.items ≡ n

-- a line to the card for which no stop is armed
pub record IsUnarmedLine (p : Place) : Type 0 where
  pub card : is_card_line (line_in p).1 ≡ true
  pub unarmed : is_unarmed (armed_stop_in (state_on_blank (front_of p))) ≡ true

-- a word that opens no gate
abbrev pub OpensNoGate : List ℕ → Type 0
OpensNoGate x = bytes_eq x (opening Two) ≡ false

-- ---- the writes of a line

-- the word of a write, by whether its states are equal, and equal to the state before and to the state after
abbrev pub word_with : Bool → Bool → Bool → SweepWord
word_with same before after = word_if same (word_by before after)
