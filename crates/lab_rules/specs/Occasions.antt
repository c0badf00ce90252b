-- How often `on` lines apply to a move that was played, as the code counts it, and what they then do to the amounts of
-- the allowances.
use Rattle.std.specs.Prelude.{◌≡◌, ℕ, zero, suc, ◌-◌, min, Bool, true, false, cond, ◌&&◌, ◌||◌, nat_le, List, [], ◌∷◌, drop, length, map, replicate, slice_get, slice_index_or, slice_set, option_and_then, Option, Some, None, Result, Ok, Err}
use Rattle.std.specs.declared.alloc.Global.{Global}
use Rattle.std.specs.declared.vec.Vec.{Vec}
use Rattle.model_device.specs.Counts.{last_count}
use Rattle.mc_text.specs.model_text.specs.Text.{◌>>=◌}
use Rattle.mc_text.specs.model_machine.specs.Chain.{Turn}
use Rattle.law_explore.specs.model_play.specs.Play.{Step}
use Rattle.law_explore.specs.model_play.specs.TraceText.{shown_turns}
use Rattle.mc_streams.specs.Streams.{one_more}
use Rattle.law_explore.specs.Rules as model
use Rattle.law_explore.specs.Rules.{AtResult, AtTurn, Allows, Spends}
use Rattle.law_explore.specs.model_events.specs.Matching.{fits, plain}
use Rattle.law_explore.specs.Tries.{result_text, times}
use Rattle.law_explore.specs.model_events.specs.Amounts.{turn_text}
use Rattle.lab_rules.specs.declared.rules.OnRule.{OnRule}
use Rattle.lab_rules.specs.Meanings.{effect_value, occasion_value, AlikeLists, AreDistinct, IsOn}

-- ---- which lines apply

-- for each `on` line whether it applies to a move with a plain text
abbrev pub row_of : List OnRule → List ℕ → List Bool
row_of ons text = map (λ r. fits r.moves.items text) ons

-- for each `on` line of the definition whether it applies to a move
abbrev pub applications : List model.OnRule → model.Move → List Bool
applications rules m = map (λ r. fits r.move m.text) rules

-- a row is that of a move: it has for each `on` line whether it applies
abbrev pub IsRow : List model.OnRule → Vec Bool Global → model.Move → Type 0
IsRow rules row m = row.items ≡ applications rules m

-- ---- counts

-- the same occasion
abbrev pub is_same_occasion : model.Occasion → model.Occasion → Bool
is_same_occasion AtResult AtResult = true
is_same_occasion AtTurn AtTurn = true
is_same_occasion AtResult AtTurn = false
is_same_occasion AtTurn AtResult = false

-- whether an `on` line counts an occasion with a plain text, by whether the line applies to the move
abbrev pub is_counted : model.Occasion → List ℕ → OnRule → Bool → Bool
is_counted occasion text r applies = (applies && is_same_occasion (occasion_value r.occasion) occasion) && fits r.pattern.items text

-- a count, one greater if an occasion counts, up to the last value of a count
abbrev pub count_with : Bool → ℕ → ℕ
count_with false n = n
count_with true n = one_more n

-- the counts after an occasion with a plain text, by the `on` lines and by which of them apply
abbrev pub counts_after : model.Occasion → List ℕ → List OnRule → List Bool → List ℕ → List ℕ
counts_after occasion text [] applies ns = ns
counts_after occasion text (r ∷ rs) applies [] = []
counts_after occasion text (r ∷ rs) applies (n ∷ ns) =
    count_with (is_counted occasion text r (slice_index_or applies 0 false)) n ∷ counts_after occasion text rs (drop 1 applies) ns

-- the counts after executed instructions
abbrev pub counts_after_turns : List OnRule → List Bool → List Turn → List ℕ → List ℕ
counts_after_turns rs applies [] ns = ns
counts_after_turns rs applies (t ∷ ts) ns = counts_after_turns rs applies ts (counts_after AtTurn (plain (turn_text t)) rs applies ns)

-- whether an `on` line that applies counts executed instructions
abbrev pub has_turns : List OnRule → List Bool → Bool
has_turns [] applies = false
has_turns (r ∷ rs) applies = (slice_index_or applies 0 false && is_same_occasion (occasion_value r.occasion) AtTurn) || has_turns rs (drop 1 applies)

-- the count with an index, one greater if an occasion counts; if there is no such count, the counts are unchanged
abbrev pub counts_with : Bool → ℕ → List ℕ → List ℕ
counts_with counted i ns = slice_set ns i (count_with counted (slice_index_or ns i 0))

-- the counts after an occasion, by `on` lines of which the first has an index
abbrev pub counts_from : model.Occasion → List ℕ → ℕ → List OnRule → List Bool → List ℕ → List ℕ
counts_from occasion text i [] applies ns = ns
counts_from occasion text i (r ∷ rs) applies ns =
    counts_from occasion text (suc i) rs applies (counts_with (is_counted occasion text r (slice_index_or applies i false)) i ns)

-- ---- amounts

-- a number as a count holds it
abbrev pub capped : ℕ → ℕ
capped n = min n last_count

-- an amount after an effect, or none if it is spent below zero
abbrev pub amount_once : model.Effect → ℕ → ℕ → Option ℕ
amount_once Allows k amount = Some k
amount_once Spends k amount = cond (nat_le k amount) (Some (amount - k)) None

-- an amount after n effects
abbrev pub amount_times : ℕ → model.Effect → ℕ → ℕ → Option ℕ
amount_times zero e k amount = Some amount
amount_times (suc n) e k amount = option_and_then (amount_times n e k) (amount_once e k amount)

-- the amounts with another one at a place, or that place if the amount is spent below zero
abbrev pub with_amount_at : ℕ → List ℕ → Option ℕ → Result (List ℕ) ℕ
with_amount_at place amounts None = Err place
with_amount_at place amounts (Some k) = Ok (slice_set amounts place k)

-- the amounts after n times the effect of an `on` line, by the amount of its allowance, if there is one
abbrev pub amounts_by : Option ℕ → ℕ → OnRule → List ℕ → Result (List ℕ) ℕ
amounts_by None n r amounts = Ok amounts
amounts_by (Some amount) n r amounts = with_amount_at r.allowance amounts (amount_times n (effect_value r.effect) r.amount amount)

-- the amounts after n times the effect of an `on` line
abbrev pub amounts_after_rule : ℕ → OnRule → List ℕ → Result (List ℕ) ℕ
amounts_after_rule n r amounts = amounts_by (slice_get amounts r.allowance) n r amounts

-- the amounts after `on` lines of which the first has an index, each as many times as its number
abbrev pub amounts_from : ℕ → List OnRule → List ℕ → List ℕ → Result (List ℕ) ℕ
amounts_from i [] ns amounts = Ok amounts
amounts_from i (r ∷ rs) ns amounts = amounts_after_rule (slice_index_or ns i 0) r amounts >>= λ left. amounts_from (suc i) rs ns left

-- the amounts that are left, or the place of the allowance that is spent below zero
abbrev pub AmountsAre : Option ℕ → List ℕ → Result (List ℕ) ℕ → Type 0
AmountsAre None left (Ok amounts) = left ≡ amounts
AmountsAre (Some place) left (Err p) = place ≡ p
AmountsAre None left (Err p) = ⊥
AmountsAre (Some place) left (Ok amounts) = ⊥

-- ---- the definition

-- the names of allowances
abbrev pub names_of : List (List ℕ × ℕ) → List (List ℕ)
names_of a = map (λ e. e.0) a

-- their amounts
abbrev pub amounts_of : List (List ℕ × ℕ) → List ℕ
amounts_of a = map (λ e. e.1) a

-- `on` lines are those of the definition, counts are how many times each applies to a move that was played, and
-- amounts are those of allowances with the names of the rules' allowances
pub record CountsMove (held a : List (List ℕ × ℕ)) (rules : List model.OnRule) (m : model.Move) (t : Step) (ons : List OnRule) (counts amounts : List ℕ) : Type 0 where
  pub distinct : AreDistinct held
  pub named : names_of a ≡ names_of held
  pub lines : AlikeLists (IsOn held) ons rules
  pub counted : counts ≡ map (λ r. capped (times r m t)) rules
  pub left : amounts ≡ amounts_of a

-- the amounts are those of the allowances that are left, with the same names; or the place is that of the allowance
-- that is spent below zero
abbrev pub AreSpent : List (List ℕ × ℕ) → Option ℕ → List ℕ → Result (List (List ℕ × ℕ)) (List ℕ) → Type 0
AreSpent held None left (Ok a) = (left ≡ amounts_of a) × (names_of a ≡ names_of held)
AreSpent held (Some place) left (Err name) = slice_get (names_of held) place ≡ Some name
AreSpent held None left (Err name) = ⊥
AreSpent held (Some place) left (Ok a) = ⊥

-- ---- laws

-- the counts of a move that was played, from 0 on: of the executed instructions that it shows, and of its result
abbrev pub counts_of_move : List OnRule → List Bool → Step → List ℕ
counts_of_move ons applies t =
    counts_after AtResult (plain (result_text t.result)) ons applies (counts_after_turns ons applies (shown_turns t.turns t.stop) (replicate (length ons) 0))

-- the counts of a move are how many times each line applies to it
abbrev pub CountsLaw : Type 0
CountsLaw = (held : List (List ℕ × ℕ)) (ons : List OnRule) (rules : List model.OnRule) (m : model.Move) (t : Step) → AlikeLists (IsOn held) ons rules
    → counts_of_move ons (applications rules m) t ≡ map (λ r. capped (times r m t)) rules
