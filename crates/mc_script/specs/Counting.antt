-- The number of calls that a play makes of its bench, whether it leaves power on, and how its counts of stops rise.
use Rattle.std.specs.Prelude.{◌≡◌, ℕ, zero, suc, ◌+◌, ◌≤◌, Bool, true, false, cond, nat_lt, List, [], ◌∷◌, length, Option, Some, None}
use Rattle.model_play.specs.model_device.specs.declared.device.Stop.{Stop}
use Rattle.model_play.specs.model_device.specs.declared.device.Stop.TheVariants as stop
use Rattle.model_play.specs.model_device.specs.Device.{DeviceState, BenchState, next_count}
use Rattle.model_play.specs.model_card.specs.Items.{StopAt}
use Rattle.model_play.specs.Play.{Armed, Unarmed, ArmedCut, ArmedFail, State, BeforePower, Step, armed_stop_in}
use Rattle.model_play.specs.DeckGrammar.{DeckLine}
use Rattle.model_play.specs.DeckGrammar as line

-- a count that rose n times; it saturates at its last value
abbrev pub count_after_rises : ℕ → ℕ → ℕ
count_after_rises n zero = n
count_after_rises n (suc k) = count_after_rises (next_count n) k

-- the sum of a number over lines that were played
abbrev pub total : (Step → ℕ) → List Step → ℕ
total f [] = 0
total f (t ∷ ts) = f t + total f ts

-- ---- the calls that a line makes

-- calls of `power`: one for a power line
abbrev pub line_powers : DeckLine → ℕ
line_powers line.Power = 1
line_powers _ = 0

-- calls of `poke`: five for a `format` line, and one for a `poke` line whose place the device has, before the first
-- power line
abbrev pub line_pokes : State → DeckLine → ℕ
line_pokes (BeforePower m b a) line.Format = 5
line_pokes (BeforePower m b a) (line.Poke at fill) = cond (nat_lt at (length m)) 1 0
line_pokes _ l = 0

-- calls of `arm`: at most one for a `cut` line
abbrev pub line_cuts : DeckLine → ℕ
line_cuts (line.Cut k fill) = 1
line_cuts _ = 0

-- calls of `wear`: at most one for a `fail` line
abbrev pub line_fails : DeckLine → ℕ
line_fails (line.Fail k) = 1
line_fails _ = 0

-- the number of armed cuts that were not passed to the device yet, 0 or 1
abbrev pub cuts_due : Armed → ℕ
cuts_due Unarmed = 0
cuts_due (ArmedCut k fill) = 1
cuts_due (ArmedFail k) = 0

-- the number of armed failed writes that were not passed to the device yet, 0 or 1
abbrev pub fails_due : Armed → ℕ
fails_due Unarmed = 0
fails_due (ArmedCut k fill) = 0
fails_due (ArmedFail k) = 1

-- 1 if a stop is a cut, else 0
abbrev pub cut_kind : Stop → ℕ
cut_kind stop.Off = 1
cut_kind stop.Worn = 0

-- 1 if a cut hit a line, else 0
abbrev pub count_of_cuts : Option StopAt → ℕ
count_of_cuts None = 0
count_of_cuts (Some t) = cut_kind t.kind

-- 1 if a stop is a failed write, else 0
abbrev pub failure_kind : Stop → ℕ
failure_kind stop.Off = 0
failure_kind stop.Worn = 1

-- 1 if a failed write hit a line, else 0
abbrev pub failure_by : Option StopAt → ℕ
failure_by None = 0
failure_by (Some t) = failure_kind t.kind

-- ---- power

-- whether power is on after a stop: a cut takes it, and a failed write does not
abbrev pub on_after_stop : Stop → Bool
on_after_stop stop.Off = false
on_after_stop stop.Worn = true

-- whether power is on after a line that no stop hit: a power line turns it on, and no other line changes it
abbrev pub on_unstopped : Bool → DeckLine → Bool
on_unstopped on line.Power = true
on_unstopped on _ = on

-- whether power is on after a line
abbrev pub on_after : Bool → DeckLine → Option StopAt → Bool
on_after on l None = on_unstopped on l
on_after on l (Some t) = on_after_stop t.kind

-- whether power is on after lines that were played
abbrev pub on_at_end : Bool → List Step → Bool
on_at_end on [] = on
on_at_end on (t ∷ ts) = on_at_end (on_after on t.line t.stop) ts

-- ---- the counts

-- the number of times that power had come when the last word was poked, after k pokes without power between
abbrev pub when_poked : BenchState → ℕ → ℕ
when_poked b zero = b.poked
when_poked b (suc k) = b.powers

-- the counts of a bench before and after lines that make the given numbers of calls and stops, and whose pokes all come
-- before power does
pub record CountsCalls (b : BenchState) (d : DeviceState) (power_calls poke_calls cut worn : ℕ) (c : BenchState) (e : DeviceState) : Type 0 where
  pub powers : c.powers ≡ count_after_rises b.powers power_calls
  pub pokes : c.pokes ≡ count_after_rises b.pokes poke_calls
  pub poked : c.poked ≡ when_poked b poke_calls
  pub cuts : e.cuts ≡ count_after_rises d.cuts cut
  pub faults : e.faults ≡ count_after_rises d.faults worn
  pub steady : c.steady ≡ b.steady

-- the calls that arm a stop, between two states with stops that are still to be passed to the device
pub record Arms (b : BenchState) (due : Armed) (cuts fails : ℕ) (c : BenchState) (left : Armed) : Type 0 where
  pub arms : c.arms + cuts_due left ≤ b.arms + cuts_due due + cuts
  pub wears : c.wears + fails_due left ≤ b.wears + fails_due due + fails

-- the counts of one line
pub record LineCounts (b : BenchState) (d : DeviceState) (t : Step) (c : BenchState) (e : DeviceState) : Type 0 where
  pub counts : CountsCalls b d (line_powers t.line) (line_pokes t.before t.line) (count_of_cuts t.stop) (failure_by t.stop) c e
  pub arms : Arms b (armed_stop_in t.before) (line_cuts t.line) (line_fails t.line) c (armed_stop_in t.after)

-- the counts of a play that began with a stop still to be passed to the device
pub record PlayCounts (b : BenchState) (d : DeviceState) (due : Armed) (ts : List Step) (c : BenchState) (e : DeviceState) : Type 0 where
  pub counts : CountsCalls b d (total (λ t. line_powers t.line) ts) (total (λ t. line_pokes t.before t.line) ts) (total (λ t. count_of_cuts t.stop) ts) (total (λ t. failure_by t.stop) ts) c e
  pub arms : c.arms ≤ b.arms + cuts_due due + total (λ t. line_cuts t.line) ts
  pub wears : c.wears ≤ b.wears + fails_due due + total (λ t. line_fails t.line) ts
