-- The kinds of a step of a play: a law over steps has one case for each, and a new kind of line is one of them.
use Rattle.std.proofs.Common.{◌≡◌, ◌⊎◌, inl, inr, ℕ, Bool, true, false, List, [], Option, Some, None, refl}
use Rattle.std.specs.Prelude.{⊤, slice_set}
use Rattle.model_card.specs.model_device.specs.Card.{Card}
use Rattle.model_card.specs.model_device.specs.Image.{Journal}
use Rattle.model_card.specs.model_device.specs.PowerUp.{Base, OnCard, AtFault}
use Rattle.model_card.specs.Items.{moves}
use Rattle.model_card.specs.Manager.{SessionState}
use Rattle.model_play.specs.DeckGrammar.{DeckCommand, DeckLine}
use Rattle.model_play.specs.DeckGrammar as line
use Rattle.model_play.specs.Given.{is_power}
use Rattle.model_play.specs.Laws.{bytes_of}
use Rattle.model_play.specs.Play.{Armed, Unarmed, ArmedCut, ArmedFail, Live, Running, Unpowered, Muted, Warm, State, BeforePower, AfterPower, LineResult, Formatted, NoCard, FailedWrite, Step, line_command, hit_of, power_moves, power_step, command_step, quiet, without_card, dump_result, formatted_image, card_line, after_power_step, before_power_step, play_at_power, step}

-- a play after its first power line, by its parts
abbrev pub past_power : Base → ℕ → Journal → Live → ℕ → Armed → Warm
past_power b o j v g a = record { base = b; owed = o; by = j; live = v; budget = g; armed = a }

-- the play that a power line finds
abbrev pub found_by_power : State → Warm
found_by_power (BeforePower m b a) = play_at_power m b a
found_by_power (AfterPower s) = s

-- the image after a line before the first power line
abbrev pub image_after : DeckLine → List (List ℕ) → List (List ℕ)
image_after line.Format m = formatted_image m
image_after (line.Poke at x) m = slice_set m at x
image_after _ m = m

-- the budget, and the stop that is armed, after a line other than `power` that no card hears
abbrev pub budget_after : DeckLine → ℕ → ℕ
budget_after (line.Budget c) b = c
budget_after _ b = b

abbrev pub armed_after : DeckLine → Armed → Armed
armed_after (line.Cut k x) a = ArmedCut k x
armed_after (line.Fail k) a = ArmedFail k
armed_after (line.Sent k) a = Unarmed
armed_after _ a = a

-- its result, before and after the first power line
abbrev pub early_result : DeckLine → Option LineResult
early_result line.Format = Some Formatted
early_result (line.Dump x) = Some NoCard
early_result (line.Sent k) = Some NoCard
early_result _ = None

abbrev pub quiet_result : DeckLine → Live → Base → Option LineResult
quiet_result (line.Dump x) v b = Some (dump_result v b x)
quiet_result (line.Sent k) v b = Some (without_card v)
quiet_result _ v b = None

-- no card runs
abbrev pub NoneRuns : Live → Base → Type 0
NoneRuns (Running session_state) (OnCard c) = ⊥
NoneRuns (Running session_state) (AtFault cause p) = ⊤
NoneRuns Unpowered b = ⊤
NoneRuns Muted b = ⊤

-- no card hears of a line: it has no commands, or no card runs
abbrev pub IsUnheard : DeckLine → Live → Base → Type 0
IsUnheard l v b = (bytes_of l ≡ []) ⊎ NoneRuns v b

-- the step of what is sent to a running card
abbrev pub sent_step : Option FailedWrite → ℕ → DeckCommand → Card → ℕ → Journal → SessionState → ℕ → Armed → Step
sent_step w n k c o j session_state g a =
    let r = line_command c session_state g (line.Sent k) in
    command_step n (line.Sent k) (past_power (OnCard c) o j (Running session_state) g a) c r (hit_of a (moves r.items) w)

-- the step of a line from a state, with the failed write of the line, by its kind: any line but `power` before the first
-- power line; later a line that no card hears; a power line; and one that sends to a running card
pub data StepKind (w : Option FailedWrite) : State → ℕ → DeckLine → Step → Type 0 where
  Early : {n : ℕ} {l : DeckLine} {m : List (List ℕ)} {b : ℕ} {a : Armed} → is_power l ≡ false
      → StepKind w (BeforePower m b a) n l (quiet n l (BeforePower m b a) (early_result l) (BeforePower (image_after l m) (budget_after l b) (armed_after l a)))
  Quiet : {n : ℕ} {l : DeckLine} {s : Warm} → is_power l ≡ false → IsUnheard l s.live s.base
      → StepKind w (AfterPower s) n l (quiet n l (AfterPower s) (quiet_result l s.live s.base) (AfterPower (record s { budget = budget_after l s.budget; armed = armed_after l s.armed })))
  Powers : {n : ℕ} (z : State) → StepKind w z n line.Power (power_step n z (found_by_power z) (hit_of (found_by_power z).armed (power_moves (found_by_power z)) w))
  Sends : {n o g : ℕ} {j : Journal} {a : Armed} (k : DeckCommand) (c : Card) (session_state : SessionState) → StepKind w (AfterPower (past_power (OnCard c) o j (Running session_state) g a)) n (line.Sent k) (sent_step w n k c o j session_state g a)

sent_kind : (n : ℕ) (k : DeckCommand) (b : Base) (o : ℕ) (j : Journal) (v : Live) (g : ℕ) (a : Armed) (w : Option FailedWrite)
    → StepKind w (AfterPower (past_power b o j v g a)) n (line.Sent k) (card_line n (line.Sent k) (past_power b o j v g a) v b w)
sent_kind n k (OnCard c) o j (Running session_state) g a w = Sends k c session_state
sent_kind n k (AtFault cause p) o j (Running session_state) g a w = Quiet refl (inr tt)
sent_kind n k b o j Unpowered g a w = Quiet refl (inr tt)
sent_kind n k b o j Muted g a w = Quiet refl (inr tt)

after_power_kind : (n : ℕ) (l : DeckLine) (s : Warm) (w : Option FailedWrite) → StepKind w (AfterPower s) n l (after_power_step n l s w)
after_power_kind n line.Power s w = Powers (AfterPower s)
after_power_kind n (line.Sent k) s w = sent_kind n k s.base s.owed s.by s.live s.budget s.armed w
after_power_kind n _ s w = Quiet refl (inl refl)

before_power_kind : (n : ℕ) (l : DeckLine) (m : List (List ℕ)) (b : ℕ) (a : Armed) (w : Option FailedWrite) → StepKind w (BeforePower m b a) n l (before_power_step n l m b a w)
unfolding play_at_power
before_power_kind n line.Power m b a w = Powers (BeforePower m b a)
before_power_kind n line.Format m b a w = Early refl
before_power_kind n _ m b a w = Early refl

-- the kind of each step
pub by_kind : (z : State) (l : ℕ × DeckLine) (w : Option FailedWrite) → StepKind w z l.0 l.1 (step z l w)
unfolding step
by_kind (BeforePower m b a) l w = before_power_kind l.0 l.1 m b a w
by_kind (AfterPower s) l w = after_power_kind l.0 l.1 s w

-- a line that a running card hears nothing of has no commands
pub unheard_bytes : (l : DeckLine) (c : Card) (session_state : SessionState) → IsUnheard l (Running session_state) (OnCard c) → bytes_of l ≡ []
unheard_bytes l c session_state (inl h) = h
unheard_bytes l c session_state (inr h) = absurd h
