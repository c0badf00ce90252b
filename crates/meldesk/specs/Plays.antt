-- The jobs that play the deck of a draft: the verdict on a draft, and the meaning of each status.
use Rattle.std.specs.Prelude.{◌≡◌, ℕ, ◌≤◌, Bool, true, false, List, flat_map, length, Result, Ok, Err}
use Rattle.mc_deck.specs.model_play.specs.declared.deck.DeckCause.{DeckCause}
use Rattle.mc_deck.specs.model_play.specs.DeckGrammar.{DeckLine}
use Rattle.mc_deck.specs.model_play.specs.Play.{plays, start}
use Rattle.mc_streams.specs.declared.refusals.WriteFault.{WriteFault as Fault}
use Rattle.mc_text.specs.Texts.{Sunk}
use Rattle.mc_script.specs.Plays.{Bench, PlaysDeck, SumsDeck}
use Rattle.mc_filter.specs.declared.status.Status.{Status}
use Rattle.mc_filter.specs.declared.status.Status.TheVariants.{Done, Failed}
use Rattle.mc_filter.specs.Inputs.{FailsReading, ReadsLimited, TookLimited}
use Rattle.mc_filter.specs.declared.rejection.Rejection.{Rejection}
use Rattle.mc_filter.specs.declared.rejection.Rejection.TheVariants as rejection
use Rattle.mc_filter.specs.Lines.{deck_line, too_long}
use Rattle.mc_filter.specs.Outside.{AllStands, Completes, IsRead, IsWhole, JobSays, Outside, SaysDone, SaysNoMemory, SaysReadFault}
use Rattle.mc_filter.specs.Statuses.{status_after_writing, IsWritten}
use Rattle.desk_draft.specs.Coverage.{coverage}
use Rattle.desk_draft.specs.FullTurns.{turns_of_step}
use Rattle.desk_draft.specs.Listings.{Desk, Source, desk_read}
use Rattle.desk_draft.specs.Traces.{trace_text}
use Rattle.desk_cover.specs.Counting.{most_count}
use Rattle.desk_steps.specs.Recorded.{ShowsSteps}
use Rattle.meldesk.specs.Jobs.{Shown, Coverage, Steps, Trace}
use Rattle.meldesk.specs.Verdicts.{has_long_deck}

-- ---- the verdict on a draft

-- the verdict on a draft whose deck is played: the draft, or the line of a refusal
pub data PlayVerdict : Type 0 where
  Plays : (desk : Desk) → PlayVerdict
  Refuses : (line : List ℕ) → PlayVerdict

-- the verdict by the draft that was read, whose deck may not be too long
abbrev pub of_desk : Bool → Result Desk (ℕ × DeckCause) → PlayVerdict
of_desk true desk = Refuses too_long
of_desk false (Ok d) = Plays d
of_desk false (Err e) = Refuses (deck_line e)

-- the verdict on a draft within the limit
abbrev pub IsPlayOf : List ℕ → PlayVerdict → Type 0
IsPlayOf draft v = v ≡ of_desk (has_long_deck draft) (desk_read draft)

-- ---- what was done

-- The deck of a draft was played and its trace written, completely or up to a fault.
pub record IsTraced (ss : List Source) (ls : List (ℕ × DeckLine)) (s : Status) (dev_old : Bench) (out_old : Sunk) (dev : Bench) (out : Sunk) : Type 0 where
  pub result : Result (Unit {0}) Fault
  pub status : s ≡ status_after_writing Done result
  pub plays : PlaysDeck (trace_text ss) ls dev_old out_old result dev out

-- The deck of a draft was played and a record written for a file, completely or up to a fault: the coverage of the play,
-- unless more turns ran than can be counted.
pub record IsCovered (name : List ℕ) (ss : List Source) (ls : List (ℕ × DeckLine)) (s : Status) (dev_old : Bench) (out_old : Sunk) (dev : Bench) (out : Sunk) : Type 0 where
  pub result : Result (Unit {0}) Fault
  pub status : s ≡ status_after_writing Done result
  pub text : List ℕ
  pub sums : SumsDeck (λ ts. text) ls dev_old out_old result dev out
  pub covers : let ts = plays (start dev_old.device.words) ls sums.worn in length (flat_map turns_of_step ts) ≤ most_count → text ≡ coverage name ss ts

-- The deck of a draft was played and a text written, completely or up to a fault: a line for each line of the deck, in
-- order, with its statement in the deck's text, and before it one for each of its turns.
pub record IsStepped (ss : List Source) (deck : List ℕ) (ls : List (ℕ × DeckLine)) (s : Status) (dev_old : Bench) (out_old : Sunk) (dev : Bench) (out : Sunk) : Type 0 where
  pub result : Result (Unit {0}) Fault
  pub status : s ≡ status_after_writing Done result
  pub text : List ℕ
  pub sums : SumsDeck (λ ts. text) ls dev_old out_old result dev out
  pub shows : ShowsSteps ss deck (plays (start dev_old.device.words) ls sums.worn) text

-- what a job shows of the play of a deck, with its text, under the sections of its draft
abbrev pub IsShown : Shown → List Source → List ℕ → List (ℕ × DeckLine) → Status → Bench → Sunk → Bench → Sunk → Type 0
IsShown Trace ss deck ls s dev_old out_old dev out = IsTraced ss ls s dev_old out_old dev out
IsShown Steps ss deck ls s dev_old out_old dev out = IsStepped ss deck ls s dev_old out_old dev out
IsShown (Coverage name) ss deck ls s dev_old out_old dev out = IsCovered name ss ls s dev_old out_old dev out

-- the verdict on a draft was carried out; a device on which nothing is played is unchanged
abbrev pub IsShownAs : Type 0 → Shown → PlayVerdict → Status → Outside → Bench → Bench → Type 0
IsShownAs Kept p (Plays d) s a dev_old dev = IsShown p d.sources d.deck d.lines s dev_old a.out_old dev a.out
IsShownAs Kept p (Refuses line) s a dev_old dev = IsWritten Failed line s a.out_old a.out × Kept

-- the draft was read, its deck played, and what is due shown
pub record ShowsDraft (p : Shown) (s : Status) (a : Outside) (dev_old dev : Bench) : Type 0 where
  pub desk : Desk
  pub due : IsRead Refuses IsPlayOf a.input_old a.input (Plays desk)
  pub shown : IsShown p desk.sources desk.deck desk.lines s dev_old a.out_old dev a.out

-- why nothing was played: a line that refuses the draft, one call of the source that failed, or out of memory, in which
-- case none did
abbrev pub RejectsPlay : Outside → Rejection → Type 0
RejectsPlay a (rejection.Refusal line) = IsRead Refuses IsPlayOf a.input_old a.input (Refuses line.items)
RejectsPlay a rejection.ReadFault = FailsReading a.input_old a.input
RejectsPlay a rejection.NoMemory = ReadsLimited a.input_old a.input

-- ---- statuses: `Kept` states that the device is unchanged

-- the deck was played and what is due shown, or the draft was refused, or the sink failed
abbrev pub ShowDone : Type 0 → Shown → Outside → Bench → Bench → Status → Type 0
ShowDone Kept p a dev_old dev s = SaysDone (IsRead Refuses IsPlayOf a.input_old a.input) (λ (v : PlayVerdict). IsShownAs Kept p v s a dev_old dev)

-- the source failed, and the device is unchanged
abbrev pub ShowReadFault : Type 0 → Outside → Type 0
ShowReadFault Kept a = SaysReadFault (TookLimited a.input_old a.input) a × Kept

-- out of memory before the first line was played, and the device is unchanged
abbrev pub ShowNoMemory : Type 0 → Outside → Type 0
ShowNoMemory Kept a = SaysNoMemory (TookLimited a.input_old a.input) a × Kept

-- the meaning of each status of a job that plays
abbrev pub ShowSays : Type 0 → Shown → Status → Outside → Bench → Bench → Type 0
ShowSays Kept p s a dev_old dev = JobSays (ShowDone Kept p a dev_old dev) (ShowReadFault Kept a) (ShowNoMemory Kept a) s

-- ---- completeness

-- the status if a verdict is carried out completely
abbrev pub status_of_play : PlayVerdict → Status
status_of_play (Plays d) = Done
status_of_play (Refuses line) = Failed

-- all that is due was done
abbrev pub ShowWhole : Type 0 → Shown → Outside → Bench → Bench → Status → Type 0
ShowWhole Kept p a dev_old dev s = IsWhole (AllStands Refuses IsPlayOf a.input_old.left) status_of_play (λ (v : PlayVerdict). IsShownAs Kept p v s a dev_old dev) s

-- if no call of source or sink fails, the whole deck is played and all that is due of it is written, or the call was out
-- of memory before the first line was played
abbrev pub ShowCompletes : Type 0 → Shown → Status → Outside → Bench → Bench → Type 0
ShowCompletes Kept p s a dev_old dev = Completes (ShowWhole Kept p a dev_old dev s) s a
