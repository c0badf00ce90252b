-- The relation of the top call to its source, its sink and its device at each of its statuses.
use Rattle.std.specs.Prelude.{◌≡◌, Bool, true, false, Option, Some, None, ⊤}
use Rattle.mc_words.specs.model_device.specs.Counts.{Rose}
use Rattle.mc_streams.specs.declared.sink.Sink as sink
use Rattle.mc_streams.specs.declared.source.Source as source
use Rattle.mc_script.specs.Benches.{bench_at, BenchMembers}
use Rattle.mc_script.specs.Plays.{Bench}
use Rattle.mc_filter.specs.declared.status.Status.{Status}
use Rattle.mc_filter.specs.declared.status.Status.TheVariants.{Done, Failed}
use Rattle.mc_filter.specs.Inputs.{TookLimited}
use Rattle.mc_filter.specs.Statuses.{IsWritten}
use Rattle.mc_filter.specs.Outside.{AllStands, Completes, IsRead, IsWhole, JobSays, NoJobSays, Outside, SaysDone, SaysNoForm, SaysNoMemory, SaysReadFault, outside}
use Rattle.mc_text.specs.Texts.{sunk, Sunk}
use Rattle.meldesk.specs.declared.job.About.{About}
use Rattle.meldesk.specs.Jobs.{about_text, usage, DeskJob, MadeText, Makes, Shows, Describes}
use Rattle.meldesk.specs.Jobs as text
use Rattle.meldesk.specs.Verdicts.{IsTextOf, JobVerdict, Refusal, Whole}
use Rattle.meldesk.specs.Plays.{ShowCompletes, ShowSays}

-- ---- the environment

-- the environment of the call: the source and the sink before and after it, the sink of refusals, and the device
pub record DeskOutside : Type 0 where
  pub streams : Outside
  pub err_old : Sunk
  pub err : Sunk
  pub dev_old : Bench
  pub dev : Bench

-- the environment, by the values of a call before and after it
abbrev pub desk_outside : {S T E N : Type 0} → source.Ghosts S → sink.Ghosts T → sink.Ghosts E → BenchMembers N → S → S → T → T → E → E → N → N → DeskOutside
desk_outside s t e n in_old in_new out_old out_new err_old err_new dev_old dev_new =
    record {
      streams = outside s t in_old in_new out_old out_new;
      err_old = sunk e err_old;
      err = sunk e err_new;
      dev_old = bench_at n dev_old;
      dev = bench_at n dev_new;
    }

-- ---- texts

-- the status of a text that is written, by whether its draft passes it
abbrev pub status_if : Bool → Status
status_if true = Done
status_if false = Failed

-- the text of the verdict on a draft was written
abbrev pub IsTextWritten : JobVerdict → Status → Outside → Type 0
IsTextWritten (Whole passes text) s a = IsWritten (status_if passes) text s a.out_old a.out
IsTextWritten (Refusal line) s a = IsWritten Failed line s a.out_old a.out

-- a text was made, or its draft was refused, or the sink failed
abbrev pub MeldeskDone : MadeText → Outside → Status → Type 0
MeldeskDone t a s = SaysDone (IsRead Refusal (IsTextOf t) a.input_old a.input) (λ (v : JobVerdict). IsTextWritten v s a)

-- ---- statuses: `Kept` states that the device is unchanged

-- the meaning of each status of a job that makes a text
abbrev pub TextSays : Status → MadeText → Outside → Type 0
TextSays s t a =
    JobSays (MeldeskDone t a) (SaysReadFault (TookLimited a.input_old a.input) a) (SaysNoMemory (TookLimited a.input_old a.input) a) s

-- ---- the deck, whose refusal goes to another sink

-- the deck of a draft was written, and nothing of its refusal; or its refusal, and nothing of a deck
abbrev pub IsDeckWritten : JobVerdict → Status → Outside → Sunk → Sunk → Type 0
IsDeckWritten (Whole passes text) s a x y = IsWritten (status_if passes) text s a.out_old a.out × (y ≡ x)
IsDeckWritten (Refusal line) s a x y = IsWritten Failed line s x y × (a.out ≡ a.out_old)

-- a deck was written, or its draft was refused, or a sink failed
abbrev pub DeckDone : Outside → Sunk → Sunk → Status → Type 0
DeckDone a x y s = SaysDone (IsRead Refusal (IsTextOf text.Deck) a.input_old a.input) (λ (v : JobVerdict). IsDeckWritten v s a x y)

-- the meaning of each status of the job that writes a deck
abbrev pub DeckSays : Status → Outside → Sunk → Sunk → Type 0
DeckSays s a x y =
    JobSays (DeckDone a x y) (SaysReadFault (TookLimited a.input_old a.input) a × (y ≡ x)) (SaysNoMemory (TookLimited a.input_old a.input) a × (y ≡ x)) s

-- the meaning of each status of a job that makes a text: all but that of a deck leave the sink of refusals as it was
abbrev pub MakesSays : Status → MadeText → DeskOutside → Type 0
MakesSays s text.Deck a = DeckSays s a.streams a.err_old a.err
MakesSays s text.Listing a = TextSays s text.Listing a.streams × (a.err ≡ a.err_old)
MakesSays s text.Verdicts a = TextSays s text.Verdicts a.streams × (a.err ≡ a.err_old)
MakesSays s text.Names a = TextSays s text.Names a.streams × (a.err ≡ a.err_old)
MakesSays s (text.Explained name) a = TextSays s (text.Explained name) a.streams × (a.err ≡ a.err_old)

-- what the program says of itself was written, and the source was not touched
abbrev pub SaysAbout : About → Status → Outside → Type 0
SaysAbout t s a = (a.input ≡ a.input_old) × IsWritten Done (about_text t) s a.out_old a.out

-- the meaning of each status, by the job that the words select; only a job that plays changes the device
abbrev pub MeldeskSays : Type 0 → Status → Option DeskJob → DeskOutside → Type 0
MeldeskSays Kept s (Some (Makes t)) a = MakesSays s t a × Kept
MeldeskSays Kept s (Some (Shows p)) a = ShowSays Kept p s a.streams a.dev_old a.dev × (a.err ≡ a.err_old)
MeldeskSays Kept s (Some (Describes t)) a = SaysAbout t s a.streams × Kept × (a.err ≡ a.err_old)
MeldeskSays Kept s None a = NoJobSays (λ (t : Status). SaysNoForm usage t a.streams) s × Kept × (a.err ≡ a.err_old)

-- ---- completeness

-- the status if the text of a verdict is written completely
abbrev pub status_of : JobVerdict → Status
status_of (Whole passes text) = status_if passes
status_of (Refusal line) = Failed

-- all that is due was written
abbrev pub TextWhole : MadeText → Outside → Status → Type 0
TextWhole t a s = IsWhole (AllStands Refusal (IsTextOf t) a.input_old.left) status_of (λ (v : JobVerdict). IsTextWritten v s a) s

-- all that is due of a deck was written
abbrev pub DeckWhole : Outside → Sunk → Sunk → Status → Type 0
DeckWhole a x y s = IsWhole (AllStands Refusal (IsTextOf text.Deck) a.input_old.left) status_of (λ (v : JobVerdict). IsDeckWritten v s a x y) s

-- if no call of source or sinks fails, all that is due of a text is written
abbrev pub MakesWhole : Status → MadeText → DeskOutside → Type 0
MakesWhole s text.Deck a = (Rose a.err_old.faults a.err.faults → ⊥) → Completes (DeckWhole a.streams a.err_old a.err s) s a.streams
MakesWhole s text.Listing a = Completes (TextWhole text.Listing a.streams s) s a.streams
MakesWhole s text.Verdicts a = Completes (TextWhole text.Verdicts a.streams s) s a.streams
MakesWhole s text.Names a = Completes (TextWhole text.Names a.streams s) s a.streams
MakesWhole s (text.Explained name) a = Completes (TextWhole (text.Explained name) a.streams s) s a.streams

-- if no call of source or sink fails, all that is due is written, or the call was out of memory before the first byte of
-- output
abbrev pub MeldeskCompletes : Type 0 → Status → Option DeskJob → DeskOutside → Type 0
MeldeskCompletes Kept s (Some (Makes t)) a = MakesWhole s t a
MeldeskCompletes Kept s (Some (Shows p)) a = ShowCompletes Kept p s a.streams a.dev_old a.dev
MeldeskCompletes Kept s (Some (Describes t)) a = (Rose a.streams.out_old.faults a.streams.out.faults → ⊥) → s ≡ Done
MeldeskCompletes Kept s None a = ⊤
