-- A job is complete if no call of source or sink fails.
use Rattle.std.proofs.Common.{◌≡◌, ℕ, List, Option, Some, None, Result, Ok, Err, IfSome, subst}
use Rattle.mc_base.specs.mc_words.specs.model_device.specs.Counts.{Rose}
use Rattle.mc_deck.specs.model_play.specs.DeckGrammar.{DeckLine}
use Rattle.mc_deck.specs.model_play.specs.Generator.{summary}
use Rattle.mc_deck.specs.model_play.specs.Play.{Step}
use Rattle.mc_base.specs.mc_streams.specs.declared.refusals.WriteFault.{WriteFault as Fault}
use Rattle.mc_script.specs.Plays.{Bench, PlaysDeck, SumsDeck}
use Rattle.mc_text.specs.Texts.{Sunk}
use Rattle.mc_filter.proofs.Statuses.{same_status, written_whole}
use Rattle.mc_filter.proofs.Outside.{all_stands, complete}
use Rattle.mc_filter.specs.Statuses.{status_after_writing, number_of}
use Rattle.mc_filter.specs.Outside.{IsWithoutFault, Outside}
use Rattle.melcard.specs.declared.job.Job.{Job}
use Rattle.melcard.specs.declared.job.Job.TheVariants as job
use Rattle.mc_filter.specs.declared.status.Status.{Status}
use Rattle.mc_filter.specs.declared.status.Status.TheVariants.{Done, Failed}
use Rattle.melcard.specs.Verdicts.{JobVerdict, Whole, Refusal, Plays, Sums, StandsFor}
use Rattle.melcard.specs.Statuses.{status_of, text_of_step, CardOutside, IsAllDue, IsDone, IsDue, MelcardCompletes, MelcardDone, MelcardNoMemory, MelcardReadFault, MelcardWhole, MelcardSays}

-- ---- the source

-- the verdict by the input that was read is the verdict by all bytes that were left
all_due : (work : Job) (a : Outside) (v : JobVerdict) → IsDue work a v → IsAllDue work a v
all_due (job.Generate n) a v due = due.1
all_due (job.Play t) a v due = all_stands Refusal (StandsFor (job.Play t)) a.input_old a.input v due
all_due (job.Write f) a v due = all_stands Refusal (StandsFor (job.Write f)) a.input_old a.input v due

-- ---- the sink

-- the output of a deck was written completely
played_whole : (f : Step → List ℕ) (ls : List (ℕ × DeckLine)) (x y : Bench) (a b : Sunk) (s : Status) (r : Result (Unit {0}) Fault) → (Rose a.faults b.faults → ⊥) → s ≡ status_after_writing Done r → PlaysDeck f ls x a r y b → s ≡ Done
played_whole f ls x y a b s (Ok u) quiet e plays = e
played_whole f ls x y a b s (Err w) quiet e plays = absurd (quiet plays.from.text.cause)

-- a deck was summarised completely
summed_whole : (ls : List (ℕ × DeckLine)) (x y : Bench) (a b : Sunk) (s : Status) (r : Result (Unit {0}) Fault) → (Rose a.faults b.faults → ⊥) → s ≡ status_after_writing Done r → SumsDeck summary ls x a r y b → s ≡ Done
summed_whole ls x y a b s (Ok u) quiet e sums = e
summed_whole ls x y a b s (Err f) quiet e sums = absurd (quiet sums.text.cause)

-- the verdict was carried out completely
done_whole : (v : JobVerdict) (s : Status) (a : CardOutside) → (Rose a.streams.out_old.faults a.streams.out.faults → ⊥) → IsDone v s a → s ≡ status_of v
done_whole (Whole text) s a quiet d = written_whole a.streams.out_old a.streams.out text Done s d.result quiet d.status d.written
done_whole (Refusal line) s a quiet d = written_whole a.streams.out_old a.streams.out line Failed s d.result quiet d.status d.written
done_whole (Plays t lines) s a quiet d = played_whole (text_of_step t) lines a.dev_old a.dev a.streams.out_old a.streams.out s d.result quiet d.status d.counts.deck
done_whole (Sums lines) s a quiet d = summed_whole lines a.dev_old a.dev a.streams.out_old a.streams.out s d.result quiet d.status d.counts.deck

-- ---- the status

whole : (Kept : Type 0) (work : Job) (a : CardOutside) (s : Status) → IsWithoutFault a.streams → MelcardDone Kept work a s → MelcardWhole work a s
whole Kept work a s quiet says =
    record {
      verdict = says.verdict;
      due = all_due work a.streams says.verdict says.due;
      status = done_whole says.verdict s a quiet.writes (says.done).0;
      done = (says.done).0;
    }

completes : (Kept : Type 0) (s : Status) (work : Job) (a : CardOutside) → MelcardSays Kept s (Some work) a → MelcardCompletes s work a
completes Kept s work a says =
    complete (MelcardDone Kept work a) (MelcardWhole work a) (MelcardReadFault Kept work a) (MelcardNoMemory Kept work a) a.streams s (whole Kept work a) (λ f. (f.1).cause) says

-- a job is complete at the number of a status, for the job that the words select
pub complete_at : (Kept : Type 0) (form : Option Job) (s t : Status) (a : CardOutside) (n : ℕ) → n ≡ number_of s → n ≡ number_of t → MelcardSays Kept s form a → IfSome form (λ work. MelcardCompletes t work a)
complete_at Kept None s t a n e f says = tt
complete_at Kept (Some work) s t a n e f says = subst (λ t. MelcardCompletes t work a) (same_status s t n e f) (completes Kept s work a says)
