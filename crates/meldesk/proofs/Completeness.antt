-- A call without a fault is complete, and words that select no job.
use Rattle.std.proofs.Common.{◌≡◌, ◌∙◌, ℕ, Option, Some, None, Result, Ok, Err, refl, sym, subst}
use Rattle.mc_words.specs.model_device.specs.Counts.{Rose}
use Rattle.mc_streams.specs.declared.refusals.WriteFault.{WriteFault as Fault}
use Rattle.mc_text.specs.Texts.{Puts, Sunk}
use Rattle.mc_filter.specs.Inputs.{TookLimited}
use Rattle.mc_filter.specs.Outside.{Completes, IsWithoutFault, Outside, SaysNoForm, SaysNoMemory, SaysReadFault, Untouched}
use Rattle.mc_filter.specs.Statuses.{number_of, status_after_writing}
use Rattle.mc_filter.specs.declared.status.Status.{Status}
use Rattle.mc_filter.specs.declared.status.Status.TheVariants.{Done, Failed, NoForm, Partial}
use Rattle.mc_filter.proofs.Outside as filter
use Rattle.mc_filter.proofs.Statuses.{same_status, written_whole}
use Rattle.meldesk.specs.Jobs.{about_text, usage, DeskJob, MadeText, Makes, Shows, Describes}
use Rattle.meldesk.specs.Jobs as text
use Rattle.meldesk.specs.Statuses.{status_if, status_of, DeckDone, DeckSays, DeckWhole, DeskOutside, IsDeckWritten, IsTextWritten, MakesSays, MakesWhole, MeldeskCompletes, MeldeskDone, MeldeskSays, TextSays, TextWhole}
use Rattle.meldesk.specs.Verdicts.{IsTextOf, JobVerdict, Refusal, Whole}
use Rattle.meldesk.proofs.PlayLemmas.{show_completes}

-- ---- words that select no job

pub says_no_form : (Kept : Type 0) (work : Option DeskJob) (a : DeskOutside) (r : Result (Unit {0}) Fault) (s : Status) → work ≡ None → s ≡ status_after_writing NoForm r → Kept → a.err ≡ a.err_old → Untouched a.streams → Puts a.streams.out_old usage r a.streams.out
    → MeldeskSays Kept s work a
says_no_form Kept work a r s none e kept quiet still put =
    subst (λ (o : Option DeskJob). MeldeskSays Kept s o a) (sym none)
    (filter.says_no_job (λ (q : Status). SaysNoForm usage q a.streams) r s e (record { source = still; written = record { result = r; status = e; written = put } }), kept, quiet)

-- no job is done in part
makes_part : (t : MadeText) (a : DeskOutside) → MakesSays Partial t a → ⊥
makes_part text.Deck a says = says
makes_part text.Listing a says = says.0
makes_part text.Verdicts a says = says.0
makes_part text.Names a says = says.0
makes_part (text.Explained name) a says = says.0

written_part : (good : Status) (r : Result (Unit {0}) Fault) → good ≡ Done → Partial ≡ status_after_writing good r → ⊥
written_part good (Ok u) is e = absurd (cc (e ∙ is))
written_part good (Err f) is e = absurd (cc e)

pub no_part : (Kept : Type 0) (work : Option DeskJob) (a : DeskOutside) → MeldeskSays Kept Partial work a → ⊥
no_part Kept None a says = says.0
no_part Kept (Some (Makes t)) a says = makes_part t a says.0
no_part Kept (Some (Shows p)) a says = says.0
no_part Kept (Some (Describes t)) a says = written_part Done (says.0.1).result refl (says.0.1).status

-- ---- completeness

-- the verdict was carried out completely
done_whole : (v : JobVerdict) (s : Status) (a : Outside) → (Rose a.out_old.faults a.out.faults → ⊥) → IsTextWritten v s a → s ≡ status_of v
done_whole (Whole passes text) s a quiet d = written_whole a.out_old a.out text (status_if passes) s d.result quiet d.status d.written
done_whole (Refusal line) s a quiet d = written_whole a.out_old a.out line Failed s d.result quiet d.status d.written

whole : (t : MadeText) (a : Outside) (s : Status) → IsWithoutFault a → MeldeskDone t a s → TextWhole t a s
whole t a s quiet says =
    record {
      verdict = says.verdict;
      due = filter.all_stands Refusal (IsTextOf t) a.input_old a.input says.verdict says.due;
      status = done_whole says.verdict s a quiet.writes says.done;
      done = says.done;
    }

text_completes : (s : Status) (t : MadeText) (a : Outside) → TextSays s t a → Completes (TextWhole t a s) s a
text_completes s t a says =
    filter.complete (MeldeskDone t a) (TextWhole t a) (SaysReadFault (TookLimited a.input_old a.input) a) (SaysNoMemory (TookLimited a.input_old a.input) a) a s (whole t a) (λ f. f.cause) says

-- the verdict of a deck was carried out completely
deck_done : (v : JobVerdict) (s : Status) (a : Outside) (x y : Sunk) → (Rose a.out_old.faults a.out.faults → ⊥) → (Rose x.faults y.faults → ⊥) → IsDeckWritten v s a x y → s ≡ status_of v
deck_done (Whole passes text) s a x y quiet calm d = written_whole a.out_old a.out text (status_if passes) s (d.0).result quiet (d.0).status (d.0).written
deck_done (Refusal line) s a x y quiet calm d = written_whole x y line Failed s (d.0).result calm (d.0).status (d.0).written

deck_whole : (a : Outside) (x y : Sunk) (s : Status) → (Rose x.faults y.faults → ⊥) → IsWithoutFault a → DeckDone a x y s → DeckWhole a x y s
deck_whole a x y s calm quiet says =
    record {
      verdict = says.verdict;
      due = filter.all_stands Refusal (IsTextOf text.Deck) a.input_old a.input says.verdict says.due;
      status = deck_done says.verdict s a x y quiet.writes calm says.done;
      done = says.done;
    }

deck_completes : (s : Status) (a : Outside) (x y : Sunk) → DeckSays s a x y → (Rose x.faults y.faults → ⊥) → Completes (DeckWhole a x y s) s a
deck_completes s a x y says calm =
    filter.complete (DeckDone a x y) (DeckWhole a x y) (SaysReadFault (TookLimited a.input_old a.input) a × (y ≡ x)) (SaysNoMemory (TookLimited a.input_old a.input) a × (y ≡ x)) a s (λ t quiet did. deck_whole a x y t calm quiet did) (λ f. (f.0).cause) says

makes_whole : (s : Status) (t : MadeText) (a : DeskOutside) → MakesSays s t a → MakesWhole s t a
makes_whole s text.Deck a says = deck_completes s a.streams a.err_old a.err says
makes_whole s text.Listing a says = text_completes s text.Listing a.streams says.0
makes_whole s text.Verdicts a says = text_completes s text.Verdicts a.streams says.0
makes_whole s text.Names a says = text_completes s text.Names a.streams says.0
makes_whole s (text.Explained name) a says = text_completes s (text.Explained name) a.streams says.0

completes : (Kept : Type 0) (s : Status) (work : Option DeskJob) (a : DeskOutside) → MeldeskSays Kept s work a → MeldeskCompletes Kept s work a
completes Kept s (Some (Makes t)) a says = makes_whole s t a says.0
completes Kept s (Some (Shows p)) a says = show_completes Kept p s a.streams a.dev_old a.dev says.0
completes Kept s (Some (Describes t)) a says =
    let w = says.0.1 in
    λ quiet. written_whole a.streams.out_old a.streams.out (about_text t) Done s w.result quiet w.status w.written
completes Kept s None a says = tt

-- a job is complete at the number of a status
pub complete_at : (Kept : Type 0) (work : Option DeskJob) (s t : Status) (a : DeskOutside) (n : ℕ) → n ≡ number_of s → n ≡ number_of t → MeldeskSays Kept s work a → MeldeskCompletes Kept t work a
complete_at Kept work s t a n e f says = subst (λ (t : Status). MeldeskCompletes Kept t work a) (same_status s t n e f) (completes Kept s work a says)
