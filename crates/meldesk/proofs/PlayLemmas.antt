-- The meaning of the status with which a job that plays ended.
use Rattle.std.proofs.Common.{◌≡◌, ℕ, Bool, true, false, List, Result, Ok, Err, IfErr, IfOk, refl, ap, sym, subst, ◌∙◌, inr}
use Rattle.mc_words.specs.model_device.specs.Counts.{Rose}
use Rattle.mc_deck.specs.model_play.specs.declared.deck.DeckCause.{DeckCause}
use Rattle.mc_deck.specs.model_play.specs.DeckGrammar.{DeckLine}
use Rattle.mc_streams.specs.declared.refusals.WriteFault.{WriteFault as Fault}
use Rattle.mc_script.specs.Plays.{Bench, PlaysDeck}
use Rattle.mc_text.specs.Texts.{Sunk}
use Rattle.mc_filter.specs.Inputs.{ReadWhole, ReadsLimited, Rejects, Stream}
use Rattle.mc_filter.specs.Outside.{IsWithoutFault, Outside}
use Rattle.mc_filter.specs.Statuses.{status_after_writing, RejectionEnds}
use Rattle.mc_filter.specs.declared.rejection.Rejection.{Rejection}
use Rattle.mc_filter.specs.declared.rejection.Rejection.TheVariants as rejection
use Rattle.mc_filter.specs.declared.status.Status.{Status}
use Rattle.mc_filter.specs.declared.status.Status.TheVariants.{Done, Failed, WriteFault}
use Rattle.mc_filter.proofs.Outside as filter
use Rattle.mc_filter.proofs.Statuses.{written_whole}
use Rattle.desk_draft.specs.Listings.{Desk, Source, desk_read}
use Rattle.mc_script.specs.declared.job.JobFault.{JobFault}
use Rattle.mc_script.specs.declared.job.JobFault.TheVariants as fault
use Rattle.desk_cover.specs.Plays.{CoversBy, CoversDeck}
use Rattle.desk_steps.specs.Recorded.{StepsDeck}
use Rattle.meldesk.specs.Jobs.{Shown, Coverage, Steps, Trace}
use Rattle.meldesk.specs.Plays.{IsCovered, IsStepped, IsPlayOf, IsShown, IsShownAs, PlayVerdict, Plays, Refuses, RejectsPlay, ShowCompletes, ShowDone, ShowNoMemory, ShowReadFault, ShowSays, ShowWhole, ShowsDraft, of_desk, status_of_play}
use Rattle.meldesk.specs.Running.{refused_desk}
use Rattle.meldesk.specs.Verdicts.{has_long_deck}
use Rattle.meldesk.proofs.StatusLemmas.{around}

-- ---- the verdict on a draft

of_known : (t : List ℕ) (b : Bool) (r : Result Desk (ℕ × DeckCause)) → has_long_deck t ≡ b → desk_read t ≡ r → of_desk (has_long_deck t) (desk_read t) ≡ of_desk b r
of_known t b r long is = ap (λ (c : Bool). of_desk c (desk_read t)) long ∙ ap (of_desk b) is

-- a draft whose deck was read is played
pub play_due : (t : List ℕ) (d : Desk) → has_long_deck t ≡ false → desk_read t ≡ Ok d → IsPlayOf t (Plays d)
play_due t d short is = sym (of_known t false (Ok d) short is)

line_due : (t line : List ℕ) (b : Bool) (r : Result Desk (ℕ × DeckCause)) → has_long_deck t ≡ b → desk_read t ≡ r → refused_desk b r line → IsPlayOf t (Refuses line)
line_due t line true r long is h = ap Refuses h ∙ sym (of_known t true r long is)
line_due t line false (Ok d) long is h = absurd h
line_due t line false (Err e) long is h = ap Refuses h ∙ sym (of_known t false (Err e) long is)

-- ---- rejections

-- a draft that was read and is refused
pub draft_rejected : (t : List ℕ) (a : Outside) (e : Rejection) → ReadWhole a.input_old a.input t → ReadsLimited a.input_old a.input → Rejects (refused_desk (has_long_deck t) (desk_read t)) e → RejectsPlay a e
draft_rejected t a (rejection.Refusal line) read few h = inr (record { input = t; read = read; is = line_due t line.items (has_long_deck t) (desk_read t) refl refl h })
draft_rejected t a rejection.ReadFault read few h = absurd h
draft_rejected t a rejection.NoMemory read few h = few

-- ---- the coverage

-- a deck whose coverage was written
pub is_covered : (name : List ℕ) (ss : List Source) (ls : List (ℕ × DeckLine)) (s : Status) (a : Bench) (x : Sunk) (r : Result (Unit {0}) Fault) (b : Bench) (y : Sunk) → s ≡ status_after_writing Done r → CoversDeck name ss ls a x r b y → IsCovered name ss ls s a x b y
is_covered name ss ls s a x r b y status h = record { result = r; status = status; text = h.text; sums = h.sums; covers = h.covers }

-- a deck whose steps were written
pub is_stepped : (ss : List Source) (deck : List ℕ) (ls : List (ℕ × DeckLine)) (s : Status) (a : Bench) (x : Sunk) (r : Result (Unit {0}) Fault) (b : Bench) (y : Sunk) → s ≡ status_after_writing Done r → StepsDeck ss deck ls a x r b y → IsStepped ss deck ls s a x b y
is_stepped ss deck ls s a x r b y status h = record { result = r; status = status; text = h.text; sums = h.sums; shows = h.shows }

-- a deck whose coverage was not wholly written
pub cover_fault : (name : List ℕ) (ss : List Source) (ls : List (ℕ × DeckLine)) (a : Bench) (x : Sunk) (r : Result (Unit {0}) JobFault) (b : Bench) (y : Sunk) → r ≡ Err fault.WriteFault → CoversBy name ss ls a x r b y → IsCovered name ss ls WriteFault a x b y
cover_fault name ss ls a x r b y is h =
    let w : CoversBy name ss ls a x (Err fault.WriteFault) b y = subst (λ (q : Result (Unit {0}) JobFault). CoversBy name ss ls a x q b y) is h in
    is_covered name ss ls WriteFault a x (Err w.0) b y refl w.1

-- ---- statuses

-- the result of a play that was shown
shown_result : (p : Shown) (ss : List Source) (deck : List ℕ) (ls : List (ℕ × DeckLine)) (s : Status) (a : Bench) (x : Sunk) (b : Bench) (y : Sunk) → IsShown p ss deck ls s a x b y → (r : Result (Unit {0}) Fault) × (s ≡ status_after_writing Done r)
shown_result Trace ss deck ls s a x b y h = (h.result, h.status)
shown_result Steps ss deck ls s a x b y h = (h.result, h.status)
shown_result (Coverage name) ss deck ls s a x b y h = (h.result, h.status)

says_shown : (Kept : Type 0) (p : Shown) (s : Status) (a : Outside) (old new : Bench) → ShowsDraft p s a old new → ShowSays Kept p s a old new
says_shown Kept p s a old new w =
    let r = shown_result p w.desk.sources w.desk.deck w.desk.lines s old a.out_old new a.out w.shown in
    filter.says_done (ShowDone Kept p a old new) (ShowReadFault Kept a) (ShowNoMemory Kept a) r.0 s r.1 (record { verdict = Plays w.desk; due = w.due; done = w.shown })

says_rejected : (Kept : Type 0) (p : Shown) (i j : Stream) (x m y : Sunk) (old new : Bench) (e : Rejection) (s : Status) → m ≡ x → Kept → RejectsPlay (around i j x m) e → RejectionEnds e x s y → ShowSays Kept p s (around i j x y) old new
says_rejected Kept p i j x m y old new (rejection.Refusal line) s same kept why ends =
    let a = around i j x y in
    filter.says_refused (ShowDone Kept p a old new) (ShowReadFault Kept a) (ShowNoMemory Kept a) ends.result s ends.status (record { verdict = Refuses line.items; due = why; done = (ends, kept) })
says_rejected Kept p i j x m y old new rejection.ReadFault s same kept why ends =
    subst (λ (s : Status). ShowSays Kept p s (around i j x y) old new) (sym ends.0) (record { cause = why.0; source = why.1; written = ends.1 }, kept)
says_rejected Kept p i j x m y old new rejection.NoMemory s same kept why ends =
    subst (λ (s : Status). ShowSays Kept p s (around i j x y) old new) (sym ends.0) (record { quiet = why.0; source = why.1; written = ends.1 }, kept)

-- the end of a job that plays, by its result, after which its sink is m, and by what was written at its end
pub says_play : (Kept : Type 0) (p : Shown) (i j : Stream) (x m y : Sunk) (old new : Bench) (r : Result Status Rejection) (s : Status) → IfOk r (λ q. ShowsDraft p q (around i j x m) old new) → IfErr r (λ e. RejectsPlay (around i j x m) e) → IfErr r (λ e. m ≡ x) → IfErr r (λ e. Kept)
    → IfOk r (λ q. (s ≡ q) × (y ≡ m)) → IfErr r (λ e. RejectionEnds e m s y) → ShowSays Kept p s (around i j x y) old new
says_play Kept p i j x m y old new (Ok q) s shows rejects same kept done ends =
    subst (λ (s : Status). ShowSays Kept p s (around i j x y) old new) (sym done.0)
    (subst (λ (y : Sunk). ShowSays Kept p q (around i j x y) old new) (sym done.1) (says_shown Kept p q (around i j x m) old new shows))
says_play Kept p i j x m y old new (Err e) s shows rejects same kept done ends =
    says_rejected Kept p i j x m y old new e s same kept rejects (subst (λ (m : Sunk). RejectionEnds e m s y) same ends)

-- ---- completeness

-- a trace that was written completely
shown_whole : (p : Shown) (ss : List Source) (deck : List ℕ) (ls : List (ℕ × DeckLine)) (s : Status) (a : Bench) (x : Sunk) (b : Bench) (y : Sunk) → (Rose x.faults y.faults → ⊥) → IsShown p ss deck ls s a x b y → s ≡ Done
shown_whole Trace ss deck ls s a x b y quiet h = by_result h.result h.status h.plays
  where
    by_result : {f : _} (r : Result (Unit {0}) Fault) → s ≡ status_after_writing Done r → PlaysDeck f ls a x r b y → s ≡ Done
    by_result (Ok u) e plays = e
    by_result (Err w) e plays = absurd (quiet plays.from.text.cause)
shown_whole Steps ss deck ls s a x b y quiet h = written_whole x y h.text Done s h.result quiet h.status h.sums.text
shown_whole (Coverage name) ss deck ls s a x b y quiet h = written_whole x y h.text Done s h.result quiet h.status h.sums.text

play_whole : (Kept : Type 0) (p : Shown) (v : PlayVerdict) (s : Status) (a : Outside) (old new : Bench) → (Rose a.out_old.faults a.out.faults → ⊥) → IsShownAs Kept p v s a old new → s ≡ status_of_play v
play_whole Kept p (Plays d) s a old new quiet h = shown_whole p d.sources d.deck d.lines s old a.out_old new a.out quiet h
play_whole Kept p (Refuses line) s a old new quiet h = written_whole a.out_old a.out line Failed s (h.0).result quiet (h.0).status (h.0).written

whole : (Kept : Type 0) (p : Shown) (a : Outside) (old new : Bench) (s : Status) → IsWithoutFault a → ShowDone Kept p a old new s → ShowWhole Kept p a old new s
whole Kept p a old new s quiet says =
    record {
      verdict = says.verdict;
      due = filter.all_stands Refuses IsPlayOf a.input_old a.input says.verdict says.due;
      status = play_whole Kept p says.verdict s a old new quiet.writes says.done;
      done = says.done;
    }

-- a job that plays is complete if no call of source or sink fails
pub show_completes : (Kept : Type 0) (p : Shown) (s : Status) (a : Outside) (old new : Bench) → ShowSays Kept p s a old new → ShowCompletes Kept p s a old new
show_completes Kept p s a old new says =
    filter.complete (ShowDone Kept p a old new) (ShowWhole Kept p a old new) (ShowReadFault Kept a) (ShowNoMemory Kept a) a s (whole Kept p a old new) (λ f. (f.0).cause) says
