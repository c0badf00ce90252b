-- The meaning of the status with which a job ended.
use Rattle.std.proofs.Common.{◌≡◌, ℕ, Option, Some, None, Result, Ok, Err, IfErr, IfOk, refl, sym, subst, ◌∙◌}
use Rattle.mc_deck.specs.model_play.specs.Generator.{deck_of_number}
use Rattle.mc_base.specs.mc_streams.specs.declared.refusals.WriteFault.{WriteFault as Fault}
use Rattle.mc_base.specs.mc_streams.specs.declared.sink.Sink as sink
use Rattle.mc_base.specs.mc_streams.specs.declared.source.Source as source
use Rattle.mc_text.specs.Texts.{sunk, Puts, Sunk}
use Rattle.mc_filter.specs.Statuses.{RejectionEnds, status_after_writing}
use Rattle.mc_filter.specs.Outside.{outside, Outside, Untouched}
use Rattle.mc_filter.proofs.Outside as filter
use Rattle.melcard.specs.declared.job.Form.{Form}
use Rattle.melcard.specs.declared.job.Form.TheVariants.{Listing}
use Rattle.melcard.specs.declared.job.Job.{Job}
use Rattle.melcard.specs.declared.job.Job.TheVariants as job
use Rattle.melcard.specs.declared.job.Reporting.{Reporting}
use Rattle.mc_filter.specs.declared.rejection.Rejection.{Rejection}
use Rattle.mc_filter.specs.declared.rejection.Rejection.TheVariants as rejection
use Rattle.mc_filter.specs.declared.status.Status.{Status}
use Rattle.mc_filter.specs.declared.status.Status.TheVariants.{Done, Failed, NoForm, Partial}
use Rattle.melcard.specs.Jobs.{usage}
use Rattle.melcard.specs.Verdicts.{JobVerdict, Whole, Refusal, Plays, Sums}
use Rattle.melcard.specs.Running.{PlaysInput, RejectsJob, WritesInput}
use Rattle.mc_script.specs.Benches.{BenchMembers}
use Rattle.melcard.specs.Statuses.{card_outside, CardOutside, IsDue, IsSummed, MelcardDone, MelcardNoForm, MelcardNoMemory, MelcardReadFault, MelcardSays, TakesAtMost, TakesUntilShort}

-- ---- results

-- a property of a result that is `Ok`, or of one that is not
pub ok_is : {X E : Type 0} (q r : Result X E) (x : X) (P : X → Type 0) → q ≡ Ok x → q ≡ r → IfOk r P → P x
ok_is q r x P e f h = subst (λ r. IfOk r P) (sym f ∙ e) h

err_is : {X E : Type 0} (q r : Result X E) (x : E) (P : E → Type 0) → q ≡ Err x → q ≡ r → IfErr r P → P x
err_is q r x P e f h = subst (λ r. IfErr r P) (sym f ∙ e) h

-- a property that holds for each error
pub err_always : {X E P : Type 0} (r : Result X E) → P → IfErr r (λ _. P)
err_always (Ok x) p = tt
err_always (Err e) p = p

-- a job that is rejected only because it is out of memory
pub memory_only : {X : Type 0} (work : Job) (a : Outside) (r : Result X Rejection) → a.input.faults ≡ a.input_old.faults → TakesUntilShort work a → IfErr r (λ e. e ≡ rejection.NoMemory) → IfErr r (RejectsJob work a)
memory_only work a (Ok x) quiet source only = tt
memory_only work a (Err e) quiet source only = subst (λ (e : Rejection). RejectsJob work a e) (sym only) (quiet, source)

-- ---- what was done

-- a verdict that was carried out is the meaning of the status with which its writing ended
says_done : (Kept : Type 0) (work : Job) (a : CardOutside) (r : Result (Unit {0}) Fault) (s : Status) → s ≡ status_after_writing Done r → MelcardDone Kept work a s → MelcardSays Kept s (Some work) a
says_done Kept work a r s e d = filter.says_done (MelcardDone Kept work a) (MelcardReadFault Kept work a) (MelcardNoMemory Kept work a) r s e d

says_refused : (Kept : Type 0) (work : Job) (a : CardOutside) (r : Result (Unit {0}) Fault) (s : Status) → s ≡ status_after_writing Failed r → MelcardDone Kept work a s → MelcardSays Kept s (Some work) a
says_refused Kept work a r s e d = filter.says_refused (MelcardDone Kept work a) (MelcardReadFault Kept work a) (MelcardNoMemory Kept work a) r s e d

-- the deck of an input was played
pub says_played : (Kept : Type 0) (t : Reporting) (s : Status) (a : CardOutside) → PlaysInput t s a → MelcardSays Kept s (Some (job.Play t)) a
says_played Kept t s a p = says_done Kept (job.Play t) a p.played.result s p.played.status (record { verdict = Plays t p.lines; due = p.due; done = (p.played, tt) })

-- a generated deck was played
pub says_summed : (Kept : Type 0) (n : ℕ) (s : Status) (a : CardOutside) → Untouched a.streams → IsSummed (deck_of_number n) s a.dev_old a.streams.out_old a.dev a.streams.out a.steps_old a.steps → MelcardSays Kept s (Some (job.Generate n)) a
says_summed Kept n s a still d = says_done Kept (job.Generate n) a d.result s d.status (record { verdict = Sums (deck_of_number n); due = (still, refl); done = (d, tt) })

-- the text of an input was written
pub says_written : (Kept : Type 0) (f : Form) (s : Status) (a : CardOutside) → Kept → WritesInput f s a.streams → MelcardSays Kept s (Some (job.Write f)) a
says_written Kept f s a kept w = says_done Kept (job.Write f) a w.written.result s w.written.status (record { verdict = Whole w.text; due = w.due; done = (w.written, kept) })

-- ---- what was not done

-- the verdict depends on the source, and not on what is written afterwards
due_still : (work : Job) (a : Outside) (x : Sunk) (v : JobVerdict) → IsDue work (record a { out = x }) v → IsDue work a v
due_still (job.Generate n) a x v due = due
due_still (job.Play t) a x v due = due
due_still (job.Write f) a x v due = due

takes_still : (work : Job) (a : Outside) (x : Sunk) → TakesAtMost work (record a { out = x }) → TakesAtMost work a
takes_still (job.Generate n) a x takes = takes
takes_still (job.Play t) a x takes = takes
takes_still (job.Write f) a x takes = takes

until_short_still : (work : Job) (a : Outside) (x : Sunk) → TakesUntilShort work (record a { out = x }) → TakesUntilShort work a
until_short_still (job.Write Listing) a x takes = takes
until_short_still work a x takes = takes_still work a x takes

-- a job that was rejected ended
says_rejected : (Kept : Type 0) (work : Job) (a : CardOutside) (x : Sunk) (e : Rejection) (s : Status) → Kept → RejectsJob work (record (a.streams) { out = x }) e → RejectionEnds e a.streams.out_old s a.streams.out → MelcardSays Kept s (Some work) a
says_rejected Kept work a x (rejection.Refusal line) s kept why ends =
    says_refused Kept work a ends.result s ends.status (record { verdict = Refusal line.items; due = due_still work a.streams x (Refusal line.items) why; done = (ends, kept) })
says_rejected Kept work a x rejection.ReadFault s kept why ends =
    subst (λ s. MelcardSays Kept s (Some work) a) (sym ends.0) (why.0, record { cause = why.1; source = takes_still work a.streams x why.2; written = ends.1 }, kept)
says_rejected Kept work a x rejection.NoMemory s kept why ends =
    subst (λ s. MelcardSays Kept s (Some work) a) (sym ends.0) (record { quiet = why.0; source = until_short_still work a.streams x why.1; written = ends.1 }, kept)

-- the words select no job, and the usage line was written
pub says_no_form : (Kept : Type 0) (form : Option Job) (a : CardOutside) (r : Result (Unit {0}) Fault) (s : Status) → form ≡ None → s ≡ status_after_writing NoForm r → Kept → Untouched a.streams → Puts a.streams.out_old usage r a.streams.out → MelcardSays Kept s form a
says_no_form Kept form a r s is e kept still put =
    subst (λ o. MelcardSays Kept s o a) (sym is)
    (filter.says_no_job (MelcardNoForm Kept a) r s e (record { source = still; written = record { result = r; status = e; written = put } }, kept))

-- no job is done in part
pub no_part : (Kept : Type 0) (form : Option Job) (a : CardOutside) → MelcardSays Kept Partial form a → ⊥
no_part Kept None a says = says
no_part Kept (Some work) a says = says

-- ---- the environment of a call

module _ {S T N : Type 0} (input : source.Ghosts S) (output : sink.Ghosts T) (members : BenchMembers N) where
  -- source, sink, device and steps before and after the call
  abbrev pub around : S → S → T → T → N → N → ℕ → ℕ → CardOutside
  around s t x y d e i j = card_outside input output members s t x y d e i j

  -- the meaning of a status does not depend on how the job, the source, the sink, the device and the steps are named
  pub says_at : (s t u : S) (x y z : T) (d e f : N) (i j k : ℕ) (work other : Job) (q : Status) → t ≡ u → y ≡ z → e ≡ f → j ≡ k → work ≡ other → MelcardSays (f ≡ d) q (Some other) (around s u x z d f i k) → MelcardSays (e ≡ d) q (Some work) (around s t x y d e i j)
  says_at s t u x y z d e f i j k work other q from to device count is says =
      subst (λ t. MelcardSays (e ≡ d) q (Some work) (around s t x y d e i j)) (sym from)
      (subst (λ y. MelcardSays (e ≡ d) q (Some work) (around s u x y d e i j)) (sym to)
      (subst (λ e. MelcardSays (e ≡ d) q (Some work) (around s u x z d e i j)) (sym device)
      (subst (λ j. MelcardSays (f ≡ d) q (Some work) (around s u x z d f i j)) (sym count)
      (subst (λ w. MelcardSays (f ≡ d) q (Some w) (around s u x z d f i k)) (sym is) says))))

  -- a job that was rejected, by the result of the call that did not do it: its sink and device were unchanged
  pub rejected_at : (s t u : S) (x y z m : T) (d e f : N) (i j k : ℕ) (work other : Job) (done result : Result Status Rejection) (why : Rejection) (q : Status) → done ≡ Err why → t ≡ u → y ≡ z → e ≡ f → j ≡ k → done ≡ result → work ≡ other
      → IfErr result (RejectsJob other (outside input output s u x z)) → IfErr result (λ _. z ≡ x) → IfErr result (λ _. f ≡ d)
      → RejectionEnds why (sunk output y) q (sunk output m) → MelcardSays (e ≡ d) q (Some work) (around s t x m d e i j)
  rejected_at s t u x y z m d e f i j k work other done result why q err from to device count came is rejects same kept ends =
      let after = around s u x m d f i k in
      let cause = err_is done result why (RejectsJob other (outside input output s u x z)) err came rejects in
      let before = to ∙ err_is done result why (λ _. z ≡ x) err came same in
      let end = subst (λ (y : T). RejectionEnds why (sunk output y) q (sunk output m)) before ends in
      says_at s t u x m m d e f i j k work other q from refl device count is (says_rejected (f ≡ d) other after (sunk output z) why q (err_is done result why (λ _. f ≡ d) err came kept) cause end)
