-- A deck with its rules that was read is one of the definition, and what its exploration comes to.
use Rattle.std.specs.Prelude.{◌≡◌, ℕ, ◌+◌, Bool, true, false, List, length, Option, Some, None, Result, Ok, Err, IfOk, IfErr}
use Rattle.std.proofs.Common.{ap, arith, inr, refl, subst, sym, ◌∙◌}
use Rattle.mc_text.specs.Texts.{Fails}
use Rattle.lab_deck.specs.law_explore_text.specs.law_explore.specs.Rules as rule
use Rattle.lab_deck.specs.law_explore_text.specs.law_explore.specs.Rules.{exploration_read}
use Rattle.lab_deck.specs.law_explore_text.specs.law_explore.specs.Search.{Ending, All, AtDepth, Broken, TooMany, search_of}
use Rattle.lab_deck.specs.law_explore_text.specs.law_explore.specs.States.{play_of_deck}
use Rattle.lab_deck.specs.law_explore_text.specs.Report.{text_within}
use Rattle.lab_deck.specs.law_explore_text.specs.law_explore.proofs.ReadRules.{moves_of_exploration}
use Rattle.lab_deck.specs.law_histories.specs.Histories.{AppExploration, AppFault, app_exploration_read, names_application}
use Rattle.lab_deck.specs.law_histories.specs.Searches.{text_of_search}
use Rattle.lab_rules.specs.Meanings.{IsExplorationRead}
use Rattle.lab_rules.specs.declared.reading.Exploration.{Exploration}
use Rattle.lab_search.specs.Kept.{IsExplorationOf}
use Rattle.lab_search.specs.Endings.{explored_as, IsExplored, WritesFront}
use Rattle.lab_search.specs.declared.endings.Explored.{Explored}
use Rattle.lab_search.specs.declared.endings.Explored.TheVariants as explored
use Rattle.mc_script.specs.declared.job.JobFault.{JobFault}
use Rattle.mc_script.specs.declared.job.JobFault.TheVariants as fault
use Rattle.mc_filter.specs.Inputs.{ReadsLimited, ReadWhole, Rejects}
use Rattle.mc_filter.specs.Outside.{IsRead, Outside}
use Rattle.mc_filter.specs.declared.rejection.Rejection.{Rejection}
use Rattle.mc_filter.specs.declared.rejection.Rejection.TheVariants as rejection
use Rattle.mc_filter.specs.declared.status.Status.{Status}
use Rattle.mc_filter.specs.declared.status.Status.TheVariants.{WriteFault}
use Rattle.mellab.specs.declared.job.Job.{Job}
use Rattle.mellab.specs.declared.job.Job.TheVariants as job
use Rattle.mellab.specs.Verdicts.{LabVerdict, Reports, ReportsPart, Refusal, app_fault_line, ending_verdict, exploration_fault_line, exploration_verdict, text_of_verdict, IsAppVerdict, IsExplorationVerdict, IsVerdictOfJob}
use Rattle.mellab.specs.Running.{refused_application, refused_exploration, status_explored, EndsApplication, EndsExploration, RejectsLabJob}
use Rattle.mellab.specs.Statuses.{IsTextWritten, MellabEnds}

-- ---- the deck and its rules

-- an exploration that was read, as the definition has it
pub record ReadAs (text : List ℕ) (e : Exploration) : Type 0 where
  pub exploration : rule.Exploration
  pub is : exploration_read text ≡ Ok exploration
  pub of : IsExplorationOf e exploration

read_by : {E : Type 0} (text : List ℕ) (e : Exploration) (r : Result rule.Exploration E) → ((x : rule.Exploration) → r ≡ Ok x → exploration_read text ≡ Ok x) → IsExplorationRead e r → ReadAs text e
read_by text e (Ok x) same h = let is = same x refl in record { exploration = x; is = is; of = record { deck = h.0; rules = h.1; cards = moves_of_exploration text x is } }
read_by text e (Err f) same h = absurd h

pub read_as : (text : List ℕ) (e : Exploration) → IsExplorationRead e (exploration_read text) → ReadAs text e
read_as text e h = read_by text e (exploration_read text) (λ x s. s) h

-- ---- the end

-- the verdict on an exploration, by its text and how it ended
abbrev verdict_by : List ℕ → Explored → LabVerdict
verdict_by text explored.All = Reports text true
verdict_by text explored.Partial = ReportsPart text
verdict_by text explored.Broken = Reports text false

verdict_is : (text : List ℕ) (end : Ending) → ending_verdict text end ≡ verdict_by text (explored_as end)
verdict_is text All = refl
verdict_is text (AtDepth d) = refl
verdict_is text (Broken name path) = refl
verdict_is text (TooMany d) = refl

same_text : (text : List ℕ) (e : Explored) → text_of_verdict (verdict_by text e) ≡ text
same_text text explored.All = refl
same_text text explored.Partial = refl
same_text text explored.Broken = refl

module _ (depth most : ℕ) (a : Outside) (input : List ℕ) (read : ReadWhole a.input_old a.input input) (text : List ℕ) (end : Ending) (is : IsVerdictOfJob (job.Explore depth most) input (ending_verdict text end)) where
  -- the verdict that is due
  due : (e : Explored) → e ≡ explored_as end → IsRead Refusal (IsVerdictOfJob (job.Explore depth most)) a.input_old a.input (verdict_by text e)
  due e how =
      inr (record {
        input = input;
        read = read;
        is = subst (λ (v : LabVerdict). IsVerdictOfJob (job.Explore depth most) input v) (verdict_is text end ∙ ap (verdict_by text) (sym how)) is;
      })

  failed : (v : LabVerdict) → Fails a.out_old (text_of_verdict v) a.out → IsTextWritten v WriteFault a
  failed (Reports t well) w = record { result = Err (record {}); status = refl; written = w }
  failed (ReportsPart t) w = record { result = Err (record {}); status = refl; written = w }
  failed (Refusal t) w = record { result = Err (record {}); status = refl; written = w }

  ends_as : (r : Result Explored JobFault) → IsExplored a.out_old text end r a.out → MellabEnds (job.Explore depth most) a (status_explored r)
  ends_as (Ok explored.All) h =
      record { verdict = verdict_by text explored.All; due = due explored.All h.ending; done = record { result = Ok tt; status = refl; written = h.text } }
  ends_as (Ok explored.Partial) h =
      record { verdict = verdict_by text explored.Partial; due = due explored.Partial h.ending; done = record { result = Ok tt; status = refl; written = h.text } }
  ends_as (Ok explored.Broken) h =
      record { verdict = verdict_by text explored.Broken; due = due explored.Broken h.ending; done = record { result = Ok tt; status = refl; written = h.text } }
  ends_as (Err fault.WriteFault) h =
      let e = explored_as end in
      record {
        verdict = verdict_by text e;
        due = due e refl;
        done = failed (verdict_by text e) (subst (λ (t : List ℕ). Fails a.out_old t a.out) (sym (same_text text e)) h.text);
      }
  ends_as (Err fault.NoMemory) h =
      inr (record {
        input = input;
        read = read;
        verdict = ending_verdict text end;
        due = is;
        written = subst (λ (t : List ℕ). WritesFront a.out_old t a.out) (sym (ap text_of_verdict (verdict_is text end) ∙ same_text text (explored_as end))) h.text;
      })

  ends_explored : (r : Result Explored JobFault) (s : Status) → s ≡ status_explored r → IsExplored a.out_old text end r a.out → MellabEnds (job.Explore depth most) a s
  ends_explored r s e h = subst (λ (t : Status). MellabEnds (job.Explore depth most) a t) (sym e) (ends_as r h)

-- ---- the two kinds of decks

due_by : (depth most : ℕ) (input : List ℕ) (named : Bool) (v : LabVerdict) → names_application input ≡ named → IsExplorationVerdict named depth most input v → IsVerdictOfJob (job.Explore depth most) input v
due_by depth most input named v e h = subst (λ (b : Bool). IsExplorationVerdict b depth most input v) (sym e) h

module _ (depth most : ℕ) (a : Outside) (input : List ℕ) (read : ReadWhole a.input_old a.input input) where
  -- an exploration of a deck whose rules name no application ended
  pub ends_moves : (s : Status) → names_application input ≡ false → EndsExploration depth most input a.out_old a.out s → MellabEnds (job.Explore depth most) a s
  ends_moves s named h =
      let text = text_within most depth h.exploration in
      let end = (search_of most depth h.exploration).ending in
      let verdict = due_by depth most input false (ending_verdict text end) named (sym (ap (exploration_verdict depth most) h.is)) in
      ends_explored depth most a input read text end verdict h.result s h.status h.explored

  -- one of a deck whose rules speak of an application ended
  pub ends_application : (s : Status) → names_application input ≡ true → EndsApplication depth input a.out_old a.out s → MellabEnds (job.Explore depth most) a s
  ends_application s named h =
      let q = h.explored.search in
      let text = text_of_search (play_of_deck h.exploration.lines) q in
      let found : IsAppVerdict depth (Ok h.exploration) (ending_verdict text q.ending) = record { rules = h.rules; are = h.are; search = q; found = h.explored.found; verdict = refl } in
      let verdict = due_by depth most input true (ending_verdict text q.ending) named (subst (λ (r : Result AppExploration AppFault). IsAppVerdict depth r (ending_verdict text q.ending)) (sym h.is) found) in
      ends_explored depth most a input read text q.ending verdict h.result s h.status h.explored.explored

  few : ReadsLimited a.input_old a.input
  few = (read.quiet, record { front = input; took = read.bytes; bound = let fits = read.fits in omega (arith, fits) })

  rejects_by : (Is : List ℕ → Type 0) → ((line : List ℕ) → Is line → IsVerdictOfJob (job.Explore depth most) input (Refusal line)) → (e : Rejection) → Rejects Is e → RejectsLabJob (job.Explore depth most) a e
  rejects_by Is f (rejection.Refusal line) h = inr (record { input = input; read = read; is = f line.items h })
  rejects_by Is f rejection.ReadFault h = absurd h
  rejects_by Is f rejection.NoMemory h = few

  refusal_moves : (r : Result rule.Exploration rule.ExplorationFault) (line : List ℕ) → refused_exploration r line → Refusal line ≡ exploration_verdict depth most r
  refusal_moves (Ok x) line h = absurd h
  refusal_moves (Err e) line h = ap Refusal h

  refusal_application : (r : Result AppExploration AppFault) (line : List ℕ) → refused_application r line → IsAppVerdict depth r (Refusal line)
  refusal_application (Ok x) line h = absurd h
  refusal_application (Err e) line h = ap Refusal h

  -- a deck whose rules name no application is rejected
  pub rejects_moves : (e : Rejection) → names_application input ≡ false → Rejects (refused_exploration (exploration_read input)) e → RejectsLabJob (job.Explore depth most) a e
  rejects_moves e named h =
      rejects_by (refused_exploration (exploration_read input)) (λ line i. due_by depth most input false (Refusal line) named (refusal_moves (exploration_read input) line i)) e h

  -- one whose rules speak of an application is rejected
  pub rejects_application : (e : Rejection) → names_application input ≡ true → Rejects (refused_application (app_exploration_read input)) e → RejectsLabJob (job.Explore depth most) a e
  rejects_application e named h =
      rejects_by (refused_application (app_exploration_read input)) (λ line i. due_by depth most input true (Refusal line) named (refusal_application (app_exploration_read input) line i)) e h

-- ---- results

pub if_ok : {A E : Type 0} (P Q : A → Type 0) (r : Result A E) → ((x : A) → P x → Q x) → IfOk r P → IfOk r Q
if_ok P Q (Ok x) f h = f x h
if_ok P Q (Err e) f h = tt

pub if_err : {A E : Type 0} (P Q : E → Type 0) (r : Result A E) → ((e : E) → P e → Q e) → IfErr r P → IfErr r Q
if_err P Q (Ok x) f h = tt
if_err P Q (Err e) f h = f e h
