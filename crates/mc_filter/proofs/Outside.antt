-- The promises of a program at its status, and that a job is complete if no call of source or sink fails.
use Rattle.std.specs.Prelude.{⊤}
use Rattle.std.proofs.Common.{◌≡◌, ℕ, List, Result, Ok, Err, refl, sym, subst, inl, inr}
use Rattle.mc_streams.specs.Streams.{one_more}
use Rattle.mc_streams.specs.declared.refusals.WriteFault.{WriteFault as Fault}
use Rattle.mc_filter.specs.declared.status.Status.{Status}
use Rattle.mc_filter.specs.declared.status.Status.TheVariants.{Done, Failed, NoForm, ReadFault, WriteFault, NoMemory, Partial}
use Rattle.mc_filter.specs.Statuses.{status_after_writing}
use Rattle.mc_filter.specs.Outside.{long, short, AllStands, Completes, IsRead, IsWithoutFault, JobSays, NoJobSays, Outside, PartJobSays}
use Rattle.mc_filter.specs.Inputs.{Stream}
use Rattle.mc_filter.proofs.Inputs.{all_read, long_read, rose_once}

-- ---- statuses

-- a status of a job whose text was written completely
abbrev pub IsEnd : Status → Type 0
IsEnd Done = ⊤
IsEnd Failed = ⊤
IsEnd Partial = ⊤
IsEnd NoForm = ⊥
IsEnd ReadFault = ⊥
IsEnd WriteFault = ⊥
IsEnd NoMemory = ⊥

-- the promise of a job that was done, at the status that its writing ended with
pub says_done : (Did : Status → Type 0) (Faulty Short : Type 0) (r : Result (Unit {0}) Fault) (s : Status) → s ≡ status_after_writing Done r → Did s → JobSays Did Faulty Short s
says_done Did Faulty Short (Ok u) s e d = subst (λ s. JobSays Did Faulty Short s) (sym e) (subst Did e d)
says_done Did Faulty Short (Err f) s e d = subst (λ s. JobSays Did Faulty Short s) (sym e) (subst Did e d)

-- the promise of a job that was refused, at the status that its writing ended with
pub says_refused : (Did : Status → Type 0) (Faulty Short : Type 0) (r : Result (Unit {0}) Fault) (s : Status) → s ≡ status_after_writing Failed r → Did s → JobSays Did Faulty Short s
says_refused Did Faulty Short (Ok u) s e d = subst (λ s. JobSays Did Faulty Short s) (sym e) (subst Did e d)
says_refused Did Faulty Short (Err f) s e d = subst (λ s. JobSays Did Faulty Short s) (sym e) (subst Did e d)

-- the promise of a job that may also be done in part, at the status that its writing ended with
pub says_part : (Did : Status → Type 0) (Faulty Short : Type 0) (good : Status) (r : Result (Unit {0}) Fault) (s : Status) → IsEnd good → s ≡ status_after_writing good r → Did s → PartJobSays Did Faulty Short s
says_part Did Faulty Short Done (Ok u) s g e d = subst (λ s. PartJobSays Did Faulty Short s) (sym e) (subst Did e d)
says_part Did Faulty Short Failed (Ok u) s g e d = subst (λ s. PartJobSays Did Faulty Short s) (sym e) (subst Did e d)
says_part Did Faulty Short Partial (Ok u) s g e d = subst (λ s. PartJobSays Did Faulty Short s) (sym e) (subst Did e d)
says_part Did Faulty Short NoForm (Ok u) s g e d = absurd g
says_part Did Faulty Short ReadFault (Ok u) s g e d = absurd g
says_part Did Faulty Short WriteFault (Ok u) s g e d = absurd g
says_part Did Faulty Short NoMemory (Ok u) s g e d = absurd g
says_part Did Faulty Short good (Err f) s g e d = subst (λ s. PartJobSays Did Faulty Short s) (sym e) (subst Did e d)

-- the promise of the usage line, if the arguments select no job
pub says_no_job : (Wrote : Status → Type 0) (r : Result (Unit {0}) Fault) (s : Status) → s ≡ status_after_writing NoForm r → Wrote s → NoJobSays Wrote s
says_no_job Wrote (Ok u) s e d = subst (λ s. NoJobSays Wrote s) (sym e) (subst Wrote e d)
says_no_job Wrote (Err f) s e d = subst (λ s. NoJobSays Wrote s) (sym e) (subst Wrote e d)

-- ---- completeness

-- a verdict on what was read is one on all that was left
pub all_stands : {V : Type 0} (refusal : List ℕ → V) (Stand : List ℕ → V → Type 0) (a b : Stream) (v : V) → IsRead refusal Stand a b v → AllStands refusal Stand a.left v
all_stands {V} refusal Stand a b v (inl more) =
    let all = long_read a.left b.left more.over in
    subst (λ (v : V). AllStands refusal Stand a.left v) (sym more.is) (long all.input all.all all.over)
all_stands {V} refusal Stand a b v (inr whole) = short whole.input v (all_read a.left b.left whole.input whole.read.bytes whole.read.end) whole.read.fits whole.is

-- a job with these promises is complete, if all that is done without a fault is done whole
pub complete : (Did Whole : Status → Type 0) (Faulty Short : Type 0) (a : Outside) (s : Status) → ((t : Status) → IsWithoutFault a → Did t → Whole t) → (Faulty → a.input.faults ≡ one_more a.input_old.faults)
    → JobSays Did Faulty Short s → Completes (Whole s) s a
complete Did Whole Faulty Short a Done whole rose says quiet = inl (whole Done quiet says)
complete Did Whole Faulty Short a Failed whole rose says quiet = inl (whole Failed quiet says)
complete Did Whole Faulty Short a WriteFault whole rose says quiet = inl (whole WriteFault quiet says)
complete Did Whole Faulty Short a NoForm whole rose says quiet = absurd says
complete Did Whole Faulty Short a ReadFault whole rose says quiet = absurd (quiet.reads (rose_once a.input_old.faults a.input.faults (rose says)))
complete Did Whole Faulty Short a NoMemory whole rose says quiet = inr refl
complete Did Whole Faulty Short a Partial whole rose says quiet = absurd says

-- the same of a job that may also be done in part
pub complete_part : (Did Whole : Status → Type 0) (Faulty Short : Type 0) (a : Outside) (s : Status) → ((t : Status) → IsWithoutFault a → Did t → Whole t) → (Faulty → a.input.faults ≡ one_more a.input_old.faults)
    → PartJobSays Did Faulty Short s → Completes (Whole s) s a
complete_part Did Whole Faulty Short a Done whole rose says quiet = inl (whole Done quiet says)
complete_part Did Whole Faulty Short a Failed whole rose says quiet = inl (whole Failed quiet says)
complete_part Did Whole Faulty Short a WriteFault whole rose says quiet = inl (whole WriteFault quiet says)
complete_part Did Whole Faulty Short a NoForm whole rose says quiet = absurd says
complete_part Did Whole Faulty Short a ReadFault whole rose says quiet = absurd (quiet.reads (rose_once a.input_old.faults a.input.faults (rose says)))
complete_part Did Whole Faulty Short a NoMemory whole rose says quiet = inr refl
complete_part Did Whole Faulty Short a Partial whole rose says quiet = inl (whole Partial quiet says)
