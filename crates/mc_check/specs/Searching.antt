-- A search along calls, from routines to their callers: the bases that it found, and the routines that are open.
use Rattle.std.specs.Prelude.{◌≡◌, ◌<◌, ◌≤◌, ◌+◌, ◌-◌, ◌*◌, ℕ, Bool, true, false, List, length, slice_get, count_by, Option, Some, None}
use Rattle.model_stack.specs.StackShape.{At}
use Rattle.mc_check.specs.CallList.{IsCalled, EntersIn, IsBaseIn}
use Rattle.mc_check.specs.declared.calls.Call.{Call}
use Rattle.mc_check.specs.declared.table.Routine.{Routine as Owner}
use Rattle.mc_check.specs.declared.table.Routine.TheVariants as owner
use Rattle.mc_check.specs.declared.bases.Progress.{Progress}
use Rattle.mc_check.specs.declared.bases.Progress.TheVariants as progress
use Rattle.mc_check.specs.declared.bases.Answer.{Answer}
use Rattle.mc_check.specs.declared.bases.Answer.TheVariants as answer

-- ---- answers for a call

-- the base of a call's target by this call, from the search's progress with its caller at place p, or why there is none
-- yet
abbrev pub answer_by_progress : Call → ℕ → Option Progress → Answer
answer_by_progress c p None = answer.Unseen p
answer_by_progress c p (Some progress.Unseen) = answer.Unseen p
answer_by_progress c p (Some progress.Open) = answer.Open c.place
answer_by_progress c p (Some (progress.Done b)) = answer.Base (b + c.height + 4)

-- the base of a call's target by this call, for any caller, or why there is none yet
abbrev pub answer_to_owner : List Progress → Call → Owner → Answer
answer_to_owner states c owner.Main = answer.Base (c.height + 4)
answer_to_owner states c (owner.At p) = answer_by_progress c p (slice_get states p)

-- the base of a call's target by this call, or why there is none yet
abbrev pub answer_of_call : List Progress → Call → Answer
answer_of_call states c = answer_to_owner states c c.caller

-- the answer is that for some call of the routine at q
pub record CallReports (states : List Progress) (calls : List Call) (q : ℕ) (a : Answer) : Type 0 where
  pub at : ℕ
  pub call : Call
  pub there : slice_get calls at ≡ Some call
  pub target : call.target ≡ q
  pub reports : answer_of_call states call ≡ a

-- among the first n calls, each one of the routine at q has a base that is at most b
abbrev pub AreAtMost : List Progress → List Call → ℕ → ℕ → ℕ → Type 0
AreAtMost states calls q n b =
    (k : ℕ) (c : Call) → k < n → slice_get calls k ≡ Some c → c.target ≡ q → (d : ℕ) × (answer_of_call states c ≡ answer.Base d) × (d ≤ b)

-- the greatest base by the calls of the routine at q, or a caller without a base
abbrev pub Answers : List Progress → List Call → ℕ → Answer → Type 0
Answers states calls q (answer.Base b) = CallReports states calls q (answer.Base b) × AreAtMost states calls q (length calls) b
Answers states calls q (answer.Unseen p) = CallReports states calls q (answer.Unseen p)
Answers states calls q (answer.Open p) = CallReports states calls q (answer.Open p)

-- ---- the state of the search

-- whether a routine was not seen
abbrev pub is_unseen : Progress → Bool
is_unseen progress.Unseen = true
is_unseen progress.Open = false
is_unseen (progress.Done b) = false

-- the number of routines that were not seen
abbrev pub count_of_unseen : List Progress → ℕ
count_of_unseen states = count_by is_unseen states

-- each base that was found is at most this number
abbrev pub AreBelow : ℕ → List Progress → Type 0
AreBelow most states = (q b : ℕ) → slice_get states q ≡ Some (progress.Done b) → b ≤ most

-- the routine at q was seen
abbrev pub IsSeen : List Progress → ℕ → Type 0
IsSeen states q = slice_get states q ≡ Some progress.Unseen → ⊥

-- routines that were seen before are seen after
abbrev pub StaySeen : List Progress → List Progress → Type 0
StaySeen old new = (q : ℕ) → IsSeen old q → IsSeen new q

-- the base that was found, or 0 if none was
abbrev pub base_of : Progress → ℕ
base_of progress.Unseen = 0
base_of progress.Open = 0
base_of (progress.Done b) = b

-- The open routines are called, each one reaches those before it, and no routine is open beside them; the bases that
-- were found are bases, and at most 65,539 for each routine that is neither unseen nor open.
pub record Searches (calls : List Call) (states : List Progress) (stack : List ℕ) : Type 0 where
  pub called : (k q : ℕ) → slice_get stack k ≡ Some q → IsCalled calls q
  pub enters : (i j p q : ℕ) → i ≤ j → slice_get stack i ≡ Some p → slice_get stack j ≡ Some q → EntersIn calls (At q) (At p)
  pub on_stack : (q : ℕ) → slice_get states q ≡ Some progress.Open → (k : ℕ) × (slice_get stack k ≡ Some q)
  pub bases : (q b : ℕ) → slice_get states q ≡ Some (progress.Done b) → IsBaseIn calls q b
  pub room : count_of_unseen states + length stack ≤ length states
  pub bound : AreBelow (65539 * (length states - count_of_unseen states - length stack)) states

-- the work that is left: each unseen routine may be entered, and each open one is left
abbrev pub remaining_work : List Progress → List ℕ → ℕ
remaining_work states stack = 2 * count_of_unseen states + length stack
