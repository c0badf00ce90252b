-- The answers for a call, taken apart; and the base of a routine whose calls all have one.
use Rattle.std.proofs.Common.{◌≡◌, ℕ, ◌+◌, ◌≤◌, List, length, Option, Some, refl, sym, ap, subst, ◌∙◌, arith}
use Rattle.std.specs.Prelude.{slice_get}
use Rattle.std.proofs.lemmas.Option.{slice_get_within}
use Rattle.model_stack.specs.StackShape.{Routine, Main, At}
use Rattle.mc_check.specs.Table.{routine_of}
use Rattle.mc_check.specs.declared.calls.Call.{Call}
use Rattle.mc_check.specs.declared.table.Routine.{Routine as Owner}
use Rattle.mc_check.specs.declared.table.Routine.TheVariants as owner
use Rattle.mc_check.specs.declared.bases.Progress.{Progress}
use Rattle.mc_check.specs.declared.bases.Progress.TheVariants as progress
use Rattle.mc_check.specs.declared.bases.Answer.TheVariants as answer
use Rattle.mc_check.specs.CallList.{ListsCall, AreClosed, DepthIn, IsBaseIn}
use Rattle.mc_check.specs.CallList as list
use Rattle.mc_check.specs.Searching.{answer_by_progress, answer_to_owner, CallReports, AreAtMost, Answers, AreBelow}

-- ---- one call

-- an unseen caller
pub record ReportedUnseen (states : List Progress) (o : Owner) (p : ℕ) : Type 0 where
  pub by : o ≡ owner.At p
  pub none : (x : Progress) → slice_get states p ≡ Some x → x ≡ progress.Unseen

unseen_by : (c : Call) (r p : ℕ) (o : Option Progress) → answer_by_progress c r o ≡ answer.Unseen p → (r ≡ p) × ((x : Progress) → o ≡ Some x → x ≡ progress.Unseen)
unseen_by c r p o e = grind arith

pub reported_unseen : (states : List Progress) (c : Call) (p : ℕ) (o : Owner) → answer_to_owner states c o ≡ answer.Unseen p → ReportedUnseen states o p
reported_unseen states c p owner.Main e = cc
reported_unseen states c p (owner.At r) e =
    let both = unseen_by c r p (slice_get states r) e in
    record { by = ap owner.At both.0; none = subst (λ (n : ℕ). (x : Progress) → slice_get states n ≡ Some x → x ≡ progress.Unseen) both.0 both.1 }

-- an open caller
pub record ReportedOpen (states : List Progress) (c : Call) (o : Owner) (place : ℕ) : Type 0 where
  pub routine : ℕ
  pub by : o ≡ owner.At routine
  pub open_there : slice_get states routine ≡ Some progress.Open
  pub at : c.place ≡ place

open_by : (c : Call) (r p : ℕ) (o : Option Progress) → answer_by_progress c r o ≡ answer.Open p → (o ≡ Some progress.Open) × (c.place ≡ p)
open_by c r p o e = grind arith

pub reported_open : (states : List Progress) (c : Call) (p : ℕ) (o : Owner) → answer_to_owner states c o ≡ answer.Open p → ReportedOpen states c o p
reported_open states c p owner.Main e = cc
reported_open states c p (owner.At r) e =
    let both = open_by c r p (slice_get states r) e in
    record { routine = r; by = refl; open_there = both.0; at = both.1 }

-- main or a caller with a base
pub data ReportedBase (states : List Progress) (c : Call) (o : Owner) (b : ℕ) : Type 0 where
  by_main : o ≡ owner.Main → c.height + 4 ≡ b → ReportedBase states c o b
  by_done : (r d : ℕ) → o ≡ owner.At r → slice_get states r ≡ Some (progress.Done d) → d + c.height + 4 ≡ b → ReportedBase states c o b

base_by : (c : Call) (r b : ℕ) (o : Option Progress) → answer_by_progress c r o ≡ answer.Base b → (d : ℕ) × (o ≡ Some (progress.Done d)) × (d + c.height + 4 ≡ b)
base_by c r b o e = grind arith

pub reported_base : (states : List Progress) (c : Call) (b : ℕ) (o : Owner) → answer_to_owner states c o ≡ answer.Base b → ReportedBase states c o b
reported_base states c b owner.Main e = by_main refl (cc)
reported_base states c b (owner.At r) e =
    let done = base_by c r b (slice_get states r) e in
    by_done r done.0 refl done.1 done.2

-- ---- bounds

-- the base by a call is at most 65,539 more than the bases before
pub reported_bound : (states : List Progress) (l : List Call) (q b most : ℕ) → AreClosed (length states) l → AreBelow most states → CallReports states l q (answer.Base b) → b ≤ most + 65539
reported_bound states l q b most closed below reports =
    let small = closed.heights reports.at reports.call reports.there in
    elim (reported_base states reports.call b reports.call.caller reports.reports) [
      | by_main main is ↦ omega arith
      | by_done r d by there is ↦ let before = below r d there in omega arith
    ]

-- ---- a base

main_depth : {l : List Call} {r : Routine} {b : ℕ} → DepthIn l r b → r ≡ Main → b ≡ 0
main_depth list.main is = refl
main_depth (list.called deep has) is = cc

module _ (states : List Progress) (l : List Call) (known : (q b : ℕ) → slice_get states q ≡ Some (progress.Done b) → IsBaseIn l q b) where
  reached_by : (q b : ℕ) → CallReports states l q (answer.Base b) → DepthIn l (At q) b
  reached_by q b reports =
      let c = reports.call in
      elim (reported_base states c b c.caller reports.reports) [
        | by_main main is ↦
            let has : ListsCall l Main c.height q = record { at = reports.at; call = c; there = reports.there; caller = ap routine_of main; height = refl; target = reports.target } in
            let same : 0 + c.height + 4 ≡ b = omega arith in
            subst (λ (n : ℕ). DepthIn l (At q) n) same (list.called list.main has)
        | by_done r d by there is ↦
            let has : ListsCall l (At r) c.height q = record { at = reports.at; call = c; there = reports.there; caller = ap routine_of by; height = refl; target = reports.target } in
            subst (λ (n : ℕ). DepthIn l (At q) n) is (list.called (known r d there).reached has)
      ]

  -- a depth by a call is at most the base by the call
  within : (r : Routine) (b h : ℕ) (c : Call) (d : ℕ) → DepthIn l r b → routine_of c.caller ≡ r → c.height ≡ h → ReportedBase states c c.caller d → b + h + 4 ≤ d
  within r b h c d deep from height (by_main main is) =
      let none = main_depth deep (subst (λ (o : Owner). r ≡ routine_of o) main (sym from)) in
      omega arith
  within r b h c d deep from height (by_done s e by there is) =
      let same : r ≡ At s = subst (λ (o : Owner). r ≡ routine_of o) by (sym from) in
      let most = (known s e there).greatest b (subst (λ (x : Routine). DepthIn l x b) same deep) in
      omega arith

  at_most : {r : Routine} {d : ℕ} → DepthIn l r d → (q b : ℕ) → AreAtMost states l q (length l) b → r ≡ At q → d ≤ b
  at_most list.main q b most is = cc
  at_most (list.called {r} {b = d} {h} {q = t} deep has) q b most is =
      let same : t ≡ q = cc in
      let reported = most has.at has.call (slice_get_within l has.at has.call has.there) has.there (has.target ∙ same) in
      let least = within r d h has.call reported.0 deep has.caller has.height (reported_base states has.call reported.0 has.call.caller reported.1) in
      omega (arith, reported.2)

  -- the greatest base by the calls is the base
  pub base_found : (q b : ℕ) → Answers states l q (answer.Base b) → IsBaseIn l q b
  base_found q b answers = record { reached = reached_by q b answers.0; greatest = λ d deep. at_most deep q b answers.1 refl }
