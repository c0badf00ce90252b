-- The base of a routine by its calls, in a pass over them.
use Rattle.std.proofs.Common.{◌≡◌, ◌⊎◌, ℕ, ◌+◌, ◌<◌, ◌≤◌, max, Bool, cond, eqb, ltb, List, length, Less, Equal, Greater, Option, Some, refl, sym, ap, subst, inl, inr, ◌∙◌, arith}
use Rattle.std.specs.Prelude.{slice_get}
use Rattle.std.specs.Ordering.{is_lt, ord_max, nat_cmp}
use Rattle.std.proofs.lemmas.Bool.{cases_eq, cases_lt, ltb-true, ltb-false}
use Rattle.std.proofs.lemmas.Option.{slice_get_within, same_Some}
use Rattle.mc_check.specs.Table.{routine_of}
use Rattle.mc_check.specs.declared.calls.Call.{Call}
use Rattle.mc_check.specs.declared.table.Routine.{Routine as Owner}
use Rattle.mc_check.specs.declared.table.Routine.TheVariants as owner
use Rattle.mc_check.specs.declared.bases.Progress.{Progress}
use Rattle.mc_check.specs.declared.bases.Answer.{Answer}
use Rattle.mc_check.specs.declared.bases.Answer.TheVariants as answer
use Rattle.mc_check.specs.CallList.{IsCalled, AreClosed}
use Rattle.mc_check.specs.Searching.{answer_by_progress, answer_to_owner, answer_of_call, CallReports, AreAtMost, Answers}

-- ---- places

pub called_is_inside : (len : ℕ) (l : List Call) (q : ℕ) → AreClosed len l → IsCalled l q → q < len
called_is_inside len l q closed called = grind arith

pub caller_is_inside : (len : ℕ) (l : List Call) (k : ℕ) (c : Call) → AreClosed len l → slice_get l k ≡ Some c → (p : ℕ) → c.caller ≡ owner.At p → p < len
caller_is_inside len l k c closed there p by = called_is_inside len l p closed (closed.callers k c p there by)

pub is_called : (l : List Call) (k : ℕ) (c : Call) → slice_get l k ≡ Some c → IsCalled l c.target
is_called l k c there = (routine_of c.caller, c.height, record { at = k; call = c; there = there; caller = refl; height = refl; target = refl })

-- ---- a base by a call is not 0

by_positive : (c : Call) (p d : ℕ) (o : Option Progress) → answer_by_progress c p o ≡ answer.Base d → 4 ≤ d
by_positive c p d o e = grind arith

of_positive : (states : List Progress) (c : Call) (d : ℕ) (o : Owner) → answer_to_owner states c o ≡ answer.Base d → 4 ≤ d
of_positive states c d owner.Main e = let same : c.height + 4 ≡ d = cc in omega arith
of_positive states c d (owner.At p) e = by_positive c p d (slice_get states p) e

-- ---- the greater one of two numbers

greater_by : (x y : Bool) (g b : ℕ) → ltb b g ≡ x → cond (is_lt (cond x Less (cond y Equal Greater))) g b ≡ max g b
greater_by x y g b e = grind (arith, ltb-true, ltb-false)

pub greater_is : (g b : ℕ) → ord_max nat_cmp g b ≡ max g b
greater_is g b = greater_by (ltb b g) (eqb b g) g b refl

-- ---- along the calls

-- the bases by the calls before a place, with the greatest one, or 0
pub record ReportsUpTo (states : List Progress) (l : List Call) (q n greatest : ℕ) : Type 0 where
  pub some : (greatest ≡ 0) ⊎ CallReports states l q (answer.Base greatest)
  pub each : AreAtMost states l q n greatest

module _ (states : List Progress) (l : List Call) (q n g : ℕ) (so : ReportsUpTo states l q n g) (c : Call) (there : slice_get l n ≡ Some c) where
  call_at : (k : ℕ) (d : Call) → k ≡ n → slice_get l k ≡ Some d → c ≡ d
  call_at k d same here = same_Some c d (sym there ∙ subst (λ (m : ℕ). slice_get l m ≡ Some d) same here)

  -- the next call is of another routine
  pub reports_other : (c.target ≡ q → ⊥) → ReportsUpTo states l q (n + 1) g
  reports_other other = record {
    some = so.some;
    each = λ k d lt here target. elim (cases_eq k n) [
      | inl same ↦ absurd (other (ap (λ (x : Call). x.target) (call_at k d same here) ∙ target))
      | inr ne ↦ so.each k d (omega arith) here target
    ];
  }

  -- the next call has a base for the routine
  pub reports_base : (b : ℕ) → c.target ≡ q → answer_of_call states c ≡ answer.Base b → ReportsUpTo states l q (n + 1) (max g b)
  reports_base b of reports = record {
    some = elim (cases_lt g b) [
      | inl lt ↦
          let greatest : b ≡ max g b = omega arith in
          inr (record { at = n; call = c; there = there; target = of; reports = reports ∙ ap answer.Base greatest })
      | inr le ↦
          let greatest : g ≡ max g b = omega arith in
          subst (λ (m : ℕ). (m ≡ 0) ⊎ CallReports states l q (answer.Base m)) greatest so.some
    ];
    each = λ k d lt here target. elim (cases_eq k n) [
      | inl same ↦ (b, ap (answer_of_call states) (sym (call_at k d same here)) ∙ reports, omega arith)
      | inr ne ↦
          let before = so.each k d (omega arith) here target in
          (before.0, before.1, omega (arith, before.2))
    ];
  }

-- all calls were passed, and one is of the routine
pub reports_all : (states : List Progress) (l : List Call) (q n g : ℕ) → ReportsUpTo states l q n g → length l ≤ n → IsCalled l q → Answers states l q (answer.Base g)
reports_all states l q n g so long called =
    let has = called.2 in
    let first = so.each has.at has.call (let inside = slice_get_within l has.at has.call has.there in omega arith) has.there has.target in
    let positive = of_positive states has.call first.0 has.call.caller first.1 in
    let each : AreAtMost states l q (length l) g = λ k c lt there target. so.each k c (omega arith) there target in
    elim so.some [
      | inl none ↦ absurd (omega (arith, first.2))
      | inr some ↦ (some, each)
    ]

-- a call whose caller has no base yet
pub reports_stop : (states : List Progress) (l : List Call) (q : ℕ) (a : Answer) → ((b : ℕ) → a ≡ answer.Base b → ⊥) → CallReports states l q a → Answers states l q a
reports_stop states l q a other is = grind arith

-- the default element, for places after the end
abbrev pub no_call : Call
no_call = record { place = 0; caller = owner.Main; height = 0; target = 0 }
