use Rattle.std.proofs.Common.{◌+◌, ℕ, get_or, sym, subst, ◌∙◌}
use Rattle.std.proofs.lemmas.Option.{slice_get-get_or}
use Rattle.mc_check.proofs.CallReporting.{ReportsUpTo, no_call, caller_is_inside, greater_is, reports_other, reports_base, reports_all, reports_stop}
use Rattle.mc_check.proofs.bases.base_of.Goals as goal
use Rattle.mc_check.proofs.bases.base_of.Goals.{then-call-routine+in-Base, else-call-routine}

pub base_by-requires-clause-caller : goal.base_by-requires-clause-caller
base_by-requires-clause-caller c =
    let l = c.args.calls.now in
    let k = c.loop-call.call-index in
    caller_is_inside _ l k (get_or l k no_call) c.requires.closed (slice_get-get_or l k no_call c.loop-call-test.true)

pub returns-in_default : goal.returns-in_default
returns-in_default c =
    let l = c.args.calls.now in
    let k = c.loop-call.call-index in
    reports_stop c.args.progress.now l c.args.routine c.base_by.result c.in_default.not-Base
    (record { at = k; call = get_or l k no_call; there = slice_get-get_or l k no_call c.loop-call-test.true; target = c.if-call-routine.true; reports = sym c.base_by.ensures })

pub loop-call-preserved : goal.loop-call-preserved
loop-call-preserved c =
    let states = c.args.progress.now in
    let l = c.args.calls.now in
    let q = c.args.routine in
    let k = c.loop-call.call-index in
    let call = get_or l k no_call in
    let there = slice_get-get_or l k no_call c.loop-call-test.true in
    elim c.if-call-routine.branch [
      | then-call-routine+in-Base w ↦
          subst (λ (g : ℕ). ReportsUpTo states l q (k + 1) g) (sym (w.greatest-is ∙ w.max-greatest.ensures ∙ greater_is c.loop-call.greatest w.in-Base.base))
          (reports_base states l q k c.loop-call.greatest c.loop-call.invariant call there w.in-Base.base w.if-call-routine.true (sym w.base_by.ensures ∙ w.in-Base.is))
      | else-call-routine w ↦
          subst (λ (g : ℕ). ReportsUpTo states l q (k + 1) g) (sym w.greatest-is)
          (reports_other states l q k c.loop-call.greatest c.loop-call.invariant call there w.if-call-routine.false)
    ]

pub returns : goal.returns
returns c = reports_all c.args.progress.now c.args.calls.now c.args.routine c.loop-call.call-index c.loop-call.greatest c.loop-call.invariant c.loop-call-test.false c.requires.called
