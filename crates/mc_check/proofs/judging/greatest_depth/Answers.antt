use Rattle.std.proofs.Common.{◌≡◌, ℕ, Bool, not, List, length, sym, subst, arith}
use Rattle.std.specs.Prelude.{◌&&◌, Result, Ok, Err}
use Rattle.std.proofs.lemmas.Result.{err_from_is_err_and}
use Rattle.law_family.specs.model_machine.specs.Code.{instruction_at}
use Rattle.mc_check.specs.declared.table.Entry.{Entry}
use Rattle.mc_check.specs.declared.table.Refusal.{Refusal}
use Rattle.mc_check.specs.Judging.{plain_at, depth_of}
use Rattle.mc_check.specs.Table.{routine_of, base_in}
use Rattle.mc_check.proofs.TablePasses.{Known, Passes, depth_in, passes_none, passes_skip, passes_more, accepts, refuses, entry_begins, entry_reached}
use Rattle.mc_check.proofs.TableReads.{read_kept, unread}
use Rattle.mc_check.proofs.judging.greatest_depth.Goals as goal
use Rattle.mc_check.proofs.judging.greatest_depth.Goals.{After-has_call-has_calls, in-Some+in_ok-depth, in_default}

known : (c : After-has_call-has_calls) → Known c.args.code.now c.args.table.now c.args.bases.now c.has_call-has_calls.result
known c = record { whole = c.requires.whole; based = c.requires.based; reported = c.has_call-has_calls.ensures }

-- a depth with the base that was read
based : (code : List ℕ) (session : ℕ) (bases : List ℕ) (calls : Bool) (p : ℕ) (e : Entry) (base : ℕ) (r : Result ℕ Refusal) → base ≡ base_in bases (routine_of e.routine)
    → r ≡ depth_of session p base e.height (calls && not (plain_at session e.height (instruction_at code p))) → depth_in code session bases calls p e ≡ r
based code session bases calls p e base r is depth =
    subst (λ (b : ℕ). depth_of session p b e.height (calls && not (plain_at session e.height (instruction_at code p))) ≡ r) is (sym depth)

pub loop-place-init : goal.loop-place-init
loop-place-init c = passes_none c.args.code.now c.args.session c.args.table.now c.args.bases.now c.has_call-has_calls.result

pub base_of-base-requires : goal.base_of-base-requires
base_of-base-requires c =
    let t = c.args.table.now in
    let there = read_kept t c.loop-place.place c.in-Some.entry c.loop-place-test.true c.in-Some.is in
    entry_begins c.args.code.now c.args.session t c.args.bases.now c.has_call-has_calls.result (known (goal.at.base_of-base-requires c).After-has_call-has_calls) c.loop-place.place c.in-Some.entry there

pub returns-in_err-depth-clause-refuses : goal.returns-in_err-depth-clause-refuses
returns-in_err-depth-clause-refuses c =
    let code = c.args.code.now in
    let session = c.args.session in
    let t = c.args.table.now in
    let bases = c.args.bases.now in
    let calls = c.has_call-has_calls.result in
    let place = c.loop-place.place in
    let e = c.in-Some.entry in
    let refusal : Refusal = c.in_err-depth.field-0.0 in
    let p = err_from_is_err_and c.from_residual.result c.from_residual.ensures.1 in
    let there = read_kept t place e c.loop-place-test.true c.in-Some.is in
    let depth = based code session bases calls place e c.base_of-base.result (Err refusal) c.base_of-base.ensures c.in_err-depth.ensures in
    let reported = refuses code session t bases calls (known (goal.at.returns-in_err-depth-clause-refuses c).After-has_call-has_calls) place e refusal there depth in
    rw (p.1, p.2) reported

pub loop-place-preserved : goal.loop-place-preserved
loop-place-preserved c =
    let code = c.args.code.now in
    let session = c.args.session in
    let t = c.args.table.now in
    let bases = c.args.bases.now in
    let calls = c.has_call-has_calls.result in
    let place = c.loop-place.place in
    elim c.match-entry.branch [
      | in-Some+in_ok-depth w ↦
          let e = w.in-Some.entry in
          let there = read_kept t place e c.loop-place-test.true w.in-Some.is in
          let depth = based code session bases calls place e w.base_of-base.result (Ok w.in_ok-depth.depth) w.base_of-base.ensures w.in_ok-depth.ensures in
          let reached = entry_reached code session t bases calls (known (goal.at.loop-place-preserved c).After-has_call-has_calls) place e there in
          rw (w.most-is, w.max-most.ensures) (passes_more code session t bases calls place c.loop-place.most e w.in_ok-depth.depth there depth reached c.loop-place.invariant)
      | in_default w ↦ rw w.most-is (passes_skip code session t bases calls place c.loop-place.most (unread t place w.in_default.not-Some) c.loop-place.invariant)
    ]

pub returns-clause-accepts : goal.returns-clause-accepts
returns-clause-accepts c =
    let t = c.args.table.now in
    let end : c.loop-place.place ≡ length t = omega (arith, c.loop-place-test.false, c.loop-place.auto.place-end) in
    let passes = subst (λ (n : ℕ). Passes c.args.code.now c.args.session t c.args.bases.now c.has_call-has_calls.result n c.loop-place.most) end c.loop-place.invariant in
    accepts c.args.code.now c.args.session t c.args.bases.now c.has_call-has_calls.result (known (goal.at.returns-clause-accepts c).After-has_call-has_calls) c.loop-place.most passes
