use Rattle.std.proofs.Common.{◌≡◌, ℕ, false, sym, ◌∙◌}
use borrow.Author.Count.{below_more}
use Rattle.law_family.specs.model_machine.specs.Code.{instruction_at}
use Rattle.mc_check.specs.Judging.{HasFactAt, calls_at}
use Rattle.mc_check.proofs.TableReads.{some_kept, none_kept}
use Rattle.mc_check.proofs.judging.has_call.Goals as goal
use Rattle.mc_check.proofs.judging.has_call.Goals.{else-is_some-via-then-is_some+else-calls, else-is_some-via-else-is_some}

pub returns-then-calls : goal.returns-then-calls
returns-then-calls c =
    let kept = some_kept c.args.table.now c.loop-place.place c.loop-place-test.true (sym c.is_some.ensures ∙ c.if-is_some.true) in
    (c.loop-place.place, kept, sym c.calls.ensures ∙ c.if-calls.true)

pub loop-place-preserved : goal.loop-place-preserved
loop-place-preserved c =
    let t = c.args.table.now in
    let place = c.loop-place.place in
    let Quiet : ℕ → Type 0 = λ p. HasFactAt t p → calls_at (instruction_at c.args.code.now p) ≡ false in
    let here : Quiet place = elim c.else-is_some.branch [
      | else-is_some-via-then-is_some+else-calls w ↦ λ kept. sym w.calls.ensures ∙ w.if-calls.false
      | else-is_some-via-else-is_some w ↦ λ kept. absurd (none_kept t place (sym c.is_some.ensures ∙ w.if-is_some.false) kept)
    ] in
    below_more Quiet place c.loop-place.invariant here
