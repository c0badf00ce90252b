use Rattle.std.proofs.Common.{◌≡◌, ℕ, suc, ◌-◌, ◌<◌, ◌∙◌, length, drop, arith, subst}
use Rattle.desk_draft.specs.Declarations.{gives_later}
use Rattle.desk_draft.specs.Views.{gives_later_each, line_texts}
use Rattle.desk_draft.proofs.LineLemmas.{given_more, judged_more, length_set}
use Rattle.desk_draft.proofs.line.gives_later.Goals as goal

pub loop-i-preserved : goal.loop-i-preserved
loop-i-preserved c =
    let ls = c.args.lines.now in
    let test = c.loop-i-test.true in
    let inside = c.loop-i.invariant.within in
    let one : c.loop-i.i ≡ suc (c.loop-i.i - 1) = omega (arith, test) in
    let low : c.loop-i.i - 1 < length ls = omega (arith, test, inside) in
    let given = subst (λ (k : ℕ). c.loop-i.given ≡ gives_later (drop k (line_texts ls))) one c.loop-i.invariant.given in
    let judged = subst (λ (k : ℕ). drop k c.loop-i.later.items ≡ gives_later_each (drop k (line_texts ls))) one c.loop-i.invariant.judged in
    record {
      all = length_set c.loop-i.later.items (c.loop-i.i - 1) c.loop-i.given ∙ c.loop-i.invariant.all;
      within = omega (arith, inside);
      given = given_more ls _ (c.loop-i.i - 1) c.loop-i.given c.gives_from-given.result low given c.gives_from-given.ensures;
      judged = judged_more ls c.loop-i.later.items (c.loop-i.i - 1) c.loop-i.given low c.loop-i.invariant.all given judged;
    }
