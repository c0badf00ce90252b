use Rattle.std.proofs.Common.{◌+◌, List, ℕ, Ok, drop, get_or, sym, subst}
use Rattle.mc_text.specs.Texts.{Writes, sunk_in}
use Rattle.mc_text.proofs.TextLemmas.{puts_as, puts_failed, puts_then, fails_before, writes_none}
use Rattle.desk_cover.specs.Records.{branch_text, branches_text}
use Rattle.desk_cover.proofs.RecordLemmas.{no_line, branch_at, no_branch_left}
use Rattle.desk_cover.proofs.lcov.put_branches.Goals as goal

pub returns-in_err-put_branch : goal.returns-in_err-put_branch
returns-in_err-put_branch g c =
    let cs = c.args.lines.now in
    let i = c.loop-line.line-index in
    let here = branch_at cs i c.loop-line-test.true in
    let r = c.from_residual in
    let failed = puts_failed r.result r.ensures.0 (fails_before {x = branch_text (get_or cs i no_line)} (branches_text (drop (i + 1) cs)) c.in_err-put_branch.ensures) in
    c.loop-line.invariant r.result _ (puts_as _ _ r.result (sym here) failed)

pub loop-line-preserved : goal.loop-line-preserved
loop-line-preserved g c r b rest =
    let cs = c.args.lines.now in
    let i = c.loop-line.line-index in
    let here = branch_at cs i c.loop-line-test.true in
    c.loop-line.invariant r b (puts_as _ _ r (sym here) (puts_then {x = branch_text (get_or cs i no_line)} b (branches_text (drop (i + 1) cs)) r c.in_ok-put_branch.ensures rest))

pub returns : goal.returns
returns g c =
    let now = sunk_in g.T.Sink.taken g.T.Sink.faults c.loop-line.out in
    c.loop-line.invariant (Ok tt) now (subst (λ (bs : List ℕ). Writes now bs now) (sym (no_branch_left c.args.lines.now c.loop-line.line-index c.loop-line-test.false)) (writes_none now))
