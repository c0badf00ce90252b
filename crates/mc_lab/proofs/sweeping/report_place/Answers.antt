use Rattle.std.proofs.Common.{◌∙◌, List, ℕ, refl, subst}
use Rattle.mc_text.specs.Texts.{Sunk, sunk_in, Fails, Writes}
use Rattle.mc_text.proofs.TextLemmas.{fails_before, fails_then, writes_then}
use Rattle.mc_lab.specs.Remarked.{remark_values}
use Rattle.mc_lab.specs.SweepEnds.{pending_value}
use Rattle.mc_lab.proofs.ExpectLemmas.{fails_done}
use Rattle.mc_lab.proofs.SweepRows.{place_fine, place_left, place_text, text_by}
use Rattle.mc_lab.proofs.sweeping.report_place.Goals as goal

pub returns-in_err-passed-clause-reported : goal.returns-in_err-passed-clause-reported
returns-in_err-passed-clause-reported g c =
    λ s of.
    let marks = remark_values c.args.marks.now in
    let a : Sunk = sunk_in g.T.Sink.taken g.T.Sink.faults c.args.out.now in
    let b : Sunk = sunk_in g.T.Sink.taken g.T.Sink.faults c.put_above.new.out in
    let q = pending_value (remark_values c.args.marks.now) c.args.pending.now in
    fails_done c.from_residual.result c.from_residual.ensures.0
    (subst (λ (t : List ℕ). Fails a t b) (place_text marks q s c.args.number c.args.words.now c.args.broken of) (fails_before (text_by c.args.number c.args.words.now c.args.broken) c.in_err-passed.ensures.reported))

pub returns-in_err-put_swept-clause-reported : goal.returns-in_err-put_swept-clause-reported
returns-in_err-put_swept-clause-reported g c =
    λ s of.
    let marks = remark_values c.args.marks.now in
    let a : Sunk = sunk_in g.T.Sink.taken g.T.Sink.faults c.args.out.now in
    let b : Sunk = sunk_in g.T.Sink.taken g.T.Sink.faults c.put_swept.new.out in
    let q = pending_value (remark_values c.args.marks.now) c.args.pending.now in
    fails_done c.from_residual-in_err-put_swept.result c.from_residual-in_err-put_swept.ensures.0
    (subst (λ (t : List ℕ). Fails a t b) (place_text marks q s c.args.number c.args.words.now c.args.broken of) (fails_then c.in_ok-passed.ensures.reported c.in_err-put_swept.ensures))

pub returns-clause-reported : goal.returns-clause-reported
returns-clause-reported g c =
    λ s of.
    let marks = remark_values c.args.marks.now in
    let a : Sunk = sunk_in g.T.Sink.taken g.T.Sink.faults c.args.out.now in
    let b : Sunk = sunk_in g.T.Sink.taken g.T.Sink.faults c.put_swept.new.out in
    let q = pending_value (remark_values c.args.marks.now) c.args.pending.now in
    subst (λ (t : List ℕ). Writes a t b) (place_text marks q s c.args.number c.args.words.now c.args.broken of) (writes_then c.in_ok-passed.ensures.reported c.in_ok-put_swept.ensures)

pub returns-clause-fine : goal.returns-clause-fine
returns-clause-fine g c =
    λ s of.
    let marks = remark_values c.args.marks.now in c.is_fine.ensures ∙ place_fine marks (pending_value (remark_values c.args.marks.now) c.args.pending.now) s c.args.number c.args.words.now c.args.broken of c.in_ok-passed.passed.whole c.in_ok-passed.ensures.whole

pub returns-clause-left : goal.returns-clause-left
returns-clause-left g c = λ s e. place_left (pending_value (remark_values c.args.marks.now) c.args.pending.now) _ s c.args.number e refl c.in_ok-passed.ensures.left
