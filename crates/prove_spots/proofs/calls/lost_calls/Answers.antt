use Rattle.std.proofs.Common.{arith, ◌∙◌, sym}
use Rattle.prove_spots.specs.Losses.{is_lost}
use Rattle.prove_spots.proofs.CallLemmas.{one_lost, one_kept}
use Rattle.prove_spots.proofs.calls.lost_calls.Goals as goal
use Rattle.prove_spots.proofs.calls.lost_calls.Goals.{then-is_hit, else-is_hit}

pub loop-index-preserved : goal.loop-index-preserved
loop-index-preserved c =
    let inv = c.loop-index.invariant in
    let calls = c.args.calls.now in
    let lost = is_lost c.args.loss.now in
    let i = c.loop-index.index in
    elim c.if-is_hit.branch [
      | then-is_hit w ↦ record {
        ordered = inv.ordered;
        bound = omega arith;
        kept = rw w.lost-is (one_lost lost calls i _ c.loop-index-test.true (sym c.is_hit.ensures ∙ w.if-is_hit.true));
      }
      | else-is_hit w ↦ record {
        ordered = inv.ordered;
        bound = omega arith;
        kept = rw w.lost-is (one_kept lost calls c.loop-index.lost i _ c.loop-index-test.true inv.bound (sym c.is_hit.ensures ∙ w.if-is_hit.false) inv.kept);
      }
    ]
