use Rattle.std.proofs.Common.{ℕ, ◌+◌, sym, ap, ◌∙◌, true, false, Option, List, arith}
use Rattle.std.specs.Prelude.{is_some}
use Rattle.mc_words.specs.model_device.specs.Pieces.{pending_at}
use Rattle.mc_segs.proofs.PutLemmas.{missing_next, none_from}
use Rattle.mc_segs.proofs.protection.missing.Goals as goal
use Rattle.mc_segs.proofs.protection.missing.Goals.{then-is_none, else-is_none}

pub loop-number-preserved : goal.loop-number-preserved
loop-number-preserved c =
    let n = c.loop-number.number in
    let end = c.args.first + c.args.count in
    let lt = c.loop-number-test.true in
    let value = c.loop-number.invariant.value in
    let bound = c.loop-number.invariant.bound in
    elim c.if-is_none.branch [
      | then-is_none w ↦
          let next = missing_next n end c.args.pending.now true (none_from (pending_at c.args.pending.now n) c.is_none.result true (ap (λ (o : Option (List ℕ)). is_some o) (sym c.get.ensures) ∙ c.is_none.ensures) w.if-is_none.true) lt in
          let is = w.missing-is in
          record { value = omega (arith, next); bound = omega arith }
      | else-is_none w ↦
          let next = missing_next n end c.args.pending.now false (none_from (pending_at c.args.pending.now n) c.is_none.result false (ap (λ (o : Option (List ℕ)). is_some o) (sym c.get.ensures) ∙ c.is_none.ensures) w.if-is_none.false) lt in
          let is = w.missing-is in
          record { value = omega (arith, next); bound = omega arith }
    ]
