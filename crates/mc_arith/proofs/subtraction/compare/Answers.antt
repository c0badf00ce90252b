use Rattle.std.proofs.Common.{arith, sym}
use Rattle.std.proofs.lemmas.Grind.{common_steps}
use Rattle.law_rows.proofs.ResultLemmas.{compare_at, different, equal}
use Rattle.law_rows.specs.model_device.proofs.ListLemmas.{all_bytes}
use Rattle.mc_arith.proofs.subtraction.compare.Goals as goal

pub returns-then-a-i-clause-borrow : goal.returns-then-a-i-clause-borrow
returns-then-a-i-clause-borrow c = (compare_at c.args.a.now c.args.b.now c.loop-i.i (omega arith) (omega arith) (all_bytes c.args.a.now c.type_inv.a) (all_bytes c.args.b.now c.type_inv.b) c.if-a-i.true c.loop-i.invariant).0

pub returns-then-a-i-clause-zero : goal.returns-then-a-i-clause-zero
returns-then-a-i-clause-zero c =
    let d = compare_at c.args.a.now c.args.b.now c.loop-i.i (omega arith) (omega arith) (all_bytes c.args.a.now c.type_inv.a) (all_bytes c.args.b.now c.type_inv.b) c.if-a-i.true c.loop-i.invariant in
    sym (different c.args.a.now c.args.b.now (omega arith) (all_bytes c.args.a.now c.type_inv.a) (all_bytes c.args.b.now c.type_inv.b) d.1)

pub returns-clause-zero : goal.returns-clause-zero
returns-clause-zero c = sym (equal c.args.a.now c.args.b.now (grind (arith, common_steps, c.loop-i.invariant)))
