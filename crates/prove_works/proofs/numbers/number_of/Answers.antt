use Rattle.std.proofs.Common.{arith}
use Rattle.model_device.proofs.ListLemmas.{all_bytes}
use Rattle.prove_works.proofs.NumberLemmas.{number_next, number_fits, number_all, below_greatest}
use Rattle.prove_works.proofs.numbers.number_of.Goals as goal

pub overflow_mul-number : goal.overflow_mul-number
overflow_mul-number c =
    let fits = number_fits c.args.bytes.now c.loop-byte.number c.loop-byte.byte-index (all_bytes c.args.bytes.now c.type_inv.bytes) c.requires c.loop-byte-test.true c.loop-byte.invariant in
    omega (arith, fits)

pub overflow_add-number : goal.overflow_add-number
overflow_add-number c =
    let fits = number_fits c.args.bytes.now c.loop-byte.number c.loop-byte.byte-index (all_bytes c.args.bytes.now c.type_inv.bytes) c.requires c.loop-byte-test.true c.loop-byte.invariant in
    omega (arith, fits)

pub loop-byte-preserved : goal.loop-byte-preserved
loop-byte-preserved c = number_next c.args.bytes.now c.loop-byte.number c.loop-byte.byte-index _ c.loop-byte-test.true c.loop-byte.invariant

pub returns-clause-small : goal.returns-clause-small
returns-clause-small c =
    below_greatest c.args.bytes.now c.loop-byte.number (all_bytes c.args.bytes.now c.type_inv.bytes)
    (number_all c.args.bytes.now c.loop-byte.number c.loop-byte.byte-index (omega arith) c.loop-byte.invariant)

pub returns-clause-value : goal.returns-clause-value
returns-clause-value c = number_all c.args.bytes.now c.loop-byte.number c.loop-byte.byte-index (omega arith) c.loop-byte.invariant
