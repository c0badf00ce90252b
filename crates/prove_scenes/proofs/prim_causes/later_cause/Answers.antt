use Rattle.prove_scenes.specs.Heads.{around_value}
use Rattle.prove_scenes.proofs.prim_causes.later_cause.Goals as goal

pub returns-in-CheckCase : goal.returns-in-CheckCase
returns-in-CheckCase c = rw c.in-CheckCase.is (c.check_case.ensures c.args.args.now (around_value c.args.around.now))

pub returns-in-Lookup : goal.returns-in-Lookup
returns-in-Lookup c = rw c.in-Lookup.is (c.look_up.ensures c.args.args.now (around_value c.args.around.now))

pub returns-in-MemoryCompare : goal.returns-in-MemoryCompare
returns-in-MemoryCompare c = rw c.in-MemoryCompare.is (c.compare_memory.ensures c.args.args.now (around_value c.args.around.now))

pub returns-in-MemoryCopy : goal.returns-in-MemoryCopy
returns-in-MemoryCopy c = rw c.in-MemoryCopy.is (c.copy_memory.ensures c.args.args.now (around_value c.args.around.now))

pub returns-in-Delegate : goal.returns-in-Delegate
returns-in-Delegate c = rw c.in-Delegate.is (c.delegate.ensures c.args.args.now (around_value c.args.around.now))

pub returns-in-DelegatorAid : goal.returns-in-DelegatorAid
returns-in-DelegatorAid c = rw c.in-DelegatorAid.is (c.report_delegator.ensures c.args.args.now)

pub returns-in-Digest : goal.returns-in-Digest
returns-in-Digest c = rw c.in-Digest.is (c.digest.ensures c.args.args.now (around_value c.args.around.now))

pub returns-in-CompareFixed : goal.returns-in-CompareFixed
returns-in-CompareFixed c = rw c.in-CompareFixed.is (c.compare_fixed.ensures (around_value c.args.around.now))

pub returns-in-CopyFixed : goal.returns-in-CopyFixed
returns-in-CopyFixed c = rw c.in-CopyFixed.is (c.copy_fixed.ensures (around_value c.args.around.now))

pub returns-in-Sign : goal.returns-in-Sign
returns-in-Sign c = rw c.in-Sign.is (c.sign.ensures (around_value c.args.around.now))
