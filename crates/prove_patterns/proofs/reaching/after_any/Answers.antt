use Rattle.std.proofs.Common.{arith}
use Rattle.prove_facts.specs.model_prove.specs.Texts.{after_any}
use Rattle.prove_patterns.specs.Opens.{many_of}
use Rattle.prove_patterns.proofs.ReachLemmas.{any_turn, any_end, same_size, other_size}
use Rattle.prove_patterns.proofs.reaching.after_any.Goals as goal

pub returns-then-len-before : goal.returns-then-len-before
returns-then-len-before c n h =
    any_end n c.loop-round._round (many_of c.loop-round.many.items) (many_of c.add_bytes.new.many.items) (after_any n (many_of c.args.from.items)) (omega (arith, h, c.loop-round-test.true))
    c.in_ok-add_bytes.ensures (same_size c.add_bytes.new.many c.loop-round.many _ _ c.len.ensures c.len-before.ensures c.if-len-before.true) (c.loop-round.invariant n h)

pub loop-round-preserved : goal.loop-round-preserved
loop-round-preserved c n h =
    any_turn n c.loop-round._round (many_of c.loop-round.many.items) (many_of c.add_bytes.new.many.items) (after_any n (many_of c.args.from.items)) (omega (arith, h, c.loop-round-test.true))
    c.in_ok-add_bytes.ensures (λ same. c.if-len-before.false (other_size c.add_bytes.new.many c.loop-round.many _ _ c.len.ensures c.len-before.ensures same)) (c.loop-round.invariant n h)
