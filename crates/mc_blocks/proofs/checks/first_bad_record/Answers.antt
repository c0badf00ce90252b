use Rattle.std.proofs.Common.{ℕ, [], sym, subst}
use Rattle.mc_words.specs.model_device.specs.Card.{blocks}
use Rattle.mc_words.specs.model_device.specs.Layout.{bad_record}
use Rattle.mc_blocks.specs.Blocks.{block_of}
use Rattle.mc_blocks.proofs.Entries.{RecordsEntered, ended, refused, admits}
use Rattle.mc_blocks.proofs.checks.first_bad_record.Goals as goal

pub returns-then-not-admit : goal.returns-then-not-admit
returns-then-not-admit g c =
    let m = (g.N.Nvm.state c.args.device.now).words in
    sym (refused m (bad_record m (blocks m) [] 0) c.loop-block.place c.loop-block.seen.items c.admit.new.seen.items (block_of c.in-Some.block) c.admit.result
    c.loop-block.invariant c.in-Some.ensures c.if-not-admit.true c.admit.ensures)

pub loop-block-preserved : goal.loop-block-preserved
loop-block-preserved g c =
    let m = (g.N.Nvm.state c.args.device.now).words in
    let whole = bad_record m (blocks m) [] 0 in
    subst (λ (p : ℕ). RecordsEntered m whole p c.admit.new.seen.items) (sym c.end-place.ensures)
    (admits m whole c.loop-block.place c.loop-block.seen.items c.admit.new.seen.items (block_of c.in-Some.block) c.admit.result
    c.loop-block.invariant c.in-Some.ensures c.if-not-admit.false c.admit.ensures)

pub returns : goal.returns
returns g c =
    let m = (g.N.Nvm.state c.args.device.now).words in
    sym (ended m (bad_record m (blocks m) [] 0) c.loop-block.place c.loop-block.seen.items c.loop-block.invariant c.in_default.ensures)
