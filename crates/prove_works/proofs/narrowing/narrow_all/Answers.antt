use Rattle.std.specs.Prelude.{Some}
use Rattle.prove_works.specs.Searches.{sets_of}
use Rattle.prove_works.proofs.NarrowLemmas.{narrow_first, narrow_next, narrow_stop}
use Rattle.prove_works.proofs.narrowing.narrow_all.Goals as goal

pub loop-index-init : goal.loop-index-init
loop-index-init c = narrow_first c.args.at (sets_of c.args.list.now) (Some c.args.facts.now)

pub returns-then-not-branch : goal.returns-then-not-branch
returns-then-not-branch c =
    narrow_stop c.args.list.now c.args.at c.loop-index.index _ c.loop-index.facts c.narrow.new.facts c.in_ok-narrow.field-0 _ c.loop-index-test.true
    c.if-not-branch.true c.in_ok-narrow.ensures c.loop-index.invariant

pub loop-index-preserved : goal.loop-index-preserved
loop-index-preserved c =
    narrow_next c.args.list.now c.args.at c.loop-index.index _ c.loop-index.facts c.narrow.new.facts c.in_ok-narrow.field-0 _ c.loop-index-test.true
    c.if-not-branch.false c.in_ok-narrow.ensures c.loop-index.invariant
