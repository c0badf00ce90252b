use Rattle.std.proofs.Common.{arith}
use Rattle.lab_search.specs.declared.journey.Manner.TheVariants as manner
use Rattle.lab_search.proofs.AttemptLemmas.{keeps_then}
use Rattle.lab_application.proofs.SearchLemmas.{if_ok_then, on_ok_then, missed_here, reached_kept, same_tries}
use Rattle.lab_application.proofs.attempts.Attempt.try_fill.Goals as goal

pub make-requires-clause-can : goal.make-requires-clause-can
make-requires-clause-can g c =
    let q = c.requires.can in
    let counted = c.requires.counted in
    (q.0, q.1, q.2, q.3, q.4, (q.5, omega (arith, counted)))

pub returns-clause-keeps : goal.returns-clause-keeps
returns-clause-keeps g c = on_ok_then c.take.result _ _ (λ h. keeps_then _ _ _ _ _ _ c.in_ok-reached.ensures.same.keeps h) c.take.ensures.keeps

pub returns-clause-comes : goal.returns-clause-comes
returns-clause-comes g c =
    if_ok_then c.take.result _ _
    (λ o f. λ d ns n m h k.
    let there = same_tries d ns n m c.args.self.now.candidate.now c.args.self.now.before c.args.self.now.chosen c.args.search.now c.make.new.search c.in_ok-reached.ensures.same h in
    let counted = c.requires.counted in
    f d ns n m there (reached_kept d c.make.new.search n m (manner.Cut c.args.made c.args.fill) c.in_ok-reached.field-0 c.in-Some.reached c.in-Some.is (c.in_ok-reached.ensures.made d ns n m h (k, omega (arith, counted)))))
    c.take.ensures.comes

pub take-requires : goal.take-requires
take-requires g c =
    let q = c.requires.can in
    (q.0, q.1, q.2, q.3, same_tries q.0 q.1 q.2 q.3 c.args.self.now.candidate.now c.args.self.now.before c.args.self.now.chosen c.args.search.now c.make.new.search c.in_ok-reached.ensures.same q.4)

pub unreachable-requires : goal.unreachable-requires
unreachable-requires g c =
    let q = c.requires.can in
    let counted = c.requires.counted in
    let missed = missed_here q.0 c.make.new.search q.2 q.3 (manner.Cut c.args.made c.args.fill) c.in_ok-reached.field-0 c.in-None.is (c.in_ok-reached.ensures.made q.0 q.1 q.2 q.3 q.4 (q.5, omega (arith, counted))) in
    omega (arith, missed, q.6)
