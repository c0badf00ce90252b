use Rattle.std.proofs.Common.{sym, ◌∙◌}
use Rattle.lab_search.specs.declared.journey.Manner.TheVariants as manner
use Rattle.lab_application.proofs.SearchLemmas.{comes_goes, comes_then, if_ok_then, none_missed, reached_kept, same_tries, then_tries}
use Rattle.lab_application.proofs.attempts.Attempt.try_all.Goals as goal

pub make-requires-clause-can : goal.make-requires-clause-can
make-requires-clause-can g c = let q = c.requires.can in (q.0, q.1, q.2, q.3, q.4, tt)

pub returns-then-is_some : goal.returns-then-is_some
returns-then-is_some g c =
    λ d ns n m h.
    let there = same_tries d ns n m c.args.self.now.candidate.now c.args.self.now.before c.args.self.now.chosen c.args.search.now c.make.new.search c.in_ok-reached.ensures.same h in
    c.in_ok-halt.ensures.comes d ns n m there (reached_kept d c.make.new.search n m manner.Whole c.in_ok-reached.field-0 c.in-Some.reached c.in-Some.is (c.in_ok-reached.ensures.made d ns n m h tt))

pub returns-then-not-runs : goal.returns-then-not-runs
returns-then-not-runs g c =
    λ d ns n m h.
    let there = same_tries d ns n m c.args.self.now.candidate.now c.args.self.now.before c.args.self.now.chosen c.args.search.now c.make.new.search c.in_ok-reached.ensures.same h in
    comes_goes d ns c.in_ok-halt.halt c.take.new.search (sym c.is_some.ensures ∙ c.if-is_some.false)
    (c.in_ok-halt.ensures.comes d ns n m there (reached_kept d c.make.new.search n m manner.Whole c.in_ok-reached.field-0 c.in-Some.reached c.in-Some.is (c.in_ok-reached.ensures.made d ns n m h tt)))

pub try_cuts-requires-clause-can : goal.try_cuts-requires-clause-can
try_cuts-requires-clause-can g c =
    let q = c.requires.can in
    let there = same_tries q.0 q.1 q.2 q.3 c.args.self.now.candidate.now c.args.self.now.before c.args.self.now.chosen c.args.search.now c.make.new.search c.in_ok-reached.ensures.same q.4 in
    let a = comes_goes q.0 q.1 c.in_ok-halt.halt c.take.new.search (sym c.is_some.ensures ∙ c.if-is_some.false)
    (c.in_ok-halt.ensures.comes q.0 q.1 q.2 q.3 there (reached_kept q.0 c.make.new.search q.2 q.3 manner.Whole c.in_ok-reached.field-0 c.in-Some.reached c.in-Some.is (c.in_ok-reached.ensures.made q.0 q.1 q.2 q.3 q.4 tt))) in
    let last = then_tries q.0 q.1 q.2 q.3 c.args.self.now.candidate.now c.args.self.now.before c.args.self.now.chosen c.make.new.search c.take.new.search a there in
    (q.0, a.all, q.2, q.3, last, sym (c.runs.ensures q.0 a.all q.2 last.at) ∙ c.if-not-runs.false)

pub returns : goal.returns
returns g c =
    if_ok_then c.try_cuts.result _ _
    (λ o f. λ d ns n m h.
    let there = same_tries d ns n m c.args.self.now.candidate.now c.args.self.now.before c.args.self.now.chosen c.args.search.now c.make.new.search c.in_ok-reached.ensures.same h in
    let a = comes_goes d ns c.in_ok-halt.halt c.take.new.search (sym c.is_some.ensures ∙ c.if-is_some.false)
    (c.in_ok-halt.ensures.comes d ns n m there (reached_kept d c.make.new.search n m manner.Whole c.in_ok-reached.field-0 c.in-Some.reached c.in-Some.is (c.in_ok-reached.ensures.made d ns n m h tt))) in
    let last = then_tries d ns n m c.args.self.now.candidate.now c.args.self.now.before c.args.self.now.chosen c.make.new.search c.take.new.search a there in
    comes_then d ns a.all o c.try_cuts.new.search a.grew (f d a.all n m last (sym (c.runs.ensures d a.all n last.at) ∙ c.if-not-runs.false)))
    c.try_cuts.ensures

pub take-requires : goal.take-requires
take-requires g c =
    let q = c.requires.can in
    (q.0, q.1, q.2, q.3, same_tries q.0 q.1 q.2 q.3 c.args.self.now.candidate.now c.args.self.now.before c.args.self.now.chosen c.args.search.now c.make.new.search c.in_ok-reached.ensures.same q.4)

pub unreachable-requires : goal.unreachable-requires
unreachable-requires g c =
    let q = c.requires.can in
    none_missed q.0 c.make.new.search q.2 q.3 manner.Whole c.in_ok-reached.field-0 c.in_default.not-Some (c.in_ok-reached.ensures.made q.0 q.1 q.2 q.3 q.4 tt)
