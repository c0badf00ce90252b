use Rattle.std.proofs.Common.{sym, ◌∙◌}
use Rattle.lab_search.proofs.AttemptLemmas.{keeps_then}
use Rattle.lab_application.proofs.SearchLemmas.{comes_goes, comes_then, if_ok_then, on_ok_then, then_tries}
use Rattle.lab_application.proofs.attempts.Attempt.try_cut.Goals as goal

pub returns-then-is_some-clause-keeps : goal.returns-then-is_some-clause-keeps
returns-then-is_some-clause-keeps g c = c.in_ok-halt.ensures.keeps

pub returns-then-is_some-clause-comes : goal.returns-then-is_some-clause-comes
returns-then-is_some-clause-comes g c = λ d ns n m h run kept. c.in_ok-halt.ensures.comes d ns n m h kept

pub try_fill-requires-clause-can : goal.try_fill-requires-clause-can
try_fill-requires-clause-can g c =
    let q = c.requires.can in
    let a = comes_goes q.0 q.1 c.in_ok-halt.halt c.take.new.search (sym c.is_some.ensures ∙ c.if-is_some.false) (c.in_ok-halt.ensures.comes q.0 q.1 q.2 q.3 q.4 q.6) in
    (q.0, a.all, q.2, q.3, then_tries q.0 q.1 q.2 q.3 c.args.self.now.candidate.now c.args.self.now.before c.args.self.now.chosen c.args.search.now c.take.new.search a q.4, q.5, q.7)

pub returns-then-is_some-2-clause-keeps : goal.returns-then-is_some-2-clause-keeps
returns-then-is_some-2-clause-keeps g c = keeps_then _ _ _ _ _ _ c.in_ok-halt.ensures.keeps c.in_ok-halt-2.ensures.keeps

pub returns-then-is_some-2-clause-comes : goal.returns-then-is_some-2-clause-comes
returns-then-is_some-2-clause-comes g c =
    λ d ns n m h run kept.
    let a = comes_goes d ns c.in_ok-halt.halt c.take.new.search (sym c.is_some.ensures ∙ c.if-is_some.false) (c.in_ok-halt.ensures.comes d ns n m h kept) in
    let there = then_tries d ns n m c.args.self.now.candidate.now c.args.self.now.before c.args.self.now.chosen c.args.search.now c.take.new.search a h in
    comes_then d ns a.all c.in_ok-halt-2.halt c.try_fill.new.search a.grew (c.in_ok-halt-2.ensures.comes d a.all n m there run)

pub try_fill-requires-2-clause-can : goal.try_fill-requires-2-clause-can
try_fill-requires-2-clause-can g c =
    let q = c.requires.can in
    let a = comes_goes q.0 q.1 c.in_ok-halt.halt c.take.new.search (sym c.is_some.ensures ∙ c.if-is_some.false) (c.in_ok-halt.ensures.comes q.0 q.1 q.2 q.3 q.4 q.6) in
    let there = then_tries q.0 q.1 q.2 q.3 c.args.self.now.candidate.now c.args.self.now.before c.args.self.now.chosen c.args.search.now c.take.new.search a q.4 in
    let b = comes_goes q.0 a.all c.in_ok-halt-2.halt c.try_fill.new.search (sym c.is_some-2.ensures ∙ c.if-is_some-2.false) (c.in_ok-halt-2.ensures.comes q.0 a.all q.2 q.3 there q.5) in
    (q.0, b.all, q.2, q.3, then_tries q.0 a.all q.2 q.3 c.args.self.now.candidate.now c.args.self.now.before c.args.self.now.chosen c.take.new.search c.try_fill.new.search b there, q.5, q.7)

pub returns-clause-keeps : goal.returns-clause-keeps
returns-clause-keeps g c =
    on_ok_then c.try_fill-2.result _ _ (λ h. keeps_then _ _ _ _ _ _ c.in_ok-halt.ensures.keeps (keeps_then _ _ _ _ _ _ c.in_ok-halt-2.ensures.keeps h)) c.try_fill-2.ensures.keeps

pub returns-clause-comes : goal.returns-clause-comes
returns-clause-comes g c =
    if_ok_then c.try_fill-2.result _ _
    (λ o f. λ d ns n m h run kept.
    let a = comes_goes d ns c.in_ok-halt.halt c.take.new.search (sym c.is_some.ensures ∙ c.if-is_some.false) (c.in_ok-halt.ensures.comes d ns n m h kept) in
    let there = then_tries d ns n m c.args.self.now.candidate.now c.args.self.now.before c.args.self.now.chosen c.args.search.now c.take.new.search a h in
    let b = comes_goes d a.all c.in_ok-halt-2.halt c.try_fill.new.search (sym c.is_some-2.ensures ∙ c.if-is_some-2.false) (c.in_ok-halt-2.ensures.comes d a.all n m there run) in
    let last = then_tries d a.all n m c.args.self.now.candidate.now c.args.self.now.before c.args.self.now.chosen c.take.new.search c.try_fill.new.search b there in
    comes_then d ns a.all o c.try_fill-2.new.search a.grew (comes_then d a.all b.all o c.try_fill-2.new.search b.grew (f d b.all n m last run)))
    c.try_fill-2.ensures.comes

pub take-requires : goal.take-requires
take-requires g c = let q = c.requires.can in (q.0, q.1, q.2, q.3, q.4)
