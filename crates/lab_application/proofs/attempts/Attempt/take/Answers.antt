use Rattle.lab_search.specs.Kept.{names_in}
use Rattle.lab_search.proofs.AttemptLemmas.{keeps_then}
use Rattle.lab_application.proofs.SearchLemmas.{breaks_by, if_ok_then, kept_with, on_ok_then, same_tries, step_from}
use Rattle.lab_application.proofs.attempts.Attempt.take.Goals as goal

pub returns-in-Err-clause-keeps : goal.returns-in-Err-clause-keeps
returns-in-Err-clause-keeps c = c.in_ok-broken.ensures.keeps

pub returns-in-Err-clause-comes : goal.returns-in-Err-clause-comes
returns-in-Err-clause-comes c =
    λ d ns n m h k. breaks_by d ns n m c.args.self.now.candidate.now c.args.self.now.before c.args.self.now.chosen c.args.manner c.args.search.now c.count.new.search c.step-step.result c.in_ok-broken.ensures h c.step-step.ensures

pub returns-in-Ok-clause-keeps : goal.returns-in-Ok-clause-keeps
returns-in-Ok-clause-keeps c = on_ok_then c.keep.result _ _ (λ h. keeps_then _ _ _ _ _ _ c.in_ok-broken.ensures.keeps h) c.keep.ensures.keeps

pub returns-in-Ok-clause-comes : goal.returns-in-Ok-clause-comes
returns-in-Ok-clause-comes c =
    if_ok_then c.keep.result _ _
    (λ o f. λ d ns n m h k.
    let there = same_tries d ns n m c.args.self.now.candidate.now c.args.self.now.before c.args.self.now.chosen c.args.search.now c.count.new.search c.in_ok-broken.ensures h in
    let at = step_from d ns n m c.args.self.now.candidate.now c.args.self.now.before c.args.self.now.chosen c.args.manner c.count.new.search c.step-step.result c.step-step.ensures there in
    f d ns n m at.from at.place (kept_with c.args.search.now c.count.new.search (names_in d.rules) c.args.reached.now.state c.in_ok-broken.ensures.keeps k))
    c.keep.ensures.comes
