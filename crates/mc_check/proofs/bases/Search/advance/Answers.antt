use Rattle.std.proofs.Common.{◌∙◌, List, length, refl, sym, ap, subst}
use Rattle.std.proofs.lemmas.List.{length-set}
use Rattle.mc_check.specs.declared.bases.Answer.TheVariants as answer
use Rattle.mc_check.specs.declared.bases.Progress.{Progress}
use Rattle.mc_check.specs.declared.bases.Progress.TheVariants as progress
use Rattle.mc_check.specs.Searching.{Answers}
use Rattle.mc_check.proofs.SearchSteps.{caller_inside, closes_ring, enters, leaves}
use Rattle.mc_check.proofs.bases.Search.advance.Goals as goal

pub enter-requires : goal.enter-requires
enter-requires c =
    let s = c.args.self.now in
    let l = c.args.calls.now in
    let q = c.args.routine in
    let p = c.in-Unseen.caller in
    let reports = subst (λ (states : List Progress). Answers states l q (answer.Unseen p)) c.as_slice.ensures.value c.in-Unseen.ensures in
    caller_inside s.progress.items l s.stack.items q c.requires.closed c.requires.searches c.requires.last p reports

pub returns-in-Base : goal.returns-in-Base
returns-in-Base c =
    let s = c.args.self.now in
    let l = c.args.calls.now in
    let q = c.args.routine in
    let b = c.in-Base.base in
    let answers = subst (λ (states : List Progress). Answers states l q (answer.Base b)) c.as_slice.ensures.value c.in-Base.ensures in
    let step = leaves s.progress.items l s.stack.items q c.requires.closed c.requires.searches c.requires.last b answers c.leave.new.self.progress.items c.leave.new.self.stack.items c.leave.ensures.progress c.leave.ensures.stack in
    record {
      len = ap length c.leave.ensures.progress ∙ length-set s.progress.items q (progress.Done b);
      searches = step.searches;
      seen = step.seen;
      nearer = step.nearer;
      ring = tt;
    }

pub returns-in_ok-enter-in-Unseen : goal.returns-in_ok-enter-in-Unseen
returns-in_ok-enter-in-Unseen c =
    let s = c.args.self.now in
    let l = c.args.calls.now in
    let q = c.args.routine in
    let p = c.in-Unseen.caller in
    let reports = subst (λ (states : List Progress). Answers states l q (answer.Unseen p)) c.as_slice.ensures.value c.in-Unseen.ensures in
    let changed = c.in_ok-enter-in-Unseen.ensures in
    let step = enters s.progress.items l s.stack.items q c.requires.closed c.requires.searches c.requires.last p reports c.enter.new.self.progress.items c.enter.new.self.stack.items changed.progress changed.stack in
    record {
      len = ap length changed.progress ∙ length-set s.progress.items p progress.Open;
      searches = step.searches;
      seen = step.seen;
      nearer = step.nearer;
      ring = tt;
    }

pub returns-in-Open-clause-ring : goal.returns-in-Open-clause-ring
returns-in-Open-clause-ring c =
    let s = c.args.self.now in
    let l = c.args.calls.now in
    let q = c.args.routine in
    let place = c.in-Open.place in
    let reports = subst (λ (states : List Progress). Answers states l q (answer.Open place)) c.as_slice.ensures.value c.in-Open.ensures in
    let ring = closes_ring s.progress.items l s.stack.items q c.requires.closed c.requires.searches c.requires.last place reports in
    (reports.call, ring.0, sym ring.1, refl)
