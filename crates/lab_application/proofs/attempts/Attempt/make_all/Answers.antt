use Rattle.std.proofs.Common.{[], ◌∷◌, ◌+◌, ◌≤◌, ◌∙◌, ℕ, List, ap, arith, length, length-append, rules, subst, sym}
use Rattle.law_histories.specs.law_explore.specs.States.{play_of}
use Rattle.law_histories.specs.law_explore.specs.Tries.{writes_of}
use Rattle.lab_search.specs.Kept.{names_in}
use Rattle.lab_search.specs.declared.journey.Fill.TheVariants as fill
use Rattle.lab_search.specs.declared.journey.Manner.TheVariants as manner
use Rattle.lab_application.specs.declared.attempts.Reached.{Reached}
use Rattle.lab_application.specs.Finding.{AreKeptWith}
use Rattle.lab_application.proofs.SearchLemmas.{are_kept_with, kept_more, reached_kept, reached_made, same_self, same_then, same_tries}
use Rattle.lab_application.proofs.attempts.Attempt.make_all.Goals as goal

pub writes-init : goal.writes-init
writes-init g c =
    record {
      counted = omega arith;
      same = same_self c.args.search.now;
      count = search rules;
      kept = λ d ns n m h k. (subst (λ (rs : List Reached). AreKeptWith c.args.search.now (names_in d.rules) rs) (sym c.new-all.ensures.items) tt, omega arith);
    }

pub make-requires-clause-can : goal.make-requires-clause-can
make-requires-clause-can g c =
    let q = c.requires.can in
    let same = c.writes.invariant.same in
    let counted = c.writes.invariant.counted in
    (q.0, q.1, q.2, q.3, same_tries q.0 q.1 q.2 q.3 c.args.self.now.candidate.now c.args.self.now.before c.args.self.now.chosen c.args.search.now c.writes.search same q.4, (q.5, omega (arith, counted)))

pub returns-in-None-clause-same : goal.returns-in-None-clause-same
returns-in-None-clause-same g c = same_then c.args.search.now c.writes.search c.make.new.search c.writes.invariant.same c.in_ok-reached.ensures.same

pub returns-in-None-clause-made : goal.returns-in-None-clause-made
returns-in-None-clause-made g c =
    λ d ns n m h k.
    let kept = c.writes.invariant.kept d ns n m h k in
    (are_kept_with c.writes.search c.make.new.search (names_in d.rules) c.writes.all.items c.in_ok-reached.ensures.same.keeps kept.0, subst (λ (i : ℕ). i ≤ writes_of (play_of n.state) m) (sym c.writes.invariant.count) kept.1)

pub writes-preserved : goal.writes-preserved
writes-preserved g c =
    record {
      counted = c.in_ok-made.ensures.counted;
      same = same_then c.args.search.now c.writes.search c.make.new.search c.writes.invariant.same c.in_ok-reached.ensures.same;
      count = ap length c.in_ok-push-in-Some.ensures.items ∙ length-append c.writes.all.items (c.in-Some.reached ∷ []) ∙ ap (λ (n : ℕ). n + 1) c.writes.invariant.count ∙ sym c.in_ok-made.ensures.next;
      kept = λ d ns n m h k.
          let same = c.writes.invariant.same in
          let counted = c.writes.invariant.counted in
          let there = same_tries d ns n m c.args.self.now.candidate.now c.args.self.now.before c.args.self.now.chosen c.args.search.now c.writes.search same h in
          let reached = c.in_ok-reached.ensures.made d ns n m there (k, omega (arith, counted)) in
          let kept = c.writes.invariant.kept d ns n m h k in
          let made = reached_made d c.make.new.search n m (manner.Cut c.writes.made fill.Zeros) c.in_ok-reached.field-0 c.in-Some.reached c.in-Some.is reached in
          let next = c.in_ok-made.ensures.next in (
            kept_more c.make.new.search (names_in d.rules) c.writes.all.items _ c.in-Some.reached c.in_ok-push-in-Some.ensures.items
                (are_kept_with c.writes.search c.make.new.search (names_in d.rules) c.writes.all.items c.in_ok-reached.ensures.same.keeps kept.0)
                (reached_kept d c.make.new.search n m (manner.Cut c.writes.made fill.Zeros) c.in_ok-reached.field-0 c.in-Some.reached c.in-Some.is reached),
            omega (arith, made, next),
          );
    }
