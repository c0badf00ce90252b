use Rattle.std.proofs.Common.{List, Some, arith, length, ap, subst, sym, ◌∙◌}
use Rattle.std.proofs.lemmas.Option.{slice_get-get_or}
use Rattle.lab_search.specs.Kept.{names_in}
use Rattle.lab_application.specs.declared.attempts.Reached.{Reached}
use Rattle.lab_application.specs.Finding.{AreKeptWith}
use Rattle.lab_application.proofs.SearchLemmas.{are_kept_with, comes_goes, comes_then, kept_place, more_none, more_then, same_holds, then_tries}
use Rattle.lab_application.proofs.attempts.Attempt.try_cuts.Goals as goal

pub loop-place-init : goal.loop-place-init
loop-place-init g c =
    λ d ns n m h run. (
      more_none d ns c.make_all.new.search (same_holds d ns c.args.search.now c.make_all.new.search c.in_ok-all.ensures.same h.at.holds),
      subst (λ (rs : List Reached). AreKeptWith c.make_all.new.search (names_in d.rules) rs) (sym c.as_slice-tried.ensures.value) (c.in_ok-all.ensures.made d ns n m h run).0,
    )

pub try_cut-requires-clause-can : goal.try_cut-requires-clause-can
try_cut-requires-clause-can g c =
    let q = c.requires.can in
    let a = c.loop-place.invariant q.0 q.1 q.2 q.3 q.4 q.5 in
    let i = c.loop-place.place in
    let here = slice_get-get_or c.as_slice-tried.result.now i c.index-tried-place.result c.loop-place-test.true ∙ ap Some (sym c.index-tried-place.is) in
    let few = (c.in_ok-all.ensures.made q.0 q.1 q.2 q.3 q.4 q.5).1 in (
      q.0,
      (a.0).all,
      q.2,
      q.3,
      then_tries q.0 q.1 q.2 q.3 c.args.self.now.candidate.now c.args.self.now.before c.args.self.now.chosen c.args.search.now c.loop-place.search a.0 q.4,
      q.5,
      kept_place c.loop-place.search (names_in (q.0).rules) c.as_slice-tried.result.now i c.index-tried-place.result here a.1,
      omega (arith, few, c.loop-place-test.true, ap length c.as_slice-tried.ensures.value),
    )

pub returns-then-is_some : goal.returns-then-is_some
returns-then-is_some g c =
    λ d ns n m h run.
    let a = c.loop-place.invariant d ns n m h run in
    let i = c.loop-place.place in
    let here = slice_get-get_or c.as_slice-tried.result.now i c.index-tried-place.result c.loop-place-test.true ∙ ap Some (sym c.index-tried-place.is) in
    let there = then_tries d ns n m c.args.self.now.candidate.now c.args.self.now.before c.args.self.now.chosen c.args.search.now c.loop-place.search a.0 h in
    comes_then d ns (a.0).all c.in_ok-halt.halt c.try_cut.new.search (a.0).grew
    (c.in_ok-halt.ensures.comes d (a.0).all n m there run (kept_place c.loop-place.search (names_in d.rules) c.as_slice-tried.result.now i c.index-tried-place.result here a.1))

pub loop-place-preserved : goal.loop-place-preserved
loop-place-preserved g c =
    λ d ns n m h run.
    let a = c.loop-place.invariant d ns n m h run in
    let i = c.loop-place.place in
    let here = slice_get-get_or c.as_slice-tried.result.now i c.index-tried-place.result c.loop-place-test.true ∙ ap Some (sym c.index-tried-place.is) in
    let there = then_tries d ns n m c.args.self.now.candidate.now c.args.self.now.before c.args.self.now.chosen c.args.search.now c.loop-place.search a.0 h in
    let comes = c.in_ok-halt.ensures.comes d (a.0).all n m there run (kept_place c.loop-place.search (names_in d.rules) c.as_slice-tried.result.now i c.index-tried-place.result here a.1) in (
      more_then d ns (a.0).all c.try_cut.new.search (a.0).grew (comes_goes d (a.0).all c.in_ok-halt.halt c.try_cut.new.search (sym c.is_some.ensures ∙ c.if-is_some.false) comes),
      are_kept_with c.loop-place.search c.try_cut.new.search (names_in d.rules) c.as_slice-tried.result.now c.in_ok-halt.ensures.keeps a.1,
    )

pub returns : goal.returns
returns g c = λ d ns n m h run. (c.loop-place.invariant d ns n m h run).0
