use Rattle.std.proofs.Common.{arith, refl, subst, Option}
use Rattle.lab_search.specs.Rounds.{Depth}
use Rattle.lab_application.specs.declared.attempts.Halt.{Halt}
use Rattle.lab_application.specs.Finding.{ComesTo}
use Rattle.lab_application.specs.Shadows.{shadow}
use Rattle.lab_application.proofs.SearchLemmas.{comes_none}
use Rattle.lab_application.proofs.ShadowLemmas.{shadows_are}
use Rattle.lab_application.proofs.DepthLemmas.{left_can, left_comes, left_end, left_fails, left_first, left_halts, left_last, left_next, left_stops}
use Rattle.lab_application.proofs.exploring.search_on.Goals as goal

pub loop-done-init : goal.loop-done-init
loop-done-init g c =
    record { within = omega arith; left = λ ls ms n limit h s. left_first c.args.subject.rules.now ls ms n limit c.args.depth c.args.search.now c.args.start _ s }

pub try_states-requires : goal.try_states-requires
try_states-requires g c =
    let q = c.requires in
    let k = c.loop-done.invariant.left q.0 q.1 q.2 q.3 q.4 q.5 in
    let within = c.loop-done.invariant.within in
    let at = c.len-to.ensures.len in
    left_can c.args.subject.rules.now q.0 q.1 q.2 q.3 c.args.depth c.loop-done.done c.loop-done.from c.len-to.result c.loop-done.search _ _ c.args.moves.now.rules k (shadows_are c.args.moves.now q.0 q.1 q.2 q.4) (omega (arith, within, at)) at

pub returns-in_err-halt : goal.returns-in_err-halt
returns-in_err-halt g c =
    λ ls ms n limit h s.
    left_stops c.args.subject.rules.now ls ms n limit c.args.depth c.loop-done.done c.loop-done.search _ _ c.from_residual.result c.loop-done-test.true (c.loop-done.invariant.left ls ms n limit h s) c.from_residual.ensures.0 c.from_residual.ensures.1

pub returns-in-Some : goal.returns-in-Some
returns-in-Some g c =
    λ ls ms n limit h s.
    let k = c.loop-done.invariant.left ls ms n limit h s in
    let within = c.loop-done.invariant.within in
    let at = c.len-to.ensures.len in
    let d : Depth = record { rules = shadow ms n; most = limit; from = 0 } in
    let comes = left_comes c.args.subject.rules.now ls ms n limit c.args.depth c.loop-done.done c.loop-done.from c.len-to.result c.loop-done.search c.try_states.new.search _ _ c.args.moves.now.rules c.in_ok-halt.halt k (shadows_are c.args.moves.now ls ms n h) (omega (arith, within, at)) at c.in_ok-halt.ensures in
    let some = subst (λ (o : Option Halt). ComesTo d k.nodes o c.try_states.new.search) c.in-Some.is comes in
    left_halts c.args.subject.rules.now ls ms n limit c.args.depth c.loop-done.done c.loop-done.search c.try_states.new.search _ _ _ c.in-Some.halt c.report_halt.result c.loop-done-test.true k
    (c.report_halt.ensures (record { lines = ls; rules = shadow ms n }) d k.nodes h.rules.moves s.start refl some)

pub returns-in_err-put_depth : goal.returns-in_err-put_depth
returns-in_err-put_depth g c =
    λ ls ms n limit h s.
    left_fails c.args.subject.rules.now ls ms n limit c.args.depth c.loop-done.done c.saturating_sub-new.result c.loop-done.search c.try_states.new.search _ _ _ c.from_residual-in_err-put_depth.result c.loop-done-test.true (c.loop-done.invariant.left ls ms n limit h s)
    c.from_residual-in_err-put_depth.ensures.0 c.from_residual-in_err-put_depth.ensures.1 c.in_err-put_depth.ensures

pub returns-then-new-eq0 : goal.returns-then-new-eq0
returns-then-new-eq0 g c =
    λ ls ms n limit h s.
    left_last c.args.subject.rules.now ls ms n limit c.args.depth c.loop-done.done c.saturating_sub-new.result c.loop-done.search c.try_states.new.search _ _ _ _ c.report_kept.result c.loop-done-test.true (c.loop-done.invariant.left ls ms n limit h s)
    c.if-new-eq0.true c.in_ok-put_depth.ensures c.report_kept.ensures.put c.report_kept.ensures.kept

pub loop-done-preserved : goal.loop-done-preserved
loop-done-preserved g c =
    let at = c.len-to.ensures.len in
    record {
      within = omega (arith, at, c.len.ensures.len, c.saturating_sub-new.ensures, c.if-new-eq0.false);
      left = λ ls ms n limit h s.
          let k = c.loop-done.invariant.left ls ms n limit h s in
          let within = c.loop-done.invariant.within in
          let comes = left_comes c.args.subject.rules.now ls ms n limit c.args.depth c.loop-done.done c.loop-done.from c.len-to.result c.loop-done.search c.try_states.new.search _ _ c.args.moves.now.rules c.in_ok-halt.halt k (shadows_are c.args.moves.now ls ms n h) (omega (arith, within, at)) at c.in_ok-halt.ensures in
          left_next c.args.subject.rules.now ls ms n limit c.args.depth c.loop-done.done c.saturating_sub-new.result c.loop-done.search c.try_states.new.search _ _ _ k
          (comes_none (record { rules = shadow ms n; most = limit; from = 0 }) k.nodes c.in_ok-halt.halt c.try_states.new.search c.in_default.is comes) c.in_ok-put_depth.ensures;
    }

pub returns : goal.returns
returns g c =
    λ ls ms n limit h s.
    left_end c.args.subject.rules.now ls ms n limit c.args.depth c.loop-done.done c.loop-done.search _ _ _ c.report_kept-2.result (c.loop-done.invariant.left ls ms n limit h s) (omega (arith, c.loop-done.auto.done-end, c.loop-done-test.false))
    c.report_kept-2.ensures.put c.report_kept-2.ensures.kept
