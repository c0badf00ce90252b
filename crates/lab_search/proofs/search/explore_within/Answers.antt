use Rattle.std.proofs.Common.{◌≡◌, ◌-◌, arith, length}
use Rattle.lab_search.proofs.DepthLemmas.{candidates_of, depth_comes, depth_end, depth_fails, depth_first, depth_halts, depth_last, depth_next, depth_stops, states_can}
use Rattle.lab_search.proofs.search.explore_within.Goals as goal

pub loop-done-init : goal.loop-done-init
loop-done-init g c = λ x h. let s = c.in_ok-search.ensures x h in depth_first x c.args.limit c.args.depth c.in_ok-search.search _ s.holds s.tally

pub returns-in_err-halt : goal.returns-in_err-halt
returns-in_err-halt g c =
    λ x h. depth_stops x c.args.limit c.args.depth c.loop-done.done c.loop-done.from c.loop-done.search _ _ c.from_residual-in_err-halt.result (c.loop-done.invariant x h) c.from_residual-in_err-halt.ensures.0 c.from_residual-in_err-halt.ensures.1

pub returns-in-Some : goal.returns-in-Some
returns-in-Some g c =
    λ x h.
    let k = c.loop-done.invariant x h in
    let can = candidates_of x c.args.exploration.now c.in_ok-rows.rows.items c.as_slice.result.now h c.as_slice.ensures.value c.in_ok-rows.ensures in
    let comes = depth_comes x c.args.limit c.args.depth c.loop-done.done c.loop-done.from c.len-to.result c.loop-done.search c.try_states.new.self _ _ c.in_ok-halt.halt c.args.exploration.now.rules c.as_slice.result.now k c.len-to.ensures.len can c.in_ok-halt.ensures in
    depth_halts x c.args.limit c.args.depth c.loop-done.done c.loop-done.from c.loop-done.search c.try_states.new.self _ _ k c.loop-done-test.true c.in_ok-halt.halt c.in-Some.halt c.report_halt.result _ c.in-Some.is comes
    (λ e ends. c.report_halt.ensures x c.args.limit (length k.nodes) k.nodes e h (c.in_ok-search.ensures x h).start ends)

pub returns-in_err-put_depth : goal.returns-in_err-put_depth
returns-in_err-put_depth g c =
    λ x h.
    let k = c.loop-done.invariant x h in
    let can = candidates_of x c.args.exploration.now c.in_ok-rows.rows.items c.as_slice.result.now h c.as_slice.ensures.value c.in_ok-rows.ensures in
    let comes = depth_comes x c.args.limit c.args.depth c.loop-done.done c.loop-done.from c.len-to.result c.loop-done.search c.try_states.new.self _ _ c.in_ok-halt.halt c.args.exploration.now.rules c.as_slice.result.now k c.len-to.ensures.len can c.in_ok-halt.ensures in
    let count : c.saturating_sub-new.result ≡ length c.try_states.new.self.states.keys - length c.loop-done.search.states.keys = omega (arith, c.saturating_sub-new.ensures, c.len.ensures.len, c.len-to.ensures.len) in
    depth_fails x c.args.limit c.args.depth c.loop-done.done c.loop-done.from c.loop-done.search c.try_states.new.self _ _ k c.loop-done-test.true c.in_ok-halt.halt c.saturating_sub-new.result c.from_residual-in_err-put_depth.result _ c.in_default.is comes count
    c.from_residual-in_err-put_depth.ensures.0 c.from_residual-in_err-put_depth.ensures.1 c.in_err-put_depth.ensures

pub returns-then-new-eq0 : goal.returns-then-new-eq0
returns-then-new-eq0 g c =
    λ x h.
    let k = c.loop-done.invariant x h in
    let can = candidates_of x c.args.exploration.now c.in_ok-rows.rows.items c.as_slice.result.now h c.as_slice.ensures.value c.in_ok-rows.ensures in
    let comes = depth_comes x c.args.limit c.args.depth c.loop-done.done c.loop-done.from c.len-to.result c.loop-done.search c.try_states.new.self _ _ c.in_ok-halt.halt c.args.exploration.now.rules c.as_slice.result.now k c.len-to.ensures.len can c.in_ok-halt.ensures in
    let count : c.saturating_sub-new.result ≡ length c.try_states.new.self.states.keys - length c.loop-done.search.states.keys = omega (arith, c.saturating_sub-new.ensures, c.len.ensures.len, c.len-to.ensures.len) in
    depth_last x c.args.limit c.args.depth c.loop-done.done c.loop-done.from c.loop-done.search c.try_states.new.self _ _ k c.loop-done-test.true c.in_ok-halt.halt c.saturating_sub-new.result _ _ c.report_kept.result c.in_default.is comes count
    c.if-new-eq0.true c.in_ok-put_depth.ensures (c.report_kept.ensures x h)

pub loop-done-preserved : goal.loop-done-preserved
loop-done-preserved g c =
    λ x h.
    let k = c.loop-done.invariant x h in
    let can = candidates_of x c.args.exploration.now c.in_ok-rows.rows.items c.as_slice.result.now h c.as_slice.ensures.value c.in_ok-rows.ensures in
    let comes = depth_comes x c.args.limit c.args.depth c.loop-done.done c.loop-done.from c.len-to.result c.loop-done.search c.try_states.new.self _ _ c.in_ok-halt.halt c.args.exploration.now.rules c.as_slice.result.now k c.len-to.ensures.len can c.in_ok-halt.ensures in
    let count : c.saturating_sub-new.result ≡ length c.try_states.new.self.states.keys - length c.loop-done.search.states.keys = omega (arith, c.saturating_sub-new.ensures, c.len.ensures.len, c.len-to.ensures.len) in
    depth_next x c.args.limit c.args.depth c.loop-done.done c.loop-done.from c.loop-done.search c.try_states.new.self _ _ k c.loop-done-test.true c.in_ok-halt.halt c.saturating_sub-new.result _ c.in_default.is comes count
    c.if-new-eq0.false c.in_ok-put_depth.ensures c.len-to.result c.len-to.ensures.len

pub returns : goal.returns
returns g c =
    λ x h. depth_end x c.args.limit c.args.depth c.loop-done.done c.loop-done.from c.loop-done.search _ _ _ c.report_kept-2.result (c.loop-done.invariant x h) (omega (arith, c.loop-done.auto.done-end, c.loop-done-test.false)) (c.report_kept-2.ensures x h)

pub try_states-requires : goal.try_states-requires
try_states-requires g c =
    let q = c.requires.read in
    let x = q.0 in
    let k = c.loop-done.invariant x q.1 in
    let can = candidates_of x c.args.exploration.now c.in_ok-rows.rows.items c.as_slice.result.now q.1 c.as_slice.ensures.value c.in_ok-rows.ensures in
    states_can x c.args.limit c.args.depth c.loop-done.done c.loop-done.from c.len-to.result c.loop-done.search _ _ c.args.exploration.now.rules c.as_slice.result.now k c.len-to.ensures.len can
