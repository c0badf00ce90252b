use Rattle.std.proofs.Common.{arith, sym, ◌∙◌}
use Rattle.lab_search.proofs.AlikeLemmas.{get_within}
use Rattle.lab_search.proofs.RoundLemmas.{found_later}
use Rattle.lab_application.proofs.SearchLemmas.{comes_goes, comes_then, more_none, more_then}
use Rattle.lab_application.proofs.rounds.try_states.Goals as goal

pub loop-before-init : goal.loop-before-init
loop-before-init g c = λ d ns h a b k. more_none d ns c.args.search.now h

pub try_moves-requires : goal.try_moves-requires
try_moves-requires g c =
    let q = c.requires in
    let a = c.loop-before.invariant q.0 q.1 q.2 q.3 q.4 q.5 in
    let i = c.loop-before.before in
    let n = get_within q.1 i (omega (arith, q.4, c.loop-before-test.true)) in
    (q.0, a.all, n.0, record { holds = a.holds; found = found_later q.1 a.all i n.0 a.grew n.1 }, q.5)

pub returns-then-is_some : goal.returns-then-is_some
returns-then-is_some g c =
    λ d ns h b e k.
    let a = c.loop-before.invariant d ns h b e k in
    let i = c.loop-before.before in
    let n = get_within ns i (omega (arith, e, c.loop-before-test.true)) in
    comes_then d ns a.all c.in_ok-halt.halt c.try_moves.new.search a.grew (c.in_ok-halt.ensures d a.all n.0 (record { holds = a.holds; found = found_later ns a.all i n.0 a.grew n.1 }) k)

pub loop-before-preserved : goal.loop-before-preserved
loop-before-preserved g c =
    λ d ns h b e k.
    let a = c.loop-before.invariant d ns h b e k in
    let i = c.loop-before.before in
    let n = get_within ns i (omega (arith, e, c.loop-before-test.true)) in
    more_then d ns a.all c.try_moves.new.search a.grew
    (comes_goes d a.all c.in_ok-halt.halt c.try_moves.new.search (sym c.is_some.ensures ∙ c.if-is_some.false) (c.in_ok-halt.ensures d a.all n.0 (record { holds = a.holds; found = found_later ns a.all i n.0 a.grew n.1 }) k))

pub returns : goal.returns
returns g c = λ d ns h b e k. c.loop-before.invariant d ns h b e k
