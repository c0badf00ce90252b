use Rattle.std.proofs.Common.{◌+◌, arith, sym, ◌∙◌}
use Rattle.lab_search.specs.Rounds.{round_in, tally_of}
use Rattle.lab_search.proofs.AlikeLemmas.{get_within}
use Rattle.lab_search.proofs.RoundLemmas.{found_later}
use Rattle.lab_search.proofs.CourseLemmas.{ahead_start, states_left, states_none, states_split, step_goes, step_halts, steps_end}
use Rattle.lab_search.proofs.rounds.Search.try_states.Goals as goal

pub loop-before-init : goal.loop-before-init
loop-before-init g c = λ d ns h a b k. ahead_start d ns c.args.self.now (states_left d ns c.args.from) h

pub returns-then-is_some : goal.returns-then-is_some
returns-then-is_some g c =
    λ d ns h b e k.
    let a = c.loop-before.invariant d ns h b e k in
    let i = c.loop-before.before in
    let n = get_within ns i (omega (arith, e, c.loop-before-test.true)) in
    step_halts d ns c.loop-before.self (states_left d ns i) _ a c.try_moves.new.self (states_left d ns (i + 1)) _ c.in_ok-halt.halt (states_split d ns n.0 i (round_in d (tally_of c.loop-before.self) a.all) n.1)
    (sym c.is_some.ensures ∙ c.if-is_some.true) (c.in_ok-halt.ensures d a.all n.0 (record { holds = a.holds; found = found_later ns a.all i n.0 a.grew n.1 }) k)

pub loop-before-preserved : goal.loop-before-preserved
loop-before-preserved g c =
    λ d ns h b e k.
    let a = c.loop-before.invariant d ns h b e k in
    let i = c.loop-before.before in
    let n = get_within ns i (omega (arith, e, c.loop-before-test.true)) in
    step_goes d ns c.loop-before.self (states_left d ns i) _ a c.try_moves.new.self (states_left d ns (i + 1)) _ c.in_ok-halt.halt (states_split d ns n.0 i (round_in d (tally_of c.loop-before.self) a.all) n.1)
    (sym c.is_some.ensures ∙ c.if-is_some.false) (c.in_ok-halt.ensures d a.all n.0 (record { holds = a.holds; found = found_later ns a.all i n.0 a.grew n.1 }) k)

pub returns : goal.returns
returns g c =
    λ d ns h b e k.
    let a = c.loop-before.invariant d ns h b e k in
    steps_end d ns c.loop-before.self (states_left d ns c.loop-before.before) _ a
    (states_none d ns c.loop-before.before (round_in d (tally_of c.loop-before.self) a.all) (omega (arith, e, c.loop-before-test.false)))

pub try_moves-requires : goal.try_moves-requires
try_moves-requires g c =
    let q = c.requires in
    let a = c.loop-before.invariant q.0 q.1 q.2 q.3 q.4 q.5 in
    let i = c.loop-before.before in
    let n = get_within q.1 i (omega (arith, q.4, c.loop-before-test.true)) in
    (q.0, a.all, n.0, record { holds = a.holds; found = found_later q.1 a.all i n.0 a.grew n.1 }, q.5)
