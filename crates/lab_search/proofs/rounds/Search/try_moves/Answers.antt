use Rattle.std.proofs.Common.{arith, ◌+◌, ◌≤◌, ℕ, ap, length, subst, sym, ◌∙◌}
use Rattle.lab_rules.specs.Meanings.{IsMove}
use Rattle.lab_rules.specs.Occasions.{IsRow}
use Rattle.lab_search.specs.Rounds.{round_in, tally_of}
use Rattle.lab_search.proofs.AlikeLemmas.{alike_length}
use Rattle.lab_search.proofs.RoundLemmas.{found_later}
use Rattle.lab_search.proofs.CourseLemmas.{candidate_at, moves_left, moves_none, moves_split, step_goes, step_halts, steps_end}
use Rattle.lab_search.proofs.rounds.Search.try_moves.Goals as goal

pub returns-then-is_some : goal.returns-then-is_some
returns-then-is_some g c =
    λ d ns n h k.
    let a = c.loop-chosen.invariant d ns n h k in
    let i = c.loop-chosen.chosen in
    let m = candidate_at d.rules c.args.exploration.now.rules c.args.applications.now _ i c.deref-listed-items.result.now c.listed-item.result c.in-Some.applies.now k c.deref-listed-items.ensures.value c.loop-chosen-test.true
    c.listed-item.is c.as_slice-ons.ensures.value c.as_slice.ensures.value c.in-Some.ensures.lookup.3.0 c.in-Some.ensures.lookup.1
    in
    step_halts d ns c.loop-chosen.self (moves_left d n i) _ a c.try_move.new.self (moves_left d n (i + 1)) _ c.in_ok-halt.halt (moves_split d n m.0 i (round_in d (tally_of c.loop-chosen.self) a.all) m.1)
    (sym c.is_some.ensures ∙ c.if-is_some.true) (c.in_ok-halt.ensures d a.all n m.0 (record { at = record { holds = a.holds; found = found_later ns a.all c.args.before n a.grew h.found }; candidate = m.2; place = m.1 }))

pub loop-chosen-preserved : goal.loop-chosen-preserved
loop-chosen-preserved g c =
    λ d ns n h k.
    let a = c.loop-chosen.invariant d ns n h k in
    let i = c.loop-chosen.chosen in
    let m = candidate_at d.rules c.args.exploration.now.rules c.args.applications.now _ i c.deref-listed-items.result.now c.listed-item.result c.in-Some.applies.now k c.deref-listed-items.ensures.value c.loop-chosen-test.true
    c.listed-item.is c.as_slice-ons.ensures.value c.as_slice.ensures.value c.in-Some.ensures.lookup.3.0 c.in-Some.ensures.lookup.1
    in
    step_goes d ns c.loop-chosen.self (moves_left d n i) _ a c.try_move.new.self (moves_left d n (i + 1)) _ c.in_ok-halt.halt (moves_split d n m.0 i (round_in d (tally_of c.loop-chosen.self) a.all) m.1)
    (sym c.is_some.ensures ∙ c.if-is_some.false) (c.in_ok-halt.ensures d a.all n m.0 (record { at = record { holds = a.holds; found = found_later ns a.all c.args.before n a.grew h.found }; candidate = m.2; place = m.1 }))

pub returns : goal.returns
returns g c =
    λ d ns n h k.
    let a = c.loop-chosen.invariant d ns n h k in
    let value = c.deref-listed-items.ensures.value in
    let count = alike_length IsMove c.args.exploration.now.rules.moves.items d.rules.moves k.rules.moves in
    let none : length d.rules.moves ≤ c.loop-chosen.chosen = subst (λ (x : ℕ). x ≤ c.loop-chosen.chosen) (ap length value ∙ count) c.loop-chosen-test.false in
    steps_end d ns c.loop-chosen.self (moves_left d n c.loop-chosen.chosen) _ a (moves_none d n c.loop-chosen.chosen (round_in d (tally_of c.loop-chosen.self) a.all) none)

pub try_move-requires : goal.try_move-requires
try_move-requires g c =
    let q = c.requires in
    let d = q.0 in
    let a = c.loop-chosen.invariant d q.1 q.2 q.3 q.4 in
    let i = c.loop-chosen.chosen in
    let m = candidate_at d.rules c.args.exploration.now.rules c.args.applications.now _ i c.deref-listed-items.result.now c.listed-item.result c.in-Some.applies.now q.4 c.deref-listed-items.ensures.value c.loop-chosen-test.true
    c.listed-item.is c.as_slice-ons.ensures.value c.as_slice.ensures.value c.in-Some.ensures.lookup.3.0 c.in-Some.ensures.lookup.1
    in
    (d, a.all, q.2, m.0, record { at = record { holds = a.holds; found = found_later q.1 a.all c.args.before q.2 a.grew (q.3).found }; candidate = m.2; place = m.1 })

pub unreachable-requires : goal.unreachable-requires
unreachable-requires g c =
    let q = c.requires in
    let r = (q.0).rules in
    let rows = alike_length (IsRow r.ons) c.args.applications.now r.moves (q.4).rows in
    let moves = alike_length IsMove c.args.exploration.now.rules.moves.items r.moves (q.4).rules.moves in
    let same = ap length c.deref-listed-items.ensures.value in
    let past = c.in_default.ensures.lookup.3 in
    let within = c.loop-chosen-test.true in
    omega (arith, rows, moves, same, past, within)
