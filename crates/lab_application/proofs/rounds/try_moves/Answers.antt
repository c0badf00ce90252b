use Rattle.std.proofs.Common.{sym, ◌∙◌}
use Rattle.lab_search.proofs.RoundLemmas.{found_later}
use Rattle.lab_application.proofs.SearchLemmas.{comes_goes, comes_then, more_none, more_then}
use Rattle.lab_application.proofs.rounds.try_moves.Goals as goal

pub loop-chosen-init : goal.loop-chosen-init
loop-chosen-init g c = λ d ns n h k. more_none d ns c.args.search.now h.holds

pub try_move-requires : goal.try_move-requires
try_move-requires g c =
    let q = c.requires in
    let a = c.loop-chosen.invariant q.0 q.1 q.2 q.3 q.4 in
    (q.0, a.all, q.2, record { holds = a.holds; found = found_later q.1 a.all c.args.before q.2 a.grew (q.3).found }, q.4)

pub returns-then-is_some : goal.returns-then-is_some
returns-then-is_some g c =
    λ d ns n h k.
    let a = c.loop-chosen.invariant d ns n h k in
    comes_then d ns a.all c.in_ok-halt.halt c.try_move.new.search a.grew (c.in_ok-halt.ensures d a.all n (record { holds = a.holds; found = found_later ns a.all c.args.before n a.grew h.found }) k)

pub loop-chosen-preserved : goal.loop-chosen-preserved
loop-chosen-preserved g c =
    λ d ns n h k.
    let a = c.loop-chosen.invariant d ns n h k in
    more_then d ns a.all c.try_move.new.search a.grew
    (comes_goes d a.all c.in_ok-halt.halt c.try_move.new.search (sym c.is_some.ensures ∙ c.if-is_some.false) (c.in_ok-halt.ensures d a.all n (record { holds = a.holds; found = found_later ns a.all c.args.before n a.grew h.found }) k))

pub returns : goal.returns
returns g c = λ d ns n h k. c.loop-chosen.invariant d ns n h k
