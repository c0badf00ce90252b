use Rattle.std.proofs.Common.{◌≡◌, ◌≤◌, ◌∙◌, ap, sym, subst, rules, Bool, ◌&&◌, List, Ok}
use Rattle.mc_text.specs.Texts.{Sunk, sunk_in, Fails}
use Rattle.mc_text.proofs.TextLemmas.{puts_as, puts_failed, writes_none}
use Rattle.mc_lab.specs.Remarked.{remark_values}
use Rattle.mc_lab.specs.Sweeps.{marks_after, rows_text, rows_to, Swept}
use Rattle.mc_lab.specs.SweepEnds.{pending_value, sweeps_at, AddsFine}
use Rattle.mc_lab.proofs.SweepLoops.{SweptAs}
use Rattle.mc_lab.proofs.SweepRows.{fine_none}
use Rattle.mc_lab.proofs.SweepDecks.{adds_none, line_of_place, none_swept, place_adds, place_line}
use Rattle.mc_lab.proofs.sweeping.sweep_place.Goals as goal

pub returns-then-swept-eq0-clause-reported : goal.returns-then-swept-eq0-clause-reported
returns-then-swept-eq0-clause-reported g c =
    let p = c.args.place.now in
    let s = c.sweep_line-swept in
    let zero_writes : s.result.writes ≡ 0 = search rules in
    let a : Sunk = sunk_in g.T.Sink.taken g.T.Sink.faults c.args.out.now in
    puts_as a a (Ok tt) (ap (λ ss. rows_text (remark_values c.args.marks.now) (rows_to (pending_value (remark_values c.args.marks.now) c.args.pending.now) ss)) (none_swept p (sym s.ensures.writes ∙ zero_writes))) (writes_none a)

pub returns-then-swept-eq0-clause-adds : goal.returns-then-swept-eq0-clause-adds
returns-then-swept-eq0-clause-adds g c =
    let p = c.args.place.now in
    let s = c.sweep_line-swept in
    let zero_writes : s.result.writes ≡ 0 = search rules in
    adds_none c.args.sums.now (sweeps_at p) (none_swept p (sym s.ensures.writes ∙ zero_writes))

pub returns-then-swept-eq0-clause-fine : goal.returns-then-swept-eq0-clause-fine
returns-then-swept-eq0-clause-fine g c =
    let p = c.args.place.now in
    let s = c.sweep_line-swept in
    let zero_writes : s.result.writes ≡ 0 = search rules in
    fine_none (remark_values c.args.marks.now) c.args.sums.now.whole _ (ap (rows_to (pending_value (remark_values c.args.marks.now) c.args.pending.now)) (none_swept p (sym s.ensures.writes ∙ zero_writes)))

pub returns-then-swept-eq0-clause-left : goal.returns-then-swept-eq0-clause-left
returns-then-swept-eq0-clause-left g c =
    let p = c.args.place.now in
    let s = c.sweep_line-swept in
    let zero_writes : s.result.writes ≡ 0 = search rules in
    ap (marks_after (pending_value (remark_values c.args.marks.now) c.args.pending.now)) (none_swept p (sym s.ensures.writes ∙ zero_writes))

pub returns-in_err-fine-clause-reported : goal.returns-in_err-fine-clause-reported
returns-in_err-fine-clause-reported g c =
    let p = c.args.place.now in
    let s = c.sweep_line-swept in
    let some : 1 ≤ s.result.writes = search rules in
    let is : SweptAs p s.result.writes s.new.words s.result.plays = record { writes = s.ensures.writes; words_are = s.ensures.words; plays_are = s.ensures.plays } in
    let l = place_line p c.args.number s.result.writes s.new.words s.result.plays c.requires.number is c.requires.open some in
    let of = line_of_place (remark_values c.args.marks.now) l.0 c.args.number s.result.writes s.new.words c.is_broken-broken.result l.2 l.3 c.is_broken-broken.ensures in
    let a : Sunk = sunk_in g.T.Sink.taken g.T.Sink.faults c.args.out.now in
    let b : Sunk = sunk_in g.T.Sink.taken g.T.Sink.faults c.report_place.new.out in
    puts_failed c.from_residual.result c.from_residual.ensures.0
    (subst (λ (ss : List Swept). Fails a (rows_text (remark_values c.args.marks.now) (rows_to (pending_value (remark_values c.args.marks.now) c.args.pending.now) ss)) b) (sym l.1) (c.in_err-fine.ensures.reported l.0 of))

pub returns-clause-reported : goal.returns-clause-reported
returns-clause-reported g c =
    let p = c.args.place.now in
    let s = c.sweep_line-swept in
    let some : 1 ≤ s.result.writes = search rules in
    let is : SweptAs p s.result.writes s.new.words s.result.plays = record { writes = s.ensures.writes; words_are = s.ensures.words; plays_are = s.ensures.plays } in
    let l = place_line p c.args.number s.result.writes s.new.words s.result.plays c.requires.number is c.requires.open some in
    let of = line_of_place (remark_values c.args.marks.now) l.0 c.args.number s.result.writes s.new.words c.is_broken-broken.result l.2 l.3 c.is_broken-broken.ensures in
    let a : Sunk = sunk_in g.T.Sink.taken g.T.Sink.faults c.args.out.now in
    let b : Sunk = sunk_in g.T.Sink.taken g.T.Sink.faults c.report_place.new.out in
    puts_as a b (Ok tt) (ap (λ ss. rows_text (remark_values c.args.marks.now) (rows_to (pending_value (remark_values c.args.marks.now) c.args.pending.now) ss)) (sym l.1)) (c.in_ok-fine.ensures.reported l.0 of)

pub returns-clause-adds : goal.returns-clause-adds
returns-clause-adds g c =
    let p = c.args.place.now in
    let s = c.sweep_line-swept in
    let some : 1 ≤ s.result.writes = search rules in
    let is : SweptAs p s.result.writes s.new.words s.result.plays = record { writes = s.ensures.writes; words_are = s.ensures.words; plays_are = s.ensures.plays } in
    place_adds p c.args.number s.result.writes s.new.words s.result.plays c.args.sums.now _ c.requires.number is c.requires.open some (search rules) (search rules) (search rules)

pub returns-clause-fine : goal.returns-clause-fine
returns-clause-fine g c =
    let p = c.args.place.now in
    let s = c.sweep_line-swept in
    let some : 1 ≤ s.result.writes = search rules in
    let is : SweptAs p s.result.writes s.new.words s.result.plays = record { writes = s.ensures.writes; words_are = s.ensures.words; plays_are = s.ensures.plays } in
    let l = place_line p c.args.number s.result.writes s.new.words s.result.plays c.requires.number is c.requires.open some in
    let of = line_of_place (remark_values c.args.marks.now) l.0 c.args.number s.result.writes s.new.words c.is_broken-broken.result l.2 l.3 c.is_broken-broken.ensures in
    let fine = c.in_ok-fine.ensures.fine l.0 of in
    subst (λ (ss : List Swept). AddsFine (remark_values c.args.marks.now) c.args.sums.now.whole (rows_to (pending_value (remark_values c.args.marks.now) c.args.pending.now) ss) c.both-sums.result) (sym l.1) (c.both-sums.ensures ∙ ap (λ (b : Bool). c.args.sums.now.whole && b) fine)

pub returns-clause-left : goal.returns-clause-left
returns-clause-left g c =
    let p = c.args.place.now in
    let s = c.sweep_line-swept in
    let some : 1 ≤ s.result.writes = search rules in
    let is : SweptAs p s.result.writes s.new.words s.result.plays = record { writes = s.ensures.writes; words_are = s.ensures.words; plays_are = s.ensures.plays } in
    let l = place_line p c.args.number s.result.writes s.new.words s.result.plays c.requires.number is c.requires.open some in
    c.in_ok-fine.ensures.left l.0 l.2 ∙ ap (marks_after (pending_value (remark_values c.args.marks.now) c.args.pending.now)) (sym l.1)
