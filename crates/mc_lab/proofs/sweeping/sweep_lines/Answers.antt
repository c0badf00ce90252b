use Rattle.std.proofs.Common.{◌≤◌, ◌<◌, ◌+◌, ◌∙◌, List, ap, sym, subst, refl, rules, length, Ok}
use Rattle.mc_text.specs.Texts.{Sunk, sunk_in}
use Rattle.mc_text.proofs.TextLemmas.{puts_as, puts_failed, writes_none}
use Rattle.mc_lab.specs.Remarked.{remark_values}
use Rattle.mc_lab.specs.Sweeps.{marks_after, rows_text, rows_to, Swept}
use Rattle.mc_lab.specs.SweepEnds.{pending_value, sweeps_from, AddsSums}
use Rattle.mc_lab.proofs.SweepRows.{fine_none, rows_fail, rows_fine, rows_left, rows_on}
use Rattle.mc_lab.proofs.SweepDecks.{adds_none, adds_on, left_none, left_step, swept_at}
use Rattle.mc_lab.proofs.sweeping.sweep_lines.Goals as goal

pub loop-at-init : goal.loop-at-init
loop-at-init g c = record { reported = λ r b p. p; adds = λ b p. p; fine = λ b p. p; left = λ q p. p; small = c.requires.sums; size = refl; room = c.requires.room; played = c.requires.played }

pub returns-in_err-sweep_at-clause-reported : goal.returns-in_err-sweep_at-clause-reported
returns-in_err-sweep_at-clause-reported g c =
    let ls = c.args.deck.now in
    let names = c.args.names.now in
    let at = c.loop-at.at in
    let below : at < length ls = search rules in
    let a : Sunk = sunk_in g.T.Sink.taken g.T.Sink.faults c.loop-at.out in
    let b : Sunk = sunk_in g.T.Sink.taken g.T.Sink.faults c.sweep_at.new.out in
    let r = c.from_residual.result in
    c.loop-at.invariant.reported r b
    (puts_failed r c.from_residual.ensures.0 (rows_fail (remark_values c.args.marks.now) (pending_value (remark_values c.args.marks.now) c.loop-at.pending) (sweeps_from names ls at) (swept_at names ls at) (sweeps_from names ls (at + 1)) (left_step names ls at below) a b c.in_err-sweep_at.ensures.reported))

pub loop-at-preserved : goal.loop-at-preserved
loop-at-preserved g c =
    let ls = c.args.deck.now in
    let names = c.args.names.now in
    let marks = remark_values c.args.marks.now in
    let at = c.loop-at.at in
    let below : at < length ls = search rules in
    let step = left_step names ls at below in
    let q = pending_value (remark_values c.args.marks.now) c.loop-at.pending in
    let p = pending_value (remark_values c.args.marks.now) c.sweep_at.new.pending in
    let all = sweeps_from names ls at in
    let now = swept_at names ls at in
    let rest = sweeps_from names ls (at + 1) in
    let a : Sunk = sunk_in g.T.Sink.taken g.T.Sink.faults c.loop-at.out in
    let b : Sunk = sunk_in g.T.Sink.taken g.T.Sink.faults c.sweep_at.new.out in
    let one = c.in_ok-sweep_at.ensures in
    record {
      reported = λ r d w. c.loop-at.invariant.reported r d (rows_on marks q all now rest step p a b d r one.left one.reported w);
      adds = λ d w. c.loop-at.invariant.adds d (subst (λ (ss : List Swept). AddsSums c.loop-at.sums ss d) (sym step) (adds_on c.loop-at.sums c.sweep_at.new.sums d now rest one.adds w));
      fine = λ d w. c.loop-at.invariant.fine d (rows_fine marks q all now rest step p c.loop-at.sums.whole c.sweep_at.new.sums.whole d one.left one.fine w);
      left = λ z w. c.loop-at.invariant.left z (rows_left marks q all now rest step p z one.left w);
      small = one.small;
      size = c.sweep_at.ensures.size ∙ c.loop-at.invariant.size;
      room = c.advance.ensures.room;
      played = c.advance.ensures.played;
    }

pub returns-clause-reported : goal.returns-clause-reported
returns-clause-reported g c =
    let ls = c.args.deck.now in
    let names = c.args.names.now in
    let at = c.loop-at.at in
    let all : length ls ≤ at = search rules in
    let a : Sunk = sunk_in g.T.Sink.taken g.T.Sink.faults c.loop-at.out in
    c.loop-at.invariant.reported (Ok tt) a (puts_as a a (Ok tt) (ap (λ (ss : List Swept). rows_text (remark_values c.args.marks.now) (rows_to (pending_value (remark_values c.args.marks.now) c.loop-at.pending) ss)) (left_none names ls at all)) (writes_none a))

pub returns-clause-adds : goal.returns-clause-adds
returns-clause-adds g c =
    let ls = c.args.deck.now in
    let names = c.args.names.now in
    let at = c.loop-at.at in
    let all : length ls ≤ at = search rules in
    c.loop-at.invariant.adds c.loop-at.sums (adds_none c.loop-at.sums (sweeps_from names ls at) (left_none names ls at all))

pub returns-clause-fine : goal.returns-clause-fine
returns-clause-fine g c =
    let ls = c.args.deck.now in
    let names = c.args.names.now in
    let at = c.loop-at.at in
    let all : length ls ≤ at = search rules in
    c.loop-at.invariant.fine c.loop-at.sums.whole (fine_none (remark_values c.args.marks.now) c.loop-at.sums.whole _ (ap (rows_to (pending_value (remark_values c.args.marks.now) c.loop-at.pending)) (left_none names ls at all)))

pub returns-clause-left : goal.returns-clause-left
returns-clause-left g c =
    let ls = c.args.deck.now in
    let names = c.args.names.now in
    let at = c.loop-at.at in
    let all : length ls ≤ at = search rules in
    c.loop-at.invariant.left (pending_value (remark_values c.args.marks.now) c.loop-at.pending) (ap (marks_after (pending_value (remark_values c.args.marks.now) c.loop-at.pending)) (left_none names ls at all))
