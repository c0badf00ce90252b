use Rattle.std.proofs.Common.{◌∙◌, Bool, ℕ, List, length, subst}
use Rattle.mc_text.specs.Texts.{Sunk, sunk_in, Fails, Writes}
use Rattle.mc_text.proofs.TextLemmas.{fails_then, writes_then}
use Rattle.mc_lab.specs.Remarked.{remark_values}
use Rattle.mc_lab.specs.Sweeps.{all_marks, rows_to, sums_text, total}
use Rattle.mc_lab.specs.SweepEnds.{pending_value, sweeps_from, AddsFine}
use Rattle.mc_lab.proofs.ExpectLemmas.{fails_done}
use Rattle.mc_lab.proofs.SweepDecks.{text_is, text_whole, whole_is}
use Rattle.mc_lab.proofs.SweepRows.{fails_first, fails_rest, whole_fine, whole_rows}
use Rattle.mc_lab.proofs.sweeping.sweep_in.Goals as goal

pub returns-in_err-sweep_lines-clause-reported : goal.returns-in_err-sweep_lines-clause-reported
returns-in_err-sweep_lines-clause-reported g c =
    let ls = c.args.deck.now in
    let marks = remark_values c.args.marks.now in
    let names = c.as_slice.result.now in
    let ss = sweeps_from names ls 0 in
    let a : Sunk = sunk_in g.T.Sink.taken g.T.Sink.faults c.args.out.now in
    let b : Sunk = sunk_in g.T.Sink.taken g.T.Sink.faults c.sweep_lines.new.out in
    let e = text_whole marks ls names (c.as_slice.ensures.value ∙ c.requires.room.names_are) in
    fails_done c.from_residual.result c.from_residual.ensures.0
    (subst (λ (t : List ℕ). Fails a t b) e (fails_first marks ss (sums_text (length ss) (total (λ s. length s.words) ss) (total (λ s. s.plays) ss)) a b c.in_err-sweep_lines.ensures.reported))

pub returns-in_err-rest-clause-reported : goal.returns-in_err-rest-clause-reported
returns-in_err-rest-clause-reported g c =
    let ls = c.args.deck.now in
    let marks = remark_values c.args.marks.now in
    let names = c.as_slice.result.now in
    let ss = sweeps_from names ls 0 in
    let r = c.from_residual-in_err-rest in
    let a : Sunk = sunk_in g.T.Sink.taken g.T.Sink.faults c.args.out.now in
    let b : Sunk = sunk_in g.T.Sink.taken g.T.Sink.faults c.sweep_lines.new.out in
    let d : Sunk = sunk_in g.T.Sink.taken g.T.Sink.faults c.put_above.new.out in
    let e = text_whole marks ls names (c.as_slice.ensures.value ∙ c.requires.room.names_are) in
    fails_done r.result r.ensures.0
    (subst (λ (t : List ℕ). Fails a t d) e
    (fails_rest marks ss (sums_text (length ss) (total (λ s. length s.words) ss) (total (λ s. s.plays) ss)) (pending_value (remark_values c.args.marks.now) c.sweep_lines.new.pending) a b d c.in_ok-sweep_lines.ensures.left c.in_ok-sweep_lines.ensures.reported c.in_err-rest.ensures.reported))

pub returns-in_err-put_sums-clause-reported : goal.returns-in_err-put_sums-clause-reported
returns-in_err-put_sums-clause-reported g c =
    let ls = c.args.deck.now in
    let marks = remark_values c.args.marks.now in
    let names = c.as_slice.result.now in
    let sums = c.sweep_lines.new.sums in
    let r = c.from_residual-in_err-put_sums in
    let a : Sunk = sunk_in g.T.Sink.taken g.T.Sink.faults c.args.out.now in
    let b : Sunk = sunk_in g.T.Sink.taken g.T.Sink.faults c.put_sums.new.out in
    let d : Sunk = sunk_in g.T.Sink.taken g.T.Sink.faults c.put_above.new.out in
    let none = c.no_sums-sums.ensures in
    let rows = whole_rows marks (sweeps_from names ls 0) (pending_value (remark_values c.args.marks.now) c.sweep_lines.new.pending) c.in_ok-sweep_lines.ensures.left in
    let e = text_is marks ls names (c.as_slice.ensures.value ∙ c.requires.room.names_are) c.no_sums-sums.result sums none.lines none.writes none.plays c.in_ok-sweep_lines.ensures.adds in
    let written = subst (λ (t : List ℕ). Writes a t d) rows (writes_then c.in_ok-sweep_lines.ensures.reported c.in_ok-rest.ensures.reported) in
    fails_done r.result r.ensures.0 (subst (λ (t : List ℕ). Fails a t b) e (fails_then written c.in_err-put_sums.ensures))

pub returns-clause-reported : goal.returns-clause-reported
returns-clause-reported g c =
    let ls = c.args.deck.now in
    let marks = remark_values c.args.marks.now in
    let names = c.as_slice.result.now in
    let sums = c.sweep_lines.new.sums in
    let a : Sunk = sunk_in g.T.Sink.taken g.T.Sink.faults c.args.out.now in
    let b : Sunk = sunk_in g.T.Sink.taken g.T.Sink.faults c.put_sums.new.out in
    let d : Sunk = sunk_in g.T.Sink.taken g.T.Sink.faults c.put_above.new.out in
    let none = c.no_sums-sums.ensures in
    let rows = whole_rows marks (sweeps_from names ls 0) (pending_value (remark_values c.args.marks.now) c.sweep_lines.new.pending) c.in_ok-sweep_lines.ensures.left in
    let e = text_is marks ls names (c.as_slice.ensures.value ∙ c.requires.room.names_are) c.no_sums-sums.result sums none.lines none.writes none.plays c.in_ok-sweep_lines.ensures.adds in
    let written = subst (λ (t : List ℕ). Writes a t d) rows (writes_then c.in_ok-sweep_lines.ensures.reported c.in_ok-rest.ensures.reported) in
    subst (λ (t : List ℕ). Writes a t b) e (writes_then written c.in_ok-put_sums.ensures)

pub returns-clause-whole : goal.returns-clause-whole
returns-clause-whole g c =
    let ls = c.args.deck.now in
    let marks = remark_values c.args.marks.now in
    let names = c.as_slice.result.now in
    let ss = sweeps_from names ls 0 in
    let q = pending_value (remark_values c.args.marks.now) c.sweep_lines.new.pending in
    let first = subst (λ (b : Bool). AddsFine marks b (rows_to (all_marks marks) ss) c.sweep_lines.new.sums.whole) c.no_sums-sums.ensures.whole c.in_ok-sweep_lines.ensures.fine in
    whole_is marks ls names (c.as_slice.ensures.value ∙ c.requires.room.names_are) c.both.result
    (c.both.ensures ∙ whole_fine marks ss q c.sweep_lines.new.sums.whole c.in_ok-rest.rest.whole c.in_ok-sweep_lines.ensures.left first c.in_ok-rest.ensures.whole)
