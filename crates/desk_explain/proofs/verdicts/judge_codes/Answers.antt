use Rattle.std.proofs.Common.{◌≤◌, ◌&&◌, length, arith, rules}
use Rattle.mc_deck.specs.Lines.{line_of}
use Rattle.desk_draft.specs.Loads.{desk_value, AreLoads}
use Rattle.desk_draft.specs.Sources.{sources_value}
use Rattle.desk_explain.specs.Explained.{causes}
use Rattle.desk_explain.proofs.ExplainLemmas.{line_judged, lines_judged}
use Rattle.desk_explain.proofs.verdicts.judge_codes.Goals as goal

pub loop-i-init : goal.loop-i-init
loop-i-init c = λ after h. h

pub loop-i-preserved : goal.loop-i-preserved
loop-i-preserved c = λ after h.
    let desk = c.args.desk.now in
    let d = desk_value desk in
    let next = c.line-load.result in
    let loads : AreLoads c.in_ok-loads.loads desk.text.items (sources_value desk.sources.items) = search rules in
    c.loop-i.invariant after
    (line_judged d desk.deck c.loop-i.i next.0 (line_of next.1) (c.loop-i.passes, causes c.loop-i.entries.items) (c.loop-i.passes && c.in_ok-accepted.accepted, causes c.judge_line.new.entries.items) after c.line-load.ensures.line (c.in_ok-accepted.ensures d loads c.loop-i.passes) (rw c.both-passes.ensures at h))

pub returns : goal.returns
returns c =
    let desk = c.args.desk.now in
    let end : length desk.deck ≤ c.loop-i.i = omega arith in
    c.loop-i.invariant (c.loop-i.passes, causes c.loop-i.entries.items) (lines_judged (desk_value desk) desk.deck c.loop-i.i (c.loop-i.passes, causes c.loop-i.entries.items) end)
