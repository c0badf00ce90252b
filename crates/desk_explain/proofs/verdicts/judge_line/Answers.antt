use Rattle.std.proofs.Common.{ap}
use Rattle.mc_deck.specs.Lines.{line_of}
use Rattle.desk_explain.specs.Explained.{causes}
use Rattle.desk_explain.proofs.ExplainLemmas.{code_judged, nothing_judged}
use Rattle.desk_explain.proofs.verdicts.judge_line.Goals as goal

pub returns-in_default : goal.returns-in_default
returns-in_default c = λ d h passes. nothing_judged d c.args.load c.args.line.now (causes c.args.entries.now.items) c.in_default.not-Load passes

pub returns : goal.returns
returns c = λ d h passes.
    code_judged d c.args.load (line_of c.args.line.now) _ _ c.in-Load.session c.in_ok-accepted.accepted (causes c.args.entries.now.items) (causes c.judge_code.new.entries.items) (ap line_of c.in-Load.is) (c.in_ok-accepted.ensures d h) passes
