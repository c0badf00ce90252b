use Rattle.std.proofs.Common.{ap}
use Rattle.mc_deck.specs.Lines.{line_of}
use Rattle.meldesk.proofs.CheckLemmas.{nothing_added, verdicts_added}
use Rattle.meldesk.proofs.checking.push_line.Goals as goal

pub returns-in_default : goal.returns-in_default
returns-in_default c = λ d h. nothing_added d c.args.number c.args.line.now c.args.made.now.passes c.args.made.now.text.items c.in_default.not-Load

pub returns : goal.returns
returns c =
    verdicts_added c.args.loads.now c.push_verdict.result c.args.number (line_of c.args.line.now) _ _ c.in-Load.session c.in_ok-verdict.verdict c.args.made.now.passes c.accepts-made.result c.args.made.now.text.items c.push_verdict.new.text.items c.accepts-made.ensures (ap line_of c.in-Load.is) c.in_ok-verdict.ensures.verdict c.in_ok-verdict.ensures.runs c.push_verdict.ensures
