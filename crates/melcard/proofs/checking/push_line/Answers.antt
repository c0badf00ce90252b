use Rattle.std.proofs.Common.{ap}
use Rattle.mc_deck.specs.Lines.{line_of}
use Rattle.melcard.proofs.CheckingLemmas.{nothing_added, verdict_added}
use Rattle.melcard.proofs.checking.push_line.Goals as goal

pub returns-in_default : goal.returns-in_default
returns-in_default c = nothing_added c.args.number c.args.line.now c.args.text.now.items c.in_default.not-Load

pub returns : goal.returns
returns c =
    verdict_added c.push_verdict.result c.args.number (line_of c.args.line.now) _ _ c.in-Load.session c.in_ok-verdict.verdict c.args.text.now.items c.push_verdict.new.text.items (ap line_of c.in-Load.is) c.in_ok-verdict.ensures.verdict c.in_ok-verdict.ensures.runs c.push_verdict.ensures
