use Rattle.mc_filter.specs.Inputs.{stream}
use Rattle.mc_text.specs.Texts.{sunk}
use Rattle.meldesk.specs.Jobs.{text_value}
use Rattle.meldesk.proofs.StatusLemmas.{says_text}
use Rattle.meldesk.proofs.running.make.Goals as goal

pub returns : goal.returns
returns g c =
    let made = c.write-done in
    says_text (text_value c.args.text) (stream g.S.Source c.args.input.now) (stream g.S.Source made.new.input) (sunk g.T.Sink c.args.out.now) (sunk g.T.Sink made.new.out) (sunk g.T.Sink c.end.new.out)
    made.result c.end.result made.ensures.done made.ensures.rejected made.ensures.out c.end.ensures.done c.end.ensures.rejected
