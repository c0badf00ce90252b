use Rattle.std.proofs.Common.{◌≡◌}
use Rattle.mc_filter.specs.Inputs.{stream}
use Rattle.mc_text.specs.Texts.{sunk}
use Rattle.meldesk.specs.Jobs.{shown_by}
use Rattle.meldesk.proofs.PlayLemmas.{says_play}
use Rattle.meldesk.proofs.playing.show.Goals as goal

pub returns : goal.returns
returns g c =
    let made = c.play_draft-done in
    says_play (made.new.dev ≡ c.args.dev.now) (shown_by c.args.play) (stream g.S.Source c.args.input.now) (stream g.S.Source made.new.input) (sunk g.T.Sink c.args.out.now) (sunk g.T.Sink made.new.out) (sunk g.T.Sink c.end.new.out)
    (record { device = g.N.Nvm.state c.args.dev.now; bench = g.N.Bench.bench c.args.dev.now }) (record { device = g.N.Nvm.state made.new.dev; bench = g.N.Bench.bench made.new.dev })
    made.result c.end.result made.ensures.shown made.ensures.rejected made.ensures.out made.ensures.kept c.end.ensures.done c.end.ensures.rejected
