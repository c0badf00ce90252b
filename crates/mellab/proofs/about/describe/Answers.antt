use Rattle.mc_text.specs.Texts.{sunk}
use Rattle.mc_filter.proofs.Statuses.{puts_by}
use Rattle.mellab.specs.Jobs.{about_text}
use Rattle.mellab.proofs.about.describe.Goals as goal

pub returns : goal.returns
returns g c =
    let said = c.put_all.ensures in
    record {
      result = c.put_all.result;
      status = c.ended.ensures;
      written = puts_by (sunk g.T.Sink c.args.out.now) (sunk g.T.Sink c.put_all.new.sink) c.about_text.result.now (about_text c.args.about) c.put_all.result c.about_text.ensures said.bytes said.fault said.part said.quiet;
    }
