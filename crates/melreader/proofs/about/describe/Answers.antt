use Rattle.std.proofs.Common.{refl}
use Rattle.mc_text.specs.Texts.{sunk}
use Rattle.mc_filter.proofs.Statuses.{puts_by}
use Rattle.melreader.proofs.about.describe.Goals as goal

pub returns : goal.returns
returns g c =
    let said = c.put_all.ensures in
    let text = c.args.text.now in (
      c.ended.result,
      c.number.ensures,
      record {
        input = refl;
        err = refl;
        written = record {
          result = c.put_all.result;
          status = c.ended.ensures;
          written = puts_by (sunk g.T.Sink c.args.out.now) (sunk g.T.Sink c.put_all.new.sink) text text c.put_all.result refl said.bytes said.fault said.part said.quiet;
        };
      },
    )
