use Rattle.desk_cover.proofs.TracePlayLemmas.{line_puts}
use Rattle.desk_cover.proofs.tracing.TracerReporter.report.Goals as goal

pub returns : goal.returns
returns g c =
    let e = c.put_result.ensures in
    record {
      reports = λ before p s l w at none lined. line_puts g.T.Sink g.N.Nvm.state g.N.Bench.bench p c.args.player.now s (c.args.number, l) w before c.args.self.now c.put_result.new.self c.args.answer.now at none lined e;
      same = record { sections = e.sections; same = e.same };
    }
