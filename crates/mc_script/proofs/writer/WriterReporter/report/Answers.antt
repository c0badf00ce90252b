use Rattle.mc_text.specs.Texts.{sunk}
use Rattle.mc_script.specs.Writers.{WriterKeeps, turns_text, write_result}
use Rattle.mc_script.proofs.DeckLemmas.{line_puts}
use Rattle.mc_script.proofs.writer.WriterReporter.report.Goals as goal

pub returns : goal.returns
returns g c =
    let e = c.put_result.ensures in
    let after = c.put_result.new.self in
    record {
      reports = λ before p s l w at none lined.
          line_puts g.N.Nvm.state g.N.Bench.bench (WriterKeeps g.T.Sink) (turns_text before.reporting) p c.args.player.now s (c.args.number, l) w before c.args.self.now c.args.answer.now (sunk g.T.Sink before.out.now) (sunk g.T.Sink after.out.now) (write_result after.fault) lined (λ ts h. e.reports before ts none h);
      same = record { reporting = e.reporting; same = e.same };
    }
