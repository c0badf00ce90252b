use Rattle.mc_script.proofs.writer.WriterReporter.ended.Goals as goal

pub returns : goal.returns
returns g c = c.write_result.ensures
