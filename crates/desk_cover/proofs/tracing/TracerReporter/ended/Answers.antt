use Rattle.desk_cover.proofs.tracing.TracerReporter.ended.Goals as goal

pub returns : goal.returns
returns g c = c.write_result.ensures
