use Rattle.std.proofs.Common.{refl}
use Rattle.desk_steps.specs.Recorded.{puts_on}
use Rattle.desk_steps.proofs.playing.record_line.Goals as goal

pub returns-clause-puts : goal.returns-clause-puts
returns-clause-puts g c =
    let ends = c.end_turns.ensures.adds in
    (ends.0, ends.1, puts_on g.T.Sink c.args.recorder.now c.end_turns.new.self _ ends.0 _ ends.2 (record { puts = c.write_line-recorder.ensures; same = refl }))
