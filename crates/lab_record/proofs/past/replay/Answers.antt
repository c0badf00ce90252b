use Rattle.lab_record.proofs.past.replay.Goals as goal

pub replay_on-requires-clause-playing : goal.replay_on-requires-clause-playing
replay_on-requires-clause-playing g c = (_, c.new-player.ensures.at)
