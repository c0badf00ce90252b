use Rattle.lab_record.proofs.past.chronicle.Goals as goal

pub chronicle_on-requires : goal.chronicle_on-requires
chronicle_on-requires g c = (_, c.new-player.ensures.at)
