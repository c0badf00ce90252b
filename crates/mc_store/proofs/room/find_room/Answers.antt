use Rattle.mc_store.proofs.ReadLemmas.{no_journal, well_laid}
use Rattle.mc_store.proofs.room.find_room.Goals as goal

pub first_room-requires-clause-closed : goal.first_room-requires-clause-closed
first_room-requires-clause-closed g c = no_journal (g.N.Nvm.state c.args.device.now) c.args.count c.requires.going

pub first_room-requires-clause-laid : goal.first_room-requires-clause-laid
first_room-requires-clause-laid g c = well_laid (g.N.Nvm.state c.args.device.now) c.args.count c.requires.going
