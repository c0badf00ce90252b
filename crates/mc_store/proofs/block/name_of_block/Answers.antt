use Rattle.mc_store.proofs.RecordLemmas.{block_fits}
use Rattle.mc_store.proofs.block.name_of_block.Goals as goal

pub read_record-entry-requires : goal.read_record-entry-requires
read_record-entry-requires g c = block_fits (g.N.Nvm.state c.args.device.now).words c.args.place c.requires
