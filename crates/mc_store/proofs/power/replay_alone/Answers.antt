use Rattle.mc_gate.specs.Layouts.{journal_of}
use Rattle.mc_store.proofs.RecoverLemmas.{replay_follows}
use Rattle.mc_store.proofs.power.replay_alone.Goals as goal

pub returns-in-Ok-clause-follows : goal.returns-in-Ok-clause-follows
returns-in-Ok-clause-follows g c =
    let state = g.N.Nvm.state in
    replay_follows (journal_of c.args.layout) (state c.args.device.now) (state c.replay.new.device) c.in-Ok.writes c.requires.low c.requires.alone c.in-Ok.ensures.ends
