use Rattle.mc_card.specs.Parts.{device_in}
use Rattle.mc_script.proofs.PokeLemmas.{pokes_on}
use Rattle.mc_script.proofs.quiet.poke_all.Goals as goal

pub loop-at-preserved : goal.loop-at-preserved
loop-at-preserved g c = (
  pokes_on (g.N.Nvm.state (device_in c.args.card.now)) (g.N.Bench.bench (device_in c.args.card.now)) c.args.list.now (g.N.Nvm.state (device_in c.loop-at.card)) (g.N.Nvm.state (device_in c.poke.new.self)) (g.N.Bench.bench (device_in c.loop-at.card)) (g.N.Bench.bench (device_in c.poke.new.self)) c.loop-at.at-index _ c.loop-at-test.true c.loop-at.invariant.0 c.poke.ensures.state c.poke.ensures.bench,
  g.met.N.Nvm.onward _ _ _ c.loop-at.invariant.1 c.poke.ensures.keeps_device,
)
