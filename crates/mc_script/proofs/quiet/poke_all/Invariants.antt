use Rattle.std.proofs.Common.{drop}
use Rattle.mc_card.specs.Parts.{device_in}
use Rattle.mc_script.proofs.PokeLemmas.{Pokes}
use Rattle.mc_script.proofs.quiet.poke_all.Given as goal

-- the pokes that are left lead to the result of the whole list
abbrev pub invariant-loop-at : goal.invariant-loop-at
invariant-loop-at g l =
    Pokes (g.N.Nvm.state (device_in l.fn.card)) (g.N.Bench.bench (device_in l.fn.card)) l.list (g.N.Nvm.state (device_in l.card)) (g.N.Bench.bench (device_in l.card)) (drop l.at-index l.list) × g.N.Nvm.same (device_in l.fn.card) (device_in l.card)
