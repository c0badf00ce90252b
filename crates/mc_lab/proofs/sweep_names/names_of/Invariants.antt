use Rattle.std.proofs.Common.{◌≡◌, [], drop}
use Rattle.mc_lab.specs.Sweeps.{names_from}
use Rattle.mc_lab.proofs.sweep_names.names_of.Given as goal

-- the names up to here, with those of the rest, are all
abbrev pub invariant-loop-i : goal.invariant-loop-i
invariant-loop-i l = names_from l.names.items (drop l.i l.deck) ≡ names_from [] l.deck
