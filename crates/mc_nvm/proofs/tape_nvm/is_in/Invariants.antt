use Rattle.std.proofs.Common.{◌≡◌, drop}
use Rattle.mc_nvm.specs.Taped.{is_listed}
use Rattle.mc_nvm.proofs.tape_nvm.is_in.Given as goal

-- the rest of the numbers decides
abbrev pub invariant-loop-n : goal.invariant-loop-n
invariant-loop-n l = is_listed l.worn l.number ≡ is_listed (drop l.n-index l.worn) l.number
