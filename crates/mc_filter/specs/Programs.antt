-- A program: what it does on its own device, by the words of its command line.
use Rattle.std.specs.Prelude.{◌≡◌}
use Rattle.mc_nvm.specs.Sim.{sim_bench, sim_state, Sim, SimWrote}
use Rattle.mc_script.specs.Benches.{BenchMembers}
use Rattle.mc_filter.specs.declared.status.Status.{Status}
use Rattle.mc_filter.specs.declared.status.Status.TheVariants.{NoMemory}
use Rattle.mc_filter.specs.Outside.{Outside}

-- a device of a program as a bench
abbrev pub sim_members : BenchMembers Sim
sim_members = record { state = sim_state; wrote = SimWrote; same = λ d e. d ≡ e; bench = sim_bench }

-- nothing was read or written
pub record IsStill (a : Outside) : Type 0 where
  pub input : a.input ≡ a.input_old
  pub out : a.out ≡ a.out_old

-- out of memory before anything was read or written
pub record IsShort (a : Outside) (s : Status) : Type 0 where
  pub is : s ≡ NoMemory
  pub still : IsStill a
