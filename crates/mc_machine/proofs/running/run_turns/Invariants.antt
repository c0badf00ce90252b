use Rattle.std.proofs.Common.{◌≡◌, ◌-◌, ◌≤◌}
use Rattle.mc_machine.specs.Chains.{run_of_command}
use Rattle.mc_machine.specs.Lone.{lone_chain}
use Rattle.mc_machine.proofs.RunLemmas.{Underway}
use Rattle.mc_machine.proofs.running.run_turns.Given as goal

-- the rest of the run has the result of the whole run, and the session bytes of the selection are unchanged
abbrev pub invariant-loop-turn : goal.invariant-loop-turn
invariant-loop-turn g l =
    record {
      session : l.session ≡ l.fn.session;
      within : l.turn ≤ l.few;
      underway : Underway g.B.Bank l.fn.bank (run_of_command (g.B.Bank.state l.fn.bank) (g.B.Bank.named l.fn.bank) l.fn.first l.fn.session l.fn.apdu l.fn.budget) l.fn.steps l.fn.budget l.turn l.bank (lone_chain l.frame l.public l.case l.le (l.fn.budget - l.turn)) l.steps;
    }
