use Rattle.std.proofs.Common.{◌≡◌}
use Rattle.law_machine.specs.model_machine.specs.Chain.{Chain, run_of_chain}
use Rattle.mc_machine.specs.Chains.{RunsAs}
use Rattle.mc_machine.proofs.RunLemmas.{Underway}
use Rattle.mc_machine.proofs.running.finish.Given as goal

-- the rest of the run has the result of the whole run, and the session bytes of the selection are unchanged
abbrev pub invariant-loop-turn : goal.invariant-loop-turn
invariant-loop-turn g l =
    record {
      session : l.session ≡ l.fn.session;
      underway : (ch : Chain) → RunsAs (g.B.Bank.state l.fn.bank) (g.B.Bank.named l.fn.bank) l.fn.chain ch → Underway g.B.Bank l.fn.bank (run_of_chain l.fn.left ch) l.fn.steps l.fn.left l._turn l.bank l.chain l.steps;
    }
