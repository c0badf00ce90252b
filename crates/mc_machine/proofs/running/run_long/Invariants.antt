use Rattle.std.proofs.Common.{◌≡◌, ◌-◌}
use Rattle.law_machine.specs.model_machine.specs.Chain.{Chain, run_of_chain}
use Rattle.mc_segs.specs.HeldFrames.{app_under}
use Rattle.mc_machine.specs.Chains.{RunsAs}
use Rattle.mc_machine.specs.Known.{KnowsCode}
use Rattle.mc_machine.specs.Lone.{lone_chain}
use Rattle.mc_machine.proofs.RunLemmas.{Underway}
use Rattle.mc_machine.proofs.running.run_long.Given as goal

-- the rest of the run has the result of the whole run, the session bytes of the selection are unchanged, and the table
-- knows the code of the application that runs
abbrev pub invariant-loop-turn : goal.invariant-loop-turn
invariant-loop-turn g l =
    record {
      session : l.session ≡ l.fn.session;
      underway : (ch : Chain) → RunsAs (g.B.Bank.state l.fn.bank) (g.B.Bank.named l.fn.bank) (lone_chain l.fn.frame l.fn.public l.fn.case l.fn.le l.fn.left) ch
          → Underway g.B.Bank l.fn.bank (run_of_chain l.fn.left ch) l.fn.steps l.fn.left l.turn l.bank (lone_chain l.frame l.public l.fn.case l.fn.le (l.fn.left - l.turn)) l.steps;
      knows : KnowsCode (app_under (g.B.Bank.state l.bank) (g.B.Bank.named l.bank) l.frame).code l.table;
    }
