use Rattle.mc_check.specs.Closing.{found_fact}
use Rattle.mc_check.proofs.ClosingSteps.{refuses_returns, pairs_differ}
use Rattle.mc_check.proofs.closing.same_counts.Goals as goal

pub returns-else-eq-clause-due : goal.returns-else-eq-clause-due
returns-else-eq-clause-due c =
    let f = c.args.found in
    rw c.refusal.ensures (λ session. refuses_returns c.args.code.now session (found_fact f) f.seen.ins f.seen.next c.args.known c.args.counts c.requires.reached c.requires.found.stands c.requires.returns c.requires.known (pairs_differ c.args.known c.args.counts c.eq.result c.eq.ensures c.if-eq.false))
