use Rattle.std.proofs.Common.{sym}
use Rattle.lab_search.proofs.RoundLemmas.{held_at}
use Rattle.lab_application.proofs.attempts.Attempt.standing.Goals as goal

pub unreachable-requires : goal.unreachable-requires
unreachable-requires c = let q = c.requires in held_at q.0 c.args.search.now q.1 q.2 c.args.self.now.before (q.4).at (sym c.in_default.ensures.key)
