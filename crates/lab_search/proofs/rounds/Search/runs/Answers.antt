use Rattle.std.proofs.Common.{sym}
use Rattle.lab_search.proofs.RoundLemmas.{kept_at, held_at}
use Rattle.lab_search.proofs.rounds.Search.runs.Goals as goal

pub returns-in-Some : goal.returns-in-Some
returns-in-Some c = λ d ns n h. (kept_at d c.args.self.now ns n c.args.state c.in-Some.state.now h c.in-Some.ensures.key).runs

pub returns-in-None : goal.returns-in-None
returns-in-None c = λ d ns n h. absurd (held_at d c.args.self.now ns n c.args.state h (sym c.in-None.ensures.key))
