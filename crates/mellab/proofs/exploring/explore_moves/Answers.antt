use Rattle.mellab.proofs.ExplorationLemmas.{read_as}
use Rattle.mellab.proofs.exploring.explore_moves.Goals as goal

pub explore_within-requires : goal.explore_within-requires
explore_within-requires g c =
    let r = read_as c.args.text.now c.in_ok-exploration.exploration c.in_ok-exploration.ensures.read in
    record { read = (r.exploration, r.of) }

pub returns-clause-ends : goal.returns-clause-ends
returns-clause-ends g c =
    let r = read_as c.args.text.now c.in_ok-exploration.exploration c.in_ok-exploration.ensures.read in
    record { exploration = r.exploration; is = r.is; result = c.explore_within.result; status = c.status_explored.ensures; explored = c.explore_within.ensures r.exploration r.of }
