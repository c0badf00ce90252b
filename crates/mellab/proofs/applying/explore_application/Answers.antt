use Rattle.mellab.proofs.ApplicationLemmas.{applied_as, moves_are}
use Rattle.mellab.proofs.applying.explore_application.Goals as goal

pub explore_read-explored-requires : goal.explore_read-explored-requires
explore_read-explored-requires g c =
    let h = applied_as c.args.text.now c.in_ok-application.application c.in_ok-application.ensures.read in
    record { read = (h.exploration.lines, h.exploration.moves, moves_are c.args.text.now c.in_ok-application.application h) }

pub returns-clause-ends : goal.returns-clause-ends
returns-clause-ends g c =
    let h = applied_as c.args.text.now c.in_ok-application.application c.in_ok-application.ensures.read in
    record {
      exploration = h.exploration;
      is = h.is;
      rules = c.in_ok-application.application.rules;
      are = h.of.rules;
      result = c.explore_read-explored.result;
      status = c.status_explored.ensures;
      explored = c.explore_read-explored.ensures h.exploration.lines h.exploration.moves (moves_are c.args.text.now c.in_ok-application.application h);
    }
