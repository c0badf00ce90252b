use Rattle.prove_arrivals.specs.Subjects.{classes_in}
use Rattle.prove_sum_steps.proofs.goals.goal_of.Goals as goal

pub returns-clause-known : goal.returns-clause-known
returns-clause-known c names s is =
    let found = c.in_ok-known.ensures names (classes_in c.args.subject.now) is.whole is.apart in
    record { whole = found.0; known = found.1 }
