use Rattle.desk_steps.proofs.StatementLemmas.{rest_on}
use Rattle.desk_steps.proofs.statements.Statements.go_on.Goals as goal

pub returns-clause-rest : goal.returns-clause-rest
returns-clause-rest c =
    let q = c.args.self.now in
    rest_on q.number c.args.number q.text.now q.rest.now c.rest_after-self.result.now c.requires.before c.requires.stands c.rest_after-self.ensures
