use Rattle.lab_search.proofs.EndingLemmas.{not_put, put_wanted}
use Rattle.lab_search.proofs.endings.put_if.Goals as goal

pub returns-then-not-wanted : goal.returns-then-not-wanted
returns-then-not-wanted g c = not_put _ c.args.wanted _ c.if-not-wanted.true

pub returns : goal.returns
returns g c = put_wanted _ _ c.args.wanted _ c.put_statement.result c.if-not-wanted.false c.put_statement.ensures
