use Rattle.prove_keys.proofs.TableLemmas.{facts_there}
use Rattle.prove_keys.proofs.tables.Tables.holds_moment.Goals as goal

pub returns-in-Some : goal.returns-in-Some
returns-in-Some c names classes fixed whole e =
    facts_there c.args.facts.now c.in-Some.held.now _ c.covers.result (c.in-Some.ensures names classes fixed whole) c.covers.ensures e
