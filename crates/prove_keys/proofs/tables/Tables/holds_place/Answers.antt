use Rattle.prove_keys.proofs.TableLemmas.{if_ok, known_there}
use Rattle.prove_keys.proofs.tables.Tables.holds_place.Goals as goal

pub returns-in-Some : goal.returns-in-Some
returns-in-Some c names classes whole distinct =
    if_ok _ _ c.follows.result c.follows.ensures (λ b h e. known_there _ _ _ (c.in-Some.ensures names classes c.args.fixed whole distinct) (h e))
