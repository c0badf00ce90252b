use Rattle.mc_deck.proofs.NameLemmas.{name_found, name_inside}
use Rattle.mc_deck.proofs.names.put_place.Goals as goal

pub returns-in-Ok-clause-put : goal.returns-in-Ok-clause-put
returns-in-Ok-clause-put c = λ us u named l a. record {
  found = λ q. name_found c.args.name.now q.now us u c.args.place _ _ named (c.in-Ok.ensures.updates.0 q) l (a.inside q) (a.found q);
  inside = λ q. name_inside c.args.name.now q.now us u c.args.place _ _ (c.in-Ok.ensures.updates.0 q) l (a.inside q);
}
