use Rattle.std.proofs.Common.{◌∙◌, ap}
use Rattle.prove_keys.specs.Keys.{calls_of}
use Rattle.prove_spots.proofs.CallLemmas.{calls_push}
use Rattle.prove_spots.proofs.calls.pop_call.Goals as goal

pub returns-in-Some-clause-some : goal.returns-in-Some-clause-some
returns-in-Some-clause-some c = ap calls_of c.in-Some.ensures.items ∙ calls_push c.pop.new.self.items c.in-Some.call
