use Rattle.std.proofs.Common.{refl, Some}
use Rattle.mc_text.specs.model_text.specs.Text.{fields}
use Rattle.prove_rules.specs.Loads.{loads_in}
use Rattle.prove_rules.proofs.AppLemmas.{app_added}
use Rattle.prove_rules.proofs.app.add_app.Goals as goal

pub returns-in_ok-rules-in-Ok-clause-added : goal.returns-in_ok-rules-in-Ok-clause-added
returns-in_ok-rules-in-Ok-clause-added c = λ a n are.
    app_added (loads_in c.args.source.now.text.now c.args.source.now.deck.now) a c.args.rules.now n (fields c.args.text.now) c.in-Ok.found (Some c.in-Ok.found) are c.in-Ok.ensures.read refl
