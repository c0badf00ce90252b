use Rattle.std.proofs.Common.{◌≡◌, true, subst}
use Rattle.prove_facts.specs.model_prove.specs.Keys as known
use Rattle.prove_facts.specs.model_prove.specs.Arrivals.{Setting}
use Rattle.prove_facts.specs.model_prove.specs.Tables.{is_closed}
use Rattle.prove_closed.proofs.LoopLemmas.{if_ok}
use Rattle.prove_closed.proofs.closing.closed_with.Goals as goal

pub returns : goal.returns
returns c =
    if_ok _ _ c.rules_closed.result c.rules_closed.ensures
    (λ b h e a t are prepared.
    let s : Setting = record { rules = a; app = t.app } in
    let p = c.in-Some.ensures a t are prepared in
    subst (λ (x : known.Tables). is_closed s x ≡ true) p.1 (h e a t are p.0))
