use Rattle.prove_facts.specs.model_rules.specs.Rules.{AppRules, Target}
use Rattle.lab_app_rules.specs.Rules.{AreRules}
use Rattle.prove_patterns.specs.Replies.{IsPrepared}
use Rattle.prove_closed.proofs.LoopLemmas.{if_ok}
use Rattle.prove_closed.proofs.ClosingLemmas.{some_there}
use Rattle.prove_closed.proofs.closing.is_closed.Goals as goal

pub returns-in-Some : goal.returns-in-Some
returns-in-Some c =
    let prepared =
    some_there (λ r. (a : AppRules) (t : Target) → AreRules a t c.args.rules.now → IsPrepared a r) c.in_ok-replies.field-0 c.in-Some.replies c.in-Some.is
    c.in_ok-replies.ensures
    in
    if_ok _ _ c.closed_with.result c.closed_with.ensures (λ b h e a t are. h e a t are (prepared a t are))
