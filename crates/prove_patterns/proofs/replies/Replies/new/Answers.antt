use Rattle.std.proofs.Common.{◌∙◌, sym, subst}
use Rattle.std.specs.Prelude.{IfOk, IfSome}
use Rattle.prove_facts.specs.model_prove.specs.Texts.{Opens}
use Rattle.prove_patterns.specs.Replies.{ArePrepared}
use Rattle.prove_patterns.proofs.LineLemmas.{results_are}
use Rattle.prove_patterns.proofs.replies.Replies.new.Goals as goal

pub returns : goal.returns
returns c names a h =
    let are = c.in_ok-none.ensures ∙ sym (results_are names c.args.ons.now a.ons h) in
    subst (λ (o : Opens). IfOk c.prepared.result (λ r. IfSome r (λ p. ArePrepared o p))) are (c.prepared.ensures (c.in_ok-none.ensures ∙ sym c.in_ok-any.ensures))
