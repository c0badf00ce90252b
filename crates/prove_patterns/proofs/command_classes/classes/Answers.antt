use Rattle.std.proofs.Common.{◌≡◌, ◌∙◌, List, ap, sym, subst, lit≤}
use Rattle.std.specs.Prelude.{IfOk, IfSome}
use Rattle.prove_facts.specs.model_prove.specs.Texts.{Opens, any_count}
use Rattle.prove_facts.specs.model_prove.specs.Between as between
use Rattle.prove_patterns.specs.Headers.{headers_of, headers_from}
use Rattle.prove_patterns.specs.Classes.{class_values}
use Rattle.prove_patterns.proofs.LineLemmas.{classes_alike}
use Rattle.prove_patterns.proofs.command_classes.classes.Goals as goal

pub returns : goal.returns
returns c names a h =
    let same = classes_alike names a c.args.ons.now (headers_of c.in_ok-headers.field-0.items) h (c.in_ok-headers.ensures ∙ ap (λ (o : Opens). headers_from o) c.in_ok-opens.ensures) in
    subst (λ (x : List between.Class). IfOk c.classes_of.result (λ r. IfSome r (λ cs. class_values cs.items ≡ x))) (sym same) (c.classes_of.ensures any_count (lit≤ tt))
