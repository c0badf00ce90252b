use Rattle.std.proofs.Common.{◌∙◌, ◌++◌, List, [], ◌∷◌, Vec, Bor, Global, ℕ, ap, map}
use Rattle.prove_facts.specs.model_prove.specs.Texts.{Opens, after_any}
use Rattle.prove_facts.specs.model_prove.specs.Between.{with_classes}
use Rattle.prove_facts.specs.declared.values.Values.{Values}
use Rattle.prove_facts.specs.Sets.{set_of}
use Rattle.prove_patterns.specs.Opens.{many_of}
use Rattle.prove_patterns.specs.Classes.{class_values}
use Rattle.prove_patterns.proofs.ReachLemmas.{any_found}
use Rattle.prove_patterns.proofs.command_classes.add_header.Goals as goal

pub returns : goal.returns
returns c n h u =
    let old = class_values c.args.classes.now.items in
    let sets = map set_of c.args.header.sets.items in
    let found =
    ap (λ (l : List (Vec (Vec (Bor (List ℕ)) Global) Global)). many_of l) c.as_slice-2.ensures.value
    ∙ any_found c.in_ok-many.field-0 c.in-Some.many (after_any n (many_of c.push.new.list.items)) c.in-Some.is (c.in_ok-many.ensures n h)
    ∙ ap (λ (l : List (Vec (Vec (Bor (List ℕ)) Global) Global)). after_any n (many_of l)) c.in_ok-push.ensures
    ∙ ap (λ (l : List (Vec (Vec (Bor (List ℕ)) Global) Global)). after_any n (many_of (l ++ c.args.header.left ∷ []))) c.new-from.ensures.items
    in
    c.in_ok-add_classes.ensures
    ∙ ap (λ (l : List Values). with_classes (map set_of l) (many_of c.as_slice-2.result.now) (class_values c.args.classes.now.items)) c.as_slice.ensures.value
    ∙ ap (λ (m : List Opens). with_classes (map set_of c.args.header.sets.items) m (class_values c.args.classes.now.items)) found
