use Rattle.std.proofs.Common.{◌∙◌, List, ap, map}
use Rattle.std.proofs.lemmas.Result.{on_ok_weaker}
use Rattle.prove_facts.specs.model_prove.specs.Sets.{Set}
use Rattle.prove_facts.specs.model_prove.specs.Between.{union_all}
use Rattle.prove_facts.specs.Sets.{set_of}
use Rattle.prove_patterns.specs.declared.command_classes.Class.{Class}
use Rattle.prove_patterns.specs.Classes.{class_value}
use Rattle.prove_patterns.proofs.ClassLemmas.{class_set, class_of}
use Rattle.prove_patterns.proofs.command_classes.join_at.Goals as goal

pub returns : goal.returns
returns c =
    let d = c.index_mut-class.result.now in
    let sets = map set_of c.args.sets.now in
    on_ok_weaker c.union_all.result
    (λ i. class_set class_value c.args.classes.now.items c.args.place sets d (record { matches = d.matches; sets = c.union_all.new.others }) c.requires
    (ap (λ (ss : List Set). class_of d.matches.items ss) i
    ∙ ap (λ (e : Class). class_of e.matches.items (union_all (map set_of c.args.sets.now) (map set_of e.sets.items))) c.index_mut-class.ensures.value)) c.union_all.ensures
