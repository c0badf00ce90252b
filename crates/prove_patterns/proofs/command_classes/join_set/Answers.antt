use Rattle.std.proofs.Common.{◌∙◌, [], ap, sym, map, set}
use Rattle.std.proofs.lemmas.List.{map-set, get_or-map}
use Rattle.prove_facts.specs.model_prove.specs.Sets.{Set, union}
use Rattle.prove_facts.specs.declared.values.Values.{Values}
use Rattle.prove_facts.specs.Sets.{set_of}
use Rattle.prove_patterns.proofs.command_classes.join_set.Goals as goal

pub returns : goal.returns
returns c =
    let l = c.args.others.now.items in
    let i = c.args.i in
    let other = c.index.result.now in
    map-set set_of l i c.or.result
    ∙ ap (λ (s : Set). set (map set_of c.args.others.now.items) c.args.i s)
    (c.or.ensures.set ∙ ap (λ (s : Set). union (set_of c.args.set.now) s) (ap (λ (v : Values). set_of v) c.index.ensures ∙ sym (get_or-map set_of l i other [] c.requires)))
