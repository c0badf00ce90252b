use Rattle.std.proofs.Common.{◌∙◌, ap}
use Rattle.prove_facts.specs.model_prove.specs.Sets.{Set, with_value}
use Rattle.prove_facts.specs.Sets.{set_of}
use Rattle.prove_patterns.specs.declared.command_headers.Group.{Group}
use Rattle.prove_patterns.specs.Opens.{opens_of}
use Rattle.prove_patterns.specs.Headers.{group_of}
use Rattle.prove_patterns.proofs.HeaderLemmas.{group_set, with_is}
use Rattle.prove_patterns.proofs.command_headers.add_value.Goals as goal

pub returns : goal.returns
returns c =
    let g = c.index_mut-group.result.now in
    group_set group_of c.args.groups.now.items c.args.place c.args.byte g (record { left = g.left; values = c.with-group.result }) c.requires
    (ap (λ (s : Set). (opens_of g.left.items, s)) (with_is c.with-group.result.words g.values.words c.args.byte c.ranges.byte.fits c.with-group.ensures)
    ∙ ap (λ (h : Group). (opens_of h.left.items, with_value c.args.byte (set_of h.values))) c.index_mut-group.ensures.value)
