use Rattle.std.proofs.Common.{◌∙◌, ap}
use Rattle.law_histories.specs.law_explore.specs.Rules.{is_some_of}
use Rattle.lab_deck.proofs.ReadLemmas.{can_break_by}
use Rattle.lab_deck.proofs.reading.can_break.Goals as goal

pub returns : goal.returns
returns c = λ a g are sums.
    c.any_of.ensures
    ∙ can_break_by a g c.args.rules.now c.has_some-on.result c.is_some-never.result c.has_some-range.result c.has_some-block.result
    (c.has_some-on.ensures ∙ ap is_some_of c.as_slice.ensures.value) c.is_some-never.ensures (c.has_some-range.ensures ∙ ap is_some_of c.as_slice-2.ensures.value)
    (c.has_some-block.ensures ∙ ap is_some_of c.as_slice-3.ensures.value) are sums
