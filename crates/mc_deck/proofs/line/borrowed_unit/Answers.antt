use Rattle.std.proofs.Common.{ap, ◌∙◌}
use Rattle.mc_deck.specs.Lines.{owned_parts}
use Rattle.mc_deck.proofs.LineLemmas.{at_place}
use Rattle.mc_deck.proofs.line.borrowed_unit.Goals as goal

pub returns : goal.returns
returns c = c.keeps_device.ensures ∙ ap owned_parts (c.index-units-place.is ∙ at_place c.args.units.now c.args.place c.index-units-place.result c.requires)
