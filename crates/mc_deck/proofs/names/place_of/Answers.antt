use Rattle.std.proofs.Common.{ℕ, Option, ◌<◌, length, sym, subst, ◌∙◌}
use Rattle.std.specs.Prelude.{IfSome}
use Rattle.mc_deck.proofs.names.place_of.Goals as goal

pub returns-clause-inside : goal.returns-clause-inside
returns-clause-inside c = λ named a.
    subst (λ (o : Option ℕ). IfSome o (λ i. i < length c.args.names.now.units.items)) (sym (c.copied.ensures ∙ c.get.ensures.value)) (a.inside c.args.name)
