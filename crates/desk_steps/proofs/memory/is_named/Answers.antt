use Rattle.std.proofs.Common.{◌≡◌, ℕ, List, Option, Some, rules, ap}
use Rattle.mc_bank.specs.Bank.{name_or}
use Rattle.mc_card.specs.Parts.{view_in}
use Rattle.desk_cover.specs.Watching.{name_in}
use Rattle.desk_steps.proofs.memory.is_named.Goals as goal

pub returns : goal.returns
returns g c =
    let there : (view_in g.N.Nvm.state c.args.card.now).named c.args.chain.now.running.slot ≡ Some c.facts-facts.result.aid = search (rules, c.facts-facts.ensures.name) in
    let named : name_in g.N.Nvm.state c.args.card.now c.args.chain.now.running ≡ c.facts-facts.result.aid = ap (λ (o : Option (List ℕ)). name_or o) there in
    search (rules, named)
