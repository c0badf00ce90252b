use Rattle.std.proofs.Common.{◌∙◌, List, Bor, Vec, Global, ℕ, [], ◌∷◌, ap}
use Rattle.std.proofs.lemmas.List.{map-append}
use Rattle.prove_facts.specs.model_prove.specs.Texts.{both_opens}
use Rattle.prove_patterns.specs.Opens.{opens_of, many_of}
use Rattle.prove_patterns.proofs.ReachLemmas.{both_turn}
use Rattle.prove_patterns.proofs.reaching.add_many.Goals as goal

pub loop-opens-preserved : goal.loop-opens-preserved
loop-opens-preserved c =
    let e =
    ap (λ (l : List (Vec (Vec (Bor (List ℕ)) Global) Global)). many_of l) c.in-Some.ensures.items
    ∙ map-append (λ (o : Vec (Vec (Bor (List ℕ)) Global) Global). opens_of o.items) c.pop.new.self.items (c.in-Some.opens ∷ [])
    in
    both_turn (many_of c.loop-opens.more.items) (many_of c.pop.new.self.items) (many_of c.loop-opens.many.items) (many_of c.add_opens.new.many.items)
    (both_opens (many_of c.args.more.items) (many_of c.args.many.now.items)) (opens_of c.in-Some.opens.items) e c.in_ok-add_opens.ensures c.loop-opens.invariant
