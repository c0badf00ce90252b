use Rattle.std.proofs.Common.{◌∙◌, ◌++◌, sym, ap, refl, inl, inr, List, [], ◌∷◌}
use Rattle.std.proofs.lemmas.Result.{on_ok_weaker}
use Rattle.std.proofs.lemmas.List.{map-append}
use Rattle.model_prove.specs.Sets as sets
use Rattle.prove_facts.specs.declared.facts.Fact.{Fact}
use Rattle.prove_facts.specs.declared.packed.One.{One}
use Rattle.prove_facts.specs.Sets.{set_of}
use Rattle.prove_facts.specs.Facts.{fact_of, facts_of}
use Rattle.prove_facts.specs.Packed.{one_of, ones_of}
use Rattle.prove_facts.proofs.PackedLemmas.{only_of}
use Rattle.prove_facts.proofs.packed.add_fact.Goals as goal

pub returns-in-Some : goal.returns-in-Some
returns-in-Some c =
    let old = c.args.ones.now.items in
    let fact = c.args.fact.now in
    on_ok_weaker c.push.result
    (λ i. inl (
      ap (λ (l : List One). ones_of l) i ∙ map-append one_of old (record { at = fact.at; value = c.in-Some.value } ∷ [])
          ∙ ap (λ (s : sets.Set). ones_of old ++ (fact.at, s) ∷ []) (sym (only_of (set_of fact.values) c.in-Some.value (sym c.only.ensures ∙ c.in-Some.is))),
      refl,
    )) c.push.ensures

pub returns-in-None : goal.returns-in-None
returns-in-None c =
    on_ok_weaker c.push-in-None.result
    (λ i. inr (refl, ap (λ (l : List Fact). facts_of l) i ∙ map-append fact_of c.args.sets.now.items (c.args.fact.now ∷ []))) c.push-in-None.ensures
