use Rattle.std.proofs.Common.{◌≡◌, ◌∙◌, List, length, ap, rules}
use Rattle.std.specs.Prelude.{Bool}
use Rattle.std.proofs.lemmas.List.{take_at}
use Rattle.lab_branch.proofs.BranchLemmas.{cleared}
use Rattle.lab_branch.proofs.places.Places.clear.Goals as goal

pub invariant_of-self : goal.invariant_of-self
invariant_of-self c =
    let marks = c.unmark.new.marks in
    let long : length marks ≡ c.self.inside.is_listed.len = search rules in
    cleared marks _ c.self.inside.is_listed.items c.self.inside.list.items c.clear.new.self.items c.self.inside.list.cap c.clear.new.self.cap c.self.invariant c.unmark.ensures.none
    (c.unmark.ensures.len ∙ ap (λ (m : List Bool). length m) c.as_mut_slice.ensures.value) (take_at marks _ c.self.inside.is_listed.len long) c.clear.ensures.items c.clear.ensures.capacity
