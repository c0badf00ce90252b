use Rattle.std.proofs.Common.{◌≡◌, ◌<◌, List, ℕ, length, get_or, false, inl, inr, subst, sym, rules}
use Rattle.lab_branch.specs.Branches.{IsListed}
use Rattle.lab_branch.proofs.BranchLemmas.{has_room_for, place_added, added_is_listed, others_stay_listed, no_more_listed}
use Rattle.lab_branch.proofs.places.Places.add.Goals as goal

pub append-requires : goal.append-requires
append-requires c =
    let free : get_or c.self.inside.is_listed.items c.args.place false ≡ false = search rules in
    let long : c.self.inside.list.len ≡ length c.self.inside.list.items = search rules in
    subst (λ (n : ℕ). n < c.self.inside.list.cap) (sym long) (has_room_for c.self.inside.is_listed.items c.self.inside.list.items c.self.inside.list.cap c.args.place c.self.invariant c.requires free)

pub invariant_of-self : goal.invariant_of-self
invariant_of-self c =
    let free : get_or c.self.inside.is_listed.items c.args.place false ≡ false = search rules in
    place_added c.self.inside.is_listed.items c.mark.new.marks.items c.self.inside.list.items c.append.new.list.items c.self.inside.list.cap c.append.new.list.cap c.args.place c.self.invariant c.requires free c.mark.ensures
    c.append.ensures.items c.append.ensures.room

pub returns-clause-added : goal.returns-clause-added
returns-clause-added c = added_is_listed c.args.place c.self.inside.list.items c.append.new.list.items c.append.ensures.items

pub returns-clause-stays : goal.returns-clause-stays
returns-clause-stays c q h =
    others_stay_listed c.args.place q c.self.inside.list.items c.append.new.list.items c.append.ensures.items (subst (λ (l : List ℕ). IsListed q l) (sym c.self.view_is) h)

pub returns-clause-no_more : goal.returns-clause-no_more
returns-clause-no_more c q h =
    elim (no_more_listed c.args.place q c.self.inside.list.items c.append.new.list.items c.append.ensures.items h) [
      | inl there ↦ inl (subst (λ (l : List ℕ). IsListed q l) c.self.view_is there)
      | inr e ↦ inr e
    ]
