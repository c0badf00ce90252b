use Rattle.std.proofs.Common.{List, ℕ, sym, subst}
use Rattle.lab_branch.specs.Branches.{IsBranch}
use Rattle.lab_branch.proofs.branch.BranchNvm.take_root.Goals as goal

pub copy_changed-requires : goal.copy_changed-requires
copy_changed-requires c = subst (λ (r : List (List ℕ)). IsBranch c.self.inside.changed c.self.inside.device.words r) (sym c.as_mut_slice.ensures.value) c.self.invariant
