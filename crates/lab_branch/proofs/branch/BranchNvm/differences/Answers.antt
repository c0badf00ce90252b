use Rattle.lab_branch.proofs.BranchLemmas.{are_differences, if_ok, not_root, on_err}
use Rattle.lab_branch.proofs.branch.BranchNvm.differences.Goals as goal

pub returns-clause-laid : goal.returns-clause-laid
returns-clause-laid c =
    if_ok c.differences_at.result (λ d is. (are_differences c.args.self.now (record { device = c.self.inside.device; root = c.self.inside.root.items }) c.self.inside.changed c.list.result.now c.as_slice.result.now d.items c.self.view_is c.self.invariant c.as_slice.ensures.value c.list.ensures.list c.list.ensures.distinct is).laid)
    c.differences_at.ensures.differ

pub returns-clause-differ : goal.returns-clause-differ
returns-clause-differ c =
    if_ok c.differences_at.result (λ d is. (are_differences c.args.self.now (record { device = c.self.inside.device; root = c.self.inside.root.items }) c.self.inside.changed c.list.result.now c.as_slice.result.now d.items c.self.view_is c.self.invariant c.as_slice.ensures.value c.list.ensures.list c.list.ensures.distinct is).differ)
    c.differences_at.ensures.differ

pub returns-clause-distinct : goal.returns-clause-distinct
returns-clause-distinct c =
    if_ok c.differences_at.result (λ d is. (are_differences c.args.self.now (record { device = c.self.inside.device; root = c.self.inside.root.items }) c.self.inside.changed c.list.result.now c.as_slice.result.now d.items c.self.view_is c.self.invariant c.as_slice.ensures.value c.list.ensures.list c.list.ensures.distinct is).distinct)
    c.differences_at.ensures.differ

pub returns-clause-memory : goal.returns-clause-memory
returns-clause-memory c =
    on_err c.differences_at.result (λ differ. not_root c.args.self.now (record { device = c.self.inside.device; root = c.self.inside.root.items }) c.as_slice.result.now c.self.view_is c.as_slice.ensures.value differ) c.differences_at.ensures.memory
