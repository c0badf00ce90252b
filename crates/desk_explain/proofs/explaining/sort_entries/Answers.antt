use Rattle.std.proofs.Common.{rules}
use Rattle.std.proofs.lemmas.List.Sorted.{IsNonDecreasingBy-from_sort_by_key}
use Rattle.desk_explain.specs.declared.entry.Entry.{Entry}
use Rattle.desk_explain.proofs.explaining.sort_entries.Goals as goal

pub returns-clause-order : goal.returns-clause-order
returns-clause-order c = IsNonDecreasingBy-from_sort_by_key (λ (e : Entry). e.number) _ c.in_ok-sort_by_key.ensures.sorted (λ a r q k. search rules)
