use Rattle.std.proofs.Common.{ap, sym, subst, ◌∙◌, List}
use Rattle.mc_bank.specs.declared.entries.Entry.{Entry}
use Rattle.mc_bank.specs.Memory.{facts_in, count_of_used, IsMemory}
use Rattle.mc_bank.specs.EntryLaws.{length_apps, are_apps}
use Rattle.mc_bank.proofs.memory.MemBankBank.count.Goals as goal

pub returns-clause-count : goal.returns-clause-count
returns-clause-count c =
    let memory = subst IsMemory c.self.view_is c.self.invariant in
    c.count_used.ensures ∙ ap (λ (m : List Entry). count_of_used (facts_in m)) (c.deref.ensures.value ∙ c.self.view_is) ∙ sym (length_apps 0 c.args.self.now memory.apart)

pub returns-clause-apps : goal.returns-clause-apps
returns-clause-apps c = are_apps c.args.self.now (subst IsMemory c.self.view_is c.self.invariant)
