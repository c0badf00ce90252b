use Rattle.std.proofs.Common.{ap, sym, ◌∙◌, List}
use Rattle.mc_bank.specs.declared.entries.Entry.{Entry}
use Rattle.mc_bank.specs.Memory.{facts_in, is_named}
use Rattle.mc_bank.specs.EntryLaws.{lookup_is}
use Rattle.mc_bank.proofs.memory.MemBankBank.find.Goals as goal

pub returns-in-Some-clause-there : goal.returns-in-Some-clause-there
returns-in-Some-clause-there c =
    c.in-Some.ensures.there ∙ ap (λ (m : List Entry). is_named (facts_in m) c.args.aid.now) (c.deref.ensures.value ∙ c.self.view_is) ∙ sym (lookup_is 0 c.args.self.now c.args.aid.now)

pub returns-in-None-clause-there : goal.returns-in-None-clause-there
returns-in-None-clause-there c =
    c.in-None.ensures.there ∙ ap (λ (m : List Entry). is_named (facts_in m) c.args.aid.now) (c.deref.ensures.value ∙ c.self.view_is) ∙ sym (lookup_is 0 c.args.self.now c.args.aid.now)
