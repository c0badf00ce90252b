use Rattle.std.proofs.Common.{subst, ◌∙◌, arith}
use Rattle.mc_bank.specs.Memory.{IsMemory}
use Rattle.mc_bank.proofs.OpenLemmas.{is_full, has_few, site_is, site_good, site_parts}
use Rattle.mc_bank.proofs.memory.MemBankBank.open.Goals as goal

pub returns-then-count_used-ge-APPS-clause-answer : goal.returns-then-count_used-ge-APPS-clause-answer
returns-then-count_used-ge-APPS-clause-answer g c =
    let full = c.if-count_used-ge-APPS.true in
    is_full c.args.self.now c.deref.result.now c.args.sizes.now c.count_used.result (subst IsMemory c.self.view_is c.self.invariant) (c.deref.ensures.value ∙ c.self.view_is) c.count_used.ensures (omega (arith, full))

pub returns-clause-answer : goal.returns-clause-answer
returns-clause-answer g c =
    let less = c.if-count_used-ge-APPS.false in
    let few = has_few c.args.self.now c.deref.result.now c.count_used.result (subst IsMemory c.self.view_is c.self.invariant) (c.deref.ensures.value ∙ c.self.view_is) c.count_used.ensures (omega (arith, less)) in
    site_is c.args.self.now c.deref-2.result.now c.args.sizes.now c.free_entry.result (c.deref-2.ensures.value ∙ c.self.view_is) c.free_entry.ensures few

pub returns-clause-good : goal.returns-clause-good
returns-clause-good g c =
    let less = c.if-count_used-ge-APPS.false in
    let few = has_few c.args.self.now c.deref.result.now c.count_used.result (subst IsMemory c.self.view_is c.self.invariant) (c.deref.ensures.value ∙ c.self.view_is) c.count_used.ensures (omega (arith, less)) in
    site_good c.args.self.now c.deref-2.result.now c.args.sizes.now c.free_entry.result c.requires.limits (c.deref-2.ensures.value ∙ c.self.view_is) c.free_entry.ensures few

pub returns-clause-parts : goal.returns-clause-parts
returns-clause-parts g c =
    let less = c.if-count_used-ge-APPS.false in
    let memory = subst IsMemory c.self.view_is c.self.invariant in
    let few = has_few c.args.self.now c.deref.result.now c.count_used.result memory (c.deref.ensures.value ∙ c.self.view_is) c.count_used.ensures (omega (arith, less)) in
    site_parts c.args.self.now (record { sizes = c.args.sizes.now; place = c.free_entry.result }) memory
    (site_good c.args.self.now c.deref-2.result.now c.args.sizes.now c.free_entry.result c.requires.limits (c.deref-2.ensures.value ∙ c.self.view_is) c.free_entry.ensures few)
