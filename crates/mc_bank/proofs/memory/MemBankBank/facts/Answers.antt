use Rattle.std.proofs.Common.{subst, ◌∙◌, List}
use Rattle.mc_bank.specs.declared.entries.Entry.{Entry}
use Rattle.mc_bank.specs.Shown.{EntryShows}
use Rattle.mc_bank.proofs.memory.MemBankBank.facts.Goals as goal

pub returns : goal.returns
returns c =
    let shows = subst (λ (m : List Entry). EntryShows m c.args.slot c.used_entry.result.now) (c.deref.ensures.value ∙ c.self.view_is) c.used_entry.ensures in
    let reported = shows.facts c.unwrap.result c.unwrap.ensures in
    record { name = reported.name; app = reported.app; sizes = reported.sizes; limits = reported.limits }
