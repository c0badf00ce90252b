use Rattle.std.proofs.Common.{subst, ◌∙◌, List, length}
use Rattle.mc_bank.specs.declared.entries.Entry.{Entry}
use Rattle.mc_bank.specs.Shown.{EntryShows}
use Rattle.mc_bank.proofs.memory.MemBankBank.code.Goals as goal

pub read-requires : goal.read-requires
read-requires c =
    let shows = subst (λ (m : List Entry). EntryShows m c.args.slot c.used_entry.result.now) (c.deref.ensures.value ∙ c.self.view_is) c.used_entry.ensures in
    (shows.code c.args.at (length c.args.into.now) c.requires.range).0
