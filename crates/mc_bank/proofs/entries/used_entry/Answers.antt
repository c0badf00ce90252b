use Rattle.std.proofs.Common.{subst, sym}
use Rattle.mc_bank.specs.Shown.{EntryShows}
use Rattle.mc_bank.proofs.ShownLemmas.{place_is_within, slot_entry, shows}
use Rattle.mc_bank.proofs.entries.used_entry.Goals as goal

pub bounds-entries-index : goal.bounds-entries-index
bounds-entries-index c = place_is_within c.args.entries.now c.args.slot c.index.result c.requires.there c.index.ensures

pub returns : goal.returns
returns c =
    subst (EntryShows c.args.entries.now c.args.slot)
    (sym (slot_entry c.args.entries.now c.args.slot c.index.result c.index-entries-index.result c.requires.there c.index.ensures c.index-entries-index.is))
    (shows c.args.entries.now c.args.slot c.requires.memory c.requires.there)
