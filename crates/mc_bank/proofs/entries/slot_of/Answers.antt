use Rattle.std.proofs.Common.{ℕ, sym, ap, ◌∙◌}
use Rattle.mc_bank.specs.declared.entries.Entry.{Entry}
use Rattle.mc_bank.specs.Memory.{memory_named}
use Rattle.mc_bank.proofs.ShownLemmas.{place_within, place_used, entry_is, slot_of_place}
use Rattle.mc_bank.proofs.entries.slot_of.Goals as goal

pub bounds-entries-index : goal.bounds-entries-index
bounds-entries-index c = place_within c.args.entries.now c.args.index c.requires.there

pub unwrap-requires : goal.unwrap-requires
unwrap-requires c =
    place_used c.args.entries.now c.args.index c.index-entries-index.result
    (entry_is c.args.entries.now c.args.index c.index-entries-index.result (place_within c.args.entries.now c.args.index c.requires.there) c.index-entries-index.is) c.requires.there

pub returns : goal.returns
returns c =
    let m = c.args.entries.now in
    let entry = entry_is m c.args.index c.index-entries-index.result (place_within m c.args.index c.requires.there) c.index-entries-index.is in
    ap (λ (k : ℕ). memory_named m k) c.new.ensures.number
    ∙ slot_of_place m c.args.index c.unwrap.result c.requires.memory c.requires.there (ap (λ (e : Entry). e.facts) (sym entry) ∙ c.unwrap.ensures)
