use Rattle.std.proofs.Common.{ap, ◌∙◌, subst, sym, ◌*◌, ◌+◌, ◌≤◌, ◌<◌, length, ℕ, List, slice_set}
use Rattle.std.specs.List.{AllByRecursion}
use Rattle.mc_bank.specs.declared.entries.Entry.{Entry}
use Rattle.mc_bank.specs.Memory.{with_list}
use Rattle.mc_bank.specs.Left.{CommitLeft}
use Rattle.mc_bank.proofs.ShownLemmas.{place_is_within, slot_entry}
use Rattle.mc_bank.proofs.LeftLemmas.{commit_left, commit_fits}
use Rattle.mc_bank.proofs.changes.commit.Goals as goal

pub index_mut-requires : goal.index_mut-requires
index_mut-requires c = subst (λ (n : ℕ). c.index.result < n) (sym c.check_len.ensures) (place_is_within c.args.entries.now.items c.args.slot c.index.result c.requires.there c.index.ensures)

pub put_words-requires : goal.put_words-requires
put_words-requires c =
    subst (λ (e : Entry). AllByRecursion (λ (w : ℕ × List ℕ). 8 * w.0 + 8 ≤ length e.fixed) c.args.list.now)
    (sym (slot_entry c.args.entries.now.items c.args.slot c.index.result c.index_mut.result.now c.requires.there c.index.ensures c.index_mut.ensures.value))
    (commit_fits c.args.entries.now.items c.args.slot c.args.list.now c.requires.memory c.requires.there c.requires.list)

pub returns : goal.returns
returns c =
    record {
      left = subst (λ (k : ℕ). CommitLeft c.args.entries.now.items c.args.slot c.args.list.now (slice_set c.args.entries.now.items k c.put_words.new.entry)) (sym c.index.ensures)
          (commit_left c.args.entries.now.items c.args.slot c.args.list.now c.put_words.new.entry c.requires.memory c.requires.there c.requires.list
          (c.put_words.ensures ∙ ap (with_list c.args.list.now) (slot_entry c.args.entries.now.items c.args.slot c.index.result c.index_mut.result.now c.requires.there c.index.ensures c.index_mut.ensures.value)));
    }
