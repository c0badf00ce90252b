use Rattle.std.proofs.Common.{ap, subst, sym, ◌<◌, ℕ, slice_set}
use Rattle.mc_bank.specs.Memory.{free_entry}
use Rattle.mc_bank.specs.Left.{DeleteLeft}
use Rattle.mc_bank.proofs.ShownLemmas.{place_is_within, slot_entry}
use Rattle.mc_bank.proofs.LeftLemmas.{delete_left}
use Rattle.mc_bank.proofs.changes.delete.Goals as goal

pub index_mut-requires : goal.index_mut-requires
index_mut-requires c = subst (λ (n : ℕ). c.index.result < n) (sym c.check_len.ensures) (place_is_within c.args.entries.now.items c.args.slot c.index.result c.requires.there c.index.ensures)

pub returns : goal.returns
returns c =
    record {
      left = subst (λ (k : ℕ). DeleteLeft c.args.entries.now.items c.args.slot (slice_set c.args.entries.now.items k (free_entry c.index_mut.result.now))) (sym c.index.ensures)
          (delete_left c.args.entries.now.items c.args.slot (free_entry c.index_mut.result.now) c.requires.memory c.requires.there
          (ap free_entry (slot_entry c.args.entries.now.items c.args.slot c.index.result c.index_mut.result.now c.requires.there c.index.ensures c.index_mut.ensures.value)));
    }
