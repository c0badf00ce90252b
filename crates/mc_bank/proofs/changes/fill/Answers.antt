use Rattle.std.proofs.Common.{ap, ◌∙◌, subst, sym, ◌<◌, ℕ, length, slice_set, arith}
use Rattle.model_card.specs.Items.{Site}
use Rattle.mc_bank.specs.declared.entries.Entry.{Entry}
use Rattle.mc_bank.specs.Memory.{entry_at, part_of, with_piece}
use Rattle.mc_bank.specs.Left.{FillLeft}
use Rattle.mc_bank.proofs.ShownLemmas.{entry_is}
use Rattle.mc_bank.proofs.LeftLemmas.{free_place}
use Rattle.mc_bank.proofs.FillLemmas.{fill_left, fill_fits}
use Rattle.mc_bank.proofs.changes.fill.Goals as goal

pub index_mut-requires : goal.index_mut-requires
index_mut-requires c =
    let place = ap (λ (t : Site). t.place) c.site.view_is in
    subst (λ (n : ℕ). c.site.inside.place < n) (sym c.check_len.ensures) (subst (λ (k : ℕ). k < length c.args.entries.now.items) (sym place) (free_place c.args.entries.now.items c.args.site.now c.requires.memory c.requires.good).0)

pub put_piece-requires : goal.put_piece-requires
put_piece-requires c =
    let place = ap (λ (t : Site). t.place) c.site.view_is in
    let m = c.args.entries.now.items in
    let within = subst (λ (k : ℕ). k < length m) (sym place) (free_place m c.args.site.now c.requires.memory c.requires.good).0 in
    let is = entry_is m c.site.inside.place c.index_mut.result.now within c.index_mut.ensures.value ∙ ap (entry_at m) place in
    let small = fill_fits m c.args.site.now c.args.part c.requires.memory c.requires.good in
    let same = ap (λ (e : Entry). length (part_of c.args.part e)) is in
    let range = c.requires.range in
    omega (arith, small, same, range)

pub returns : goal.returns
returns c =
    let place = ap (λ (t : Site). t.place) c.site.view_is in
    let m = c.args.entries.now.items in
    let within = subst (λ (k : ℕ). k < length m) (sym place) (free_place m c.args.site.now c.requires.memory c.requires.good).0 in
    let is = entry_is m c.site.inside.place c.index_mut.result.now within c.index_mut.ensures.value ∙ ap (entry_at m) place in
    record {
      left = subst (λ (k : ℕ). FillLeft m c.args.site.now c.args.part c.args.at c.args.piece.now (slice_set m k c.put_piece.new.entry)) (sym place)
          (fill_left m c.args.site.now c.args.part c.args.at c.args.piece.now c.put_piece.new.entry c.requires.memory c.requires.good c.requires.range
          (c.put_piece.ensures ∙ ap (with_piece c.args.part c.args.at c.args.piece.now) is));
    }
