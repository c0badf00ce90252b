use Rattle.std.proofs.Common.{ap, ◌∙◌, subst, sym, ◌<◌, ◌≤◌, ℕ, length, slice_set, arith}
use Rattle.model_card.specs.declared.card.Sizes.{Sizes}
use Rattle.model_card.specs.Items.{Site}
use Rattle.mc_bank.specs.declared.entries.Entry.{Entry}
use Rattle.mc_bank.specs.Memory.{entry_at, with_app}
use Rattle.mc_bank.specs.EntryLaws.{whole_at}
use Rattle.mc_bank.specs.Left.{CreateLeft}
use Rattle.mc_bank.proofs.ShownLemmas.{entry_is}
use Rattle.mc_bank.proofs.LeftLemmas.{create_left, free_place}
use Rattle.mc_bank.proofs.changes.create.Goals as goal

pub index_mut-requires : goal.index_mut-requires
index_mut-requires c =
    let place = ap (λ (t : Site). t.place) c.site.view_is in
    subst (λ (n : ℕ). c.site.inside.place < n) (sym c.check_len.ensures) (subst (λ (k : ℕ). k < length c.args.entries.now.items) (sym place) (free_place c.args.entries.now.items c.args.site.now c.requires.memory c.requires.good).0)

pub put_app-requires-clause-room : goal.put_app-requires-clause-room
put_app-requires-clause-room c =
    let place = ap (λ (t : Site). t.place) c.site.view_is in
    let m = c.args.entries.now.items in
    let within = subst (λ (k : ℕ). k < length m) (sym place) (free_place m c.args.site.now c.requires.memory c.requires.good).0 in
    let is = entry_is m c.site.inside.place c.index_mut.result.now within c.index_mut.ensures.value in
    let whole = whole_at m c.site.inside.place within c.requires.memory.whole in
    let long = whole.fixed in
    let fits = subst (λ (t : Site). t.sizes.fixed ≤ 4096) (sym c.site.view_is) c.requires.good.limits.fixed in
    let same = ap (λ (e : Entry). length e.fixed) is in
    omega (arith, long, fits, same)

pub returns : goal.returns
returns c =
    let place = ap (λ (t : Site). t.place) c.site.view_is in
    let m = c.args.entries.now.items in
    let within = subst (λ (k : ℕ). k < length m) (sym place) (free_place m c.args.site.now c.requires.memory c.requires.good).0 in
    let is = entry_is m c.site.inside.place c.index_mut.result.now within c.index_mut.ensures.value in
    record {
      left = subst (λ (k : ℕ). CreateLeft m c.args.site.now c.args.aid.now (slice_set m k c.put_app.new.entry)) (sym place)
          (create_left m c.args.site.now c.args.aid.now c.put_app.new.entry c.requires.memory c.requires.good c.requires.fresh c.check_name.ensures
          (c.put_app.ensures
          ∙ ap (λ (s : Sizes). with_app s c.args.aid.now c.index_mut.result.now) (ap (λ (t : Site). t.sizes) c.site.view_is)
          ∙ ap (with_app c.args.site.now.sizes c.args.aid.now) (is ∙ ap (entry_at m) place)));
    }
