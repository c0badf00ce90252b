use Rattle.std.proofs.Common.{List, ℕ, ap, refl, subst, sym, ◌∙◌}
use Rattle.law_histories.specs.model_device.specs.Image.{image_with}
use Rattle.lab_branch.specs.Branches.{BranchState}
use Rattle.lab_key.specs.Shown.{IsShown}
use Rattle.lab_key.proofs.Showing.{readable}
use Rattle.mc_script.specs.declared.player.Player.{Player}
use Rattle.mc_script.specs.Players.{device_of}
use Rattle.lab_search.specs.Kept.{root_of}
use Rattle.lab_application.proofs.SearchLemmas.{on_ok}
use Rattle.lab_application.proofs.statics.statics_in.Goals as goal

pub statics_at-requires : goal.statics_at-requires
statics_at-requires c =
    let q = c.requires in
    let live = c.in-Some.saved.live.now in
    let shown = c.in-Some.ensures (root_of c.args.laboratory.now) (q.1).base (q.1).live (q.2).card in
    let words = c.put_card.ensures.words ∙ ap (λ (p : Player BranchState). image_with (device_of p).root c.in-Some.saved.words.now) c.deref_mut.ensures.value in
    let put = subst (λ (m : List (List ℕ)). IsShown m live (q.1).base (q.1).live) (sym words) shown in
    let here = subst (λ (p : Player BranchState). IsShown (device_of p).device.words live (q.1).base (q.1).live) (sym c.deref_mut-2.ensures.value) put in
    readable (device_of c.deref_mut-2.result.now).device.words live ((q.1).base, (q.1).live, here)

pub returns-clause-root : goal.returns-clause-root
returns-clause-root c =
    let before = c.put_card.ensures.root ∙ ap (λ (p : Player BranchState). (device_of p).root) c.deref_mut.ensures.value in
    on_ok c.statics_at.result _ (c.statics_at.ensures ∙ ap (λ (p : Player BranchState). (device_of p).root) c.deref_mut-2.ensures.value ∙ before)

pub returns-clause-budget : goal.returns-clause-budget
returns-clause-budget c = on_ok c.statics_at.result _ refl

pub returns-clause-counts : goal.returns-clause-counts
returns-clause-counts c = on_ok c.statics_at.result _ refl
