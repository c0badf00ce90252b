use Rattle.std.proofs.Common.{List, ℕ, ap, subst, sym, ◌∙◌}
use Rattle.law_histories.specs.model_device.specs.Image.{image_with}
use Rattle.lab_branch.specs.Branches.{BranchState}
use Rattle.mc_script.specs.declared.player.Player.{Player}
use Rattle.mc_script.specs.Players.{device_of}
use Rattle.lab_key.specs.Shown.{IsShown}
use Rattle.lab_search.specs.Kept.{root_of}
use Rattle.lab_application.proofs.courses.course_in.Goals as goal

pub course_on-requires-clause-shown : goal.course_on-requires-clause-shown
course_on-requires-clause-shown g c =
    let q = c.requires in
    let saved = c.in-Some.saved in
    let shown = c.in-Some.ensures (root_of c.args.laboratory.now) (q.1).base (q.1).live (q.2).card in
    let root = ap (λ (p : Player BranchState). (device_of p).root) c.deref_mut.ensures.value ∙ c.in_ok-fixed.ensures.root in
    let words = c.put_card.ensures.words ∙ ap (λ (m : List (List ℕ)). image_with m saved.words.now) root in
    let put = subst (λ (m : List (List ℕ)). IsShown m saved.live.now (q.1).base (q.1).live) (sym words) shown in
    ((q.1).base, (q.1).live, subst (λ (p : Player BranchState). IsShown (device_of p).device.words saved.live.now (q.1).base (q.1).live) (sym c.deref_mut-2.ensures.value) put)
