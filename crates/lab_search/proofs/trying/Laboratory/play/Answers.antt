use Rattle.std.proofs.Common.{rules, ◌≡◌, List, ℕ, length, replicate, sym, subst, ◌∙◌, ap}
use Rattle.std.specs.Prelude.{vec_len}
use Rattle.std.proofs.lemmas.List.{take_at}
use Rattle.law_explore_text.specs.model_play.specs.TraceText.{shown_turns}
use Rattle.law_explore_text.specs.law_explore.specs.States.{play_of}
use Rattle.law_explore_text.specs.law_explore.specs.Tries.{step_of}
use Rattle.lab_rules.specs.Occasions.{counts_after_turns}
use Rattle.law_explore_text.specs.model_device.specs.Image.{image_with}
use Rattle.lab_branch.specs.Branches.{BranchState}
use Rattle.mc_script.specs.declared.player.Player.{Player}
use Rattle.mc_script.specs.Players.{device_of}
use Rattle.lab_search.specs.Reports.{manner_value}
use Rattle.lab_key.specs.Shown.{IsShown}
use Rattle.lab_search.proofs.trying.Laboratory.play.Goals as goal

pub returns-clause-tried : goal.returns-clause-tried
returns-clause-tried g c k m shown budget is card can =
    let words = c.put_card.ensures.words ∙ ap (λ (p : Player BranchState). image_with (device_of p).root c.args.saved.words.now) c.deref_mut.ensures.value in
    let put = subst (λ (n : List (List ℕ)). IsShown n c.args.saved.live.now k.base k.live) (sym words) shown in
    let here = subst (λ (p : Player BranchState). IsShown (device_of p).device.words c.args.saved.live.now k.base k.live) (sym c.deref_mut-2.ensures.value) put in
    let t = c.try_on.ensures.tried k m here budget is card can in
    let long : length c.try_on.new.counts ≡ c.zero.new.counts.len = search rules in
    let zeros : c.as_mut_slice.result.now ≡ replicate (vec_len c.args.self.now.counts) 0 = c.as_mut_slice.ensures.value ∙ c.zero.ensures in
    let played = step_of (play_of k) m (manner_value c.args.manner) in
    record {
      text = t.text;
      counts = take_at c.try_on.new.counts _ c.zero.new.counts.len long ∙ t.counts ∙ ap (λ (ns : List ℕ). counts_after_turns c.args.candidate.now.ons.now c.args.candidate.now.applies.now (shown_turns played.turns played.stop) ns) zeros;
      state = t.state;
    }
