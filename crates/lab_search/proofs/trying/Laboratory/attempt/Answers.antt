use Rattle.std.proofs.Common.{rules, ◌≡◌, ◌∙◌, ℕ, List, ap, length, map, sym, subst}
use Rattle.std.specs.Prelude.{vec_len}
use Rattle.std.proofs.lemmas.List.{take_at}
use Rattle.law_explore_text.specs.law_explore.specs.Tries.{allowances_after}
use Rattle.lab_rules.specs.Occasions.{AreSpent}
use Rattle.law_explore_text.specs.model_device.specs.PowerUp.{Base}
use Rattle.law_explore_text.specs.model_play.specs.Play as play
use Rattle.lab_branch.specs.Branches.{BranchState}
use Rattle.lab_key.specs.Kept.{IsKeptCard}
use Rattle.lab_key.specs.Shown.{IsShown}
use Rattle.mc_script.specs.declared.player.Player.{Player}
use Rattle.mc_script.specs.Players.{device_of}
use Rattle.lab_search.specs.declared.trying.Laboratory.{Laboratory}
use Rattle.lab_search.specs.Kept.{root_of, words_of}
use Rattle.lab_search.specs.Trying.{reached}
use Rattle.lab_search.proofs.AttemptLemmas.{as_many, broken_is, keeps_by, keeps_more, made_by, missed_by, none_is, number_by, of_device, reached_is, spends_by, tried_step}
use Rattle.lab_search.proofs.trying.Laboratory.attempt.Goals as goal

pub play-requires : goal.play-requires
play-requires g c =
    let q = c.requires in
    record { shown = ((q.2).base, (q.2).live, c.in-Some.ensures (root_of c.args.self.now) (q.2).base (q.2).live (q.4).card) }

pub returns-in_default-2-clause-tried : goal.returns-in_default-2-clause-tried
returns-in_default-2-clause-tried g c held ons k m kept candidate can =
    let shown = c.in-Some.ensures (root_of c.args.self.now) k.base k.live kept.card in
    let tried = c.in_ok-live.ensures.tried k m shown kept.budget_is candidate.move candidate.card can in
    missed_by k m c.args.manner (words_of c.play.new.self) c.in_ok-live.field-0 c.in_default-2.not-Some tried.state

pub returns-in-Some-broken-clause-tried : goal.returns-in-Some-broken-clause-tried
returns-in-Some-broken-clause-tried g c held ons k m kept candidate can =
    let shown = c.in-Some.ensures (root_of c.args.self.now) k.base k.live kept.card in
    let tried = c.in_ok-live.ensures.tried k m shown kept.budget_is candidate.move candidate.card can in
    let made = made_by k m c.args.manner (words_of c.play.new.self) c.in_ok-live.field-0 c.in-Some-2.live c.in-Some-2.is tried.state in
    let room = as_many c.args.self.now c.args.rosters.now c.args.state.now c.args.candidate.now c.args.manner c.requires in
    let long : vec_len c.args.self.now.counts ≡ length c.args.candidate.now.ons.now = search (rules, room) in
    let same : c.deref.result.now.items ≡ c.play.new.self.text.value.items = search rules in
    let spends = spends_by c.args.self.now c.args.rosters.now held ons c.args.state.now k m c.args.manner c.args.candidate.now c.deref.result.now.items c.play.new.self.counts.items c.as_mut_slice.result.now c.as_mut_slice-2.result.now
    (vec_len c.args.self.now.counts) long kept candidate (same ∙ tried.text) tried.counts c.as_mut_slice.ensures.value (search rules) in
    broken_is c.play.new.self c.args.rosters.now held ons k m c.args.manner c.spend-broken.result c.in-Some-broken.allowance c.spend-broken.new.amounts made.0 c.in-Some-broken.is (c.spend-broken.ensures.spent held k.allowances ons m (tried_step k m c.args.manner) spends)

-- the player whose card is kept is that of the laboratory after the try
pub keep_card-requires : goal.keep_card-requires
keep_card-requires g c =
    let q = c.requires in
    let k = q.2 in
    let shown = c.in-Some.ensures (root_of c.args.self.now) k.base k.live (q.4).card in
    let tried = c.in_ok-live.ensures.tried k q.3 shown (q.4).budget_is (q.5).move (q.5).card q.6 in
    let made = made_by k q.3 c.args.manner (words_of c.play.new.self) c.in_ok-live.field-0 c.in-Some-2.live c.in-Some-2.is tried.state in
    let live = c.in-Some-2.live in
    let there = reached k q.3 c.args.manner k.allowances in
    (there.base, there.live, subst (λ (p : Player BranchState). IsShown (device_of p).device.words live there.base there.live) (sym c.deref_mut-2.ensures.value) (made.1 k.allowances).0)

pub returns-clause-keeps : goal.returns-clause-keeps
returns-clause-keeps g c =
    let q = c.requires in
    let k = q.2 in
    let shown = c.in-Some.ensures (root_of c.args.self.now) k.base k.live (q.4).card in
    let tried = c.in_ok-live.ensures.tried k q.3 shown (q.4).budget_is (q.5).move (q.5).card q.6 in
    let made = made_by k q.3 c.args.manner (words_of c.play.new.self) c.in_ok-live.field-0 c.in-Some-2.live c.in-Some-2.is tried.state in
    let device = of_device c.args.self.now c.args.rosters.now (map (λ a. a.0) q.0) c.args.state.now k q.3 c.args.manner k.allowances (root_of c.play.new.self) c.in_ok-live.ensures.root (q.5).card q.4 in
    let root = c.keep_card.ensures.root ∙ ap (λ (p : Player BranchState). (device_of p).root) c.deref_mut-2.ensures.value in
    let there = reached k q.3 c.args.manner k.allowances in
    let more = keeps_by c.deref_mut-2.result.now c.play.new.self.player.value c.args.rosters.now c.keep_card.new.rosters c.in-Some-2.live c.deref_mut-2.ensures.value c.in_ok-card.ensures.keeps there.base there.live (made.1 k.allowances).0 device in
    let many : length c.spend-broken.new.counts ≡ c.play.new.self.counts.len = search rules in
    let full : c.play.new.self.counts.len ≡ length c.play.new.self.counts.items = search rules in
    keeps_more c.args.self.now _ c.args.rosters.now c.keep_card.new.rosters (root ∙ c.in_ok-live.ensures.root) c.in_ok-live.ensures.budget
    (ap length (take_at c.spend-broken.new.counts _ c.play.new.self.counts.len many) ∙ many ∙ full ∙ c.in_ok-live.ensures.counts)
    (subst (λ (m : List (List ℕ)). (n : ℕ) (b : Base) (l : play.Live) → IsKeptCard m c.args.rosters.now n b l → IsKeptCard m c.keep_card.new.rosters n b l) (sym root) more)

pub returns-clause-tried : goal.returns-clause-tried
returns-clause-tried g c held ons k m kept candidate can =
    let shown = c.in-Some.ensures (root_of c.args.self.now) k.base k.live kept.card in
    let tried = c.in_ok-live.ensures.tried k m shown kept.budget_is candidate.move candidate.card can in
    let made = made_by k m c.args.manner (words_of c.play.new.self) c.in_ok-live.field-0 c.in-Some-2.live c.in-Some-2.is tried.state in
    let room = as_many c.args.self.now c.args.rosters.now c.args.state.now c.args.candidate.now c.args.manner c.requires in
    let long : vec_len c.args.self.now.counts ≡ length c.args.candidate.now.ons.now = search (rules, room) in
    let same : c.deref.result.now.items ≡ c.play.new.self.text.value.items = search rules in
    let spends = spends_by c.args.self.now c.args.rosters.now held ons c.args.state.now k m c.args.manner c.args.candidate.now c.deref.result.now.items c.play.new.self.counts.items c.as_mut_slice.result.now c.as_mut_slice-2.result.now
    (vec_len c.args.self.now.counts) long kept candidate (same ∙ tried.text) tried.counts c.as_mut_slice.ensures.value (search rules) in
    let spent = c.spend-broken.ensures.spent held k.allowances ons m (tried_step k m c.args.manner) spends in
    let many : length c.spend-broken.new.amounts ≡ c.in_ok-allowances.allowances.len = search rules in
    let none = none_is c.spend-broken.result c.in_default-broken.not-Some in
    let left = subst (λ (ns : List ℕ). AreSpent held c.spend-broken.result ns (allowances_after ons m (tried_step k m c.args.manner) k.allowances)) (sym (take_at c.spend-broken.new.amounts _ c.in_ok-allowances.allowances.len many)) spent in
    let root = c.keep_card.ensures.root ∙ ap (λ (p : Player BranchState). (device_of p).root) c.deref_mut-2.ensures.value in
    let after : Laboratory = record c.play.new.self { player = record c.play.new.self.player { value = c.keep_card.new.player } } in
    reached_is c.args.self.now after c.args.rosters.now c.keep_card.new.rosters held ons c.args.state.now _ k m c.args.manner c.spend-broken.result (words_of c.play.new.self) c.in-Some-2.live c.in_ok-live.ensures.budget kept none left made
    c.runs-runs.ensures
    (λ a there. subst (λ (r : List (List ℕ)). IsKeptCard r c.keep_card.new.rosters c.in_ok-card.card (reached k m c.args.manner a).base (reached k m c.args.manner a).live) (sym root)
    (number_by c.deref_mut-2.result.now c.play.new.self.player.value c.keep_card.new.rosters c.in-Some-2.live c.in_ok-card.card c.deref_mut-2.ensures.value c.in_ok-card.ensures.of _ _ there
    (of_device c.args.self.now c.args.rosters.now (map (λ e. e.0) held) c.args.state.now k m c.args.manner a (root_of c.play.new.self) c.in_ok-live.ensures.root candidate.card kept)))

pub returns-in-Some-broken-clause-counted : goal.returns-in-Some-broken-clause-counted
returns-in-Some-broken-clause-counted g c held ons k m kept candidate can =
    let shown = c.in-Some.ensures (root_of c.args.self.now) k.base k.live kept.card in
    let tried = c.in_ok-live.ensures.tried k m shown kept.budget_is candidate.move candidate.card can in
    let room = as_many c.args.self.now c.args.rosters.now c.args.state.now c.args.candidate.now c.args.manner c.requires in
    let long : vec_len c.args.self.now.counts ≡ length c.args.candidate.now.ons.now = search (rules, room) in
    let same : c.deref.result.now.items ≡ c.play.new.self.text.value.items = search rules in
    let spends = spends_by c.args.self.now c.args.rosters.now held ons c.args.state.now k m c.args.manner c.args.candidate.now c.deref.result.now.items c.play.new.self.counts.items c.as_mut_slice.result.now c.as_mut_slice-2.result.now
    (vec_len c.args.self.now.counts) long kept candidate (same ∙ tried.text) tried.counts c.as_mut_slice.ensures.value (search rules) in
    let counted = c.spend-broken.ensures.counted held k.allowances ons m (tried_step k m c.args.manner) spends in
    let many : length c.spend-broken.new.counts ≡ c.play.new.self.counts.len = search rules in
    take_at c.spend-broken.new.counts _ c.play.new.self.counts.len many ∙ counted

pub returns-clause-counted : goal.returns-clause-counted
returns-clause-counted g c held ons k m kept candidate can =
    let shown = c.in-Some.ensures (root_of c.args.self.now) k.base k.live kept.card in
    let tried = c.in_ok-live.ensures.tried k m shown kept.budget_is candidate.move candidate.card can in
    let room = as_many c.args.self.now c.args.rosters.now c.args.state.now c.args.candidate.now c.args.manner c.requires in
    let long : vec_len c.args.self.now.counts ≡ length c.args.candidate.now.ons.now = search (rules, room) in
    let same : c.deref.result.now.items ≡ c.play.new.self.text.value.items = search rules in
    let spends = spends_by c.args.self.now c.args.rosters.now held ons c.args.state.now k m c.args.manner c.args.candidate.now c.deref.result.now.items c.play.new.self.counts.items c.as_mut_slice.result.now c.as_mut_slice-2.result.now
    (vec_len c.args.self.now.counts) long kept candidate (same ∙ tried.text) tried.counts c.as_mut_slice.ensures.value (search rules) in
    let counted = c.spend-broken.ensures.counted held k.allowances ons m (tried_step k m c.args.manner) spends in
    let many : length c.spend-broken.new.counts ≡ c.play.new.self.counts.len = search rules in
    take_at c.spend-broken.new.counts _ c.play.new.self.counts.len many ∙ counted
