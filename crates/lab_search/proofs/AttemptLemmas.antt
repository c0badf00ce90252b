-- What a try came to, by the definition, and what stays kept.
use Rattle.std.specs.Prelude.{◌≡◌, ◌≢◌, ℕ, Bool, true, List, length, map, replicate, slice_get, Option, Some, None, Result, Ok, Err, refl}
use Rattle.std.proofs.Common.{ap, sym, subst, ◌∙◌}
use Rattle.law_explore_text.specs.model_text.specs.Text.{ok_as}
use Rattle.law_explore_text.specs.model_device.specs.PowerUp.{Base}
use Rattle.law_explore_text.specs.model_play.specs.Play as play
use Rattle.law_explore_text.specs.model_play.specs.Play.{Running, Unpowered, Muted, Step}
use Rattle.law_explore_text.specs.model_play.specs.Family.{is_running}
use Rattle.law_explore_text.specs.model_play.specs.TraceText.{shown_turns}
use Rattle.law_explore_text.specs.law_explore.specs.Rules as rule
use Rattle.law_explore_text.specs.law_explore.specs.Rules.{AtResult}
use Rattle.law_explore_text.specs.law_explore.specs.model_events.specs.Matching.{plain}
use Rattle.law_explore_text.specs.law_explore.specs.States as model
use Rattle.law_explore_text.specs.law_explore.specs.States.{play_of, state_in}
use Rattle.law_explore_text.specs.law_explore.specs.Tries.{outcome, allowances_after, step_of, result_text}
use Rattle.lab_rules.specs.Occasions.{amounts_of, counts_after, counts_after_turns, names_of, AreSpent, CountsMove}
use Rattle.lab_rules.proofs.CountLemmas.{counts_are_times}
use Rattle.mc_script.specs.declared.live.Live.{Live}
use Rattle.mc_script.specs.declared.live.Live.TheVariants as live
use Rattle.mc_script.specs.Lives.{LiveShows}
use Rattle.mc_script.specs.declared.player.Player.{Player}
use Rattle.mc_script.specs.Players.{device_of}
use Rattle.lab_branch.specs.Branches.{BranchState}
use Rattle.lab_key.specs.declared.kept.Rosters.{Rosters}
use Rattle.lab_key.specs.declared.state.CardState.{CardState}
use Rattle.lab_key.specs.Kept.{IsKeptCard, IsOfDevice}
use Rattle.lab_key.specs.Shown.{IsShown}
use Rattle.lab_search.specs.declared.journey.Manner.{Manner}
use Rattle.lab_search.specs.declared.making.Candidate.{Candidate}
use Rattle.lab_search.specs.declared.trying.Laboratory.{Laboratory}
use Rattle.lab_search.specs.declared.trying.Tried.TheVariants as tried
use Rattle.lab_search.specs.Reports.{manner_value}
use Rattle.lab_search.specs.Trying.{IsMade, IsMissed, TriedState, reached}
use Rattle.lab_rules.specs.Meanings.{IsOn}
use Rattle.lab_search.specs.Kept.{root_of, CanBeTried, IsCandidate, Kept, KeepsKept, SpendsFrom, TryIs, runs_now}
use Rattle.lab_search.proofs.AlikeLemmas.{alike_length}
use Rattle.lab_search.proofs.BaseLemmas.{move_follows, still_of_device}

-- ---- allowances

-- the counts are how many times each `on` line applies
pub spends_counted : (held a : List (List ℕ × ℕ)) (rs : List rule.OnRule) (m : rule.Move) (t : Step) (x : Candidate) (text before counts amounts : List ℕ) → SpendsFrom held a rs m t x text before amounts
    → counts ≡ counts_after AtResult (plain text) x.ons.now x.applies.now before → CountsMove held a rs m t x.ons.now counts amounts
spends_counted held a rs m t x text before counts amounts h is =
    let start = replicate (length x.ons.now) 0 in
    let turns = λ (bs : List Bool). counts_after_turns x.ons.now bs (shown_turns t.turns t.stop) start in
    let first : counts ≡ counts_after AtResult (plain (result_text t.result)) x.ons.now x.applies.now before =
    is ∙ ap (λ (z : List ℕ). counts_after AtResult (plain z) x.ons.now x.applies.now before) h.result in
    let second = ap (λ (ns : List ℕ). counts_after AtResult (plain (result_text t.result)) x.ons.now x.applies.now ns) h.turns in
    let third = ap (λ (bs : List Bool). counts_after AtResult (plain (result_text t.result)) x.ons.now bs (counts_after_turns x.ons.now bs (shown_turns t.turns t.stop) start)) h.candidate.applies in
    record {
      distinct = h.candidate.distinct;
      named = h.named;
      lines = h.candidate.ons;
      counted = first ∙ second ∙ third ∙ counts_are_times held x.ons.now rs m t h.candidate.ons;
      left = h.left;
    }

-- allowances that are left
pub record Left (held : List (List ℕ × ℕ)) (amounts : List ℕ) (r : Result (List (List ℕ × ℕ)) (List ℕ)) : Type 0 where
  pub left : List (List ℕ × ℕ)
  pub is : r ≡ Ok left
  pub amounts_are : amounts ≡ amounts_of left
  pub named : names_of left ≡ names_of held

left_by : (held : List (List ℕ × ℕ)) (amounts : List ℕ) (r : Result (List (List ℕ × ℕ)) (List ℕ)) → AreSpent held None amounts r → Left held amounts r
left_by held amounts (Ok a) h = record { left = a; is = refl; amounts_are = h.0; named = h.1 }
left_by held amounts (Err e) h = absurd h

-- if no allowance is broken, allowances are left
pub none_broken : (held : List (List ℕ × ℕ)) (o : Option ℕ) (amounts : List ℕ) (r : Result (List (List ℕ × ℕ)) (List ℕ)) → o ≡ None → AreSpent held o amounts r → Left held amounts r
none_broken held None amounts r e h = left_by held amounts r h
none_broken held (Some i) amounts r e h = absurd (cc e)

-- an allowance that is spent below zero
pub record Spent (held : List (List ℕ × ℕ)) (i : ℕ) (r : Result (List (List ℕ × ℕ)) (List ℕ)) : Type 0 where
  pub name : List ℕ
  pub is : r ≡ Err name
  pub found : slice_get (names_of held) i ≡ Some name

spent_by : (held : List (List ℕ × ℕ)) (i : ℕ) (amounts : List ℕ) (r : Result (List (List ℕ × ℕ)) (List ℕ)) → AreSpent held (Some i) amounts r → Spent held i r
spent_by held i amounts (Ok a) h = absurd h
spent_by held i amounts (Err e) h = record { name = e; is = refl; found = h }

place_is : (i j : ℕ) → Some i ≡ Some j → i ≡ j
place_is i j e = cc e

-- a broken allowance is spent below zero, with its name
pub one_broken : (held : List (List ℕ × ℕ)) (o : Option ℕ) (i : ℕ) (amounts : List ℕ) (r : Result (List (List ℕ × ℕ)) (List ℕ)) → o ≡ Some i → AreSpent held o amounts r → Spent held i r
one_broken held None i amounts r e h = absurd (cc e)
one_broken held (Some j) i amounts r e h = subst (λ (k : ℕ). Spent held k r) (place_is j i e) (spent_by held j amounts r h)

-- ---- counts

-- there is room for the counts of a candidate
pub as_many : (lab : Laboratory) (r : Rosters) (s : CardState) (x : Candidate) (w : Manner) → CanBeTried lab r s x w → length lab.counts.items ≡ length x.ons.now
as_many lab r s x w q = q.7 ∙ sym (alike_length (IsOn q.0) x.ons.now q.1 (q.5).ons)

-- ---- outcomes

-- the step of a try
abbrev pub tried_step : model.CardState → rule.Move → Manner → Step
tried_step c m w = step_of (play_of c) m (manner_value w)

outcome_is : (ons : List rule.OnRule) (c : model.CardState) (m : rule.Move) (w : Manner) (r : Result (List (List ℕ × ℕ)) (List ℕ)) → allowances_after ons m (tried_step c m w) c.allowances ≡ r
    → outcome ons c (record { move = m; manner = manner_value w }) ≡ ok_as (λ a. reached c m w a) r
unfolding outcome
outcome_is ons c m w r h = ap (λ (x : Result (List (List ℕ × ℕ)) (List ℕ)). ok_as (λ a. reached c m w a) x) h

-- ---- what runs

-- whether a card runs is what the play has
pub runs_shown : (m : List (List ℕ)) (v : Live) (l : play.Live) → LiveShows m v l → runs_now v ≡ is_running l
runs_shown m (live.Running s) l h = sym (ap is_running h.runs)
runs_shown m live.Unpowered l h = sym (ap is_running h)
runs_shown m live.Muted l h = sym (ap is_running h)

-- ---- what stays kept

stays_kept : (lab u : Laboratory) (r : Rosters) (names : List (List ℕ)) (s : CardState) (c : model.CardState) → root_of u ≡ root_of lab → u.budget ≡ lab.budget → Kept lab r names s c → Kept u r names s c
stays_kept lab u r names s c root budget h =
    record {
      card = subst (λ (n : List (List ℕ)). IsKeptCard n r s.card c.base c.live) (sym root) h.card;
      runs = h.runs;
      budget_is = h.budget_is ∙ sym budget;
      amounts = h.amounts;
      names_are = h.names_are;
    }

-- the same rosters on the same root keep what was kept
pub keeps_there : (lab u : Laboratory) (r : Rosters) → root_of u ≡ root_of lab → u.budget ≡ lab.budget → length u.counts.items ≡ length lab.counts.items → KeepsKept lab r u r
keeps_there lab u r root budget counts = record { kept = λ names s c h. stays_kept lab u r names s c root budget h; counts = counts }

-- what was kept stays so if the rosters still have it
pub keeps_more : (lab u : Laboratory) (r q : Rosters) → root_of u ≡ root_of lab → u.budget ≡ lab.budget → length u.counts.items ≡ length lab.counts.items
    → ((n : ℕ) (c : Base) (l : play.Live) → IsKeptCard (root_of u) r n c l → IsKeptCard (root_of u) q n c l) → KeepsKept lab r u q
keeps_more lab u r q root budget counts more =
    record {
      kept = λ names s c h.
          let there = stays_kept lab u r names s c root budget h in
          record {
            card = more s.card c.base c.live there.card;
            runs = there.runs;
            budget_is = there.budget_is;
            amounts = there.amounts;
            names_are = there.names_are;
          };
      counts = counts;
    }

-- a laboratory keeps what it has
pub keeps_self : (lab : Laboratory) (r : Rosters) → KeepsKept lab r lab r
keeps_self lab r = record { kept = λ names s c h. h; counts = refl }

-- what stays kept over two changes stays kept
pub keeps_then : (lab mid u : Laboratory) (r p q : Rosters) → KeepsKept lab r mid p → KeepsKept mid p u q → KeepsKept lab r u q
keeps_then lab mid u r p q h k = record { kept = λ names s c i. k.kept names s c (h.kept names s c i); counts = k.counts ∙ h.counts }

-- ---- a card that is kept of a player

-- cards that are kept of one player are kept of an equal one
pub keeps_by : (p q : Player BranchState) (r t : Rosters) (v : Live) → p ≡ q
    → ((b : Base) (l : play.Live) → IsShown (device_of p).device.words v b l → IsOfDevice (device_of p).root b → (n : ℕ) (c : Base) (m : play.Live) → IsKeptCard (device_of p).root r n c m → IsKeptCard (device_of p).root t n c m)
    → (b : Base) (l : play.Live) → IsShown (device_of q).device.words v b l → IsOfDevice (device_of q).root b → (n : ℕ) (c : Base) (m : play.Live) → IsKeptCard (device_of q).root r n c m → IsKeptCard (device_of q).root t n c m
keeps_by p q r t v e f =
    subst
    (λ (o : Player BranchState). (b : Base) (l : play.Live) → IsShown (device_of o).device.words v b l → IsOfDevice (device_of o).root b → (n : ℕ) (c : Base) (m : play.Live) → IsKeptCard (device_of o).root r n c m
    → IsKeptCard (device_of o).root t n c m)
    e f

-- and so is its number
pub number_by : (p q : Player BranchState) (t : Rosters) (v : Live) (n : ℕ) → p ≡ q → ((b : Base) (l : play.Live) → IsShown (device_of p).device.words v b l → IsOfDevice (device_of p).root b → IsKeptCard (device_of p).root t n b l)
    → (b : Base) (l : play.Live) → IsShown (device_of q).device.words v b l → IsOfDevice (device_of q).root b → IsKeptCard (device_of q).root t n b l
number_by p q t v n e f =
    subst (λ (o : Player BranchState). (b : Base) (l : play.Live) → IsShown (device_of o).device.words v b l → IsOfDevice (device_of o).root b → IsKeptCard (device_of o).root t n b l) e f

-- ---- what a try came to

-- a card that was kept stays one of the device
pub of_device : (lab : Laboratory) (r : Rosters) (names : List (List ℕ)) (s : CardState) (c : model.CardState) (m : rule.Move) (w : Manner) (a : List (List ℕ × ℕ)) (root : List (List ℕ)) → root ≡ root_of lab
    → play.is_card_line m.line ≡ true → Kept lab r names s c → IsOfDevice root (reached c m w a).base
of_device lab r names s c m w a root same card h =
    subst (λ (n : List (List ℕ)). IsOfDevice n (reached c m w a).base) (sym same)
    (still_of_device (root_of lab) c.base (reached c m w a).base (move_follows c m (manner_value w) a card) h.card.device)

-- a rule that is broken
pub broken_is : (lab : Laboratory) (r : Rosters) (held : List (List ℕ × ℕ)) (ons : List rule.OnRule) (c : model.CardState) (m : rule.Move) (w : Manner) (o : Option ℕ) (i : ℕ) (amounts : List ℕ)
    → IsMade c m w → o ≡ Some i → AreSpent held o amounts (allowances_after ons m (tried_step c m w) c.allowances) → TryIs lab r (map (λ a. a.0) held) ons c m w (tried.Broken i)
broken_is lab r held ons c m w o i amounts made e h =
    let s = one_broken held o i amounts (allowances_after ons m (tried_step c m w) c.allowances) e h in
    (made, (s.name, s.found, outcome_is ons c m w (Err s.name) s.is))

-- a state that is reached
pub reached_is : (lab u : Laboratory) (r q : Rosters) (held : List (List ℕ × ℕ)) (ons : List rule.OnRule) (s t : CardState) (c : model.CardState) (m : rule.Move) (w : Manner) (o : Option ℕ) (words : List (List ℕ)) (v : Live)
    → u.budget ≡ lab.budget → Kept lab r (map (λ a. a.0) held) s c → o ≡ None → AreSpent held o t.allowances.items (allowances_after ons m (tried_step c m w) c.allowances)
    → TriedState c m w words (Some v) → t.runs ≡ runs_now v
    → ((a : List (List ℕ × ℕ)) → IsShown words v (reached c m w a).base (reached c m w a).live → IsKeptCard (root_of u) q t.card (reached c m w a).base (reached c m w a).live)
    → TryIs u q (map (λ a. a.0) held) ons c m w (tried.Reached t)
reached_is lab u r q held ons s t c m w o words v budget kept e h shown runs number =
    let l = none_broken held o t.allowances.items (allowances_after ons m (tried_step c m w) c.allowances) e h in
    let d = reached c m w l.left in
    let there = shown.1 l.left in (
      shown.0,
      (
        d,
        outcome_is ons c m w (Ok l.left) l.is,
        record {
          card = number l.left there.0;
          runs = runs ∙ runs_shown words v d.live there.0.live;
          budget_is = there.1 ∙ kept.budget_is ∙ sym budget;
          amounts = l.amounts_are;
          names_are = l.named;
        },
      ),
    )

-- ---- by what a try left

-- the state after a try that was made, or missed
pub missed_by : (c : model.CardState) (m : rule.Move) (w : Manner) (words : List (List ℕ)) (o : Option Live) → ((v : Live) → o ≢ Some v) → TriedState c m w words o → IsMissed c m w
missed_by c m w words None not h = h
missed_by c m w words (Some v) not h = absurd (not v refl)

-- a state that a try left live is that of the try
pub made_by : (c : model.CardState) (m : rule.Move) (w : Manner) (words : List (List ℕ)) (o : Option Live) (v : Live) → o ≡ Some v → TriedState c m w words o → TriedState c m w words (Some v)
made_by c m w words o v e h = subst (λ (x : Option Live). TriedState c m w words x) e h

-- what a move spends, by its try
pub spends_by : (lab : Laboratory) (r : Rosters) (held : List (List ℕ × ℕ)) (ons : List rule.OnRule) (s : CardState) (c : model.CardState) (m : rule.Move) (w : Manner) (x : Candidate) (text before counts amounts : List ℕ)
    (n : ℕ) → n ≡ length x.ons.now → Kept lab r (map (λ a. a.0) held) s c → IsCandidate held ons m x → text ≡ result_text (tried_step c m w).result
    → before ≡ counts_after_turns x.ons.now x.applies.now (shown_turns (tried_step c m w).turns (tried_step c m w).stop) (replicate n 0) → counts ≡ before → amounts ≡ s.allowances.items
    → SpendsFrom held c.allowances ons m (tried_step c m w) x text counts amounts
spends_by lab r held ons s c m w x text before counts amounts n long kept candidate result turns same left =
    record {
      candidate = candidate;
      named = kept.names_are;
      result = result;
      turns = same ∙ turns ∙ ap (λ (k : ℕ). counts_after_turns x.ons.now x.applies.now (shown_turns (tried_step c m w).turns (tried_step c m w).stop) (replicate k 0)) long;
      left = left ∙ kept.amounts;
    }

-- an option without a value is none
pub none_is : (o : Option ℕ) → ((i : ℕ) → o ≢ Some i) → o ≡ None
none_is None not = refl
none_is (Some i) not = absurd (not i refl)
