-- A covering under which no rule is broken keeps the rules along every play.
use Rattle.std.proofs.Common.{◌≡◌, ℕ, Bool, true, false, not, List, [], ◌∷◌, Option, Some, None, Result, Ok, Err, refl, sym, subst}
use Rattle.std.specs.Prelude.{bytes_eq, is_ok}
use Rattle.model_rule_text.specs.model_device.specs.Bytes.{lookup}
use Rattle.model_rule_text.specs.model_device.specs.Card.{App}
use Rattle.model_rule_text.specs.model_device.specs.PowerUp.{Base, OnCard, AtFault}
use Rattle.law_promise.specs.model_card.specs.Manager.{Selected}
use Rattle.law_promise.specs.model_play.specs.Play.{Live, Running, Unpowered, Muted, Warm, State, BeforePower, AfterPower, Step, plays, start}
use Rattle.law_promise.specs.History.{after_step}
use Rattle.law_promise.specs.Along.{stopped_step, OnApp, OnFixed}
use Rattle.law_promise.specs.Domain.{IdleCovered, CoveredIf, SelectedCovered, LiveCovered, BaseCovered, StateCovered, LineCovered, AlongWrites}
use Rattle.law_promise.proofs.Lines.{covered_along}
use Rattle.model_rule_text.specs.model_rules.specs.Rules.{AppRules, Target}
use Rattle.model_rule_text.specs.model_rules.specs.Happenings.{History, rule_watch}
use Rattle.model_rule_text.specs.model_rules.specs.Keeping.{Standing, Break, standing_after, is_broken, are_kept, keeps_rules}
use Rattle.law_rules.specs.Law.{StepKeeps, KeptAlong, KeptInAll, AreKeptBy, AreKept, Covering, domain_of_rules, CoversRules}

-- rules that are kept are not broken
unbroken_by : (r : AppRules) (s : Result Standing Break) (fixed : List ℕ) → are_kept r s fixed ≡ true → not (is_ok s) ≡ false
unbroken_by r (Err b) fixed e = absurd (cc e)
unbroken_by r (Ok s) fixed e = refl

pub kept_unbroken : (r : AppRules) (h : History) (fixed : List ℕ) → keeps_rules r h fixed ≡ true → is_broken r h ≡ false
kept_unbroken r h fixed e = unbroken_by r (standing_after r h) fixed e

module _ (r : AppRules) (g : Target) (c : Covering) (covers : CoversRules r g c) where
  -- what is covered of the application keeps the rules, if it is there
  Kept : History → Option App → Type 0
  Kept h found = (is_broken r h ≡ false) × OnApp (λ fixed. keeps_rules r h fixed ≡ true) found

  kept_there : (h : History) (a : App) → keeps_rules r h a.fixed ≡ true → Kept h (Some a)
  unfolding Kept
  kept_there h a e = (kept_unbroken r h a.fixed e, e)

  idle_kept : (h : History) (found : Option App) → IdleCovered (domain_of_rules g c) h found → Kept h found
  unfolding Kept
  idle_kept h None x = (covers.gone h x, tt)
  idle_kept h (Some a) x = kept_there h a (covers.idle h a.fixed x.1)

  if_kept : (b : Bool) (h : History) (found : Option App) (session : List ℕ) → CoveredIf b (domain_of_rules g c) h found session → Kept h found
  if_kept false h found session x = idle_kept h found x
  if_kept true h None session x = absurd x
  if_kept true h (Some a) session x = kept_there h a (covers.session h a.fixed session x.1)

  selected_kept : (h : History) (found : Option App) (s : Option Selected) → SelectedCovered (domain_of_rules g c) h found s → Kept h found
  selected_kept h found None x = idle_kept h found x
  selected_kept h found (Some s) x = if_kept (bytes_eq s.name g.name) h found s.session x

  live_kept : (h : History) (found : Option App) (v : Live) → LiveCovered (domain_of_rules g c) h found v → Kept h found
  live_kept h found (Running session_state) x = selected_kept h found session_state.selected x
  live_kept h found Unpowered x = idle_kept h found x
  live_kept h found Muted x = idle_kept h found x

  -- of a state
  InState : History → State → Type 0
  InState h z = (is_broken r h ≡ false) × OnFixed g.name (λ fixed. keeps_rules r h fixed ≡ true) z

  base_kept : (h : History) (b : Base) (v : Live) (s : Warm) → s.base ≡ b → BaseCovered (domain_of_rules g c) h b v → InState h (AfterPower (record s { base = b }))
  unfolding Kept InState
  base_kept h (OnCard d) v s e x = live_kept h (lookup d.apps g.name) v x
  base_kept h (AtFault cause p) v s e x = ((live_kept h None v x).0, tt)

  state_kept : (h : History) (z : State) → StateCovered (domain_of_rules g c) h z → InState h z
  unfolding InState
  state_kept h (BeforePower m b a) x = (covers.gone h x, tt)
  state_kept h (AfterPower s) x = base_kept h s.base s.live s refl x

  line_kept : (h : History) (t : Step) (k : History) → LineCovered (domain_of_rules g c) h t k → StepKeeps r g t k
  unfolding InState
  line_kept h t k x = let y = state_kept k t.after x.0 in record { unbroken = y.0; always = y.1 }

  along : (h : History) (ts : List Step) → AlongWrites (rule_watch g.name) g.app ⊥ (LineCovered (domain_of_rules g c)) h ts → KeptAlong r g h ts
  along h [] x = tt
  along h (t ∷ ts) x = (
    λ brings hits. let y = x.0 brings hits in (line_kept h t (after_step (rule_watch g.name) t h) y.0, along (after_step (rule_watch g.name) t h) ts y.1),
    λ d brings hits. line_kept h (stopped_step t d) (after_step (rule_watch g.name) (stopped_step t d) h) (x.1 d brings hits),
  )

  -- so the rules are kept
  pub all_kept : KeptInAll r g
  all_kept ls m ws lines image = along [] (plays (start m) ls ws) (covered_along (domain_of_rules g c) covers.sound ls m ws (λ t. lines) (λ t. image))

  pub covered_rules : r.target ≡ Some g → AreKept r
  covered_rules e = subst (AreKeptBy r) (sym e) all_kept
