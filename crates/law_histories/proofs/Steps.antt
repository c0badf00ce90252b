-- A line of a play in which the rules are kept: what stands after it, as an exploration counts it.
use Rattle.std.proofs.Common.{arith, ◌≡◌, inr, ℕ, Bool, true, false, cond, not, List, [], ◌∷◌, ◌++◌, drop, Option, Some, None, Result, Ok, Err, refl, sym, ap, subst, ◌∙◌}
use Rattle.std.specs.Prelude.{◌&&◌, is_ok, is_some}
use Rattle.std.specs.List.{AllByRecursion}
use Rattle.std.proofs.lemmas.Bool.{and_parts}
use Rattle.law_histories.specs.model_device.specs.Bytes.{lookup}
use Rattle.law_histories.specs.model_device.specs.Card.{App}
use Rattle.law_histories.specs.model_text.specs.Text.{◌>>=◌, err_as}
use Rattle.law_histories.specs.model_play.specs.DeckGrammar.{DeckLine}
use Rattle.law_histories.specs.model_play.specs.Given.{apps_in}
use Rattle.law_histories.specs.model_play.specs.Play.{State, FailedWrite, Step, step, plays, first_failure, last_state}
use Rattle.law_histories.specs.model_play.specs.ReadyAgain.{IsLine}
use Rattle.law_histories.specs.model_play.proofs.PlayLemmas.{step_is}
use Rattle.law_histories.specs.law_promise.specs.History.{after_step}
use Rattle.law_histories.specs.law_promise.specs.Along.{BringsOnly, OnApp}
use Rattle.law_histories.specs.law_promise.specs.Domain.{StateCovered, StopsAtWrite}
use Rattle.law_histories.specs.law_promise.proofs.Lines.{step_kept}
use Rattle.law_histories.specs.model_rules.specs.Rules.{AppRules, Range, Total, Target}
use Rattle.law_histories.specs.model_rules.specs.Happenings.{History, rule_watch}
use Rattle.law_histories.specs.model_rules.specs.Keeping.{Standing, Break, first_standing, standing_after, is_broken, is_in_range, are_in_ranges, is_total, are_totals, are_kept, keeps_rules}
use Rattle.law_histories.specs.law_rules.specs.Law.{StepKeeps, KeptAlong}
use Rattle.law_histories.specs.Histories.{standing_from, break_name, range_name, total_name, broken_range, broken_total, if_always, standing_if, standing_after_step, standing_after_steps}
use Rattle.law_histories.proofs.Adds.{standing_on}
use Rattle.law_histories.proofs.AnyDomain.{any_domain, any_sound}
use Rattle.law_histories.proofs.Begins.{Splits, step_splits}

-- along every play from here the rules are kept
abbrev pub Goes : AppRules → Target → State → History → Type 0
Goes r g z h = (ls : List (ℕ × DeckLine)) (ws : List (Option FailedWrite)) → AllByRecursion (λ l. IsLine l.1) ls → KeptAlong r g h (plays z ls ws)

-- so it is, the application is as it was created, and this stands after the history if it is on the card
pub record Holds (r : AppRules) (g : Target) (z : State) (h : History) (s : Standing) : Type 0 where
  pub goes : Goes r g z h
  pub covered : StateCovered (any_domain g) h z
  pub stands : (a : App) → lookup (apps_in z) g.name ≡ Some a → standing_after r h ≡ Ok s

-- what the rules say of a line, and of what follows it
pub record KeepsOn (r : AppRules) (g : Target) (t : Step) (h : History) : Type 0 where
  pub step : StepKeeps r g t (after_step (rule_watch g.name) t h)
  pub goes : Goes r g t.after (after_step (rule_watch g.name) t h)

goes_on : (r : AppRules) (g : Target) (z : State) (h : History) (l : ℕ × DeckLine) (w : Option FailedWrite) → Goes r g z h → IsLine l.1 → BringsOnly g.name g.app (step z l w) → StopsAtWrite (step z l w) → KeepsOn r g (step z l w) h
unfolding plays
goes_on r g z h l w goes is brings hits =
    record {
      step = ((goes (l ∷ []) (w ∷ []) (is, tt)).0 brings (inr hits)).0;
      goes = λ ls ws lines. ((goes (l ∷ ls) (w ∷ ws) (is, lines)).0 brings (inr hits)).1;
    }

-- ---- what always holds

ranges_hold : (fixed : List ℕ) (gs : List Range) → are_in_ranges fixed gs ≡ true → broken_range fixed gs ≡ None
ranges_hold fixed [] h = refl
ranges_hold fixed (g ∷ gs) h =
    let p = and_parts (is_in_range fixed g) (are_in_ranges fixed gs) h in
    ap (λ (b : Bool). cond b (broken_range fixed gs) (Some (g.number, range_name g))) p.0 ∙ ranges_hold fixed gs p.1

totals_hold : (fixed : List ℕ) (s : Standing) (ts : List Total) → are_totals fixed s.kept ts ≡ true → broken_total fixed s ts ≡ None
totals_hold fixed s [] h = refl
totals_hold fixed s (t ∷ ts) h =
    let p = and_parts (is_total fixed s.kept t) (are_totals fixed s.kept ts) h in
    ap (λ (b : Bool). cond b (broken_total fixed s ts) (Some (t.number, total_name t))) p.0 ∙ totals_hold fixed s ts p.1

always_holds : (r : AppRules) (a : App) (u : Standing) → are_kept r (Ok u) a.fixed ≡ true → if_always r (Some a) u ≡ Ok u
always_holds r a u h = grind (arith, and_parts, ranges_hold, totals_hold)

-- ---- what stands after a line

-- an exploration has this after a line, and it is what stands after the history if the application is on the card
record Stepped (r : AppRules) (k : History) (y : Option App) (x : Result Standing (List ℕ)) : Type 0 where
  standing : Standing
  is : x ≡ Ok standing
  stands : (b : App) → y ≡ Some b → standing_after r k ≡ Ok standing

both_there : (r : AppRules) (e k : History) (s : Standing) (b : App) (v : Result Standing Break) → standing_after r k ≡ v → standing_from r e s ≡ v → not (is_ok v) ≡ false → are_kept r v b.fixed ≡ true
    → Stepped r k (Some b) (standing_if true r e s >>= if_always r (Some b))
both_there r e k s b (Ok u) at from un kept =
    record {
      standing = u;
      is = ap (λ (z : Result Standing Break). err_as (break_name r) z >>= if_always r (Some b)) from ∙ always_holds r b u kept;
      stands = λ c i. at;
    }
both_there r e k s b (Err x) at from un kept = absurd (cc un)

brought : (r : AppRules) (e k : History) (s : Standing) (b : App) → k ≡ [] → are_kept r (standing_after r k) b.fixed ≡ true → Stepped r k (Some b) (standing_if false r e s >>= if_always r (Some b))
brought r e k s b empty kept =
    record {
      standing = first_standing r;
      is = always_holds r b (first_standing r) (subst (λ (z : History). are_kept r (standing_after r z) b.fixed ≡ true) empty kept);
      stands = λ c i. ap (λ (z : History). standing_after r z) empty;
    }

stepped : (r : AppRules) (e h k : History) (s : Standing) (x y : Option App) → is_broken r k ≡ false → OnApp (λ fixed. keeps_rules r k fixed ≡ true) y → ((a : App) → x ≡ Some a → standing_after r h ≡ Ok s)
    → ((a b : App) → x ≡ Some a → y ≡ Some b → k ≡ e ++ h) → (x ≡ None → (b : App) → y ≡ Some b → k ≡ []) → Stepped r k y (standing_if (is_some x && is_some y) r e s >>= if_always r y)
stepped r e h k s (Some a) (Some b) un kept stands adds begins =
    let same : standing_from r e s ≡ standing_after r k = sym (ap (λ (z : History). standing_after r z) (adds a b refl refl) ∙ standing_on r e h s (stands a refl)) in
    both_there r e k s b (standing_after r k) refl same un kept
stepped r e h k s (Some a) None un kept stands adds begins = record { standing = first_standing r; is = refl; stands = λ b i. absurd (cc i) }
stepped r e h k s None None un kept stands adds begins = record { standing = first_standing r; is = refl; stands = λ b i. absurd (cc i) }
stepped r e h k s None (Some b) un kept stands adds begins = brought r e k s b (begins refl b refl) kept

-- what an exploration has after a line
pub record StepHolds (r : AppRules) (g : Target) (t : Step) (h : History) (s : Standing) : Type 0 where
  pub standing : Standing
  pub is : standing_after_step r g t s ≡ Ok standing
  pub holds : Holds r g t.after (after_step (rule_watch g.name) t h) standing

covers_on : (g : Target) (h : History) (z : State) (l : ℕ × DeckLine) (w : Option FailedWrite) → StateCovered (any_domain g) h z → BringsOnly g.name g.app (step z l w) → StopsAtWrite (step z l w)
    → StateCovered (any_domain g) (after_step (rule_watch g.name) (step z l w) h) (step z l w).after
covers_on g h z l w covered brings hits = (step_kept (any_domain g) (any_sound g) h z l w (λ t. absurd t) (λ t. absurd t) covered brings (inr hits)).0

-- what holds before a line in which the rules are kept holds after it
pub holds_step : (r : AppRules) (g : Target) (z : State) (h : History) (s : Standing) (l : ℕ × DeckLine) (w : Option FailedWrite) → Holds r g z h s → IsLine l.1 → BringsOnly g.name g.app (step z l w) → StopsAtWrite (step z l w)
    → StepHolds r g (step z l w) h s
unfolding standing_after_step
holds_step r g z h s l w holds is brings hits =
    let t : Step = step z l w in
    let e : History = after_step (rule_watch g.name) t [] in
    let k : History = after_step (rule_watch g.name) t h in
    let kept : KeepsOn r g t h = goes_on r g z h l w holds.goes is brings hits in
    let split : Splits g t h = step_splits g h z l w holds.covered brings in
    let before : t.before ≡ z = (step_is z l w).before in
    let x : Option App = lookup (apps_in t.before) g.name in
    let y : Option App = lookup (apps_in t.after) g.name in
    let u : Stepped r k y (standing_if (is_some x && is_some y) r e s >>= if_always r y) =
    stepped r e h k s x y kept.step.unbroken kept.step.always (λ a i. holds.stands a (ap (λ (q : State). lookup (apps_in q) g.name) (sym before) ∙ i)) split.adds split.begins
    in
    record {
      standing = u.standing;
      is = u.is;
      holds = record { goes = kept.goes; covered = covers_on g h z l w holds.covered brings hits; stands = u.stands };
    }

-- a line that changes neither the history nor the applications
pub holds_quiet : (r : AppRules) (g : Target) (z : State) (h : History) (s : Standing) (l : ℕ × DeckLine) (w : Option FailedWrite) → Holds r g z h s → IsLine l.1 → BringsOnly g.name g.app (step z l w) → StopsAtWrite (step z l w)
    → after_step (rule_watch g.name) (step z l w) h ≡ h → apps_in (step z l w).after ≡ apps_in z → Holds r g (step z l w).after h s
holds_quiet r g z h s l w holds is brings hits same apps =
    let t : Step = step z l w in
    let kept : KeepsOn r g t h = goes_on r g z h l w holds.goes is brings hits in
    record {
      goes = subst (λ (k : History). Goes r g t.after k) same kept.goes;
      covered = subst (λ (k : History). StateCovered (any_domain g) k t.after) same (covers_on g h z l w holds.covered brings hits);
      stands = λ a e. holds.stands a (ap (λ (m : List (List ℕ × App)). lookup m g.name) (sym apps) ∙ e);
    }

-- if it is not on the card, what stands is free
pub holds_none : (r : AppRules) (g : Target) (z : State) (h : History) (s u : Standing) → Holds r g z h s → lookup (apps_in z) g.name ≡ None → Holds r g z h u
holds_none r g z h s u holds none = record { goes = holds.goes; covered = holds.covered; stands = λ a e. absurd (cc (sym none ∙ e)) }

-- ---- the lines of a play

-- what holds after the lines of a play, with the standing there
pub record PlayHolds (r : AppRules) (g : Target) (z : State) (ts : List Step) (s : Standing) : Type 0 where
  pub standing : Standing
  pub is : standing_after_steps r g ts s ≡ Ok standing
  pub history : History
  pub holds : Holds r g (last_state z ts) history standing

-- what holds before the lines of a play holds after them
pub holds_play : (r : AppRules) (g : Target) (ls : List (ℕ × DeckLine)) (ws : List (Option FailedWrite)) (z : State) (h : History) (s : Standing) → Holds r g z h s → AllByRecursion (λ l. IsLine l.1) ls
    → AllByRecursion (BringsOnly g.name g.app) (plays z ls ws) → AllByRecursion StopsAtWrite (plays z ls ws) → PlayHolds r g z (plays z ls ws) s
unfolding plays standing_after_steps
holds_play r g [] ws z h s holds lines brings hits = record { standing = s; is = refl; history = h; holds = holds }
holds_play r g (l ∷ ls) ws z h s holds lines brings hits =
    let t : Step = step z l (first_failure ws) in
    let one : StepHolds r g t h s = holds_step r g z h s l (first_failure ws) holds lines.0 brings.0 hits.0 in
    let rest : PlayHolds r g t.after (plays t.after ls (drop 1 ws)) one.standing =
    holds_play r g ls (drop 1 ws) t.after (after_step (rule_watch g.name) t h) one.standing one.holds lines.1 brings.1 hits.1
    in
    record {
      standing = rest.standing;
      is = ap (λ (x : Result Standing (List ℕ)). x >>= λ u. standing_after_steps r g (plays t.after ls (drop 1 ws)) u) one.is ∙ rest.is;
      history = rest.history;
      holds = rest.holds;
    }
