-- Two moves that tell the same do the same to allowances.
use Rattle.std.specs.Prelude.{◌≡◌, ℕ, cond, List, [], ◌∷◌, length, filter, Option, Result, Ok, Err, refl}
use Rattle.std.proofs.Common.{ap, ◌∙◌}
use Rattle.model_play.specs.model_text.specs.Text.{◌>>=◌}
use Rattle.model_play.specs.model_machine.specs.Chain.{Turn}
use Rattle.model_play.specs.Play.{LineResult, Step}
use Rattle.law_explore.specs.Rules.{Move, Occasion, AtResult, AtTurn, OnRule}
use Rattle.model_events.specs.Matching.{fits}
use Rattle.law_explore.specs.Tries.{result_text, occasions, times, effect_times, allowances_after}
use Rattle.model_events.specs.Amounts.{turn_text}
use Rattle.law_explore.specs.Safety.{ShowsSame}

-- two next steps that agree on each value agree after an answer
pub bind_same : {A B E : Type 0} (x : Result A E) (f g : A → Result B E) → ((a : A) → f a ≡ g a) → (x >>= f) ≡ (x >>= g)
bind_same (Ok a) f g h = h a
bind_same (Err e) f g h = refl

occasions_same : (o : Occasion) (p : List ℕ) (t u : Step) → ShowsSame t u → occasions o p t ≡ occasions o p u
occasions_same AtResult p t u h = ap (λ (r : Option LineResult). cond (fits p (result_text r)) 1 0) h.result
occasions_same AtTurn p t u h = ap (λ (ts : List Turn). length (filter (λ v. fits p (turn_text v)) ts)) h.turns

times_same : (r : OnRule) (m : Move) (t u : Step) → ShowsSame t u → times r m t ≡ times r m u
times_same r m t u h = ap (λ (n : ℕ). cond (fits r.move m.text) n 0) (occasions_same r.occasion r.pattern t u h)

-- steps that show the same leave the same allowances
pub allowances_same : (ons : List OnRule) (m : Move) (t u : Step) (a : List (List ℕ × ℕ)) → ShowsSame t u → allowances_after ons m t a ≡ allowances_after ons m u a
unfolding allowances_after
allowances_same [] m t u a h = refl
allowances_same (r ∷ rs) m t u a h =
    ap (λ (n : ℕ). effect_times n r.effect r.name r.amount a >>= λ b. allowances_after rs m t b) (times_same r m t u h)
    ∙ bind_same (effect_times (times r m u) r.effect r.name r.amount a) (λ b. allowances_after rs m t b) (λ b. allowances_after rs m u b)
    (λ b. allowances_same rs m t u b h)
