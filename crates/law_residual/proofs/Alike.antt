-- Plays of two images that mean the same, step by step.
use Rattle.std.proofs.Common.{◌≡◌, ℕ, false, List, [], ◌∷◌, ◌++◌, drop, Option, refl, ap, subst, ◌∙◌, arith}
use Rattle.model_play.specs.model_device.specs.Layout.{fault}
use Rattle.model_play.specs.model_device.specs.PowerUp.{Base, base_of, pending_journal}
use Rattle.model_play.specs.model_device.specs.Image.{Journal, count_of_recovery_writes, which}
use Rattle.model_play.specs.DeckGrammar.{DeckLine}
use Rattle.model_play.specs.DeckGrammar as line
use Rattle.model_play.specs.Play.{plays, play_at_power, first_failure, hit_of, power_moves, power_step, step, start, Armed, BeforePower, FailedWrite, State, Step, Unpowered, Warm}
use Rattle.model_play.specs.Transcript.{texts, plain_text}
use Rattle.model_play.specs.TraceText.{traced_text}
use Rattle.law_residual.specs.Laws.{writes_words, MeanAlike, NoneWritesWords, ShowAlike}

-- two states: before the first power line with images that mean the same, or one state
pub data SeenAlike : State → State → Type 0 where
  NotYet : (m k : List (List ℕ)) (budget : ℕ) (armed : Armed) → MeanAlike m k → SeenAlike (BeforePower m budget armed) (BeforePower k budget armed)
  Same : (s : State) → SeenAlike s s

-- two steps that write the same text, make as many device writes, and leave states alike
pub record StepsAlike (t u : Step) : Type 0 where
  pub text : plain_text t ≡ plain_text u
  pub traced : traced_text t ≡ traced_text u
  pub writes : t.moves ≡ u.moves
  pub after : SeenAlike t.after u.after

-- the play that the first power line finds, by what it sees of the image
abbrev pub found : ℕ → Armed → Base → ℕ → Journal → Warm
found budget armed base recovery journal = record { base = base; owed = recovery; by = journal; live = Unpowered; budget = budget; armed = armed }

-- two images that mean the same are found alike by the first power line
pub found_alike : (m k : List (List ℕ)) (budget : ℕ) (armed : Armed) → MeanAlike m k → play_at_power m budget armed ≡ play_at_power k budget armed
unfolding play_at_power
found_alike m k budget armed alike =
    ap (λ (b : Base). found budget armed b (count_of_recovery_writes m) (pending_journal (which m))) alike.base
    ∙ ap (λ (n : ℕ). found budget armed (base_of (fault k) k) n (pending_journal (which m))) alike.recovery
    ∙ ap (λ (j : Journal). found budget armed (base_of (fault k) k) (count_of_recovery_writes k) j) alike.journal

-- the first power line
power_alike : (n : ℕ) (m k : List (List ℕ)) (b : ℕ) (a : Armed) (w : Option FailedWrite) (s t : Warm) → s ≡ t
    → StepsAlike (power_step n (BeforePower m b a) s (hit_of a (power_moves s) w)) (power_step n (BeforePower k b a) t (hit_of a (power_moves t) w))
power_alike n m k b a w s t same =
    subst (λ (t : Warm). StepsAlike (power_step n (BeforePower m b a) s (hit_of a (power_moves s) w)) (power_step n (BeforePower k b a) t (hit_of a (power_moves t) w))) same
    (record { text = refl; traced = refl; writes = refl; after = Same _ })

-- a line before the first power line, or that line
before_alike : (n : ℕ) (l : DeckLine) (m k : List (List ℕ)) (b : ℕ) (a : Armed) (w : Option FailedWrite) → MeanAlike m k → writes_words l ≡ false → StepsAlike (step (BeforePower m b a) (n, l) w) (step (BeforePower k b a) (n, l) w)
unfolding step
before_alike n line.Format m k b a w alike none = absurd (cc none)
before_alike n (line.Poke at x) m k b a w alike none = absurd (cc none)
before_alike n line.Power m k b a w alike none = power_alike n m k b a w (play_at_power m b a) (play_at_power k b a) (found_alike m k b a alike)
before_alike n _ m k b a w alike none = record { text = refl; traced = refl; writes = refl; after = NotYet m k _ _ alike }

-- one line from states that are alike
pub step_alike : (s z : State) (l : ℕ × DeckLine) (w : Option FailedWrite) → SeenAlike s z → writes_words l.1 ≡ false → StepsAlike (step s l w) (step z l w)
step_alike _ _ l w (NotYet m k b a alike) none = before_alike l.0 l.1 m k b a w alike none
step_alike _ _ l w (Same s) none = record { text = refl; traced = refl; writes = refl; after = Same _ }

-- the texts of plays from states that are alike
pub record PlaysAlike (ts us : List Step) : Type 0 where
  pub plain : texts plain_text ts ≡ texts plain_text us
  pub traced : texts traced_text ts ≡ texts traced_text us

plays_alike : (ls : List (ℕ × DeckLine)) (s z : State) (ws : List (Option FailedWrite)) → SeenAlike s z → NoneWritesWords ls → PlaysAlike (plays s ls ws) (plays z ls ws)
unfolding plays
plays_alike [] s z ws alike none = record { plain = refl; traced = refl }
plays_alike (l ∷ ls) s z ws alike none =
    let w = first_failure ws in
    let one = step_alike s z l w alike none.0 in
    let rest = plays_alike ls (step s l w).after (step z l w).after (drop 1 ws) one.after none.1 in
    record {
      plain = ap (λ (x : List ℕ). x ++ texts plain_text (plays (step s l w).after ls (drop 1 ws))) one.text ∙ ap (λ (y : List ℕ). plain_text (step z l w) ++ y) rest.plain;
      traced = ap (λ (x : List ℕ). x ++ texts traced_text (plays (step s l w).after ls (drop 1 ws))) one.traced ∙ ap (λ (y : List ℕ). traced_text (step z l w) ++ y) rest.traced;
    }

-- the law
pub residual : (m k : List (List ℕ)) → MeanAlike m k → (ls : List (ℕ × DeckLine)) → NoneWritesWords ls → (ws : List (Option FailedWrite)) → ShowAlike m k ls ws
residual m k alike ls none ws = grind (arith, plays_alike ls (start m) (start k) ws (NotYet m k _ _ alike) none)
