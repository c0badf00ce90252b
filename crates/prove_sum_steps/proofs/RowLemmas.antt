-- What a row leaves, by what comes next and by how the frame began.
use Rattle.std.specs.Prelude.{◌≡◌, ℕ, Bool, true, List, [], ◌∷◌}
use Rattle.std.proofs.Common.{sym, subst, refl}
use Rattle.mc_isa.specs.model_machine.specs.Primitives.{Then, Goes, Exits, Delegates}
use Rattle.mc_isa.specs.model_machine.specs.Shapes.{Shape}
use Rattle.prove_facts.specs.model_prove.specs.Arrivals.{Setting, depths}
use Rattle.prove_sums.specs.model_sums.specs.Sums.{Sums}
use Rattle.prove_sums.specs.model_sums.specs.Closed.{Turn, after_event, all_pass, exit_settled, is_settled}
use Rattle.prove_keys.specs.declared.keys.Begun.{Begun}
use Rattle.prove_keys.specs.declared.keys.Begun.TheVariants as begun
use Rattle.prove_keys.specs.Keys.{start_of}
use Rattle.prove_scenes.specs.declared.shapes.Next.{Next}
use Rattle.prove_scenes.specs.declared.shapes.Next.TheVariants as next
use Rattle.prove_scenes.specs.Outlines.{outlined_next}
use Rattle.prove_scenes.specs.ShapeValues.{next_value}
use Rattle.prove_sum_steps.proofs.PassLemmas.{pass_one}

-- ---- what comes next

module _ (s : Setting) (w : Turn) (h : Shape) (v : Sums) where
  goes : (n : Then) → outlined_next n ≡ Goes → exit_settled s w h v n ≡ true
  goes Goes e = refl
  goes Exits e = absurd (cc e)
  goes (Delegates name) e = refl

  delegates : (n : Then) → outlined_next n ≡ Delegates [] → exit_settled s w h v n ≡ true
  delegates Goes e = refl
  delegates Exits e = absurd (cc e)
  delegates (Delegates name) e = refl

  exits : (n : Then) (dt : ℕ) → outlined_next n ≡ Exits → h.dt ≡ dt
      → all_pass (λ d. is_settled s w (after_event s w v dt w.spot.key.c w.spot.key.z d)) (depths w.spot.key.start) ≡ true
      → exit_settled s w h v n ≡ true
  exits Goes dt e same so = refl
  exits Exits dt e same so =
      subst (λ (x : ℕ). all_pass (λ d. is_settled s w (after_event s w v x w.spot.key.c w.spot.key.z d)) (depths w.spot.key.start) ≡ true) (sym same) so
  exits (Delegates name) dt e same so = refl

  -- by what the code has
  pub row_goes : (x : Next) (n : Then) → x ≡ next.Goes → outlined_next n ≡ next_value x → exit_settled s w h v n ≡ true
  row_goes x n is e = goes n (subst (λ (x : Next). outlined_next n ≡ next_value x) is e)

  pub row_delegates : (x : Next) (n : Then) → x ≡ next.Delegates → outlined_next n ≡ next_value x → exit_settled s w h v n ≡ true
  row_delegates x n is e = delegates n (subst (λ (x : Next). outlined_next n ≡ next_value x) is e)

  pub row_exits : (x : Next) (n : Then) (dt : ℕ) → x ≡ next.Exits → outlined_next n ≡ next_value x → h.dt ≡ dt
      → all_pass (λ d. is_settled s w (after_event s w v dt w.spot.key.c w.spot.key.z d)) (depths w.spot.key.start) ≡ true
      → exit_settled s w h v n ≡ true
  row_exits x n dt is e same so = exits n dt (subst (λ (x : Next). outlined_next n ≡ next_value x) is e) same so

-- ---- depths

pub at_delegated : (test : ℕ → Bool) (classes : List (List Bool)) (b : Begun) → b ≡ begun.Delegated → all_pass test (2 ∷ 3 ∷ 4 ∷ []) ≡ true
    → all_pass test (depths (start_of classes b)) ≡ true
at_delegated test classes b is so = subst (λ (b : Begun). all_pass test (depths (start_of classes b)) ≡ true) (sym is) so

pub at_class : (test : ℕ → Bool) (classes : List (List Bool)) (b : Begun) (n : ℕ) → b ≡ begun.Class n → test 1 ≡ true
    → all_pass test (depths (start_of classes b)) ≡ true
at_class test classes b n is so = subst (λ (b : Begun). all_pass test (depths (start_of classes b)) ≡ true) (sym is) (pass_one test 1 so)
