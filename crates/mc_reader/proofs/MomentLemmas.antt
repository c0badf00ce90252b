-- Moments of a session, one after the other.
use Rattle.std.proofs.Common.{◌≡◌, List, [], ◌∷◌, ◌++◌, ℕ, length, Option, Some, None, refl, sym, ap, ◌∙◌, subst, append_assoc, append-nil}
use Rattle.mc_reader.specs.Moments.{Moment, Records, AreMoments}

-- no moment was recorded
pub records_none : (a : Option (List Moment)) → Records a [] a
records_none None = tt
records_none (Some ms) = sym (append-nil ms)

-- moments that were recorded after others
pub records_append : (a b c : Option (List Moment)) (ms ks : List Moment) → Records a ms b → Records b ks c → Records a (ms ++ ks) c
records_append None b c ms ks h k = tt
records_append (Some xs) None c ms ks h k = absurd h
records_append (Some xs) (Some ys) None ms ks h k = absurd k
records_append (Some xs) (Some ys) (Some zs) ms ks h k = k ∙ ap (λ us. us ++ ks) h ∙ append_assoc xs ms ks

module _ (Is : List (List ℕ) → Moment → Type 0) where
  -- moments of which something else holds as well
  pub moments_kept : (Other : List (List ℕ) → Moment → Type 0) → ((fs : List (List ℕ)) (m : Moment) → Is fs m → Other fs m) → (before fs : List (List ℕ)) (ms : List Moment) → AreMoments Is before fs ms → AreMoments Other before fs ms
  moments_kept Other on before fs [] h = h
  moments_kept Other on before [] (m ∷ ms) h = (on before m h.0, h.1)
  moments_kept Other on before (f ∷ fs) (m ∷ ms) h = (on before m h.0, moments_kept Other on (before ++ f ∷ []) fs ms h.1)

  -- one moment after the last frame
  pub moments_last : (before fs : List (List ℕ)) (ms : List Moment) (m : Moment) → length ms ≡ length fs → AreMoments Is before fs ms → Is (before ++ fs) m → AreMoments Is before fs (ms ++ m ∷ [])
  moments_last before [] [] m many h is = (subst (λ fs. Is fs m) (append-nil before) is, refl)
  moments_last before [] (k ∷ ms) m many h is = absurd (cc many)
  moments_last before (f ∷ fs) [] m many h is = absurd (cc many)
  moments_last before (f ∷ fs) (k ∷ ms) m many h is =
      (h.0, moments_last (before ++ f ∷ []) fs ms m (cc many) h.1 (subst (λ gs. Is gs m) (sym (append_assoc before (f ∷ []) fs)) is))

  -- one moment after the last frame, and one frame after it
  pub moments_more : (before fs : List (List ℕ)) (ms : List Moment) (f : List ℕ) (m : Moment) → length ms ≡ length fs → AreMoments Is before fs ms → Is (before ++ fs) m → AreMoments Is before (fs ++ f ∷ []) (ms ++ m ∷ [])
  moments_more before [] [] f m many h is = (subst (λ fs. Is fs m) (append-nil before) is, refl)
  moments_more before [] (k ∷ ms) f m many h is = absurd (cc many)
  moments_more before (g ∷ fs) [] f m many h is = absurd (cc many)
  moments_more before (g ∷ fs) (k ∷ ms) f m many h is =
      (h.0, moments_more (before ++ g ∷ []) fs ms f m (cc many) h.1 (subst (λ gs. Is gs m) (sym (append_assoc before (g ∷ []) fs)) is))
