-- The entries that a list of writes leaves on a tape, and the words that follow from them.
use Rattle.std.proofs.Common.{◌≡◌, ℕ, zero, suc, ◌+◌, ◌<◌, List, [], ◌∷◌, ◌++◌, length, take, Some, None, refl, ◌∙◌, ap, arith}
use Rattle.std.specs.Prelude.{slice_index_or, slice_set}
use Rattle.model_play.specs.model_device.specs.declared.device.Stop.{Stop}
use Rattle.model_play.specs.model_device.specs.Device.{Entry, done_entries, torn_entries}
use Rattle.model_play.specs.model_device.specs.Image.{image_with}
use Rattle.model_play.specs.model_device.specs.Stopped.{image_after_stop}
use Rattle.model_play.specs.Play.{EndsAs, failures_in, failure_entry, laid_entries}

-- ---- a list that stopped after n writes

-- the entry of the write that stopped
abbrev pub stopped_entry : List (ℕ × List ℕ) → ℕ → List ℕ → Stop → Entry
stopped_entry ws n x s = record { at = (slice_index_or ws n (0, [])).0; left = x; «end» = Some s }

pub torn_behind : (m : List (List ℕ)) (ws : List (ℕ × List ℕ)) (n : ℕ) (x : List ℕ) → n < length ws → image_after_stop m ws (suc n) x ≡ slice_set (image_with m (take n ws)) (slice_index_or ws n (0, [])).0 x
torn_behind m [] n x low = absurd (omega arith)
torn_behind m (p ∷ ws) zero x low = refl
torn_behind m (p ∷ ws) (suc n) x low = torn_behind (slice_set m p.0 p.1) ws n x (omega (arith, low))

pub entries_behind : (ws : List (ℕ × List ℕ)) (n : ℕ) (x : List ℕ) (s : Stop) → n < length ws → torn_entries ws (suc n) x s ≡ done_entries (take n ws) ++ stopped_entry ws n x s ∷ []
entries_behind [] n x s low = absurd (omega arith)
entries_behind (p ∷ ws) zero x s low = refl
entries_behind (p ∷ ws) (suc n) x s low =
    ap (λ (es : List Entry). record { at = p.0; left = p.1; «end» = None } ∷ es) (entries_behind ws n x s (omega (arith, low)))

-- ---- entries

pub length_done : (ws : List (ℕ × List ℕ)) → length (done_entries ws) ≡ length ws
length_done [] = refl
length_done (p ∷ ws) = let r = length_done ws in omega (arith, r)

pub length_torn : (ws : List (ℕ × List ℕ)) (n : ℕ) (x : List ℕ) (s : Stop) → n < length ws → length (torn_entries ws (suc n) x s) ≡ suc n
length_torn [] n x s low = absurd (omega arith)
length_torn (p ∷ ws) zero x s low = refl
length_torn (p ∷ ws) (suc n) x s low = let r = length_torn ws n x s (omega (arith, low)) in omega (arith, r)

pub ends_done : (ws : List (ℕ × List ℕ)) → EndsAs None (done_entries ws)
ends_done [] = refl
ends_done (p ∷ []) = refl
ends_done (p ∷ q ∷ ws) = (refl, ends_done (q ∷ ws))

pub ends_torn : (ws : List (ℕ × List ℕ)) (n : ℕ) (x : List ℕ) (s : Stop) → n < length ws → EndsAs (Some s) (torn_entries ws (suc n) x s)
ends_torn [] n x s low = absurd (omega arith)
ends_torn (p ∷ ws) zero x s low = refl
ends_torn (p ∷ []) (suc n) x s low = absurd (omega (arith, low))
ends_torn (p ∷ q ∷ ws) (suc zero) x s low = (refl, refl)
ends_torn (p ∷ q ∷ ws) (suc (suc n)) x s low = (refl, ends_torn (q ∷ ws) (suc n) x s (omega (arith, low)))

pub failure_done : (j : ℕ) (ws : List (ℕ × List ℕ)) → failures_in j (done_entries ws) ≡ None
failure_done j [] = refl
failure_done j (p ∷ []) = refl
failure_done j (p ∷ q ∷ ws) = failure_done (j + 1) (q ∷ ws)

pub failure_torn : (j : ℕ) (ws : List (ℕ × List ℕ)) (n : ℕ) (x : List ℕ) (s : Stop) → n < length ws → failures_in j (torn_entries ws (suc n) x s) ≡ failure_entry (j + suc n) x (Some s)
failure_torn j [] n x s low = absurd (omega arith)
failure_torn j (p ∷ ws) zero x s low = refl
failure_torn j (p ∷ []) (suc n) x s low = absurd (omega (arith, low))
failure_torn j (p ∷ q ∷ ws) (suc zero) x s low = let e : j + 1 + 1 ≡ j + suc (suc zero) = omega arith in ap (λ (k : ℕ). failure_entry k x (Some s)) e
failure_torn j (p ∷ q ∷ ws) (suc (suc n)) x s low =
    let e : j + 1 + suc (suc n) ≡ j + suc (suc (suc n)) = omega arith in
    failure_torn (j + 1) (q ∷ ws) (suc n) x s (omega (arith, low)) ∙ ap (λ (k : ℕ). failure_entry k x (Some s)) e

pub laid_done : (m : List (List ℕ)) (ws : List (ℕ × List ℕ)) → laid_entries m (done_entries ws) ≡ image_with m ws
laid_done m [] = refl
laid_done m (p ∷ ws) = laid_done (slice_set m p.0 p.1) ws

pub laid_torn : (m : List (List ℕ)) (ws : List (ℕ × List ℕ)) (n : ℕ) (x : List ℕ) (s : Stop) → n < length ws → laid_entries m (torn_entries ws (suc n) x s) ≡ image_after_stop m ws (suc n) x
laid_torn m [] n x s low = absurd (omega arith)
laid_torn m (p ∷ ws) zero x s low = refl
laid_torn m (p ∷ ws) (suc n) x s low = laid_torn (slice_set m p.0 p.1) ws n x s (omega (arith, low))
