-- The recovery lemma (idempotent recovery): what a replay leaves, done or stopped at any of its writes, whatever word
-- that left; and one journal's look as that of the whole image. and one journal's look as that of the whole image.
use Rattle.std.proofs.Common.{◌≡◌, ◌≢◌, ℕ, ◌+◌, ◌<◌, ◌≤◌, Bool, true, false, cond, ◌||◌, List, [], ◌∷◌, length, refl, sym, ◌∙◌, ap, subst, inl, inr, arith}
use Rattle.std.specs.Prelude.{bytes_eq, slice_set}
use Rattle.std.specs.List.{AllByRecursion}
use Rattle.std.proofs.lemmas.List.{get_or-set_same, get_or-set_other, length-set}
use Rattle.std.proofs.lemmas.Bool.{cases_lt, le-leb, lt-leb, or_parts}
use Rattle.std.proofs.lemmas.Bool.Decides.{eqb_tells}
use Rattle.model_device.specs.Image.{Journal, One, Two, opening, shut_word, gate, word_at, is_open, image_with, Look, Pending, look_j, look_at, look, which_of, image_after_replay, debt}
use Rattle.model_device.specs.Stopped.{InJournal, remains, replay, image_after_stop, SameBut, Resumes}
use Rattle.model_device.proofs.ImageLemmas.{covers, covers_append, length_laid, laid_other, laid_same, laid_last, uncovered}
use Rattle.model_device.proofs.LookLemmas.{look_same, GoodPending, good_pending}
use Rattle.model_device.proofs.StoppedLemmas.{length_torn, torn_other, torn_within, torn_past, open_same, targets_outside, closed_look, gate_bound}

-- a pending image with equal words in the journal, and equal words but for targets and gate, resumes to one image
pending_resumes : (j : Journal) (n t : List (List ℕ)) (ps : List (ℕ × List ℕ)) → look_j j n ≡ Pending j ps → image_with n (replay j ps) ≡ t → Resumes j n (length ps + 1) t
pending_resumes j n t ps h same =
    record {
      owed = ap debt h;
      after = image_with n (replay j ps);
      is = ap (λ (l : Look). image_after_replay n l) h;
      same = record { size = ap length same; words = λ i apart. ap (λ (x : List (List ℕ)). word_at x i) same };
    }

closed_resumes : (j : Journal) (n t : List (List ℕ)) → is_open j n ≡ false → SameBut (gate j) n t → Resumes j n 0 t
closed_resumes j n t h same =
    record { owed = ap debt (closed_look j n h); after = n; is = ap (λ (l : Look). image_after_replay n l) (closed_look j n h); same = same }

module _ (j : Journal) (m : List (List ℕ)) (list : List (ℕ × List ℕ)) (low : 256 ≤ length m) (pending : look_j j m ≡ Pending j list) where
  good : GoodPending j j m list
  good = good_pending j j m list pending

  gate_at : (n : List (List ℕ)) (x : List ℕ) → length n ≡ length m → word_at (slice_set n (gate j) x) (gate j) ≡ x
  gate_at n x same = get_or-set_same n (gate j) x [] (let b = gate_bound j in omega (arith, b.0, same))

  list_other : (i : ℕ) → InJournal j i → AllByRecursion (λ p. p.0 ≢ i) list
  list_other i inside = targets_outside j (length m) list i good.all inside

  -- what a replay covers: its targets and the gate
  free_list : (i : ℕ) → covers (replay j list) i ≡ false → (covers list i ≡ false) × (covers ((gate j, shut_word) ∷ []) i ≡ false)
  free_list i h = or_parts (covers list i) (covers ((gate j, shut_word) ∷ []) i) (sym (covers_append list ((gate j, shut_word) ∷ []) i) ∙ h)

  in_targets : (k : ℕ) (x : List ℕ) → Resumes j (image_after_stop m list k x) (length list + 1) (image_with m (replay j list))
  in_targets k x = grind (arith, pending_resumes, look_same, length_torn, torn_other, list_other, laid_same, uncovered, free_list)

  abbrev shutting : List ℕ → List (List ℕ)
  shutting x = slice_set (image_with m list) (gate j) x

  shutting_other : (x : List ℕ) (i : ℕ) → i ≢ gate j → word_at (shutting x) i ≡ word_at (image_with m list) i
  shutting_other x i apart = get_or-set_other (image_with m list) (gate j) i x [] apart

  shutting_inside : (i : ℕ) → InJournal j i → word_at (shutting (opening j)) i ≡ word_at m i
  shutting_inside i inside = grind (arith, eqb_tells, gate_at, length_laid, open_same, good, shutting_other, laid_other, list_other)

  in_last_open : (x : List ℕ) → x ≡ opening j → Resumes j (shutting x) (length list + 1) (image_with m (replay j list))
  in_last_open x e = grind (arith, length-set, length_laid, pending_resumes, look_same, shutting_inside, laid_same, free_list, shutting_other, uncovered, laid_other)

  in_last_closed : (x : List ℕ) → bytes_eq x (opening j) ≡ false → Resumes j (shutting x) 0 (image_with m (replay j list))
  in_last_closed x e = grind (arith, closed_resumes, gate_at, length_laid, laid_last, length-set, shutting_other)

  remains_early : (k : ℕ) (x : List ℕ) → k ≤ length list → remains j (length list) k x ≡ length list + 1
  remains_early k x h = ap (λ (b : Bool). cond (b || bytes_eq x (opening j)) (length list + 1) 0) (le-leb k (length list) h)

  remains_last : (k : ℕ) (x : List ℕ) (b : Bool) → length list < k → bytes_eq x (opening j) ≡ b → remains j (length list) k x ≡ cond b (length list + 1) 0
  remains_last k x b h hb =
      ap (λ (t : Bool). cond (t || bytes_eq x (opening j)) (length list + 1) 0) (lt-leb k (length list) h) ∙ ap (λ (t : Bool). cond t (length list + 1) 0) hb

  owes_now : (n : List (List ℕ)) (o p : ℕ) → p ≡ o → Resumes j n o (image_with m (replay j list)) → Resumes j n p (image_with m (replay j list))
  owes_now n o p e h = subst (λ (t : ℕ). Resumes j n t (image_with m (replay j list))) (sym e) h

  torn_last : (k : ℕ) (x : List ℕ) → k ≡ length list + 1 → image_after_stop m (replay j list) k x ≡ shutting x
  torn_last k x e = torn_past m list ((gate j, shut_word) ∷ []) k 1 x (omega arith) e

  resume_last : (k : ℕ) (x : List ℕ) (b : Bool) → bytes_eq x (opening j) ≡ b → k ≡ length list + 1 → Resumes j (image_after_stop m (replay j list) k x) (remains j (length list) k x) (image_with m (replay j list))
  resume_last k x true hb e =
      owes_now (image_after_stop m (replay j list) k x) (length list + 1) (remains j (length list) k x) (remains_last k x true (omega (arith, e)) hb)
      (subst (λ (n : List (List ℕ)). Resumes j n (length list + 1) (image_with m (replay j list))) (sym (torn_last k x e)) (in_last_open x (open_same j x hb)))
  resume_last k x false hb e =
      owes_now (image_after_stop m (replay j list) k x) 0 (remains j (length list) k x) (remains_last k x false (omega (arith, e)) hb)
      (subst (λ (n : List (List ℕ)). Resumes j n 0 (image_with m (replay j list))) (sym (torn_last k x e)) (in_last_closed x hb))

  -- a recovery that was stopped at its write k, which left x
  pub resume : (k : ℕ) (x : List ℕ) → 1 ≤ k → k ≤ length list + 1 → Resumes j (image_after_stop m (replay j list) k x) (remains j (length list) k x) (image_with m (replay j list))
  resume k x first last = elim (cases_lt (length list) k) [
    | inr early ↦ owes_now (image_after_stop m (replay j list) k x) (length list + 1) (remains j (length list) k x) (remains_early k x early)
        (subst (λ (n : List (List ℕ)). Resumes j n (length list + 1) (image_with m (replay j list))) (sym (torn_within m list ((gate j, shut_word) ∷ []) k x first early)) (in_targets k x))
    | inl late ↦ resume_last k x (bytes_eq x (opening j)) refl (omega arith)
  ]

  -- a recovery that was not stopped leaves its gate shut
  pub resumed : word_at (image_with m (replay j list)) (gate j) ≡ shut_word
  resumed = ap (λ (n : List (List ℕ)). word_at n (gate j)) (laid_last m list (gate j, shut_word)) ∙ gate_at (image_with m list) shut_word (length_laid m list)

-- ---- one journal's look and that of the image

two_only : (m : List (List ℕ)) (b : Bool) → is_open Two m ≡ b → look_at m (which_of b false) ≡ look_j Two m
two_only m true h = refl
two_only m false h = sym (closed_look Two m h)

one_only : (m : List (List ℕ)) (b : Bool) → is_open One m ≡ b → look_at m (which_of false b) ≡ look_j One m
one_only m true h = refl
one_only m false h = sym (closed_look One m h)

-- if journal 1 is not open, the image is as journal 2 sees it
pub look_two : (m : List (List ℕ)) → is_open One m ≡ false → look m ≡ look_j Two m
look_two m h = ap (λ (b : Bool). look_at m (which_of (is_open Two m) b)) h ∙ two_only m (is_open Two m) refl

-- if journal 2 is not open, the image is as journal 1 sees it
pub look_one : (m : List (List ℕ)) → is_open Two m ≡ false → look m ≡ look_j One m
look_one m h = ap (λ (b : Bool). look_at m (which_of b (is_open One m))) h ∙ one_only m (is_open One m) refl
