-- Words of eight bytes set among the words of an image, and the words after the replay of its journal.
use Rattle.std.proofs.Common.{◌≡◌, ℕ, List, [], ◌∷◌, ◌++◌, refl, arith}
use Rattle.std.specs.Prelude.{slice_set}
use Rattle.std.specs.List.{AllByRecursion}
use Rattle.std.proofs.lemmas.List.{get_or-set_same, get_or-set_other, length-set, get_or_past}
use Rattle.std.proofs.lemmas.Bool.{cases_lt}
use Rattle.std.proofs.lemmas.Bool.Decides.{eqb_tells}
use Rattle.model_device.specs.Device.{IsImage}
use Rattle.model_device.specs.Image.{Journal, Which, gate, shut_word, Look, Refused, Closed, Pending, look, look_at, which, image_after_replay, after, image_with}
use Rattle.model_device.specs.Card.{words_after}
use Rattle.model_device.proofs.ImageLemmas.{all_append}
use Rattle.model_device.proofs.LookLemmas.{IsFull, good_pending}

-- ---- words set

pub image_set : (m : List (List ℕ)) (k : ℕ) (x : List ℕ) → IsImage m → IsFull x → IsImage (slice_set m k x)
image_set m k x image full = grind (arith, length-set, eqb_tells, get_or-set_same, get_or-set_other, cases_lt, get_or_past)

pub image_laid : (m : List (List ℕ)) (ps : List (ℕ × List ℕ)) → IsImage m → AllByRecursion (λ p. IsFull p.1) ps → IsImage (image_with m ps)
image_laid m [] image a = image
image_laid m (p ∷ ps) image a = image_laid (slice_set m p.0 p.1) ps (image_set m p.0 p.1 image a.0) a.1

-- ---- after the replay

pub shut_full : IsFull shut_word
shut_full = (refl, (omega arith, (omega arith, (omega arith, (omega arith, (omega arith, (omega arith, (omega arith, (omega arith, tt)))))))))

replayed_by : (m : List (List ℕ)) (l : Look) → IsImage m → ((j : Journal) (ps : List (ℕ × List ℕ)) → l ≡ Pending j ps → AllByRecursion (λ p. IsFull p.1) ps) → IsImage (words_after (image_after_replay m l) m)
replayed_by m (Refused p) image h = image
replayed_by m Closed image h = image
replayed_by m (Pending j ps) image h = image_laid m (ps ++ (gate j, shut_word) ∷ []) image (all_append (λ p. IsFull p.1) ps ((gate j, shut_word) ∷ []) (h j ps refl) (shut_full, tt))

looked_full : (m : List (List ℕ)) (w : Which) (j : Journal) (ps : List (ℕ × List ℕ)) → IsImage m → look_at m w ≡ Pending j ps → AllByRecursion (λ p. IsFull p.1) ps
looked_full m w j ps image h = grind (arith, good_pending)

-- the words once the journal that is open, if one is, is replayed
pub image_settled : (m : List (List ℕ)) → IsImage m → IsImage (words_after (after m) m)
image_settled m image = replayed_by m (look m) image (λ j ps e. looked_full m (which m) j ps image e)
