-- The header words of a plan, laid into words: they are at their places, and all else of the heap stays.
use Rattle.std.proofs.Common.{◌≡◌, ◌⊎◌, ℕ, ◌<◌, ◌≤◌, true, ◌&&◌, List, length, sym, ◌∙◌, subst, inl, inr}
use Rattle.std.specs.Prelude.{◌==◌, nat_le, nat_lt}
use Rattle.std.specs.List.{AllByRecursion}
use Rattle.std.proofs.lemmas.Bool.{leb-true, eqb-true, ltb-true, or_cases, and_parts}
use Rattle.mc_words.specs.model_device.specs.Image.{within, image_with}
use Rattle.mc_words.specs.model_device.specs.Stopped.{IsAtomic}
use Rattle.mc_words.specs.model_device.specs.Card.{word, means}
use Rattle.mc_words.specs.model_device.proofs.ImageLemmas.{HoldsWords, all_map, laid_other, laid_holds, length_laid, holds_point}
use Rattle.mc_words.specs.model_device.proofs.GeometryLemmas.{targets_within}
use Rattle.mc_blocks.specs.Plans.{plan}
use Rattle.mc_blocks.specs.Outcomes.{Planned}
use Rattle.mc_words.specs.model_device.proofs.StoppedLemmas.{ascends_list, within_below as below}
use Rattle.mc_store.specs.AlikeLaws.{HeapsAlike}

-- ---- targets

target_is : (size t : ℕ) → within size t ≡ true → (t ≡ 0) ⊎ ((131 ≤ t) × (t < size))
target_is size t h =
    elim (or_cases (t == 0) (nat_le 131 t && nat_lt t size) h) [
      | inl is ↦ inl (eqb-true t 0 is)
      | inr heap ↦ let parts = and_parts (nat_le 131 t) (nat_lt t size) heap in inr (leb-true 131 t parts.0, ltb-true t size parts.1)
    ]

alike_target : (w n : List (List ℕ)) (size t : ℕ) → HeapsAlike w n → within size t ≡ true → word w t ≡ word n t
alike_target w n size t a h =
    elim (target_is size t h) [
      | inl is ↦ subst (λ (x : ℕ). word w x ≡ word n x) (sym is) a.root
      | inr heap ↦ a.heap t heap.0
    ]

-- the words of an atomic write are in words that are like those with them
pub holds_alike : (m w : List (List ℕ)) (list : List (ℕ × List ℕ)) → 256 ≤ length m → IsAtomic (length m) list → HeapsAlike w (image_with m list) → HoldsWords w list
holds_alike m w list low atomic alike =
    let inside : AllByRecursion (λ p. within (length m) p.0 ≡ true) list = targets_within (length m) list atomic in
    holds_point (image_with m list) w list
    (all_map (λ p. within (length m) p.0 ≡ true) (λ p. word w p.0 ≡ word (image_with m list) p.0) (λ p h. alike_target w (image_with m list) (length m) p.0 alike h) list inside)
    (laid_holds m 0 list (ascends_list (length m) 0 list atomic.targets) (all_map (λ p. within (length m) p.0 ≡ true) (λ p. p.0 < length m) (λ p h. below (length m) p.0 low h) list inside))

pub planned : (m w : List (List ℕ)) (ss : List (ℕ × ℕ)) → 256 ≤ length m → IsAtomic (length m) (plan (means m) ss) → HeapsAlike w (image_with m (plan (means m) ss)) → Planned m w ss
planned m w ss low atomic alike =
    let list = plan (means m) ss in
    record {
      size = alike.size ∙ length_laid m list;
      stand = holds_alike m w list low atomic alike;
      root = λ free. alike.root ∙ laid_other m list 0 free;
      heap = λ q above free. alike.heap q above ∙ laid_other m list q free;
    }
