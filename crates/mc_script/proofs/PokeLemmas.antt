-- Words that are poked in order.
use Rattle.std.proofs.Common.{◌≡◌, ℕ, zero, suc, ◌+◌, ◌<◌, List, ◌∷◌, length, drop, drop-cons, refl, sym, ◌∙◌, ap, subst, arith}
use Rattle.std.specs.Prelude.{slice_set, slice_index_or}
use Rattle.std.specs.List.{AllByRecursion}
use Rattle.std.proofs.lemmas.List.{length-set}
use Rattle.model_play.specs.model_device.specs.Device.{DeviceState, BenchState, bench_after_poke, bench_after_pokes}
use Rattle.model_play.specs.model_device.specs.Image.{image_with}
use Rattle.mc_script.specs.Counting.{count_after_rises, when_poked}

-- ---- what a bench keeps of pokes

-- one more poke, if power does not come between
when_again : (k : ℕ) (b : BenchState) → when_poked (bench_after_poke b) k ≡ b.powers
when_again zero b = refl
when_again (suc k) b = refl

-- k pokes are counted, and the last of them is recorded
pub poked_are : (k : ℕ) (b : BenchState) → bench_after_pokes k b ≡ record b { pokes = count_after_rises b.pokes k; poked = when_poked b k }
poked_are zero b = refl
poked_are (suc k) b = poked_are k (bench_after_poke b) ∙ ap (λ (n : ℕ). record b { pokes = count_after_rises b.pokes (suc k); poked = n }) (when_again k b)

-- ---- a list of pokes

-- a device on the way: the pokes that are left lead to the result of the whole list from the start
pub record Pokes (d : DeviceState) (b : BenchState) (list : List (ℕ × List ℕ)) (e : DeviceState) (c : BenchState) (left : List (ℕ × List ℕ)) : Type 0 where
  pub device : record e { words = image_with e.words left } ≡ record d { words = image_with d.words list }
  pub calls : bench_after_pokes (length left) c ≡ bench_after_pokes (length list) b
  pub places : AllByRecursion (λ p. p.0 < length e.words) left

same_places : (m n : ℕ) (list : List (ℕ × List ℕ)) → n ≡ m → AllByRecursion (λ p. p.0 < m) list → AllByRecursion (λ p. p.0 < n) list
same_places m n list e h = subst (λ (k : ℕ). AllByRecursion (λ p. p.0 < k) list) (sym e) h

-- the next one is poked
pub pokes_next : (d : DeviceState) (b : BenchState) (list : List (ℕ × List ℕ)) (e f : DeviceState) (c g : BenchState) (p : ℕ × List ℕ) (left : List (ℕ × List ℕ))
    → Pokes d b list e c (p ∷ left) → f ≡ record e { words = slice_set e.words p.0 p.1 } → g ≡ bench_after_poke c → Pokes d b list f g left
pokes_next d b list e f c g p left r hf hg =
    let F : DeviceState → DeviceState = λ x. record x { words = image_with x.words left } in
    record {
      device = ap F hf ∙ r.device;
      calls = ap (λ (x : BenchState). bench_after_pokes (length left) x) hg ∙ r.calls;
      places = same_places (length e.words) (length f.words) left (ap (λ (x : DeviceState). length x.words) hf ∙ length-set e.words p.0 p.1) r.places.1;
    }

-- the one with this number is poked
pub pokes_on : (d : DeviceState) (b : BenchState) (list : List (ℕ × List ℕ)) (e f : DeviceState) (c g : BenchState) (i : ℕ) (x : ℕ × List ℕ) → i < length list
    → Pokes d b list e c (drop i list) → f ≡ record e { words = slice_set e.words (slice_index_or list i x).0 (slice_index_or list i x).1 } → g ≡ bench_after_poke c
    → Pokes d b list f g (drop (i + 1) list)
pokes_on d b list e f c g i x low r hf hg =
    grind (arith, pokes_next d b list e f c g (slice_index_or list i x) (drop (suc i) list) (subst (λ (l : List (ℕ × List ℕ)). Pokes d b list e c l) (drop-cons list i x low) r) hf hg)
