-- The migration of a card of layout 1, done or stopped at any of its writes.
use Rattle.std.proofs.Common.{◌≡◌, ◌≢◌, ℕ, ◌≤◌, Bool, true, false, ◌&&◌, ◌||◌, List, [], ◌∷◌, length, take, Option, Some, None, refl, ◌∙◌, ap, subst, arith, cond, inl, inr}
use Rattle.std.specs.Prelude.{bytes_eq, ◌⊎◌, ◌==◌, slice_index, slice_set}
use Rattle.std.specs.List.{AllByRecursion}
use Rattle.std.proofs.lemmas.List.{get_or-set_same, get_or-set_other, length-set}
use Rattle.std.proofs.lemmas.Bool.{eqb-true}
use Rattle.mc_words.specs.model_device.specs.declared.cause.Cause.TheVariants.{NoRoot, BadBlock, BadRecord, BadChain}
use Rattle.mc_words.specs.model_device.specs.Bytes.{be2, or_else}
use Rattle.mc_words.specs.model_device.specs.Image.{One, Two, opening, is_open, Closed, look, image_with}
use Rattle.mc_words.specs.model_device.specs.Stopped.{InJournal, writes, stands, owes, image_after_stop, image_if_written, IsAtomic, SameOutside, LeavesOwing, LaidWhole}
use Rattle.mc_words.specs.model_device.specs.Card.{App, Block, card_of, word, blocks, heap_start}
use Rattle.mc_words.specs.model_device.specs.Layout.{words_fault, root, no_root, bad_block, bad_record, bad_link, bad_chain, first_hole, by_cause}
use Rattle.mc_words.specs.model_device.proofs.ImageLemmas.{laid_other}
use Rattle.mc_words.specs.model_device.proofs.StoppedLemmas.{torn_other, shut_closed, tear, done}
use Rattle.mc_blocks.proofs.Bridge.{Faultless, faultless}
use Rattle.mc_store.specs.Power.{new_root, HoldsBase}
use Rattle.mc_store.proofs.HeapLemmas.{SameHeap, root_test, same_drop, all_blocks, all_apps, bad_blocks, bad_records}
use Rattle.mc_store.proofs.JournalLemmas.{closed_alone, raw, same_raw, stays}

-- ---- the new root

-- what a root with version 2 in the place of version 1 is
record Upgraded (x : List ℕ) (n : ℕ) : Type 0 where
  root : root_test (slice_set x 3 2) n ≡ None
  version : slice_index (slice_set x 3 2) 3 ≡ 2
  first : be2 (slice_set x 3 2) 6 ≡ be2 x 6

upgraded_from : (a b c d : ℕ) (x : List ℕ) (n : ℕ) → d ≡ 1 → root_test (a ∷ b ∷ c ∷ d ∷ x) n ≡ None → Upgraded (a ∷ b ∷ c ∷ d ∷ x) n
upgraded_from a b c d x n e h = grind (arith, subst (λ (v : ℕ). root_test (a ∷ b ∷ c ∷ v ∷ x) n ≡ None) e h)

upgraded : (x : List ℕ) (n : ℕ) → slice_index x 3 ≡ 1 → root_test x n ≡ None → Upgraded x n
upgraded x n v h = grind (arith, upgraded_from)

-- a root has version 1 or 2
version_by : (v : ℕ) (x : List ℕ) (n : ℕ) (s t : Bool) → (v == 1) ≡ s → (v == 2) ≡ t → cond {A = Option ℕ} ((s || t) && bytes_eq (take 6 x) (take 6 (root v n 0))) None (Some 0) ≡ None → (v ≡ 1) ⊎ (v ≡ 2)
version_by v x n s t e f h = grind (arith, eqb-true)

pub version_is : (w : List (List ℕ)) → words_fault w ≡ None → ((card_of w).layout ≡ 1) ⊎ ((card_of w).layout ≡ 2)
version_is w h = grind (arith, Faultless, faultless, version_by)

-- ---- the card with the new root

-- the words with the new root
abbrev pub upgrade : List (List ℕ) → List (List ℕ)
upgrade w = image_with w (new_root w)

size_upgrade : (w : List (List ℕ)) → length (upgrade w) ≡ length w
size_upgrade w = length-set w 0 (slice_set (word w 0) 3 2)

root_upgrade : (w : List (List ℕ)) → 256 ≤ length w → word (upgrade w) 0 ≡ slice_set (word w 0) 3 2
root_upgrade w low = get_or-set_same w 0 (slice_set (word w 0) 3 2) [] (omega arith)

heap_upgrade : (w : List (List ℕ)) → 256 ≤ length w → SameHeap (upgrade w) w
heap_upgrade w low = grind (arith, size_upgrade, same_drop, get_or-set_other)

-- it is a card of layout 2 with the same applications
pub record IsUpgraded (w : List (List ℕ)) : Type 0 where
  pub fault : words_fault (upgrade w) ≡ None
  pub card : card_of (upgrade w) ≡ record (card_of w) { layout = 2 }

pub is_upgraded : (w : List (List ℕ)) → 256 ≤ length w → words_fault w ≡ None → (card_of w).layout ≡ 1 → IsUpgraded w
is_upgraded w low h old =
    let n = upgrade w in
    let f : Faultless w = faultless w h in
    let s : SameHeap n w = heap_upgrade w low in
    let size : length n ≡ length w = size_upgrade w in
    let u : Upgraded (word w 0) (length w) = upgraded (word w 0) (length w) old f.root in
    let is : word n 0 ≡ slice_set (word w 0) 3 2 = root_upgrade w low in
    let first : no_root n ≡ None = ap (λ (x : List ℕ). root_test x (length n)) is ∙ ap (λ (k : ℕ). root_test (slice_set (word w 0) 3 2) k) size ∙ u.root in
    let headers : bad_block (length n) n heap_start false ≡ None = bad_blocks n w s ∙ f.headers in
    let records : bad_record n (blocks n) [] 0 ≡ None = bad_records n w s ∙ f.records in
    let chain : bad_chain n (blocks n) ≡ None =
    ap (λ (bs : List Block). bad_chain n bs) (all_blocks n w s)
    ∙ ap (λ (x : List ℕ). or_else (cond (be2 x 6 == first_hole (blocks w)) None (Some 0)) (bad_link (blocks w))) is
    ∙ ap (λ (k : ℕ). or_else (cond (k == first_hole (blocks w)) None (Some 0)) (bad_link (blocks w))) u.first
    ∙ f.chain in
    record {
      fault =
          ap (λ (o : Option ℕ). or_else (by_cause NoRoot o) (or_else (by_cause BadBlock (bad_block (length n) n heap_start false)) (or_else (by_cause BadRecord (bad_record n (blocks n) [] 0)) (by_cause BadChain (bad_chain n (blocks n)))))) first
          ∙ ap (λ (o : Option ℕ). or_else (by_cause BadBlock o) (or_else (by_cause BadRecord (bad_record n (blocks n) [] 0)) (by_cause BadChain (bad_chain n (blocks n))))) headers
          ∙ ap (λ (o : Option ℕ). or_else (by_cause BadRecord o) (by_cause BadChain (bad_chain n (blocks n)))) records
          ∙ ap (λ (o : Option ℕ). by_cause BadChain o) chain;
      card =
          ap (λ (k : ℕ). record (card_of n) { size = k }) size
          ∙ ap (λ (x : List ℕ). record (card_of n) { size = length w; layout = slice_index x 3 }) is
          ∙ ap (λ (v : ℕ). record (card_of n) { size = length w; layout = v }) u.version
          ∙ ap (λ (l : List (List ℕ × App)). record { size = length w; layout = 2; apps = l }) (all_apps n w s);
    }

-- ---- its writes

pub one_word : (w : List (List ℕ)) → IsAtomic (length w) (new_root w)
one_word w = record { low = omega arith; high = omega arith; targets = refl }

-- none of them is in word 130
spares_gate : (w : List (List ℕ)) → AllByRecursion (λ p. p.0 ≢ 130) (writes One (new_root w))
spares_gate w = (λ h. absurd (cc h), (λ h. absurd (cc h), (λ h. absurd (cc h), (λ h. absurd (cc h), (λ h. absurd (cc h), (λ h. absurd (cc h), tt))))))

outside_one : (i : ℕ) → (i ≡ 0) ⊎ (131 ≤ i) → InJournal One i → ⊥
outside_one i (inl z) h = let low = h.0 in absurd (omega (arith, z, low))
outside_one i (inr g) h = let high = h.1 in absurd (omega (arith, g, high))

module _ (w : List (List ℕ)) (low : 256 ≤ length w) (high : length w ≤ 16384) (one : is_open One w ≡ false) (two : is_open Two w ≡ false) where
  stood_size : (b : Bool) → length (image_if_written b w (new_root w)) ≡ length w
  stood_size true = size_upgrade w
  stood_size false = refl

  -- stopped at write k, which left x, the card has the new root if the write is durable, else the old one
  pub migration_halted : (k : ℕ) (x : List ℕ) → 1 ≤ k → k ≤ 6 → HoldsBase (raw (image_if_written (stands One 1 k x) w (new_root w))) (owes One 1 k x) One (image_after_stop w (writes One (new_root w)) k x)
  migration_halted k x first last =
      let e = image_after_stop w (writes One (new_root w)) k x in
      let to = image_if_written (stands One 1 k x) w (new_root w) in
      let l : LeavesOwing One e (owes One 1 k x) to = tear One w (new_root w) low high (one_word w) one k x first last in
      let size : length l.after ≡ length to = l.same.size in
      let long : length to ≡ length w = stood_size (stands One 1 k x) in
      stays One e l.after to (owes One 1 k x)
      (ap (λ (y : List ℕ). bytes_eq y (opening Two)) (torn_other w (writes One (new_root w)) k x 130 (spares_gate w)) ∙ two)
      l.owed l.is
      (same_raw l.after to size (omega (arith, size, long)) (λ i h. l.same.words i (outside_one i h)))

  -- done, no journal is open and the card has the new root
  pub migration_closed : look (image_with w (writes One (new_root w))) ≡ Closed
  migration_closed =
      let e = image_with w (writes One (new_root w)) in
      let s : LaidWhole One w (new_root w) e = done One w (new_root w) low high (one_word w) one in
      closed_alone One e
      (ap (λ (y : List ℕ). bytes_eq y (opening Two)) (laid_other w (writes One (new_root w)) 130 (spares_gate w)) ∙ two)
      (ap (λ (y : List ℕ). bytes_eq y (opening One)) s.gate ∙ shut_closed One)

  migration_outside : SameOutside One (image_with w (writes One (new_root w))) (upgrade w)
  migration_outside = (done One w (new_root w) low high (one_word w) one).same

  pub migration_heap : SameHeap (image_with w (writes One (new_root w))) (upgrade w)
  migration_heap =
      let s : SameOutside One (image_with w (writes One (new_root w))) (upgrade w) = migration_outside in
      let size : length (image_with w (writes One (new_root w))) ≡ length (upgrade w) = s.size in
      let long : length (upgrade w) ≡ length w = size_upgrade w in
      record {
        size = size;
        low = omega (arith, size, long);
        heap = same_drop (image_with w (writes One (new_root w))) (upgrade w) 131 size (λ i h. s.words i (outside_one i (inr h)));
      }

  pub migration_root : word (image_with w (writes One (new_root w))) 0 ≡ word (upgrade w) 0
  migration_root = migration_outside.words 0 (outside_one 0 (inl refl))
