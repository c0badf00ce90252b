-- Words that are equal in word 0 and in the heap hold one card, whatever their journals hold.
use Rattle.std.proofs.Common.{◌≡◌, ℕ, ◌+◌, ◌≤◌, Bool, true, false, List, [], ◌∷◌, length, Option, Some, None, Result, Ok, Err, refl, sym, ◌∙◌, ap, arith}
use Rattle.mc_words.specs.model_device.specs.Device.{IsSized}
use Rattle.mc_words.specs.model_device.specs.Image.{Journal, One, Two, is_open, count, targets, Look, Refused, Closed, Pending, which_of, look, look_at, look_j, look_by_head, look_by_targets, look_by_gate, After, Words, after, image_after_replay}
use Rattle.mc_words.specs.model_device.specs.Stopped.{InJournal, SameOutside}
use Rattle.mc_words.specs.model_device.specs.Card.{Block, word, blocks, card_of, means, words_after}
use Rattle.mc_words.specs.model_device.specs.Layout.{words_fault, fault, fault_of}
use Rattle.mc_blocks.specs.Blocks.{WordsAgree}
use Rattle.mc_blocks.proofs.Tiles.{Tiled}
use Rattle.mc_blocks.proofs.Bridge.{WellLaid, laid}
use Rattle.mc_blocks.proofs.Built.{SameCard, same_card}
use Rattle.mc_store.specs.Store.{settled_words}

-- ---- equal root and heap

-- two images with equal words in word 0 and from word 131 on
pub record HeapsAlike (n m : List (List ℕ)) : Type 0 where
  pub size : length n ≡ length m
  pub root : word n 0 ≡ word m 0
  pub heap : (i : ℕ) → 131 ≤ i → word n i ≡ word m i

pub alike_self : (m : List (List ℕ)) → HeapsAlike m m
alike_self m = record { size = refl; root = refl; heap = λ i low. refl }

root_outside : (j : Journal) → InJournal j 0 → ⊥
root_outside One inside = omega (arith, inside)
root_outside Two inside = omega (arith, inside)

heap_outside : (j : Journal) (i : ℕ) → 131 ≤ i → InJournal j i → ⊥
heap_outside One i low inside = omega (arith, low, inside)
heap_outside Two i low inside = omega (arith, low, inside)

-- what is outside a journal
pub alike_outside : (j : Journal) (n m : List (List ℕ)) → SameOutside j n m → HeapsAlike n m
alike_outside j n m s = record { size = s.size; root = s.words 0 (root_outside j); heap = λ i low. s.words i (heap_outside j i low) }

agree : (m n : List (List ℕ)) (p : ℕ) (a : Bool) (bs : List Block) (end : ℕ) → 131 ≤ p → Tiled p a bs end → HeapsAlike n m → WordsAgree m n bs
agree m n p a [] end low t s = tt
agree m n p a (b ∷ bs) end low t s =
    let place : b.place ≡ p = t.0 in
    (s.heap b.place (omega (arith, place)), (λ used i from below. s.heap i (omega (arith, place))), agree m n (p + b.words) _ bs end (omega arith) t.3 s)

pub alike_card : (m n : List (List ℕ)) → IsSized m → words_fault m ≡ None → HeapsAlike n m → SameCard m n
alike_card m n image good s =
    let l : WellLaid m = laid m image good in
    same_card m n image good s.size s.root (agree m n 131 false (blocks m) (length m) (omega arith) l.tiled s)

-- ---- no open journal

-- both gates are shut
pub record Gates (m : List (List ℕ)) : Type 0 where
  pub two : is_open Two m ≡ false
  pub one : is_open One m ≡ false

not_aimed : (j : Journal) (m : List (List ℕ)) (r : Result (List ℕ) ℕ) → look_by_targets j m r ≡ Closed → ⊥
not_aimed j m (Ok ts) h = absurd (cc h)
not_aimed j m (Err p) h = absurd (cc h)

not_headed : (j : Journal) (m : List (List ℕ)) (o : Option ℕ) → look_by_head j m o ≡ Closed → ⊥
not_headed j m None h = absurd (cc h)
not_headed j m (Some w) h = not_aimed j m (targets j m w) h

not_opened : (j : Journal) (m : List (List ℕ)) → is_open j m ≡ true → look_j j m ≡ Closed → ⊥
not_opened j m e h = not_headed j m (count m) (sym (ap (λ (b : Bool). look_by_gate j m b) e) ∙ h)

gates_of : (m : List (List ℕ)) (b c : Bool) → is_open Two m ≡ b → is_open One m ≡ c → look_at m (which_of b c) ≡ Closed → Gates m
gates_of m true true eb ec h = absurd (cc h)
gates_of m true false eb ec h = absurd (not_opened Two m eb h)
gates_of m false true eb ec h = absurd (not_opened One m ec h)
gates_of m false false eb ec h = record { two = eb; one = ec }

pub gates : (m : List (List ℕ)) → look m ≡ Closed → Gates m
gates m h = gates_of m (is_open Two m) (is_open One m) refl refl h

pub shut_look : (m : List (List ℕ)) → is_open Two m ≡ false → is_open One m ≡ false → look m ≡ Closed
shut_look m two one = ap (λ (b : Bool). look_at m (which_of b (is_open One m))) two ∙ ap (λ (b : Bool). look_at m (which_of false b)) one

-- ---- words once their journal is replayed

-- an image whose words after the replay are like these
pub record SettlesAlike (t n : List (List ℕ)) : Type 0 where
  pub left : List (List ℕ)
  pub is : after n ≡ Words left
  pub alike : HeapsAlike left t

fault_by : (n w : List (List ℕ)) (l : Look) → look n ≡ l → image_after_replay n l ≡ Words w → fault_of l n ≡ words_fault w
fault_by n w (Refused p) e h = absurd (cc h)
fault_by n w Closed e h = let same : n ≡ w = cc in ap words_fault same
fault_by n w (Pending j ps) e h = ap (λ (a : After). words_fault (words_after a n)) (ap (λ (l : Look). image_after_replay n l) e ∙ h)

-- the card and the fault of an image whose words after the replay are known
pub record Means (n w : List (List ℕ)) : Type 0 where
  pub fault : fault n ≡ words_fault w
  pub card : means n ≡ card_of w
  pub words : settled_words n ≡ w

pub means_after : (n w : List (List ℕ)) → after n ≡ Words w → Means n w
means_after n w h =
    record {
      fault = fault_by n w (look n) refl h;
      card = ap (λ (a : After). card_of (words_after a n)) h;
      words = ap (λ (a : After). words_after a n) h;
    }
