-- Both journals of an image: what the replay of the one that is open leaves, done or stopped.
use Rattle.std.proofs.Common.{◌≡◌, ◌≢◌, ℕ, ◌+◌, ◌≤◌, Bool, true, false, List, [], ◌∷◌, length, Option, Some, None, refl, sym, ◌∙◌, ap, arith, inl, inr}
use Rattle.std.specs.Prelude.{bytes_eq, Result, Ok, Err, ◌⊎◌}
use Rattle.std.specs.List.{AllByRecursion}
use Rattle.mc_words.specs.model_device.specs.declared.cause.Cause.{Cause}
use Rattle.mc_words.specs.model_device.specs.Image.{Journal, One, Two, opening, shut_word, gate, is_open, Only, which, which_of, Look, Refused, Closed, Pending, look_j, look_at, look, image_with, After, Words, after, after_j, owed_j, image_after_replay, debt, look_by_gate, within, count, look_by_targets, look_by_head, targets}
use Rattle.mc_words.specs.model_device.specs.Stopped.{replay, remains, image_after_stop, Resumes}
use Rattle.mc_words.specs.model_device.specs.Card.{Card, card_of, means, word, words_after}
use Rattle.mc_words.specs.model_device.specs.Layout.{words_fault, fault, fault_of}
use Rattle.mc_words.specs.model_device.specs.PowerUp.{Base, OnCard, AtFault, base_of}
use Rattle.mc_words.specs.model_device.proofs.ImageLemmas.{all_append, length_laid, laid_other}
use Rattle.mc_words.specs.model_device.proofs.LookLemmas.{good_pending, gate_inside}
use Rattle.mc_words.specs.model_device.proofs.StoppedLemmas.{torn_other, shut_closed, targets_outside, closed_look}
use Rattle.mc_words.specs.model_device.proofs.RecoveryLemmas.{resume, resumed, look_one, look_two}
use Rattle.mc_store.specs.Power.{base_of_words, HoldsBase}
use Rattle.mc_store.proofs.HeapLemmas.{SameHeap, same_drop, same_fault, same_card}

-- the other journal
abbrev pub other : Journal → Journal
other One = Two
other Two = One

pub gates_apart : (j : Journal) → gate j ≢ gate (other j)
gates_apart One h = absurd (cc h)
gates_apart Two h = absurd (cc h)

-- ---- which journal is open

pub look_alone : (j : Journal) (m : List (List ℕ)) → is_open (other j) m ≡ false → look m ≡ look_j j m
look_alone One m h = look_one m h
look_alone Two m h = look_two m h

pub open_alone : (j : Journal) (m : List (List ℕ)) → is_open (other j) m ≡ false → is_open j m ≡ true → which m ≡ Only j
open_alone One m h o = ap (λ (b : Bool). which_of b (is_open One m)) h ∙ ap (λ (b : Bool). which_of false b) o
open_alone Two m h o = ap (λ (b : Bool). which_of b (is_open One m)) o ∙ ap (λ (b : Bool). which_of true b) h

pub closed_alone : (j : Journal) (m : List (List ℕ)) → is_open (other j) m ≡ false → is_open j m ≡ false → look m ≡ Closed
closed_alone j m h o = look_alone j m h ∙ closed_look j m o

-- if an image has no open journal, neither gate is open
pub record NoneOpen (m : List (List ℕ)) : Type 0 where
  pub one : is_open One m ≡ false
  pub two : is_open Two m ≡ false

-- the journal that is pending is the one that is open
pub record IsPending (m : List (List ℕ)) (j : Journal) (ps : List (ℕ × List ℕ)) : Type 0 where
  pub shut : is_open (other j) m ≡ false
  pub opens : is_open j m ≡ true
  pub look : look_j j m ≡ Pending j ps
  pub all : AllByRecursion (λ p. within (length m) p.0 ≡ true) ps
  pub few : length ps ≤ 64

pending_in : (i j : Journal) (m : List (List ℕ)) (ps : List (ℕ × List ℕ)) → is_open (other i) m ≡ false → look_j i m ≡ Pending j ps → IsPending m j ps
pending_in i j m ps h l = grind (arith, good_pending i j m ps l)

pending_by : (m : List (List ℕ)) (j : Journal) (ps : List (ℕ × List ℕ)) (t o : Bool) → is_open Two m ≡ t → is_open One m ≡ o → look_at m (which_of t o) ≡ Pending j ps → IsPending m j ps
pending_by m j ps true true ht ho l = absurd (cc l)
pending_by m j ps true false ht ho l = pending_in Two j m ps ho l
pending_by m j ps false true ht ho l = pending_in One j m ps ht l
pending_by m j ps false false ht ho l = absurd (cc l)

pub is_pending : (m : List (List ℕ)) (j : Journal) (ps : List (ℕ × List ℕ)) → look m ≡ Pending j ps → IsPending m j ps
is_pending m j ps l = pending_by m j ps (is_open Two m) (is_open One m) refl refl l

closed_not : (j : Journal) (m : List (List ℕ)) (b : Bool) → look_by_gate j m b ≡ Closed → b ≡ false
closed_not j m false h = refl
closed_not j m true h = headed_not j m (count m) h
  where
    aimed_not : (i : Journal) (n : List (List ℕ)) (r : Result (List ℕ) ℕ) → look_by_targets i n r ≡ Closed → true ≡ false
    aimed_not i n (Ok ts) e = absurd (cc e)
    aimed_not i n (Err p) e = absurd (cc e)

    headed_not : (i : Journal) (n : List (List ℕ)) (o : Option ℕ) → look_by_head i n o ≡ Closed → true ≡ false
    headed_not i n None e = absurd (cc e)
    headed_not i n (Some w) e = aimed_not i n (targets i n w) e

closed_by : (m : List (List ℕ)) (t o : Bool) → is_open Two m ≡ t → is_open One m ≡ o → look_at m (which_of t o) ≡ Closed → (o ≡ false) × (t ≡ false)
closed_by m true true ht ho l = absurd (cc l)
closed_by m true false ht ho l = (refl, sym ht ∙ closed_not Two m (is_open Two m) l)
closed_by m false true ht ho l = (sym ho ∙ closed_not One m (is_open One m) l, refl)
closed_by m false false ht ho l = (refl, refl)

pub none_open : (m : List (List ℕ)) → look m ≡ Closed → NoneOpen m
none_open m l = let c = closed_by m (is_open Two m) (is_open One m) refl refl l in record { one = c.0; two = c.1 }

-- ---- what an image is

-- what words with a closed journal are
abbrev pub base_in : Option (Cause × ℕ) → Card → Base
base_in None c = OnCard c
base_in (Some f) c = AtFault f.0 f.1

abbrev pub raw : List (List ℕ) → Base
raw w = base_in (words_fault w) (card_of w)

base_is : (o : Option (Cause × ℕ)) (m : List (List ℕ)) → base_of o m ≡ base_in o (means m)
base_is None m = refl
base_is (Some f) m = refl

found_is : (m w : List (List ℕ)) → fault m ≡ words_fault w → means m ≡ card_of w → base_of_words m ≡ raw w
found_is m w f c = base_is (fault m) m ∙ ap (λ (o : Option (Cause × ℕ)). base_in o (means m)) f ∙ ap (λ (k : Card). base_in (words_fault w) k) c

-- an image is what the words are that its replay leaves
fault_after : (m w : List (List ℕ)) (l : Look) → look m ≡ l → image_after_replay m l ≡ Words w → (fault_of l m ≡ words_fault w)
fault_after m w (Refused p) e h = absurd (cc h)
fault_after m w Closed e h = let same : m ≡ w = cc in ap words_fault same
fault_after m w (Pending j ps) e h = ap (λ (k : Look). words_fault (words_after (image_after_replay m k) m)) e ∙ ap (λ (x : After). words_fault (words_after x m)) h

pub found_after : (m w : List (List ℕ)) → after m ≡ Words w → base_of_words m ≡ raw w
found_after m w h = found_is m w (fault_after m w (look m) refl h) (ap (λ (x : After). card_of (words_after x m)) h)

-- words that agree but inside the journals
pub same_raw : (a b : List (List ℕ)) → length a ≡ length b → 131 ≤ length a → ((i : ℕ) → (i ≡ 0) ⊎ (131 ≤ i) → word a i ≡ word b i) → raw a ≡ raw b
same_raw a b size low h =
    let s : SameHeap a b = record { size = size; low = low; heap = same_drop a b 131 size (λ i high. h i (inr high)) } in
    let root : word a 0 ≡ word b 0 = h 0 (inl refl) in
    ap (λ (o : Option (Cause × ℕ)). base_in o (card_of a)) (same_fault a b s root) ∙ ap (λ (k : Card). base_in (words_fault b) k) (same_card a b s root)

owes_open : (j : Journal) (m : List (List ℕ)) (b : Bool) → is_open j m ≡ b → owed_j j m ≢ 0 → is_open j m ≡ true
owes_open j m true e h = e
owes_open j m false e h = absurd (h (ap debt (closed_look j m e)))

-- an image on which recovery still has to make writes of one journal, and whose replay leaves words like others but
-- inside it
pub stays : (j : Journal) (m a b : List (List ℕ)) (n : ℕ) → is_open (other j) m ≡ false → owed_j j m ≡ n → after_j j m ≡ Words a → raw a ≡ raw b → HoldsBase (raw b) n j m
stays j m a b n h o is same = grind (arith, look, look_alone, found_after, open_alone, owes_open)

-- ---- a recovery

module _ (m : List (List ℕ)) (j : Journal) (ps : List (ℕ × List ℕ)) (low : 256 ≤ length m) (p : IsPending m j ps) where
  others_gate : AllByRecursion (λ q. q.0 ≢ gate (other j)) (replay j ps)
  others_gate =
      all_append (λ q. q.0 ≢ gate (other j)) ps ((gate j, shut_word) ∷ [])
      (targets_outside (other j) (length m) ps (gate (other j)) p.all (gate_inside (other j))) (gates_apart j, tt)

  -- once it is done no journal is open
  pub recovered_closed : look (image_with m (replay j ps)) ≡ Closed
  recovered_closed =
      closed_alone j (image_with m (replay j ps))
      (ap (λ (x : List ℕ). bytes_eq x (opening (other j))) (laid_other m (replay j ps) (gate (other j)) others_gate) ∙ p.shut)
      (ap (λ (x : List ℕ). bytes_eq x (opening j)) (resumed j m ps low p.look) ∙ shut_closed j)

  -- stopped at write k, which left x, the image is what it was
  pub recovery_halted : (k : ℕ) (x : List ℕ) → 1 ≤ k → k ≤ length ps + 1 → HoldsBase (raw (image_with m (replay j ps))) (remains j (length ps) k x) j (image_after_stop m (replay j ps) k x)
  recovery_halted k x first last =
      let e = image_after_stop m (replay j ps) k x in
      let r : Resumes j e (remains j (length ps) k x) (image_with m (replay j ps)) = resume j m ps low p.look k x first last in
      let size : length r.after ≡ length (image_with m (replay j ps)) = r.same.size in
      let long : length (image_with m (replay j ps)) ≡ length m = length_laid m (replay j ps) in
      stays j e r.after (image_with m (replay j ps)) (remains j (length ps) k x)
      (ap (λ (y : List ℕ). bytes_eq y (opening (other j))) (torn_other m (replay j ps) k x (gate (other j)) others_gate) ∙ p.shut)
      r.owed r.is
      (same_raw r.after (image_with m (replay j ps)) size (omega (arith, size, long)) (λ i h. r.same.words i (not_gate j i h)))
    where
      not_gate : (g : Journal) (i : ℕ) → (i ≡ 0) ⊎ (131 ≤ i) → i ≢ gate g
      not_gate One i (inl z) e = absurd (omega (arith, z, e))
      not_gate One i (inr h) e = absurd (omega (arith, h, e))
      not_gate Two i (inl z) e = absurd (omega (arith, z, e))
      not_gate Two i (inr h) e = absurd (omega (arith, h, e))
