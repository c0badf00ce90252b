-- What a power-up on a device with a failing word leaves.
use Rattle.std.proofs.Common.{◌≡◌, ℕ, ◌+◌, ◌-◌, ◌≤◌, Bool, true, false, cond, List, [], ◌∷◌, ◌++◌, length, Option, Some, None, refl, sym, ap, subst, ◌∙◌, inl, inr, arith}
use Rattle.std.specs.Prelude.{◌==◌, bytes_eq}
use Rattle.std.proofs.lemmas.Bool.{cases_lt, lt-leb}
use Rattle.model_play.specs.model_device.specs.declared.cause.Cause.{Cause}
use Rattle.model_play.specs.model_device.specs.Card.{Card, means}
use Rattle.model_play.specs.model_device.specs.Image.{look, image_with, count_of_recovery_writes, opening, which, Journal, One}
use Rattle.model_play.specs.model_device.specs.Layout.{fault, IsWellLaid}
use Rattle.model_play.specs.model_device.specs.PowerUp.{Base, OnCard, AtFault, base_after_migration, base_of, pending_journal}
use Rattle.model_play.specs.model_device.specs.Stopped.{image_after_stop, owed_writes, remains, stands, writes}
use Rattle.model_play.specs.model_device.proofs.ImageLemmas.{length_laid}
use Rattle.model_play.specs.model_device.proofs.StoppedLemmas.{length_torn}
use Rattle.model_play.specs.Play.{Unarmed, Warm, StandsForBase, hit_of, power_moves, power_result, power_says}
use Rattle.mc_store.specs.Power.{base_of_words, migration_writes, new_root, power_count, power_writes, HoldsBase, IsHalted}
use Rattle.mc_store.specs.Store.{settled_words}
use Rattle.mc_store.proofs.PowerLemmas.{count_writes, done_base, fault_base, fault_writes, power_done, power_halted, settles}
use Rattle.mc_dead_word.specs.Powers.{after_power, after_powers, answer_by, failure_by, first_to, stops_at, words_by}
use Rattle.mc_dead_word.specs.Laws.{AnswerLaw, IsDevice, IsRead, IsSettled, OneCardLaw}

-- ---- the write that fails

-- a write among these, by its number
pub record IsAmong (k n count : ℕ) : Type 0 where
  pub low : k + 1 ≤ n
  pub high : n ≤ k + count

-- the first write to a word among some is one of them
pub first_among : (p k : ℕ) (ws : List (ℕ × List ℕ)) (n : ℕ) → first_to p k ws ≡ Some n → IsAmong k n (length ws)
first_among p k [] n h = absurd (cc h)
first_among p k (w ∷ ws) n h = by (w.0 == p) h (λ e. first_among p (k + 1) ws n e)
  where
    by : (b : Bool) → cond b (Some (k + 1)) (first_to p (k + 1) ws) ≡ Some n → (first_to p (k + 1) ws ≡ Some n → IsAmong (k + 1) n (length ws)) → IsAmong k n (length (w ∷ ws))
    by true e later = let same : k + 1 ≡ n = cc e in record { low = omega (arith, same); high = omega (arith, same) }
    by false e later =
        let rest : IsAmong (k + 1) n (length ws) = later e in
        let low = rest.low in
        let high = rest.high in
        record { low = omega (arith, low); high = omega (arith, high) }

-- ---- what is left

twice : (b : Base) → base_after_migration (base_after_migration b) ≡ base_after_migration b
twice (OnCard c) = refl
twice (AtFault cause p) = refl

either : (t : Bool) (b : Base) → base_after_migration (cond t (base_after_migration b) b) ≡ base_after_migration b
either true b = twice b
either false b = refl

module _ (m : List (List ℕ)) (device : IsDevice m) where
  whole_base : (o : Option (Cause × ℕ)) → fault m ≡ o → base_after_migration (base_of_words (image_with m (power_writes m))) ≡ base_after_migration (base_of_words m)
  whole_base None f =
      let n = image_with m (power_writes m) in
      ap base_after_migration (done_base m device.low device.high f n (power_done m device.low device.high f)).base ∙ twice (base_of_words m)
  whole_base (Some f) e =
      ap (λ (n : List (List ℕ)). base_after_migration (base_of_words n)) (fault_writes m device.low device.high f e) ∙ ap base_after_migration (fault_base m device.low device.high).base

  stopped_base : (k : ℕ) (x : List ℕ) → IsHalted m k x (image_after_stop m (power_writes m) k x) → base_after_migration (base_of_words (image_after_stop m (power_writes m) k x)) ≡ base_after_migration (base_of_words m)
  stopped_base k x h = elim (cases_lt (count_of_recovery_writes m) k) [
    | inr early ↦ ap base_after_migration (h.0 early).base
    | inl late ↦ ap base_after_migration (h.1 late).base ∙ either (stands One 1 (k - count_of_recovery_writes m) x) (base_of_words m)
  ]

  -- a power-up that stops at a write leaves its image there
  pub halted_at : (p k : ℕ) (x : List ℕ) → stops_at p m ≡ Some k → IsHalted m k x (image_after_stop m (power_writes m) k x)
  halted_at p k x h =
      let among : IsAmong 0 k (length (power_writes m)) = first_among p 0 (power_writes m) k h in
      let low = among.low in
      let high = among.high in
      let count : length (power_writes m) ≡ power_count m = count_writes m device.low device.high in
      power_halted m device.low device.high k x (omega (arith, low)) (omega (arith, high, count))

  base_by : (p : ℕ) (x : List ℕ) (o : Option ℕ) → stops_at p m ≡ o → base_after_migration (base_of_words (words_by o m (power_writes m) x)) ≡ base_after_migration (base_of_words m)
  base_by p x None h = whole_base (fault m) refl
  base_by p x (Some k) h = stopped_base k x (halted_at p k x h)

  -- what a power-up leaves means the same card
  pub power_base : (p : ℕ) (x : List ℕ) → base_after_migration (base_of_words (after_power p x m)) ≡ base_after_migration (base_of_words m)
  power_base p x = base_by p x (stops_at p m) refl

  size_by : (o : Option ℕ) (x : List ℕ) → length (words_by o m (power_writes m) x) ≡ length m
  size_by None x = length_laid m (power_writes m)
  size_by (Some k) x = length_torn m (power_writes m) k x

  -- it leaves a device
  pub device_after : (p : ℕ) (x : List ℕ) → IsDevice (after_power p x m)
  device_after p x = grind (arith, size_by (stops_at p m) x, device.low, device.high)

-- so do several in a row
pub one_card_from : (p : ℕ) (xs m : List (List ℕ)) → IsDevice m → base_after_migration (base_of_words (after_powers p xs m)) ≡ base_after_migration (base_of_words m)
one_card_from p [] m device = refl
one_card_from p (x ∷ xs) m device = one_card_from p xs (after_power p x m) (device_after m device p x) ∙ power_base m device p x

-- every power-up leaves one card, wherever it stops
pub one_card_law : OneCardLaw
one_card_law m device p xs = one_card_from p xs m device

-- ---- settled cards

no_writes : (A : Type 0) (l : List A) → length l ≡ 0 → l ≡ []
no_writes A [] h = refl
no_writes A (x ∷ xs) h = absurd (omega (arith, h))

sound_base : (m : List (List ℕ)) (o : Option (Cause × ℕ)) → o ≡ None → base_of o m ≡ OnCard (means m)
sound_base m o h = ap (λ (q : Option (Cause × ℕ)). base_of q m) h

two_layouts : (n : ℕ) → n ≡ 2 → (n == 1) ≡ false
two_layouts n h = ap (λ (k : ℕ). k == 1) h

-- a settled card needs no write when power comes
pub settled_writes : (m : List (List ℕ)) → IsDevice m → IsSettled m → power_writes m ≡ []
unfolding power_writes
settled_writes m device h =
    let count : length (owed_writes (look m)) ≡ 0 = (settles m device.low).count ∙ h.nothing_left in
    let none : owed_writes (look m) ≡ [] = no_writes (ℕ × List ℕ) (owed_writes (look m)) count in
    let base : base_of_words m ≡ OnCard (means m) = sound_base m (fault m) h.sound in
    let new : ((means m).layout == 1) ≡ false = two_layouts (means m).layout h.layout in
    ap (λ (ws : List (ℕ × List ℕ)). ws ++ migration_writes (base_of_words m) (settled_words m)) none
    ∙ ap (λ (b : Base). migration_writes b (settled_words m)) base
    ∙ ap (λ (t : Bool). cond t (writes One (new_root (settled_words m))) []) new

-- a settled card is read
pub settled_read : (m : List (List ℕ)) → IsDevice m → IsSettled m → IsRead m
settled_read m device h = grind (arith, settled_writes, count_writes)

-- what words are whose base is a card
fault_in : (m : List (List ℕ)) (c : Card) (o : Option (Cause × ℕ)) → base_of o m ≡ OnCard c → o ≡ None
fault_in m c None h = refl
fault_in m c (Some f) h = absurd (cc h)

card_by : (m : List (List ℕ)) (c : Card) (o : Option (Cause × ℕ)) → base_of o m ≡ OnCard c → means m ≡ c
card_by m c None h = cc h
card_by m c (Some f) h = absurd (cc h)

settled_whole : (m : List (List ℕ)) → IsDevice m → IsWellLaid m → IsSettled (image_with m (power_writes m))
settled_whole m device f =
    let n = image_with m (power_writes m) in
    let holds : HoldsBase (base_after_migration (base_of_words m)) 0 One n = done_base m device.low device.high f n (power_done m device.low device.high f) in
    let base : base_of_words n ≡ OnCard (record (means m) { layout = 2 }) = holds.base ∙ ap base_after_migration (sound_base m (fault m) f) in
    record {
      sound = fault_in n (record (means m) { layout = 2 }) (fault n) base;
      layout = ap (λ (c : Card). c.layout) (card_by n (record (means m) { layout = 2 }) (fault n) base);
      nothing_left = holds.owed;
    }

-- a power-up that stops nowhere leaves a settled card, if it is well laid
pub settled_after : (m : List (List ℕ)) → IsDevice m → (p : ℕ) (x : List ℕ) → IsWellLaid m → stops_at p m ≡ None → IsSettled (after_power p x m)
settled_after m device p x f h = subst (λ (o : Option ℕ). IsSettled (words_by o m (power_writes m) x)) (sym h) (settled_whole m device f)

-- the gate was written last, and is left shut
gate_left : (j : Journal) (n : ℕ) (x : List ℕ) → 1 ≤ n → bytes_eq x (opening j) ≡ false → remains j (n - 1) n x ≡ 0
gate_left j n x low shut = grind (arith, lt-leb)

settled_gate : (m : List (List ℕ)) → IsDevice m → (p k : ℕ) (x : List ℕ) → IsWellLaid m → (means m).layout ≡ 2 → k ≡ count_of_recovery_writes m → stops_at p m ≡ Some k → bytes_eq x (opening (pending_journal (which m))) ≡ false
    → IsSettled (image_after_stop m (power_writes m) k x)
settled_gate m device p k x f layout last h shut =
    let n = image_after_stop m (power_writes m) k x in
    let j = pending_journal (which m) in
    let low : 1 ≤ k = (first_among p 0 (power_writes m) k h).low in
    let holds : HoldsBase (base_of_words m) (remains (pending_journal (which m)) (count_of_recovery_writes m - 1) k x) (pending_journal (which m)) n = (halted_at m device p k x h).0 (omega (arith, last)) in
    let base : base_of_words n ≡ OnCard (means m) = holds.base ∙ sound_base m (fault m) f in
    record {
      sound = fault_in n (means m) (fault n) base;
      layout = ap (λ (c : Card). c.layout) (card_by n (means m) (fault n) base) ∙ layout;
      nothing_left = holds.owed ∙ ap (λ (i : ℕ). remains j (i - 1) k x) (sym last) ∙ gate_left j k x low shut;
    }

-- so does one that stops as it shuts the gate, if what it leaves opens no journal
pub settled_shut : (m : List (List ℕ)) → IsDevice m → (p : ℕ) (x : List ℕ) → IsWellLaid m → (means m).layout ≡ 2 → stops_at p m ≡ Some (count_of_recovery_writes m) → bytes_eq x (opening (pending_journal (which m))) ≡ false
    → IsSettled (after_power p x m)
settled_shut m device p x f layout h shut =
    subst (λ (o : Option ℕ). IsSettled (words_by o m (power_writes m) x)) (sym h) (settled_gate m device p (count_of_recovery_writes m) x f layout refl h shut)

-- ---- what a power line answers

count_held : (m : List (List ℕ)) (b : Base) (s : Warm) → s.base ≡ b → StandsForBase m b s → power_moves s ≡ power_count m
count_held m b s e h = grind (arith, sound_base)

base_held : (m : List (List ℕ)) (b : Base) (s : Warm) → StandsForBase m b s → base_of_words m ≡ b
base_held m (OnCard c) s h = sound_base m (fault m) h.sound ∙ ap OnCard h.meaning
base_held m (AtFault cause p) s h = ap (λ (o : Option (Cause × ℕ)). base_of o m) h.unsound

answer_from : (m : List (List ℕ)) (s : Warm) (o : Option ℕ) (x : List ℕ) → StandsForBase m s.base s → power_says s (hit_of Unarmed (power_moves s) (failure_by o x)) ≡ answer_by o m
answer_from m s None x h = ap (λ (n : ℕ). power_result n s.base) (count_held m s.base s refl h) ∙ ap (λ (b : Base). power_result (power_count m) b) (sym (base_held m s.base s h))
answer_from m s (Some k) x h = refl

-- a power line answers 6581 if it writes the failing word, and else as if none failed
pub answer_law : AnswerLaw
answer_law m s h p x = answer_from m s (stops_at p m) x h
