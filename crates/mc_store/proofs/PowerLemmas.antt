-- A power-up: what its writes leave, done or stopped at any of them.
use Rattle.std.proofs.Common.{◌≡◌, ℕ, ◌+◌, ◌-◌, ◌≤◌, Bool, true, false, List, [], ◌++◌, length, Option, Some, None, refl, sym, ◌∙◌, ap, subst, arith, cond, inl, inr, length-append}
use Rattle.std.specs.Prelude.{◌⊎◌, ◌==◌}
use Rattle.std.proofs.lemmas.Bool.{eqb-true, eq-eqb, ne_eqb}
use Rattle.mc_words.specs.model_device.specs.declared.cause.Cause.{Cause}
use Rattle.mc_words.specs.model_device.specs.Orders.{Answer}
use Rattle.mc_words.specs.model_device.specs.Device.{DeviceState, IsSized, Wrote, Makes}
use Rattle.mc_words.specs.model_device.specs.Image.{Journal, One, which, Look, Refused, Closed, Pending, look, image_with, Words, After, after, image_after_replay, count_of_recovery_writes, debt}
use Rattle.mc_words.specs.model_device.specs.Stopped.{writes, replay, owed_writes, image_after_stop, image_if_written, stands, owes, remains}
use Rattle.mc_words.specs.model_device.specs.Card.{Card, card_of, means, words_after}
use Rattle.mc_words.specs.model_device.specs.Layout.{words_fault, fault, fault_of}
use Rattle.mc_words.specs.model_device.specs.PowerUp.{Base, OnCard, AtFault, base_of, migration, base_after_migration, pending_journal}
use Rattle.mc_words.specs.model_device.proofs.ImageLemmas.{length_laid, laid_append}
use Rattle.mc_words.specs.model_device.proofs.StoppedLemmas.{torn_within, torn_past}
use Rattle.mc_words.specs.model_device.proofs.DeviceLemmas.{DoneAll, StoppedAt, makes_done, makes_stopped}
use Rattle.mc_store.specs.Store.{settled_words}
use Rattle.mc_store.specs.Power.{base_of_words, new_root, migration_writes, power_writes, power_count, HoldsBase, IsHalted, Powered, Runs, Halts, Fails, PowersUp, power_answer, PowerFollows}
use Rattle.mc_store.specs.GoingLaws.{is_going_of, closed_settled}
use Rattle.mc_store.proofs.HeapLemmas.{same_fault, same_card}
use Rattle.mc_store.proofs.JournalLemmas.{IsPending, is_pending, NoneOpen, none_open, open_alone, base_in, raw, found_after, recovered_closed, recovery_halted}
use Rattle.mc_store.proofs.MigrationLemmas.{version_is, upgrade, IsUpgraded, is_upgraded, migration_halted, migration_closed, migration_heap, migration_root}
use Rattle.mc_words.specs.model_device.proofs.LayoutLemmas.{closed_means}

-- ---- after the writes of recovery

-- words that are a card once they are settled
pub record IsCardOnceSettled (m : List (List ℕ)) : Type 0 where
  pub closed : look (settled_words m) ≡ Closed
  pub fault : words_fault (settled_words m) ≡ None
  pub card : means m ≡ card_of (settled_words m)

-- what the writes of recovery on an image leave
pub record OwedSettles (m : List (List ℕ)) : Type 0 where
  pub laid : image_with m (owed_writes (look m)) ≡ settled_words m
  pub count : length (owed_writes (look m)) ≡ count_of_recovery_writes m
  pub size : length (settled_words m) ≡ length m
  pub owes : count_of_recovery_writes (settled_words m) ≡ 0
  pub found : base_of_words (settled_words m) ≡ base_of_words m
  pub card : fault m ≡ None → IsCardOnceSettled m

pub closed_words : (m : List (List ℕ)) → look m ≡ Closed → after m ≡ Words m
closed_words m h = ap (λ (l : Look). image_after_replay m l) h

module _ (m : List (List ℕ)) (low : 256 ≤ length m) where
  settles_refused : (p : ℕ) → look m ≡ Refused p → OwedSettles m
  settles_refused p h = grind (arith, ap (λ (l : Look). words_after (image_after_replay m l) m) h)

  settles_closed : look m ≡ Closed → OwedSettles m
  settles_closed h = grind (arith, closed_settled m h)

  settles_pending : (j : Journal) (ps : List (ℕ × List ℕ)) → look m ≡ Pending j ps → OwedSettles m
  settles_pending j ps h =
      let p : IsPending m j ps = is_pending m j ps h in
      let w = image_with m (replay j ps) in
      let all : after m ≡ Words w = ap (λ (l : Look). image_after_replay m l) h in
      let same : settled_words m ≡ w = ap (λ (x : After). words_after x m) all in
      let closed : look w ≡ Closed = recovered_closed m j ps low p in
      record {
        laid = ap (λ (l : Look). image_with m (owed_writes l)) h ∙ sym same;
        count = ap (λ (l : Look). length (owed_writes l)) h ∙ length-append ps _ ∙ sym (ap debt h);
        size = ap length same ∙ length_laid m (replay j ps);
        owes = ap count_of_recovery_writes same ∙ ap debt closed;
        found = ap base_of_words same ∙ found_after w w (closed_words w closed) ∙ sym (found_after m w all);
        card = λ f. record { closed = ap look same ∙ closed; fault = fault_pending h f; card = refl };
      }
    where
      fault_pending : look m ≡ Pending j ps → fault m ≡ None → words_fault (settled_words m) ≡ None
      fault_pending e f = sym (ap (λ (l : Look). fault_of l m) e) ∙ f

  settles_by : (l : Look) → look m ≡ l → OwedSettles m
  settles_by l h = grind (arith, settles_refused, settles_closed, settles_pending)

  pub settles : OwedSettles m
  settles = settles_by (look m) refl

  -- a stop in the writes of recovery
  halted_by : (l : Look) → look m ≡ l → (k : ℕ) (x : List ℕ) → 1 ≤ k → k ≤ count_of_recovery_writes m
      → HoldsBase (base_of_words m) (remains (pending_journal (which m)) (count_of_recovery_writes m - 1) k x) (pending_journal (which m)) (image_after_stop m (owed_writes (look m)) k x)
  halted_by (Refused p) h k x first last = let none : count_of_recovery_writes m ≡ 0 = ap debt h in absurd (omega (arith, none))
  halted_by Closed h k x first last = let none : count_of_recovery_writes m ≡ 0 = ap debt h in absurd (omega (arith, none))
  halted_by (Pending j ps) h k x first last =
      grind (arith, is_pending m j ps h, image_with m (replay j ps), ap debt h, ap (λ (l : Look). image_after_replay m l) h, ap pending_journal (open_alone j m (is_pending m j ps h).shut (is_pending m j ps h).opens), recovery_halted m j ps low (is_pending m j ps h) k x first (omega (arith, (ap debt h))))

  pub recovery_part : (k : ℕ) (x : List ℕ) → 1 ≤ k → k ≤ count_of_recovery_writes m → HoldsBase (base_of_words m) (remains (pending_journal (which m)) (count_of_recovery_writes m - 1) k x) (pending_journal (which m)) (image_after_stop m (owed_writes (look m)) k x)
  recovery_part k x first last = halted_by (look m) refl k x first last

-- ---- the migration

-- what is a card has no fault
card_by : (o : Option (Cause × ℕ)) (m : List (List ℕ)) (c : Card) → fault m ≡ o → base_of o m ≡ OnCard c → (fault m ≡ None) × (means m ≡ c)
card_by None m c e h = (e, cc h)
card_by (Some f) m c e h = absurd (cc h)

card_is : (m : List (List ℕ)) (c : Card) → base_of_words m ≡ OnCard c → (fault m ≡ None) × (means m ≡ c)
card_is m c h = card_by (fault m) m c refl h

none_is_card : (m : List (List ℕ)) → fault m ≡ None → base_of_words m ≡ OnCard (means m)
none_is_card m h = ap (λ (o : Option (Cause × ℕ)). base_of o m) h

pub raw_card : (w : List (List ℕ)) (c : Card) → words_fault w ≡ None → card_of w ≡ c → raw w ≡ OnCard c
raw_card w c f e = ap (λ (o : Option (Cause × ℕ)). base_in o (card_of w)) f ∙ ap OnCard e

module _ (m : List (List ℕ)) (low : 256 ≤ length m) (high : length m ≤ 16384) where
  -- a stop in the migration of a card of layout 1
  stood_base : (c : Card) (b : Bool) → base_of_words m ≡ OnCard c → IsCardOnceSettled m → means m ≡ c → c.layout ≡ 1 → raw (image_if_written b (settled_words m) (new_root (settled_words m))) ≡ cond b (base_after_migration (base_of_words m)) (base_of_words m)
  stood_base c false h k e one = raw_card (settled_words m) c k.fault (sym k.card ∙ e) ∙ sym h
  stood_base c true h k e one =
      grind (arith, settled_words m, sym k.card ∙ e, (settles m low).size, is_upgraded (settled_words m) (omega (arith, ((settles m low).size))) k.fault (ap (λ (x : Card). x.layout) (sym k.card ∙ e) ∙ one))

  migration_part : (b : Base) (k : ℕ) (x : List ℕ) → base_of_words m ≡ b → 1 ≤ k → k ≤ migration b
      → HoldsBase (cond (stands One 1 k x) (base_after_migration (base_of_words m)) (base_of_words m)) (owes One 1 k x) One (image_after_stop (settled_words m) (migration_writes b (settled_words m)) k x)
  migration_part (AtFault f p) k x h first last = absurd (omega arith)
  migration_part (OnCard c) k x h first last = by_layout (c.layout == 1) refl last
    where
      by_layout : (t : Bool) → (c.layout == 1) ≡ t → k ≤ cond t 6 0
          → HoldsBase (cond (stands One 1 k x) (base_after_migration (base_of_words m)) (base_of_words m)) (owes One 1 k x) One (image_after_stop (settled_words m) (cond t (writes One (new_root (settled_words m))) []) k x)
      by_layout false e few = absurd (omega arith)
      by_layout true e few =
          let w = settled_words m in
          let card = card_is m c h in
          let s : OwedSettles m = settles m low in
          let is : IsCardOnceSettled m = s.card card.0 in
          let size : length w ≡ length m = s.size in
          let gates : NoneOpen w = none_open w is.closed in
          let one : c.layout ≡ 1 = eqb-true c.layout 1 e in
          subst (λ (b : Base). HoldsBase b (owes One 1 k x) One (image_after_stop w (writes One (new_root w)) k x)) (stood_base c (stands One 1 k x) h is card.1 one)
          (migration_halted w (omega (arith, size)) (omega (arith, size)) gates.one gates.two k x first few)

  -- ---- the whole

  length_migrating : (b : Base) (w : List (List ℕ)) → length (migration_writes b w) ≡ migration b
  length_migrating b w = grind arith

  pub count_writes : length (power_writes m) ≡ power_count m
  unfolding power_writes
  count_writes =
      length-append (owed_writes (look m)) (migration_writes (base_of_words m) (settled_words m))
      ∙ ap (λ (n : ℕ). n + length (migration_writes (base_of_words m) (settled_words m))) (settles m low).count
      ∙ ap (λ (n : ℕ). count_of_recovery_writes m + n) (length_migrating (base_of_words m) (settled_words m))

  -- stopped at any write, whatever word that left, the image is as in its definition
  pub power_halted : (k : ℕ) (x : List ℕ) → 1 ≤ k → k ≤ power_count m → IsHalted m k x (image_after_stop m (power_writes m) k x)
  unfolding power_writes
  power_halted k x first last =
      let s : OwedSettles m = settles m low in
      let a = owed_writes (look m) in
      let b = migration_writes (base_of_words m) (settled_words m) in
      let many : length a ≡ count_of_recovery_writes m = s.count in (
        λ early.
            subst (λ (n : List (List ℕ)). HoldsBase (base_of_words m) (remains (pending_journal (which m)) (count_of_recovery_writes m - 1) k x) (pending_journal (which m)) n) (sym (torn_within m a b k x first (omega (arith, many, early))))
            (recovery_part m low k x first early),
        λ late.
            let j = k - count_of_recovery_writes m in
            let e : image_after_stop m (a ++ b) k x ≡ image_after_stop (settled_words m) b j x = torn_past m a b k j x (omega (arith, late)) (omega (arith, many, late)) ∙ ap (λ (n : List (List ℕ)). image_after_stop n b j x) s.laid in
            subst (λ (n : List (List ℕ)). HoldsBase (cond (stands One 1 j x) (base_after_migration (base_of_words m)) (base_of_words m)) (owes One 1 j x) One n) (sym e)
            (migration_part (base_of_words m) j x refl (omega (arith, late)) (omega (arith, late, last))),
      )

  -- done, the words of a card are those of a card of layout 2 that runs
  pub record IsPoweredUp (n : List (List ℕ)) : Type 0 where
    pub closed : look n ≡ Closed
    pub fault : words_fault n ≡ None
    pub card : card_of n ≡ record (means m) { layout = 2 }

  done_by : IsCardOnceSettled m → ((card_of (settled_words m)).layout ≡ 1) ⊎ ((card_of (settled_words m)).layout ≡ 2) → IsPoweredUp (image_with (settled_words m) (cond ((means m).layout == 1) (writes One (new_root (settled_words m))) []))
  done_by k (inl old) =
      let w = settled_words m in
      let s : OwedSettles m = settles m low in
      let size : length w ≡ length m = s.size in
      let gates : NoneOpen w = none_open w k.closed in
      let lo : 256 ≤ length w = omega (arith, size) in
      let hi : length w ≤ 16384 = omega (arith, size) in
      let n = image_with w (writes One (new_root w)) in
      let u : IsUpgraded w = is_upgraded w lo k.fault old in
      let heap = migration_heap w lo hi gates.one gates.two in
      let root = migration_root w lo hi gates.one gates.two in
      let test : ((means m).layout == 1) ≡ true = eq-eqb (means m).layout 1 (ap (λ (x : Card). x.layout) k.card ∙ old) in
      subst (λ (t : Bool). IsPoweredUp (image_with w (cond t (writes One (new_root w)) []))) (sym test)
      (record {
        closed = migration_closed w lo hi gates.one gates.two;
        fault = same_fault n (upgrade w) heap root ∙ u.fault;
        card = same_card n (upgrade w) heap root ∙ u.card ∙ ap (λ (x : Card). record x { layout = 2 }) (sym k.card);
      })
  done_by k (inr new) =
      grind (arith, settled_words m, ap (λ (x : Card). x.layout) k.card ∙ new, ne_eqb (means m).layout 1 (λ e. absurd (omega (arith, e, (ap (λ (x : Card). x.layout) k.card ∙ new)))))

  laid_all : image_with m (power_writes m) ≡ image_with (settled_words m) (migration_writes (base_of_words m) (settled_words m))
  unfolding power_writes
  laid_all = laid_append m (owed_writes (look m)) (migration_writes (base_of_words m) (settled_words m)) ∙ ap (λ (n : List (List ℕ)). image_with n (migration_writes (base_of_words m) (settled_words m))) (settles m low).laid

  pub power_done : fault m ≡ None → IsPoweredUp (image_with m (power_writes m))
  power_done f =
      let k : IsCardOnceSettled m = (settles m low).card f in
      subst (λ (n : List (List ℕ)). IsPoweredUp n) (sym (laid_all ∙ ap (λ (b : Base). image_with (settled_words m) (migration_writes b (settled_words m))) (none_is_card m f)))
      (done_by k (version_is (settled_words m) k.fault))

  pub done_base : fault m ≡ None → (n : List (List ℕ)) → IsPoweredUp n → HoldsBase (base_after_migration (base_of_words m)) 0 One n
  done_base f n d = grind (arith, found_after, closed_words, raw_card, none_is_card)

  pub fault_writes : (f : Cause × ℕ) → fault m ≡ Some f → image_with m (power_writes m) ≡ settled_words m
  fault_writes f h = laid_all ∙ ap (λ (o : Option (Cause × ℕ)). image_with (settled_words m) (migration_writes (base_of o m) (settled_words m))) h

  pub fault_base : HoldsBase (base_of_words m) 0 One (settled_words m)
  fault_base = let s : OwedSettles m = settles m low in record { base = s.found; owed = s.owes; by = λ ne. absurd (ne refl) }

-- ---- on a device

module _ {D : Type 0} (state : D → DeviceState) (wrote : D → ℕ → List ℕ → Answer → D → Type 0)
    (obeys : (d : D) (at : ℕ) (w : List ℕ) (a : Answer) (e : D) → (state d).on ≡ true → wrote d at w a e → Wrote (state d) at w a (state e)) where
  -- a power-up that makes its writes ends as in its definition
  pub power_ends : (d e : D) (p : Powered) → IsSized (state d).words → (state d).on ≡ true → Makes wrote d (power_writes (state d).words) (power_answer p) e → PowerFollows (state d).words p → PowersUp (state d) p (state e)
  power_ends d e (Runs number count) image on made follows =
      let card = follows.0 in
      let writes = follows.1 in
      let apps = follows.2 in
      let m = (state d).words in
      let all : DoneAll (state d) (power_writes m) (state e) = makes_done state wrote obeys (power_writes m) d e on made in
      let is : IsPoweredUp m image.low image.high (state e).words = subst (λ (n : List (List ℕ)). IsPoweredUp m image.low image.high n) (sym all.words) (power_done m image.low image.high card) in
      record {
        card = card;
        number = writes;
        means = closed_means (state e).words is.closed ∙ is.card;
        going = is_going_of (state e) count (record {
          on = all.power;
          closed = is.closed;
          laid = is.fault;
          layout = ap (λ (x : Card). x.layout) is.card;
          count = apps ∙ sym (ap (λ (x : Card). length x.apps) is.card);
        });
        base = done_base m image.low image.high card (state e).words is;
        ended = (all.power, all.cuts, all.faults);
        tape = all.tape;
      }
  power_ends d e (Halts s) image on made follows =
      let m = (state d).words in
      let all : StoppedAt (state d) (power_writes m) s (state e) = makes_stopped state wrote obeys (power_writes m) d e s on made in
      let few : all.k ≤ power_count m = subst (λ (n : ℕ). all.k ≤ n) (count_writes m image.low image.high) all.high in
      record {
        k = all.k;
        x = all.x;
        low = all.low;
        high = few;
        size = all.size;
        words = all.words;
        halted = subst (λ (n : List (List ℕ)). IsHalted m all.k all.x n) (sym all.words) (power_halted m image.low image.high all.k all.x all.low few);
        ended = all.ended;
        tape = all.tape;
      }
  power_ends d e (Fails cause place) image on made follows =
      let m = (state d).words in
      let all : DoneAll (state d) (power_writes m) (state e) = makes_done state wrote obeys (power_writes m) d e on made in
      let words : (state e).words ≡ settled_words m = all.words ∙ fault_writes m image.low image.high (cause, place) follows in
      record {
        fault = follows;
        words = words;
        base = subst (λ (n : List (List ℕ)). HoldsBase (base_of_words m) 0 One n) (sym words) (fault_base m image.low image.high);
        ended = (all.power, all.cuts, all.faults);
        tape = all.tape;
      }
