-- The steps of a power-up, one after another: the replay, the check, the migration.
use Rattle.std.proofs.Common.{arith, ◌≡◌, ℕ, ◌≤◌, true, List, [], ◌∷◌, ◌++◌, length, Option, None, Ok, Err, refl, sym, ◌∙◌, ap, subst, cond, append-nil}
use Rattle.std.specs.Prelude.{Result, IfOk, ◌==◌, slice_set}
use Rattle.mc_words.specs.model_device.specs.declared.cause.Cause.{Cause}
use Rattle.mc_words.specs.model_device.specs.Orders.{Answer}
use Rattle.mc_words.specs.model_device.specs.Device.{DeviceState, Wrote, Makes}
use Rattle.mc_words.specs.model_device.specs.Image.{Journal, One, Look, Closed, look, look_j, count_of_recovery_writes}
use Rattle.mc_words.specs.model_device.specs.Stopped.{writes, owed_writes, Recovered, LookAllows, RecoverEnds}
use Rattle.mc_words.specs.model_device.specs.Card.{means, word}
use Rattle.mc_words.specs.model_device.specs.Layout.{words_fault, fault, fault_of}
use Rattle.mc_words.specs.model_device.specs.PowerUp.{Base, base_of}
use Rattle.mc_words.specs.model_device.proofs.OrdersLemmas.{in_order_append, in_order_stopped}
use Rattle.mc_words.specs.model_device.proofs.DeviceLemmas.{DoneAll, makes_done}
use Rattle.mc_store.specs.declared.power.Up.{Up}
use Rattle.mc_store.specs.declared.power.Up.TheVariants as up
use Rattle.mc_store.specs.Store.{settled_words}
use Rattle.mc_store.specs.Power.{base_of_words, new_root, migration_writes, power_writes, Powered, power_answer, PowerFollows, RecoverFollows, FinishFollows, failure_end, recovery_end}
use Rattle.mc_store.proofs.JournalLemmas.{IsPending, is_pending, recovered_closed}
use Rattle.mc_store.proofs.PowerLemmas.{OwedSettles, settles}
use Rattle.mc_words.specs.model_device.proofs.LayoutLemmas.{closed_fault, closed_means}

-- ---- a replay that was done

ends_follow : (j : Journal) (l : Look) (d e : DeviceState) (n : ℕ) → RecoverEnds j l d (Recovered n) e → LookAllows l (Recovered n)
ends_follow j l d e n h = grind arith

follows_by : (m : List (List ℕ)) (n : ℕ) (l : Look) → 256 ≤ length m → look m ≡ l → LookAllows l (Recovered n) → (n ≡ count_of_recovery_writes m) × (look (settled_words m) ≡ Closed)
follows_by m n l low e f = grind (arith, IsPending, is_pending, recovered_closed)

-- the number of writes, and that no journal is open
pub replay_follows : (j : Journal) (d e : DeviceState) (n : ℕ) → 256 ≤ length d.words → look d.words ≡ look_j j d.words → RecoverEnds j (look_j j d.words) d (Recovered n) e → (n ≡ count_of_recovery_writes d.words) × (look (settled_words d.words) ≡ Closed)
replay_follows j d e n low alone r =
    let m = d.words in
    follows_by m n (look m) low refl (subst (λ (l : Look). LookAllows l (Recovered n)) (sym alone) (ends_follow j (look_j j m) d e n r))

-- ---- what is settled

settled_fault : (m : List (List ℕ)) (l : Look) → look m ≡ l → look (settled_words m) ≡ Closed → fault m ≡ words_fault (settled_words m)
settled_fault m l e closed = grind arith

same_fault_settled : (m : List (List ℕ)) → look (settled_words m) ≡ Closed → fault (settled_words m) ≡ fault m
same_fault_settled m closed = closed_fault (settled_words m) closed ∙ sym (settled_fault m (look m) refl closed)

same_means_settled : (m : List (List ℕ)) → look (settled_words m) ≡ Closed → means (settled_words m) ≡ means m
same_means_settled m closed = closed_means (settled_words m) closed

finish_by : (m : List (List ℕ)) (p : Powered) → 256 ≤ length m → look (settled_words m) ≡ Closed → FinishFollows (settled_words m) (count_of_recovery_writes m) p → PowerFollows m p
finish_by m p low closed f = grind (arith, same_fault_settled, settles, same_means_settled)

-- what comes after the writes of recovery follows from the whole
pub finish_follows : (m w : List (List ℕ)) (n : ℕ) (p : Powered) → 256 ≤ length m → w ≡ settled_words m → look w ≡ Closed → n ≡ count_of_recovery_writes m → FinishFollows w n p → PowerFollows m p
finish_follows m w n p low is closed same f = grind (arith, finish_by)

-- ---- the writes

-- the writes of the migration of a card
pub upgrade_writes : (m : List (List ℕ)) (v : ℕ) → fault m ≡ None → v ≡ (means m).layout → cond (v == 1) (writes One (new_root m)) [] ≡ migration_writes (base_of_words m) m
upgrade_writes m v h e =
    ap (λ (n : ℕ). cond (n == 1) (writes One (new_root m)) []) e ∙ sym (ap (λ (o : Option (Cause × ℕ)). migration_writes (base_of o m) m) h)

module _ {D : Type 0} (state : D → DeviceState) (wrote : D → ℕ → List ℕ → Answer → D → Type 0)
    (obeys : (d : D) (at : ℕ) (w : List ℕ) (a : Answer) (e : D) → (state d).on ≡ true → wrote d at w a e → Wrote (state d) at w a (state e)) where
  -- a recovery that was done leaves settled words, no journal open, and power on
  recovered_words : (d e : D) (r : Result ℕ Up) → 256 ≤ length (state d).words → (state d).on ≡ true → Makes wrote d (owed_writes (look (state d).words)) (power_answer (recovery_end r)) e
      → IfOk r (λ n. ((state e).words ≡ settled_words (state d).words) × ((state e).on ≡ true))
  recovered_words d e r low on made = grind (arith, DoneAll, makes_done, settles)

  ok_words : (d e : D) (r : Result ℕ Up) → IfOk r (λ n. ((state e).words ≡ settled_words (state d).words) × ((state e).on ≡ true)) → IfOk r (λ n. (state e).words ≡ settled_words (state d).words)
  ok_words d e (Ok n) h = h.0
  ok_words d e (Err u) h = tt

  ok_on : (d e : D) (r : Result ℕ Up) → IfOk r (λ n. ((state e).words ≡ settled_words (state d).words) × ((state e).on ≡ true)) → IfOk r (λ n. (state e).on ≡ true)
  ok_on d e (Ok n) h = h.1
  ok_on d e (Err u) h = tt

  ok_closed : (d e : D) (r : Result ℕ Up) → IfOk r (λ n. ((state e).words ≡ settled_words (state d).words) × ((state e).on ≡ true)) → RecoverFollows (state d).words (recovery_end r) → IfOk r (λ n. look (state e).words ≡ Closed)
  ok_closed d e (Ok n) h f = ap look h.0 ∙ f.1
  ok_closed d e (Err u) h f = tt

  pub recovered_settles : (d e : D) (r : Result ℕ Up) → 256 ≤ length (state d).words → (state d).on ≡ true → Makes wrote d (owed_writes (look (state d).words)) (power_answer (recovery_end r)) e → IfOk r (λ n. (state e).words ≡ settled_words (state d).words)
  recovered_settles d e r low on made = ok_words d e r (recovered_words d e r low on made)

  pub recovered_on : (d e : D) (r : Result ℕ Up) → 256 ≤ length (state d).words → (state d).on ≡ true → Makes wrote d (owed_writes (look (state d).words)) (power_answer (recovery_end r)) e → IfOk r (λ n. (state e).on ≡ true)
  recovered_on d e r low on made = ok_on d e r (recovered_words d e r low on made)

  pub recovered_shut : (d e : D) (r : Result ℕ Up) → 256 ≤ length (state d).words → (state d).on ≡ true → Makes wrote d (owed_writes (look (state d).words)) (power_answer (recovery_end r)) e → RecoverFollows (state d).words (recovery_end r) → IfOk r (λ n. look (state e).words ≡ Closed)
  recovered_shut d e r low on made f = ok_closed d e r (recovered_words d e r low on made) f

  -- the writes of recovery, and those after them
  pub whole_makes : (d e f : D) (p : Powered) → 256 ≤ length (state d).words → (state e).words ≡ settled_words (state d).words → Makes wrote d (owed_writes (look (state d).words)) (Ok tt) e
      → Makes wrote e (migration_writes (base_of_words (state e).words) (state e).words) (power_answer p) f → Makes wrote d (power_writes (state d).words) (power_answer p) f
  unfolding power_writes
  whole_makes d e f p low is first second =
      let m = (state d).words in
      let s : OwedSettles m = settles m low in
      let same : migration_writes (base_of_words (state e).words) (state e).words ≡ migration_writes (base_of_words m) (settled_words m) =
      ap (λ (w : List (List ℕ)). migration_writes (base_of_words w) w) is ∙ ap (λ (b : Base). migration_writes b (settled_words m)) s.found in
      in_order_append (λ x q a y. wrote x q.0 q.1 a y) (owed_writes (look m)) (migration_writes (base_of_words m) (settled_words m)) d e f (power_answer p) first
      (subst (λ (l : List (ℕ × List ℕ)). Makes wrote e l (power_answer p) f) same second)

  -- the writes of recovery alone, if they stopped or there is no more to do
  pub failed_makes : (d e : D) (u : Up) → Makes wrote d (owed_writes (look (state d).words)) (power_answer (failure_end u)) e → RecoverFollows (state d).words (failure_end u) → Makes wrote d (power_writes (state d).words) (power_answer (failure_end u)) e
  unfolding power_writes
  failed_makes d e (up.Stop s) made follows =
      let m = (state d).words in
      in_order_stopped (λ x q a y. wrote x q.0 q.1 a y) (owed_writes (look m)) (migration_writes (base_of_words m) (settled_words m)) d e s made
  failed_makes d e (up.Unusable u) made follows =
      let m = (state d).words in
      let none : migration_writes (base_of_words m) (settled_words m) ≡ [] = ap (λ (l : Look). migration_writes (base_of (fault_of l m) m) (settled_words m)) follows.1 in
      subst (λ (l : List (ℕ × List ℕ)). Makes wrote d l (Ok tt) e) (sym (ap (λ (l : List (ℕ × List ℕ)). owed_writes (look m) ++ l) none ∙ append-nil (owed_writes (look m)))) made

  -- the migration of a card of layout 1
  pub version_makes : (d e : D) (v : ℕ) (root : List ℕ) (a : Answer) → v ≡ 1 → root ≡ slice_set (word (state d).words 0) 3 2 → Makes wrote d (writes One ((0, root) ∷ [])) a e
      → Makes wrote d (cond (v == 1) (writes One (new_root (state d).words)) []) a e
  version_makes d e v root a one is made =
      subst (λ (n : ℕ). Makes wrote d (cond (n == 1) (writes One (new_root (state d).words)) []) a e) (sym one)
      (subst (λ (x : List ℕ). Makes wrote d (writes One ((0, x) ∷ [])) a e) is made)
