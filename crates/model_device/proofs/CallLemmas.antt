-- The calls of a journal, from the list of device writes that each makes.
use Rattle.std.proofs.Common.{◌≡◌, ℕ, ◌+◌, ◌≤◌, true, false, List, [], ◌∷◌, length, Ok, Err, sym, ◌∙◌, ap, subst, arith, length-append}
use Rattle.model_device.specs.declared.device.Stop.{Stop}
use Rattle.model_device.specs.Orders.{Answer}
use Rattle.model_device.specs.Device.{DeviceState, Wrote, Makes}
use Rattle.model_device.specs.Image.{Journal, gate, shut_word, word_at, is_open, image_with, Look, Pending, look_j, image_after_replay, Words}
use Rattle.model_device.specs.Stopped.{cost, entries, writes, replay, IsAtomic, LaidWhole, LeavesOwing, Resumes, remains, owes, image_if_written, stands, WriteEnds, RecoveryOutcome, LookAllows, outcome_answer, owed_writes, ReplayDone, ReplayTorn, RecoverEnds}
use Rattle.model_device.proofs.DeviceLemmas.{DoneAll, StoppedAt, makes_done, makes_stopped}
use Rattle.model_device.proofs.GeometryLemmas.{Geometry, geometry}
use Rattle.model_device.proofs.LookLemmas.{GoodPending, good_pending}
use Rattle.model_device.proofs.StoppedLemmas.{tear, done}
use Rattle.model_device.proofs.RecoveryLemmas.{resume, resumed}

-- the number of device writes
pub length_writes : (j : Journal) (size : ℕ) (list : List (ℕ × List ℕ)) → size ≤ 16384 → IsAtomic size list → length (writes j list) ≡ cost j (length list)
length_writes j size list high atomic =
    let geo : Geometry j size list = geometry j size list high atomic in
    let e : length (writes j list) ≡ length (entries j list) + (length list + 3) =
    length-append (entries j list) _ ∙ ap (λ (n : ℕ). length (entries j list) + n) (let f = length-append list ((gate j, shut_word) ∷ []) in omega (arith, f)) in
    omega (arith, e, geo.costs)

module _ {D : Type 0} (state : D → DeviceState) (wrote : D → ℕ → List ℕ → Answer → D → Type 0)
    (obeys : (d : D) (at : ℕ) (w : List ℕ) (a : Answer) (e : D) → (state d).on ≡ true → wrote d at w a e → Wrote (state d) at w a (state e)) where
  -- an atomic write that makes its list of device writes
  pub write_ends : (j : Journal) (list : List (ℕ × List ℕ)) (d e : D) (a : Answer) → 256 ≤ length (state d).words → length (state d).words ≤ 16384 → (state d).on ≡ true
      → IsAtomic (length (state d).words) list → is_open j (state d).words ≡ false → Makes wrote d (writes j list) a e → WriteEnds j (state d) list a (state e)
  write_ends j list d e (Ok tt) low high on atomic closed made =
      let all : DoneAll (state d) (writes j list) (state e) = makes_done state wrote obeys (writes j list) d e on made in
      record {
        stands = subst (λ (n : List (List ℕ)). LaidWhole j (state d).words list n) (sym all.words) (done j (state d).words list low high atomic closed);
        ended = (all.power, all.cuts, all.faults);
        tape = all.tape;
      }
  write_ends j list d e (Err s) low high on atomic closed made =
      let all : StoppedAt (state d) (writes j list) s (state e) = makes_stopped state wrote obeys (writes j list) d e s on made in
      let few : all.k ≤ cost j (length list) = subst (λ (n : ℕ). all.k ≤ n) (length_writes j (length (state d).words) list high atomic) all.high in
      record {
        k = all.k;
        x = all.x;
        low = all.low;
        high = few;
        size = all.size;
        leaves = subst (λ (n : List (List ℕ)). LeavesOwing j n (owes j (length list) all.k all.x) (image_if_written (stands j (length list) all.k all.x) (state d).words list)) (sym all.words) (tear j (state d).words list low high atomic closed all.k all.x all.low few);
        ended = all.ended;
        tape = all.tape;
      }

  -- a recovery that makes the writes of a pending journal
  pub replay_done : (j : Journal) (ps : List (ℕ × List ℕ)) (d e : D) → 256 ≤ length (state d).words → (state d).on ≡ true → look_j j (state d).words ≡ Pending j ps
      → Makes wrote d (replay j ps) (Ok tt) e → ReplayDone j (state d) ps (state e)
  replay_done j ps d e low on pending made =
      let all : DoneAll (state d) (replay j ps) (state e) = makes_done state wrote obeys (replay j ps) d e on made in
      record {
        after = ap (λ (l : Look). image_after_replay (state d).words l) pending ∙ ap Words (sym all.words);
        gate = ap (λ (n : List (List ℕ)). word_at n (gate j)) all.words ∙ resumed j (state d).words ps low pending;
        ended = (all.power, all.cuts, all.faults);
        tape = all.tape;
      }

  pub replay_torn : (j : Journal) (ps : List (ℕ × List ℕ)) (d e : D) (s : Stop) → 256 ≤ length (state d).words → (state d).on ≡ true → look_j j (state d).words ≡ Pending j ps
      → Makes wrote d (replay j ps) (Err s) e → ReplayTorn j (state d) ps s (state e)
  replay_torn j ps d e s low on pending made =
      let all : StoppedAt (state d) (replay j ps) s (state e) = makes_stopped state wrote obeys (replay j ps) d e s on made in
      let few : all.k ≤ length ps + 1 = subst (λ (n : ℕ). all.k ≤ n) (length-append ps ((gate j, shut_word) ∷ [])) all.high in
      record {
        k = all.k;
        x = all.x;
        low = all.low;
        high = few;
        size = all.size;
        after = ap (λ (l : Look). image_after_replay (state d).words l) pending;
        resumes = subst (λ (n : List (List ℕ)). Resumes j n (remains j (length ps) all.k all.x) (image_with (state d).words (replay j ps))) (sym all.words) (resume j (state d).words ps low pending all.k all.x all.low few);
        ended = all.ended;
        tape = all.tape;
      }

  pending_ends : (j k : Journal) (ps : List (ℕ × List ℕ)) (d e : D) (o : RecoveryOutcome) → 256 ≤ length (state d).words → (state d).on ≡ true → look_j j (state d).words ≡ Pending k ps
      → look_j j (state d).words ≡ Pending j ps → length ps ≤ 64 → LookAllows (Pending k ps) o → Makes wrote d (replay j ps) (outcome_answer o) e → RecoverEnds j (Pending k ps) (state d) o (state e)
  pending_ends j k ps d e o low on found pending few follows made = grind (arith, replay_done, replay_torn)

  closed_ends : (j : Journal) (l : Look) (d e : D) (o p : RecoveryOutcome) → o ≡ p → outcome_answer p ≡ Ok tt → Makes wrote d [] (outcome_answer o) e → (o ≡ p) × (state e ≡ state d)
  closed_ends j l d e o p is answer made = grind arith

  -- how a recovery ends, by what its look found
  pub recover_ends : (j : Journal) (l : Look) (d e : D) (o : RecoveryOutcome) → 256 ≤ length (state d).words → (state d).on ≡ true → look_j j (state d).words ≡ l
      → LookAllows l o → Makes wrote d (owed_writes l) (outcome_answer o) e → RecoverEnds j l (state d) o (state e)
  recover_ends j l d e o low on found follows made = grind (arith, closed_ends, GoodPending, good_pending, pending_ends)
