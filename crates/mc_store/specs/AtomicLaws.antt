-- An atomic write of journal 2 to words with no open journal: done or stopped, the words once the journal is replayed.
use Rattle.std.proofs.Common.{◌≡◌, ◌≢◌, ◌⊎◌, ℕ, ◌≤◌, Bool, true, false, List, [], ◌∷◌, length, Ok, Err, ◌∙◌, ap, inl, inr, arith}
use Rattle.std.specs.Prelude.{bytes_eq}
use Rattle.std.specs.List.{AllByRecursion}
use Rattle.mc_words.specs.model_device.specs.Orders.{Answer}
use Rattle.mc_words.specs.model_device.specs.Device.{DeviceState, IsSized, Wrote, Makes, Ended}
use Rattle.mc_words.specs.model_device.specs.Image.{One, Two, opening, shut_word, gate, is_open, image_with, Look, Closed, look, after, image_after_replay, Words}
use Rattle.mc_words.specs.model_device.specs.Stopped.{word_of_number, entries, replay, writes, IsAtomic, stands, image_if_written, SameOutside, WriteStands, WriteTorn}
use Rattle.mc_words.specs.model_device.specs.Card.{word}
use Rattle.mc_words.specs.model_device.proofs.ImageLemmas.{all_append, all_map, laid_other}
use Rattle.mc_words.specs.model_device.proofs.DeviceLemmas.{StoppedAt, makes_stopped}
use Rattle.mc_words.specs.model_device.proofs.GeometryLemmas.{InEntries, Geometry, geometry, targets_within}
use Rattle.mc_words.specs.model_device.proofs.StoppedLemmas.{torn_other, shut_closed, targets_outside}
use Rattle.mc_words.specs.model_device.proofs.RecoveryLemmas.{look_two}
use Rattle.mc_words.specs.model_device.proofs.CallLemmas.{write_ends}
use Rattle.mc_store.specs.AlikeLaws.{HeapsAlike, alike_outside, Gates, gates, shut_look, SettlesAlike}

-- ---- the gate of journal 1

targets_apart : (size : ℕ) (list : List (ℕ × List ℕ)) → IsAtomic size list → AllByRecursion (λ p. p.0 ≢ 1) list
targets_apart size list atomic = targets_outside One size list 1 (targets_within size list atomic) (omega arith, omega arith)

-- none of the writes names it
pub writes_apart : (size : ℕ) (list : List (ℕ × List ℕ)) → size ≤ 16384 → IsAtomic size list → AllByRecursion (λ p. p.0 ≢ 1) (writes Two list)
writes_apart size list high atomic =
    let geo : Geometry Two size list = geometry Two size list high atomic in
    all_append (λ p. p.0 ≢ 1) (entries Two list) ((2, word_of_number (length list)) ∷ (gate Two, opening Two) ∷ replay Two list)
    (all_map (λ p. InEntries Two p.0) (λ p. p.0 ≢ 1) (λ p inside e. let low : 3 ≤ p.0 = inside.low in absurd (omega (arith, e))) (entries Two list) geo.places) (
      (λ e. absurd (omega (arith, e))),
      ((λ e. absurd (omega (arith, e))), all_append (λ p. p.0 ≢ 1) list ((gate Two, shut_word) ∷ []) (targets_apart size list atomic) ((λ e. absurd (omega (arith, e))), tt)),
    )

-- ---- how it ends

-- done, the words have no open journal and are like the new ones; stopped, they settle to the old or to the new ones
abbrev pub AtomicEnds : DeviceState → List (ℕ × List ℕ) → Answer → DeviceState → Type 0
AtomicEnds d list (Ok u) e = (look e.words ≡ Closed) × HeapsAlike e.words (image_with d.words list) × Ended (Ok tt) d e
AtomicEnds d list (Err s) e = (SettlesAlike d.words e.words ⊎ SettlesAlike (image_with d.words list) e.words) × Ended (Err s) d e

by_stand : (m n : List (List ℕ)) (list : List (ℕ × List ℕ)) (t : Bool) (w : List (List ℕ)) → after n ≡ Words w → SameOutside Two w (image_if_written t m list) → SettlesAlike m n ⊎ SettlesAlike (image_with m list) n
by_stand m n list true w is same = inr (record { left = w; is = is; alike = alike_outside Two w (image_with m list) same })
by_stand m n list false w is same = inl (record { left = w; is = is; alike = alike_outside Two w m same })

module _ {D : Type 0} (state : D → DeviceState) (wrote : D → ℕ → List ℕ → Answer → D → Type 0)
    (obeys : (d : D) (at : ℕ) (w : List ℕ) (a : Answer) (e : D) → (state d).on ≡ true → wrote d at w a e → Wrote (state d) at w a (state e)) where
  pub atomic_ends : (list : List (ℕ × List ℕ)) (d e : D) (a : Answer) → IsSized (state d).words → (state d).on ≡ true → look (state d).words ≡ Closed
      → IsAtomic (length (state d).words) list → Makes wrote d (writes Two list) a e → AtomicEnds (state d) list a (state e)
  atomic_ends list d e (Ok tt) image on closed atomic made =
      let m = (state d).words in
      let n = (state e).words in
      let g : Gates m = gates m closed in
      let ends : WriteStands Two (state d) list (state e) = write_ends state wrote obeys Two list d e (Ok tt) image.low image.high on atomic g.two made in
      let two : is_open Two n ≡ false = ap (λ (w : List ℕ). bytes_eq w (opening Two)) ends.stands.gate ∙ shut_closed Two in
      let one : is_open One n ≡ false =
      ap (λ (w : List ℕ). bytes_eq w (opening One)) (ends.stands.same.words 1 (λ inside. omega (arith, inside)) ∙ laid_other m list 1 (targets_apart (length m) list atomic)) ∙ g.one in
      (shut_look n two one, alike_outside Two n (image_with m list) ends.stands.same, ends.ended)
  atomic_ends list d e (Err s) image on closed atomic made =
      let m = (state d).words in
      let n = (state e).words in
      let g : Gates m = gates m closed in
      let ends : WriteTorn Two (state d) list s (state e) = write_ends state wrote obeys Two list d e (Err s) image.low image.high on atomic g.two made in
      let stop : StoppedAt (state d) (writes Two list) s (state e) = makes_stopped state wrote obeys (writes Two list) d e s on made in
      let one : is_open One n ≡ false =
      ap (λ (w : List ℕ). bytes_eq w (opening One)) (ap (λ (t : List (List ℕ)). word t 1) stop.words ∙ torn_other m (writes Two list) stop.k stop.x 1 (writes_apart (length m) list image.high atomic)) ∙ g.one in
      let is : after n ≡ Words ends.leaves.after = ap (λ (l : Look). image_after_replay n l) (look_two n one) ∙ ends.leaves.is in
      (by_stand m n list (stands Two (length list) ends.k ends.x) ends.leaves.after is ends.leaves.same, ends.ended)
