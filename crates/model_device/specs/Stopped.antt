-- An atomic write through a redo log as a list of device writes, and what is durable of it after a stop at any of them.
use Rattle.std.specs.Prelude.{◌≡◌, ◌≢◌, ◌⊎◌, ℕ, zero, suc, ◌+◌, ◌*◌, ◌≤◌, Bool, true, false, cond, not, ◌&&◌, ◌||◌, nat_lt, nat_le, ◌==◌, List, [], ◌∷◌, ◌++◌, length, take, drop, map, slice_set, bytes_eq, Ok, Err}
use Rattle.std.specs.List.{AllByRecursion}
use Rattle.model_device.specs.Bytes.{up, zeros, bytes2}
use Rattle.model_device.specs.Image.{Journal, One, Two, opening, shut_word, gate, word_at, ascend, image_with, after_j, owed_j, Words, Look, Refused, Closed, Pending}
use Rattle.model_device.specs.declared.device.Stop.{Stop}
use Rattle.model_device.specs.Orders.{Answer}
use Rattle.model_device.specs.Device.{DeviceState, Ended, GrowsBy, done_entries, torn_entries}

-- the number of device writes of an atomic write of w words
abbrev pub cost : Journal → ℕ → ℕ
cost One w = 3 * w + 3
cost Two w = up w 4 + 2 * w + 3

-- the number of the device write that opens the gate: the commit point
abbrev pub opens_at : Journal → ℕ → ℕ
opens_at One w = 2 * w + 2
opens_at Two w = up w 4 + w + 2

-- whether an atomic write of w words that was stopped at its device write k, which left x, is durable: its commit
-- record was written
abbrev pub stands : Journal → ℕ → ℕ → List ℕ → Bool
stands j w k x = nat_lt (opens_at j w) k || ((k == opens_at j w) && bytes_eq x (opening j))

-- the number of writes that recovery still has to make then
abbrev pub owes : Journal → ℕ → ℕ → List ℕ → ℕ
owes j w k x = cond (stands j w k x && not ((k == cost j w) && not (bytes_eq x (opening j)))) (w + 1) 0

-- the number of writes that recovery still has to make after a recovery of w words was stopped at its write k, which
-- left x
abbrev pub remains : Journal → ℕ → ℕ → List ℕ → ℕ
remains j w k x = cond (nat_le k w || bytes_eq x (opening j)) (w + 1) 0

-- ---- the device writes in order

-- a word of six zero bytes and a number
abbrev pub word_of_number : ℕ → List ℕ
word_of_number n = zeros 6 ++ bytes2 n

-- journal 1: the target word and the value of each pair from pair i on
abbrev pub entries_1 : ℕ → List (ℕ × List ℕ) → List (ℕ × List ℕ)
entries_1 i [] = []
entries_1 i (p ∷ ps) = (3 + 2 * i, word_of_number p.0) ∷ (4 + 2 * i, p.1) ∷ entries_1 (i + 1) ps

-- journal 2: two bytes of each target
abbrev pub two_bytes_each : List ℕ → List ℕ
two_bytes_each [] = []
two_bytes_each (t ∷ ts) = bytes2 t ++ two_bytes_each ts

-- the bytes of the first four targets, filled up with zeros
abbrev pub four_targets : List ℕ → List ℕ
four_targets ts = take 8 (two_bytes_each ts ++ zeros 8)

-- journal 2: k target words from word 3 + i on
abbrev pub target_words : ℕ → ℕ → List ℕ → List (ℕ × List ℕ)
target_words i zero ts = []
target_words i (suc k) ts = (3 + i, four_targets (take 4 ts)) ∷ target_words (i + 1) k (drop 4 ts)

-- journal 2: the values from pair i on
abbrev pub values_2 : ℕ → List (ℕ × List ℕ) → List (ℕ × List ℕ)
values_2 i [] = []
values_2 i (p ∷ ps) = (19 + i, p.1) ∷ values_2 (i + 1) ps

-- the log entries of an atomic write: its targets and values
abbrev pub entries : Journal → List (ℕ × List ℕ) → List (ℕ × List ℕ)
entries One list = entries_1 0 list
entries Two list = target_words 0 (up (length list) 4) (map (λ p. p.0) list) ++ values_2 0 list

-- the writes of a recovery: the values at their targets, then the gate is shut. They are idempotent: recovery may begin
-- them again
abbrev pub replay : Journal → List (ℕ × List ℕ) → List (ℕ × List ℕ)
replay j list = list ++ (gate j, shut_word) ∷ []

-- the device writes of an atomic write: log entries, head, commit record, and then those of a recovery
abbrev pub writes : Journal → List (ℕ × List ℕ) → List (ℕ × List ℕ)
writes j list = entries j list ++ (2, word_of_number (length list)) ∷ (gate j, opening j) ∷ replay j list

-- a list for an atomic write on a device of `size` words: 1 to 64 targets that ascend, each word 0 or in the heap
pub record IsAtomic (size : ℕ) (list : List (ℕ × List ℕ)) : Type 0 where
  pub low : 1 ≤ length list
  pub high : length list ≤ 64
  pub targets : ascend size 0 (map (λ p. p.0) list) ≡ true

-- ---- what a stop leaves

-- the words after a list of writes that was stopped at its write k, from 1 on, which left x
abbrev pub image_after_stop : List (List ℕ) → List (ℕ × List ℕ) → ℕ → List ℕ → List (List ℕ)
image_after_stop m [] k x = m
image_after_stop m (p ∷ ps) zero x = m
image_after_stop m (p ∷ ps) (suc zero) x = slice_set m p.0 x
image_after_stop m (p ∷ ps) (suc (suc k)) x = image_after_stop (slice_set m p.0 p.1) ps (suc k) x

-- the new words if the write is durable, else the old ones
abbrev pub image_if_written : Bool → List (List ℕ) → List (ℕ × List ℕ) → List (List ℕ)
image_if_written true m list = image_with m list
image_if_written false m list = m

-- a place is one of the words of a journal
abbrev pub InJournal : Journal → ℕ → Type 0
InJournal One i = (1 ≤ i) × (i ≤ 130)
InJournal Two i = ((2 ≤ i) × (i ≤ 82)) ⊎ (i ≡ 130)

-- two images with equal words in every place outside a journal
pub record SameOutside (j : Journal) (a b : List (List ℕ)) : Type 0 where
  pub size : length a ≡ length b
  pub words : (i : ℕ) → (InJournal j i → ⊥) → word_at a i ≡ word_at b i

-- two images with equal words in every place but one
pub record SameBut (k : ℕ) (a b : List (List ℕ)) : Type 0 where
  pub size : length a ≡ length b
  pub words : (i : ℕ) → i ≢ k → word_at a i ≡ word_at b i

-- an image on which recovery still has to make n writes of journal j, after which it is t outside the journal
pub record LeavesOwing (j : Journal) (m : List (List ℕ)) (n : ℕ) (t : List (List ℕ)) : Type 0 where
  pub owed : owed_j j m ≡ n
  pub after : List (List ℕ)
  pub is : after_j j m ≡ Words after
  pub same : SameOutside j after t

-- an image on which recovery still has to make n writes of journal j, after which it is t but for the gate
pub record Resumes (j : Journal) (m : List (List ℕ)) (n : ℕ) (t : List (List ℕ)) : Type 0 where
  pub owed : owed_j j m ≡ n
  pub after : List (List ℕ)
  pub is : after_j j m ≡ Words after
  pub same : SameBut (gate j) after t

-- an atomic write that was not stopped: the gate is shut, the targets hold their words, the rest stays
pub record LaidWhole (j : Journal) (old : List (List ℕ)) (list : List (ℕ × List ℕ)) (new : List (List ℕ)) : Type 0 where
  pub gate : word_at new (gate j) ≡ shut_word
  pub targets : AllByRecursion (λ p. word_at new p.0 ≡ p.1) list
  pub same : SameOutside j new (image_with old list)

-- ---- the calls of a journal

-- an atomic write that was done, on a device
pub record WriteStands (j : Journal) (d : DeviceState) (list : List (ℕ × List ℕ)) (e : DeviceState) : Type 0 where
  pub stands : LaidWhole j d.words list e.words
  pub ended : Ended (Ok tt) d e
  pub tape : GrowsBy d.tape (done_entries (writes j list)) e.tape

-- an atomic write that was stopped at its device write k, which left x
pub record WriteTorn (j : Journal) (d : DeviceState) (list : List (ℕ × List ℕ)) (s : Stop) (e : DeviceState) : Type 0 where
  pub k : ℕ
  pub x : List ℕ
  pub low : 1 ≤ k
  pub high : k ≤ cost j (length list)
  pub size : length x ≡ 8
  pub leaves : LeavesOwing j e.words (owes j (length list) k x) (image_if_written (stands j (length list) k x) d.words list)
  pub ended : Ended (Err s) d e
  pub tape : GrowsBy d.tape (torn_entries (writes j list) k x s) e.tape

-- how an atomic write ends
abbrev pub WriteEnds : Journal → DeviceState → List (ℕ × List ℕ) → Answer → DeviceState → Type 0
WriteEnds j d list (Ok u) e = WriteStands j d list e
WriteEnds j d list (Err s) e = WriteTorn j d list s e

-- how a recovery ended: done with n writes, by a stop, or at a bad place of the journal without a write
pub data RecoveryOutcome : Type 0 where
  Recovered : ℕ → RecoveryOutcome
  Interrupted : Stop → RecoveryOutcome
  BadAt : ℕ → RecoveryOutcome

-- how the device writes of a recovery ended
abbrev pub outcome_answer : RecoveryOutcome → Answer
outcome_answer (Recovered n) = Ok tt
outcome_answer (Interrupted s) = Err s
outcome_answer (BadAt p) = Ok tt

-- the writes that recovery still has to make after a look
abbrev pub owed_writes : Look → List (ℕ × List ℕ)
owed_writes (Refused p) = []
owed_writes Closed = []
owed_writes (Pending j ps) = replay j ps

-- the outcomes of a recovery that a look allows
abbrev pub LookAllows : Look → RecoveryOutcome → Type 0
LookAllows (Refused p) o = o ≡ BadAt p
LookAllows Closed o = o ≡ Recovered 0
LookAllows (Pending j ps) (Recovered n) = n ≡ length ps + 1
LookAllows (Pending j ps) (Interrupted s) = Unit {0}
LookAllows (Pending j ps) (BadAt p) = ⊥

-- a recovery that was done: the image after the replay, its gate shut
pub record ReplayDone (j : Journal) (d : DeviceState) (ps : List (ℕ × List ℕ)) (e : DeviceState) : Type 0 where
  pub after : after_j j d.words ≡ Words e.words
  pub gate : word_at e.words (gate j) ≡ shut_word
  pub ended : Ended (Ok tt) d e
  pub tape : GrowsBy d.tape (done_entries (replay j ps)) e.tape

-- a recovery that was stopped at its write k, which left x: it can be begun again, to the image that it was to leave
pub record ReplayTorn (j : Journal) (d : DeviceState) (ps : List (ℕ × List ℕ)) (s : Stop) (e : DeviceState) : Type 0 where
  pub k : ℕ
  pub x : List ℕ
  pub low : 1 ≤ k
  pub high : k ≤ length ps + 1
  pub size : length x ≡ 8
  pub after : after_j j d.words ≡ Words (image_with d.words (replay j ps))
  pub resumes : Resumes j e.words (remains j (length ps) k x) (image_with d.words (replay j ps))
  pub ended : Ended (Err s) d e
  pub tape : GrowsBy d.tape (torn_entries (replay j ps) k x s) e.tape

-- how a recovery ends, by what its look found
abbrev pub RecoverEnds : Journal → Look → DeviceState → RecoveryOutcome → DeviceState → Type 0
RecoverEnds j (Refused p) d o e = (o ≡ BadAt p) × (e ≡ d)
RecoverEnds j Closed d o e = (o ≡ Recovered 0) × (e ≡ d)
RecoverEnds j (Pending i ps) d (Recovered n) e = (n ≡ length ps + 1) × (n ≤ 65) × ReplayDone j d ps e
RecoverEnds j (Pending i ps) d (Interrupted s) e = (length ps ≤ 64) × ReplayTorn j d ps s e
RecoverEnds j (Pending i ps) d (BadAt p) e = ⊥
