-- A device that writes one word at a time, what a torn or failed write may leave, and the bench, a device that stops
-- writes on demand.
use Rattle.std.specs.Prelude.{◌≡◌, ◌≢◌, ◌⊎◌, ℕ, zero, suc, ◌+◌, ◌<◌, ◌≤◌, Bool, true, false, min, List, [], ◌∷◌, ◌++◌, length, replicate, slice_index_or, slice_set, Option, Some, None, Ok, Err}
use Rattle.model_device.specs.declared.device.Stop.{Stop}
use Rattle.model_device.specs.declared.device.Stop.TheVariants.{Off, Worn}
use Rattle.model_device.specs.Orders.{Answer, InOrder}
use Rattle.model_device.specs.Bytes.{AreBytes}
use Rattle.model_device.specs.Counts.{last_count, Rose}

-- an entry of a tape: the place of a write that was tried, the word that is there afterwards, and the stop if there was
-- one
pub record Entry : Type 0 where
  pub at : ℕ
  pub left : List ℕ
  pub end : Option Stop

-- the state of a device: its words, whether power is on, the counts of cuts and failed writes, and the tape of its
-- writes, if one is recorded
pub record DeviceState : Type 0 where
  pub words : List (List ℕ)
  pub on : Bool
  pub cuts : ℕ
  pub faults : ℕ
  pub tape : Option (List Entry)

-- words that have the size of a device: 256 to 16,384 words of eight entries each
pub record IsSized (m : List (List ℕ)) : Type 0 where
  pub low : 256 ≤ length m
  pub high : length m ≤ 16384
  pub words : (i : ℕ) → i < length m → length (slice_index_or m i []) ≡ 8

-- the image of a device: 256 to 16,384 words of eight bytes each
pub record IsImage (m : List (List ℕ)) : Type 0 where
  pub low : 256 ≤ length m
  pub high : length m ≤ 16384
  pub words : (i : ℕ) → i < length m → length (slice_index_or m i []) ≡ 8
  pub bytes : (i : ℕ) → AreBytes (slice_index_or m i [])

-- an image has the size of a device
pub sized : {m : List (List ℕ)} → IsImage m → IsSized m
sized image = record { low = image.low; high = image.high; words = image.words }

-- the words of a blank device: every byte is FF
abbrev pub blank_words : ℕ → List (List ℕ)
blank_words n = replicate n (replicate 8 0xFF)

-- the number of words of a program's device
abbrev pub device_words : ℕ
device_words = 8192

-- the tape after a write: one entry more, or no longer recorded
abbrev pub Grows : Option (List Entry) → Entry → Option (List Entry) → Type 0
Grows t e None = Unit {0}
Grows None e (Some u) = ⊥
Grows (Some t) e (Some u) = u ≡ t ++ e ∷ []

-- a write that succeeded
pub record WriteDone (d : DeviceState) (at : ℕ) (word : List ℕ) (e : DeviceState) : Type 0 where
  pub words : e.words ≡ slice_set d.words at word
  pub power : e.on ≡ true
  pub cuts : e.cuts ≡ d.cuts
  pub faults : e.faults ≡ d.faults
  pub tape : Grows d.tape (record { at = at; left = word; end = None }) e.tape

-- a torn write: power went during it, and its word may hold anything
pub record WriteCut (d : DeviceState) (at : ℕ) (e : DeviceState) : Type 0 where
  pub left : List ℕ
  pub size : length left ≡ 8
  pub words : e.words ≡ slice_set d.words at left
  pub power : e.on ≡ false
  pub cuts : Rose d.cuts e.cuts
  pub falls_not : d.cuts ≤ e.cuts
  pub faults : e.faults ≡ d.faults
  pub tape : Grows d.tape (record { at = at; left = left; end = Some Off }) e.tape

-- a failed write: the device refused it, and its word may hold anything
pub record WriteFailure (d : DeviceState) (at : ℕ) (e : DeviceState) : Type 0 where
  pub left : List ℕ
  pub size : length left ≡ 8
  pub words : e.words ≡ slice_set d.words at left
  pub power : e.on ≡ true
  pub cuts : e.cuts ≡ d.cuts
  pub faults : Rose d.faults e.faults
  pub falls_not : d.faults ≤ e.faults
  pub tape : Grows d.tape (record { at = at; left = left; end = Some Worn }) e.tape

-- one write on any device whose power is on, by how it ended
abbrev pub Wrote : DeviceState → ℕ → List ℕ → Answer → DeviceState → Type 0
Wrote d at w (Ok u) e = WriteDone d at w e
Wrote d at w (Err Off) e = WriteCut d at e
Wrote d at w (Err Worn) e = WriteFailure d at e

-- a list of writes, pairs of place and word, made in order up to a stop, by the relation of one write
abbrev pub Makes : {D : Type 0} → (D → ℕ → List ℕ → Answer → D → Type 0) → D → List (ℕ × List ℕ) → Answer → D → Type 0
Makes wrote = InOrder (λ d p a e. wrote d p.0 p.1 a e)

-- how a call that writes ended: the power it leaves, and the counts, of which one rose if it stopped
abbrev pub Ended : Answer → DeviceState → DeviceState → Type 0
Ended (Ok u) d e = (e.on ≡ true) × (e.cuts ≡ d.cuts) × (e.faults ≡ d.faults)
Ended (Err Off) d e = (e.on ≡ false) × Rose d.cuts e.cuts × (d.cuts ≤ e.cuts) × (e.faults ≡ d.faults)
Ended (Err Worn) d e = (e.on ≡ true) × Rose d.faults e.faults × (d.faults ≤ e.faults) × (e.cuts ≡ d.cuts)

-- the tape after several writes: these entries more, or no longer recorded
abbrev pub GrowsBy : Option (List Entry) → List Entry → Option (List Entry) → Type 0
GrowsBy t es None = Unit {0}
GrowsBy None es (Some u) = ⊥
GrowsBy (Some t) es (Some u) = u ≡ t ++ es

-- the tape entries of a list of writes that was done
abbrev pub done_entries : List (ℕ × List ℕ) → List Entry
done_entries [] = []
done_entries (p ∷ ps) = record { at = p.0; left = p.1; end = None } ∷ done_entries ps

-- the tape entries of a list of writes that stopped at its write k, from 1 on, which left x
abbrev pub torn_entries : List (ℕ × List ℕ) → ℕ → List ℕ → Stop → List Entry
torn_entries [] k x s = []
torn_entries (p ∷ ps) zero x s = []
torn_entries (p ∷ ps) (suc zero) x s = record { at = p.0; left = x; end = Some s } ∷ []
torn_entries (p ∷ ps) (suc (suc k)) x s = record { at = p.0; left = p.1; end = None } ∷ torn_entries ps (suc k) x s

-- ---- benches

-- a count one higher; at its last value it saturates
abbrev pub next_count : ℕ → ℕ
next_count n = min (n + 1) last_count

-- a fuse: a write to come, counted with 1 for the next, and the word that it leaves
pub record Fuse : Type 0 where
  pub writes : ℕ
  pub fill : List ℕ

-- the state that a bench has besides that of a device: its fuses, the counts of calls, the count of power-ups before
-- the last poke, and whether no write fails but by a fuse
pub record BenchState : Type 0 where
  pub cut : Option Fuse
  pub worn : Option Fuse
  pub powers : ℕ
  pub pokes : ℕ
  pub poked : ℕ
  pub arms : ℕ
  pub wears : ℕ
  pub steady : Bool

-- a bench after one poke: the poke is counted, and the count of power-ups before it is kept
abbrev pub bench_after_poke : BenchState → BenchState
bench_after_poke b = record b { pokes = next_count b.pokes; poked = b.powers }

-- a bench after k pokes
abbrev pub bench_after_pokes : ℕ → BenchState → BenchState
bench_after_pokes zero b = b
bench_after_pokes (suc k) b = bench_after_pokes k (bench_after_poke b)

-- a fuse after one write: nearer by one, and spent if the write was its own
abbrev pub nearer : ℕ → List ℕ → Option Fuse
nearer (suc (suc k)) fill = Some (record { writes = suc k; fill = fill })
nearer _ fill = None

-- a fuse after one write
abbrev pub fuse_after_write : Option Fuse → Option Fuse
fuse_after_write None = None
fuse_after_write (Some f) = nearer f.writes f.fill

-- the word that a fuse leaves in the next write, if it falls on it
abbrev pub fill_at : ℕ → List ℕ → Option (List ℕ)
fill_at (suc zero) fill = Some fill
fill_at _ fill = None

-- the word that the next write leaves, if a fuse falls on it
abbrev pub next_fill : Option Fuse → Option (List ℕ)
next_fill None = None
next_fill (Some f) = fill_at f.writes f.fill

-- what the fuses do to the next write: power goes during it, it fails, or neither
pub data Due : Type 0 where
  DueCut : List ℕ → Due
  DueFailure : List ℕ → Due
  DueNot : Due

-- what the two fuses do to the next write: a cut goes before a failed write
abbrev pub due : Option (List ℕ) → Option (List ℕ) → Due
due (Some fill) worn = DueCut fill
due None (Some fill) = DueFailure fill
due None None = DueNot

-- how the next write of a bench ends, and what it leaves; on a bench that is not steady a write may fail by itself
abbrev pub NextWriteEnds : Due → Bool → DeviceState → ℕ → Answer → DeviceState → Type 0
NextWriteEnds (DueCut fill) steady d at a e = (a ≡ Err Off) × (e.words ≡ slice_set d.words at fill)
NextWriteEnds (DueFailure fill) true d at a e = (a ≡ Err Worn) × (e.words ≡ slice_set d.words at fill)
NextWriteEnds (DueFailure fill) false d at a e = a ≡ Err Worn
NextWriteEnds DueNot true d at a e = a ≡ Ok tt
NextWriteEnds DueNot false d at a e = a ≢ Err Off

-- the counts of a bench after a write: a stop raises its own by one, up to the last value
abbrev pub Counts : DeviceState → Answer → DeviceState → Type 0
Counts d (Ok u) e = (e.cuts ≡ d.cuts) × (e.faults ≡ d.faults)
Counts d (Err Off) e = (e.cuts ≡ next_count d.cuts) × (e.faults ≡ d.faults)
Counts d (Err Worn) e = (e.cuts ≡ d.cuts) × (e.faults ≡ next_count d.faults)

-- the bench after a write: both fuses are nearer by one, after a stop the wear fuse may be dropped, and nothing else
-- changes
abbrev pub Burns : BenchState → Answer → BenchState → Type 0
Burns b (Ok u) c = c ≡ record b { cut = fuse_after_write b.cut; worn = fuse_after_write b.worn }
Burns b (Err s) c = (c ≡ record b { cut = fuse_after_write b.cut; worn = fuse_after_write b.worn }) ⊎ (c ≡ record b { cut = fuse_after_write b.cut; worn = None })

-- one write on a bench
pub record BenchWrote (d : DeviceState) (b : BenchState) (at : ℕ) (a : Answer) (e : DeviceState) (c : BenchState) : Type 0 where
  pub ends : NextWriteEnds (due (next_fill b.cut) (next_fill b.worn)) b.steady d at a e
  pub counts : Counts d a e
  pub fuses : Burns b a c
