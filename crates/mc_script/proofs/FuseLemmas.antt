-- How writes bring a fuse nearer, and the result of the next write under the fuses of a bench.
use Rattle.std.proofs.Common.{◌≡◌, ℕ, zero, suc, ◌+◌, ◌<◌, ◌≤◌, Bool, true, List, Option, Some, None, Ok, Err, refl, arith}
use Rattle.std.specs.Prelude.{slice_set}
use Rattle.model_play.specs.model_device.specs.declared.device.Stop.TheVariants.{Off, Worn}
use Rattle.model_play.specs.model_device.specs.Device.{DeviceState, Fuse, nearer, fuse_after_write, fill_at, next_fill, due, NextWriteEnds}

-- a fuse after n writes
abbrev pub after_writes : ℕ → Option Fuse → Option Fuse
after_writes zero f = f
after_writes (suc n) f = after_writes n (fuse_after_write f)

-- the write that a fuse stops comes after the first n writes
abbrev pub Past : ℕ → Option Fuse → Type 0
Past n None = Unit {0}
Past n (Some f) = 1 ≤ f.writes → n < f.writes

-- ---- one fuse

pub spent_none : (n : ℕ) → after_writes n None ≡ None
spent_none zero = refl
spent_none (suc n) = spent_none n

none_falls : (n : ℕ) (y : List ℕ) → next_fill (after_writes n None) ≡ Some y → ⊥
none_falls n y h = let e : after_writes n None ≡ None = spent_none n in absurd (cc (rw e at h))

-- a fuse that is due after n writes had the number n + 1, and leaves its own fill
falls_here : (n k : ℕ) (x y : List ℕ) → next_fill (after_writes n (Some (record { writes = k; fill = x }))) ≡ Some y → (k ≡ n + 1) × (x ≡ y)
falls_here zero zero x y h = absurd (cc h)
falls_here zero (suc zero) x y h = (refl, cc)
falls_here zero (suc (suc k)) x y h = absurd (cc h)
falls_here (suc n) zero x y h = absurd (none_falls n y h)
falls_here (suc n) (suc zero) x y h = absurd (none_falls n y h)
falls_here (suc n) (suc (suc k)) x y h = let r = falls_here n (suc k) x y h in (omega (arith, r.0), r.1)

fuse_falls : (n : ℕ) (f : Fuse) (y : List ℕ) → next_fill (after_writes n (Some f)) ≡ Some y → f ≡ record { writes = n + 1; fill = y }
fuse_falls n f y h = grind (arith, falls_here)

pub falls_at : (n : ℕ) (f : Option Fuse) (y : List ℕ) → next_fill (after_writes n f) ≡ Some y → f ≡ Some (record { writes = n + 1; fill = y })
falls_at n None y h = absurd (none_falls n y h)
falls_at n (Some f) y h = let e : f ≡ record { writes = n + 1; fill = y } = fuse_falls n f y h in cc

-- a fuse that is not due after n writes stops a later write than the next
lies_on : (n k : ℕ) (x : List ℕ) → next_fill (after_writes n (Some (record { writes = k; fill = x }))) ≡ None → n < k → n + 1 < k
lies_on zero zero x h low = absurd (omega arith)
lies_on zero (suc zero) x h low = absurd (cc h)
lies_on zero (suc (suc k)) x h low = omega arith
lies_on (suc n) zero x h low = absurd (omega arith)
lies_on (suc n) (suc zero) x h low = absurd (omega arith)
lies_on (suc n) (suc (suc k)) x h low = let r = lies_on n (suc k) x h (omega (arith, low)) in omega (arith, r)

pub past_on : (n : ℕ) (f : Option Fuse) → next_fill (after_writes n f) ≡ None → Past n f → Past (n + 1) f
past_on n None h past = tt
past_on n (Some f) h past = λ low. lies_on n f.writes f.fill h (past low)

-- a fuse that is not due at the first of a list of writes
past_next : (n k : ℕ) (x : List ℕ) → fill_at k x ≡ None → Past n (nearer k x) → 1 ≤ k → suc n < k
past_next n k x h past low = grind arith

pub past_first : (n : ℕ) (f : Option Fuse) → next_fill f ≡ None → Past n (fuse_after_write f) → Past (suc n) f
past_first n None h past = tt
past_first n (Some f) h past = λ low. past_next n f.writes f.fill h past low

pub past_none : (f : Option Fuse) → Past 0 f
past_none None = tt
past_none (Some f) = λ low. omega (arith, low)

-- ---- both fuses

-- a write that was done was due to no fuse
pub none_due : (c w : Option (List ℕ)) (steady : Bool) (d : DeviceState) (at : ℕ) (e : DeviceState) → NextWriteEnds (due c w) steady d at (Ok tt) e → (c ≡ None) × (w ≡ None)
none_due c w steady d at e h = grind arith

-- a write that was cut was due to the cut fuse
pub cut_due : (c w : Option (List ℕ)) (steady : Bool) (d : DeviceState) (at : ℕ) (e : DeviceState) → NextWriteEnds (due c w) steady d at (Err Off) e → (x : List ℕ) × (c ≡ Some x) × (e.words ≡ slice_set d.words at x)
cut_due c w steady d at e h = grind arith

-- a failed write was not due to the cut fuse, and on a steady bench it was due to the other
pub failure_due : (c w : Option (List ℕ)) (steady : Bool) (d : DeviceState) (at : ℕ) (e : DeviceState) → NextWriteEnds (due c w) steady d at (Err Worn) e
    → (c ≡ None) × (steady ≡ true → (x : List ℕ) × (w ≡ Some x) × (e.words ≡ slice_set d.words at x))
failure_due c w steady d at e h = grind arith
