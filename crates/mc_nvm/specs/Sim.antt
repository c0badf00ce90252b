-- A device in memory: its state, and its writes under two fuses.
use Rattle.std.specs.Prelude.{◌≡◌, ◌+◌, ◌<◌, ◌≤◌, ℕ, Bool, true, false, replicate, List, length, slice_set, Option, Some, None, option_map, Ok, Err, refl}
use Rattle.std.proofs.Common.{subst, sym, inl, inr, arith, zero, suc}
use Rattle.std.proofs.lemmas.Bool.{cases_lt}
use Rattle.std.proofs.Math.Nat.{min-eq_left, min-eq_right, le-min}
use Rattle.mc_words.specs.model_device.specs.declared.device.Stop.TheVariants.{Off, Worn}
use Rattle.mc_words.specs.model_device.specs.Orders.{Answer}
use Rattle.mc_nvm.specs.declared.fuse.Fuse.{Fuse as Inside}
use Rattle.mc_nvm.specs.declared.sim.SimNvm.TheInside.{Inside as Held}
use Rattle.mc_nvm.specs.declared.fuse.Due.{Due as Found}
use Rattle.mc_nvm.specs.declared.fuse.Due.TheVariants.{Cut as FoundCut, Worn as FoundFailure, Not as FoundNot}
use Rattle.mc_words.specs.model_device.specs.Counts.{Rose, last_count}
use Rattle.mc_words.specs.model_device.specs.Device.{blank_words, DeviceState, BenchState, Fuse, Wrote, NextWriteEnds, fill_at, BenchWrote, Due, DueCut, DueFailure, DueNot, due, next_fill, fuse_after_write, next_count}

-- the state of a device in memory
pub record Sim : Type 0 where
  pub words : List (List ℕ)
  pub on : Bool
  pub cuts : ℕ
  pub faults : ℕ
  pub cut : Option Fuse
  pub worn : Option Fuse
  pub powers : ℕ
  pub pokes : ℕ
  pub poked : ℕ
  pub arms : ℕ
  pub wears : ℕ

-- the fuse that a fuse in memory is
abbrev pub fuse_of : Inside → Fuse
fuse_of f = record { writes = f.writes; fill = f.fill }

-- what the fuses do to the next write, as the code found it
abbrev pub due_of : Found → Due
due_of (FoundCut fill) = DueCut fill
due_of (FoundFailure fill) = DueFailure fill
due_of FoundNot = DueNot

-- the state of a device in memory, from its fields
abbrev pub sim_of : Held → Sim
sim_of a = record { words = a.words.items; on = a.on; cuts = a.cuts; faults = a.faults; cut = option_map fuse_of a.cut; worn = option_map fuse_of a.worn; powers = a.powers; pokes = a.pokes; poked = a.poked; arms = a.arms; wears = a.wears }

-- a blank device: power is off, there is no fuse, and every count is 0
abbrev pub blank_sim : ℕ → Sim
blank_sim n = record { words = blank_words n; on = false; cuts = 0; faults = 0; cut = None; worn = None; powers = 0; pokes = 0; poked = 0; arms = 0; wears = 0 }

-- a device in memory as a device; it records no tape
abbrev pub sim_state : Sim → DeviceState
sim_state s = record { words = s.words; on = s.on; cuts = s.cuts; faults = s.faults; tape = None }

-- a device in memory as a bench; no write fails but by a fuse
abbrev pub sim_bench : Sim → BenchState
sim_bench s = record { cut = s.cut; worn = s.worn; powers = s.powers; pokes = s.pokes; poked = s.poked; arms = s.arms; wears = s.wears; steady = true }

-- the device after a write with this due, its fuses nearer by one
abbrev pub after_write : Sim → ℕ → List ℕ → Due → Sim
after_write s at w (DueCut fill) = record s { words = slice_set s.words at fill; on = false; cuts = next_count s.cuts; cut = fuse_after_write s.cut; worn = fuse_after_write s.worn }
after_write s at w (DueFailure fill) = record s { words = slice_set s.words at fill; faults = next_count s.faults; cut = fuse_after_write s.cut; worn = fuse_after_write s.worn }
after_write s at w DueNot = record s { words = slice_set s.words at w; cut = fuse_after_write s.cut; worn = fuse_after_write s.worn }

-- how a write with this due ends
abbrev pub answer_to : Due → Answer
answer_to (DueCut fill) = Err Off
answer_to (DueFailure fill) = Err Worn
answer_to DueNot = Ok tt

-- a fuse that leaves a word
abbrev pub Fills : Option Fuse → Type 0
Fills None = Unit {0}
Fills (Some f) = length f.fill ≡ 8

-- the due of a write that fails by itself, or does not: a cut goes before that
abbrev pub own : Bool → Due → Due
own false d = d
own true (DueCut fill) = DueCut fill
own true (DueFailure fill) = DueFailure (replicate 8 0)
own true DueNot = DueFailure (replicate 8 0)

-- the due of the next write, by whether it fails by itself
abbrev pub next_due : Bool → Sim → Due
next_due refused s = own refused (due (next_fill s.cut) (next_fill s.worn))

-- what holds of each device in memory
pub record Sound (s : Sim) : Type 0 where
  pub low : 256 ≤ length s.words
  pub high : length s.words ≤ 16384
  pub cuts : s.cuts ≤ last_count
  pub faults : s.faults ≤ last_count
  pub cut : Fills s.cut
  pub worn : Fills s.worn

-- one write of a device in memory, which fails only by a fuse
pub record SimWrote (s : Sim) (at : ℕ) (w : List ℕ) (a : Answer) (e : Sim) : Type 0 where
  pub place : at < length s.words
  pub size : length w ≡ 8
  pub sound : Sound s
  pub answer : a ≡ answer_to (next_due false s)
  pub after : e ≡ after_write s at w (next_due false s)

-- ---- the rules

-- a count that is one higher rose
pub next_rose : (n : ℕ) → n ≤ last_count → Rose n (next_count n)
next_rose n h = elim (cases_lt n last_count) [
  | inl below ↦ inl (subst (λ (m : ℕ). n < m) (sym (min-eq_left {n = n + 1} {m = last_count} (omega arith))) (omega arith))
  | inr last ↦ inr (min-eq_right {n = last_count} {m = n + 1} (omega arith))
]

pub next_not_less : (n : ℕ) → n ≤ last_count → n ≤ next_count n
next_not_less n h = le-min (omega arith) h

-- a fuse that falls leaves its own fill
fills_word : (k : ℕ) (given fill : List ℕ) → length given ≡ 8 → fill_at k given ≡ Some fill → length fill ≡ 8
fills_word zero given fill h e = absurd (cc e)
fills_word (suc zero) given fill h e = grind (arith, h, e)
fills_word (suc (suc k)) given fill h e = absurd (cc e)

pub falls_word : (f : Option Fuse) (fill : List ℕ) → Fills f → next_fill f ≡ Some fill → length fill ≡ 8
falls_word None fill h e = absurd (cc e)
falls_word (Some f) fill h e = fills_word f.writes f.fill fill h e

rules : (s : Sim) (at : ℕ) (w : List ℕ) → s.on ≡ true → Sound s → (c b : Option (List ℕ)) → next_fill s.cut ≡ c → next_fill s.worn ≡ b
    → Wrote (sim_state s) at w (answer_to (due c b)) (sim_state (after_write s at w (due c b)))
rules s at w on sound (Some fill) b ec eb =
    record { left = fill; size = falls_word s.cut fill sound.cut ec; words = refl; power = refl; cuts = next_rose s.cuts sound.cuts; falls_not = next_not_less s.cuts sound.cuts; faults = refl; tape = tt }
rules s at w on sound None (Some fill) ec eb =
    record { left = fill; size = falls_word s.worn fill sound.worn eb; words = refl; power = on; cuts = refl; faults = next_rose s.faults sound.faults; falls_not = next_not_less s.faults sound.faults; tape = tt }
rules s at w on sound None None ec eb = record { words = refl; power = on; cuts = refl; faults = refl; tape = tt }

-- a write of a device in memory keeps the rules of devices
pub sim_obeys : (s : Sim) (at : ℕ) (w : List ℕ) (a : Answer) (e : Sim) → (sim_state s).on ≡ true → SimWrote s at w a e → Wrote (sim_state s) at w a (sim_state e)
sim_obeys s at w a e on r =
    subst (λ (t : Answer). Wrote (sim_state s) at w t (sim_state e)) (sym r.answer)
    (subst (λ (t : Sim). Wrote (sim_state s) at w (answer_to (next_due false s)) (sim_state t)) (sym r.after)
    (rules s at w on r.sound (next_fill s.cut) (next_fill s.worn) refl refl))

burnt : (s : Sim) (at : ℕ) (w : List ℕ) (d : Due) → next_due false s ≡ d
    → BenchWrote (sim_state s) (sim_bench s) at (answer_to d) (sim_state (after_write s at w d)) (sim_bench (after_write s at w d))
burnt s at w (DueCut fill) is = record { ends = subst (λ (t : Due). NextWriteEnds t true (sim_state s) at (Err Off) (sim_state (after_write s at w (DueCut fill)))) (sym is) (refl, refl); counts = (refl, refl); fuses = inl refl }
burnt s at w (DueFailure fill) is = record { ends = subst (λ (t : Due). NextWriteEnds t true (sim_state s) at (Err Worn) (sim_state (after_write s at w (DueFailure fill)))) (sym is) (refl, refl); counts = (refl, refl); fuses = inl refl }
burnt s at w DueNot is = record { ends = subst (λ (t : Due). NextWriteEnds t true (sim_state s) at (Ok tt) (sim_state (after_write s at w DueNot))) (sym is) refl; counts = (refl, refl); fuses = refl }

-- a write of a device in memory is stopped by the fuses alone
pub sim_burns : (s : Sim) (at : ℕ) (w : List ℕ) (a : Answer) (e : Sim) → (sim_state s).on ≡ true → SimWrote s at w a e → BenchWrote (sim_state s) (sim_bench s) at a (sim_state e) (sim_bench e)
sim_burns s at w a e on r =
    subst (λ (t : Answer). BenchWrote (sim_state s) (sim_bench s) at t (sim_state e) (sim_bench e)) (sym r.answer)
    (subst (λ (t : Sim). BenchWrote (sim_state s) (sim_bench s) at (answer_to (next_due false s)) (sim_state t) (sim_bench t)) (sym r.after)
    (burnt s at w (next_due false s) refl))
