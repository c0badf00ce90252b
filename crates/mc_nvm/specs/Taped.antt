-- A device in memory that records its tape, and on which the writes of a list fail besides.
use Rattle.std.specs.Prelude.{◌≡◌, ◌<◌, ℕ, Bool, true, false, ◌||◌, ◌==◌, nat_le, List, [], ◌∷◌, ◌++◌, length, slice_set, Option, Some, None, refl}
use Rattle.std.proofs.Common.{subst, sym, inl}
use Rattle.mc_words.specs.model_device.specs.declared.device.Stop.{Stop}
use Rattle.mc_words.specs.model_device.specs.declared.device.Stop.TheVariants.{Off, Worn}
use Rattle.mc_words.specs.model_device.specs.Orders.{Answer}
use Rattle.mc_words.specs.model_device.specs.Device.{DeviceState, BenchState, Entry, Wrote, NextWriteEnds, Counts, Burns, Grows, BenchWrote, Due, DueCut, DueFailure, DueNot, due, next_fill, next_count}
use Rattle.mc_nvm.specs.declared.tape_nvm.TapeNvm.TheInside.{Inside as Held}
use Rattle.mc_nvm.specs.Sim.{Sim, sim_state, sim_bench, blank_sim, own, next_due, after_write, answer_to, Sound, falls_word, next_rose, next_not_less}
use Rattle.mc_nvm.specs.Tape.{ReportedTape, more, unless}

-- the state of a device with a tape
pub record Taped : Type 0 where
  pub device : Sim
  pub tape : ReportedTape
  pub worn : List ℕ
  pub tried : ℕ

-- the state of a device with a tape, from its fields
abbrev pub taped_inside : Held → Taped
taped_inside d = record { device = d.device; tape = d.tape; worn = d.worn.items; tried = d.tried }

-- a blank device with an empty tape
abbrev pub blank_taped : ℕ → ℕ → List ℕ → Taped
blank_taped n room worn = record { device = blank_sim n; tape = record { room = room; reported = Some [] }; worn = worn; tried = 0 }

-- whether a number is in a list
abbrev pub is_listed : List ℕ → ℕ → Bool
is_listed [] n = false
is_listed (w ∷ ws) n = (w == n) || is_listed ws n

-- whether a list is empty
abbrev pub no_entry : List ℕ → Bool
no_entry [] = true
no_entry (w ∷ ws) = false

-- a device with a tape as a device
abbrev pub taped_state : Taped → DeviceState
taped_state t = record (sim_state t.device) { tape = t.tape.reported }

-- a device with a tape as a bench: it is steady if and only if its list is empty
abbrev pub taped_bench : Taped → BenchState
taped_bench t = record (sim_bench t.device) { steady = no_entry t.worn }

-- the word that a write with this due leaves
abbrev pub word_after_write : Due → List ℕ → List ℕ
word_after_write (DueCut fill) w = fill
word_after_write (DueFailure fill) w = fill
word_after_write DueNot w = w

-- the stop of a write with this due, if it has one
abbrev pub stop_of : Due → Option Stop
stop_of (DueCut fill) = Some Off
stop_of (DueFailure fill) = Some Worn
stop_of DueNot = None

-- the due of the next write
abbrev pub taped_due : Taped → Due
taped_due t = next_due (is_listed t.worn (next_count t.tried)) t.device

-- the device after a write with this due, with its entry on the tape
abbrev pub after_taped : Taped → ℕ → List ℕ → Due → Taped
after_taped t at w d =
    record t {
      device = after_write t.device at w d;
      tried = next_count t.tried;
      tape = record t.tape { reported = more t.tape.room t.tape.reported (record { at = at; left = word_after_write d w; end = stop_of d }) };
    }

-- one write on a device with a tape
pub record TapedWrote (t : Taped) (at : ℕ) (w : List ℕ) (a : Answer) (e : Taped) : Type 0 where
  pub place : at < length t.device.words
  pub size : length w ≡ 8
  pub sound : Sound t.device
  pub answer : a ≡ answer_to (taped_due t)
  pub after : e ≡ after_taped t at w (taped_due t)

-- ---- the rules

-- a tape with one entry more grew
grown_if : (b : Bool) (es : List Entry) (e : Entry) → Grows (Some es) e (unless b (es ++ e ∷ []))
grown_if true es e = tt
grown_if false es e = refl

grown : (room : ℕ) (t : Option (List Entry)) (e : Entry) → Grows t e (more room t e)
grown room None e = tt
grown room (Some es) e = grown_if (nat_le room (length es)) es e

-- a due leaves a word of eight bytes
DueFills : Due → Type 0
DueFills (DueCut fill) = length fill ≡ 8
DueFills (DueFailure fill) = length fill ≡ 8
DueFills DueNot = Unit {0}

own_fills : (b : Bool) (d : Due) → DueFills d → DueFills (own b d)
unfolding DueFills
own_fills false d h = h
own_fills true (DueCut fill) h = h
own_fills true (DueFailure fill) h = refl
own_fills true DueNot h = refl

due_fills : (s : Sim) → Sound s → (c w : Option (List ℕ)) → next_fill s.cut ≡ c → next_fill s.worn ≡ w → DueFills (due c w)
unfolding DueFills
due_fills s sound (Some fill) w ec ew = falls_word s.cut fill sound.cut ec
due_fills s sound None (Some fill) ec ew = falls_word s.worn fill sound.worn ew
due_fills s sound None None ec ew = tt

rules : (t : Taped) (at : ℕ) (w : List ℕ) → t.device.on ≡ true → Sound t.device → (d : Due) → DueFills d
    → Wrote (taped_state t) at w (answer_to d) (taped_state (after_taped t at w d))
unfolding DueFills
rules t at w on sound (DueCut fill) h =
    record { left = fill; size = h; words = refl; power = refl; cuts = next_rose t.device.cuts sound.cuts; falls_not = next_not_less t.device.cuts sound.cuts; faults = refl; tape = grown t.tape.room t.tape.reported _ }
rules t at w on sound (DueFailure fill) h =
    record { left = fill; size = h; words = refl; power = on; cuts = refl; faults = next_rose t.device.faults sound.faults; falls_not = next_not_less t.device.faults sound.faults; tape = grown t.tape.room t.tape.reported _ }
rules t at w on sound DueNot h = record { words = refl; power = on; cuts = refl; faults = refl; tape = grown t.tape.room t.tape.reported _ }

-- a write keeps the rules of devices
pub taped_obeys : (t : Taped) (at : ℕ) (w : List ℕ) (a : Answer) (e : Taped) → (taped_state t).on ≡ true → TapedWrote t at w a e → Wrote (taped_state t) at w a (taped_state e)
taped_obeys t at w a e on r =
    subst (λ (x : Answer). Wrote (taped_state t) at w x (taped_state e)) (sym r.answer)
    (subst (λ (x : Taped). Wrote (taped_state t) at w (answer_to (taped_due t)) (taped_state x)) (sym r.after)
    (rules t at w on r.sound (taped_due t) (own_fills (is_listed t.worn (next_count t.tried)) _ (due_fills t.device r.sound (next_fill t.device.cut) (next_fill t.device.worn) refl refl))))

-- how a write of a bench ends, if a write of the list may fail
ends : (s : Bool) (b : Bool) (x : DeviceState) (at : ℕ) (w : List ℕ) (d : Due) (e : DeviceState) → (s ≡ true → b ≡ false) → e.words ≡ slice_set x.words at (word_after_write (own b d) w)
    → NextWriteEnds d s x at (answer_to (own b d)) e
ends s false x at w (DueCut fill) e h words = (refl, words)
ends s true x at w (DueCut fill) e h words = (refl, words)
ends true false x at w (DueFailure fill) e h words = (refl, words)
ends false false x at w (DueFailure fill) e h words = refl
ends true true x at w (DueFailure fill) e h words = absurd (cc (h refl))
ends false true x at w (DueFailure fill) e h words = refl
ends true false x at w DueNot e h words = refl
ends false false x at w DueNot e h words = λ q. cc q
ends true true x at w DueNot e h words = absurd (cc (h refl))
ends false true x at w DueNot e h words = λ q. cc q

burnt : (t : Taped) (at : ℕ) (w : List ℕ) (d : Due) → Counts (taped_state t) (answer_to d) (taped_state (after_taped t at w d)) × Burns (taped_bench t) (answer_to d) (taped_bench (after_taped t at w d))
burnt t at w (DueCut fill) = ((refl, refl), inl refl)
burnt t at w (DueFailure fill) = ((refl, refl), inl refl)
burnt t at w DueNot = ((refl, refl), refl)

words_left : (t : Taped) (at : ℕ) (w : List ℕ) (d : Due) → (taped_state (after_taped t at w d)).words ≡ slice_set t.device.words at (word_after_write d w)
words_left t at w (DueCut fill) = refl
words_left t at w (DueFailure fill) = refl
words_left t at w DueNot = refl

none_listed : (ws : List ℕ) (n : ℕ) → no_entry ws ≡ true → is_listed ws n ≡ false
none_listed [] n h = refl
none_listed (w ∷ ws) n h = absurd (cc h)

-- a write is stopped by the fuses, or by the list if there is one
pub taped_burns : (t : Taped) (at : ℕ) (w : List ℕ) (a : Answer) (e : Taped) → (taped_state t).on ≡ true → TapedWrote t at w a e → BenchWrote (taped_state t) (taped_bench t) at a (taped_state e) (taped_bench e)
taped_burns t at w a e on r =
    subst (λ (x : Answer). BenchWrote (taped_state t) (taped_bench t) at x (taped_state e) (taped_bench e)) (sym r.answer)
    (subst (λ (x : Taped). BenchWrote (taped_state t) (taped_bench t) at (answer_to (taped_due t)) (taped_state x) (taped_bench x)) (sym r.after)
    (let both = burnt t at w (taped_due t) in
    record {
      ends = ends (no_entry t.worn) (is_listed t.worn (next_count t.tried)) (taped_state t) at w (due (next_fill t.device.cut) (next_fill t.device.worn)) (taped_state (after_taped t at w (taped_due t))) (none_listed t.worn (next_count t.tried)) (words_left t at w (taped_due t));
      counts = both.0;
      fuses = both.1;
    }))
