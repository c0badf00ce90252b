-- What is read in a segment: as many bytes as are asked for, of the memory, in the machine's frame and in a scene.
use Rattle.std.proofs.Common.{◌≡◌, ℕ, zero, suc, ◌<◌, ◌≤◌, Bool, true, false, List, length, refl, ap, ◌∙◌, arith}
use Rattle.std.specs.Prelude.{◌==◌, ◌||◌, ◌&&◌, not, is_none, ⊤}
use Rattle.std.proofs.lemmas.Bool.{eqb-true, false_from_ne_true}
use Rattle.law_prove.specs.model_device.specs.Bytes.{AreBytes}
use Rattle.law_prove.specs.model_machine.specs.declared.instruction.Ins.{Ins}
use Rattle.law_prove.specs.model_machine.specs.Frame.{Frame, where_is, is_outside, bytes_at, frame_after_pop}
use Rattle.law_prove.specs.model_machine.specs.Primitives.{Around}
use Rattle.law_prove.specs.model_rules.specs.Rules.{Target}
use Rattle.law_prove.specs.model_prove.specs.Facts.{Memory}
use Rattle.law_prove.specs.model_prove.specs.Compares.{bytes_from}
use Rattle.law_prove.specs.model_prove.specs.Keys.{Tables}
use Rattle.law_prove.specs.model_prove.specs.Arrivals.{Setting}
use Rattle.law_prove.specs.model_rules.specs.Loadable.{IsLoadable}
use Rattle.law_prove.specs.Laws.{LeadsInto}
use Rattle.law_prove.proofs.Alike.{Sized, from_length, read_is}
use Rattle.law_prove.proofs.Moves.{turn_sized}
use Rattle.law_prove.proofs.Single.{Turn}
use Rattle.law_prove.proofs.ReachScenes.{with_bytes, Fits, fits_sized, same_outside, same_where}
use Rattle.law_prove.proofs.Choices.{fetched_frame, memory}
use Rattle.law_prove.proofs.Tops.{Numbers, Agree}

-- every frame
abbrev pub anybody : Around → Type 0
anybody x = ⊤

-- ---- tests

-- an access of some bytes that is tested is in a segment
pub inside_of : (b x : Bool) → b ≡ false → (not b && x) ≡ false → x ≡ false
inside_of true x some e = absurd (cc some)
inside_of false x some e = e

-- a test whose opposite fails holds
pub not_true : (b : Bool) → not b ≡ false → b ≡ true
not_true true e = refl
not_true false e = absurd (cc e)

-- a length that is at least 1 is not 0
pub not_zero : (n : ℕ) → 1 ≤ n → (n == 0) ≡ false
not_zero n h = false_from_ne_true (n == 0) (λ e. let is = eqb-true n 0 e in omega (arith, h, is))

-- the bytes of a memory of bytes
pub bytes_of : (m : Memory) (a n : ℕ) → ((x : ℕ) → m x < 256) → AreBytes (bytes_from m a n)
bytes_of m a zero h = tt
bytes_of m a (suc n) h = (h a, bytes_of m (suc a) n h)

-- ---- accesses

-- whether one of two accesses is outside
abbrev pub both_missed : Frame → ℕ → ℕ → ℕ → Bool
both_missed h a b n = is_outside h a n || is_outside h b n

-- it is the same in a scene
pub both_same : (h : Frame) (fixed dyn : List ℕ) (a b n : ℕ) → length fixed ≡ length h.fixed → both_missed (with_bytes h fixed dyn) a b n ≡ both_missed h a b n
both_same h fixed dyn a b n size =
    ap (λ (x : Bool). x || is_outside (with_bytes h fixed dyn) b n) (same_outside h fixed dyn a n size) ∙ ap (λ (x : Bool). is_outside h a n || x) (same_outside h fixed dyn b n size)

-- and with the same numbers
pub both_numbers : (h : Frame) (most : ℕ) (v w : Numbers) (n : ℕ) → Agree most v w → 4 ≤ most → both_missed h (v 4) (v 2) n ≡ both_missed h (w 4) (w 2) n
both_numbers h most v w n a high =
    ap (λ (x : ℕ). both_missed h x (v 2) n) (a 4 (omega arith) high) ∙ ap (λ (x : ℕ). both_missed h (w 4) x n) (a 2 (omega arith) (omega (arith, high)))

-- ---- what is read

-- fewer bytes of the stack still fit
pub fits_low : (f : Frame) (k : ℕ) (fixed dyn public : List ℕ) → Fits f fixed dyn public → Fits (frame_after_pop f k) fixed dyn public
fits_low f k fixed dyn public fits = let high = fits.high in record { small = fits.small; size = fits.size; room = fits.room; high = omega (arith, high); whole = fits.whole }

-- as many bytes are read in a scene
pub read_length : (h : Frame) (fixed dyn public : List ℕ) (a n : ℕ) → Fits h fixed dyn public → (n == 0) ≡ false → is_none (where_is h a n) ≡ false → length (bytes_at (with_bytes h fixed dyn) public a n) ≡ n
read_length h fixed dyn public a n fits some inside = grind (arith, with_bytes, read_is, fits_sized, same_where, from_length)

-- bytes below those that are popped are read in the memory
pub turn_read : (s : Setting) (u t : Tables) (g : Target) (loadable : IsLoadable s.app) (leads : LeadsInto s u t) (i : Ins) (turn : Turn s u i) (k a n : ℕ) → (n == 0) ≡ false
    → is_none (where_is (frame_after_pop (fetched_frame s u t g loadable leads i turn) k) a n) ≡ false
    → bytes_at (frame_after_pop (fetched_frame s u t g loadable leads i turn) k) turn.public a n ≡ bytes_from (memory s u t g loadable leads i turn) a n
turn_read s u t g loadable leads i turn k a n some inside = grind (arith, fetched_frame, Sized, turn_sized, read_is)

-- as many as are asked for
pub turn_length : (s : Setting) (u t : Tables) (g : Target) (loadable : IsLoadable s.app) (leads : LeadsInto s u t) (i : Ins) (turn : Turn s u i) (k a n : ℕ) → (n == 0) ≡ false
    → is_none (where_is (frame_after_pop (fetched_frame s u t g loadable leads i turn) k) a n) ≡ false
    → length (bytes_at (frame_after_pop (fetched_frame s u t g loadable leads i turn) k) turn.public a n) ≡ n
turn_length s u t g loadable leads i turn k a n some inside =
    ap (λ (z : List ℕ). length z) (turn_read s u t g loadable leads i turn k a n some inside) ∙ from_length (memory s u t g loadable leads i turn) a n
