-- What a change of a frame leaves as it was: its name, its sizes, LB, and the bytes of the stack below LB, if no byte
-- of them is written.
use Rattle.std.proofs.Common.{◌≡◌, ℕ, ◌+◌, ◌-◌, ◌≤◌, Bool, true, false, cond, List, [], ◌++◌, take, drop, length, Option, Some, None, refl, sym, ap, subst, ◌∙◌, arith, drop_at, drop-drop, take-take}
use Rattle.std.specs.Prelude.{◌==◌, ◌&&◌, ◌||◌, nat_le}
use Rattle.std.proofs.lemmas.Bool.{and_parts, leb-true}
use Rattle.std.proofs.lemmas.List.{length-append, length-take-le, take-append-le, drop-take}
use Rattle.law_family.specs.model_device.specs.Bytes.{splice}
use Rattle.law_family.specs.model_machine.specs.Frame.{Frame, Effect, Place, Static, Dynamic, Public, where_is, floor, dynamic_base, dynamic_end, static_written, write_effect_at, write_effect, frame_after_push, frame_with_top, protect, static_bytes, pending_change}
use Rattle.law_family.specs.model_machine.specs.Primitives.{frame_effect, effect_flagged}
use Rattle.law_family.specs.model_device.proofs.ListLemmas.{length_splice}
use Rattle.mc_check.specs.Standing.{StandsAt, calls_of}

-- ---- lists

-- the front of a list, written from there on
front_splice : (l : List ℕ) (n at : ℕ) (b : List ℕ) → n ≤ at → at ≤ length l → take n (splice l at b) ≡ take n l
front_splice l n at b before inside =
    let size : length (take at l) ≡ at = length-take-le at l inside in
    let more : length (take at l ++ b) ≡ length (take at l) + length b = length-append (take at l) b in
    take-append-le n (take at l ++ b) (drop (at + length b) l) (omega arith)
    ∙ take-append-le n (take at l) b (omega arith)
    ∙ take-take n at l before

-- the middle of a list, if the write is after it
middle_splice : (l : List ℕ) (from n at : ℕ) (b : List ℕ) → from + n ≤ at → at ≤ length l → take n (drop from (splice l at b)) ≡ take n (drop from l)
middle_splice l from n at b before inside =
    sym (drop-take from n (splice l at b)) ∙ ap (drop from) (front_splice l (from + n) at b before inside) ∙ drop-take from n l

-- the rest of a list, if the write is before it
rest_splice : (l : List ℕ) (from at : ℕ) (b : List ℕ) → at + length b ≤ from → at ≤ length l → drop from (splice l at b) ≡ drop from l
rest_splice l from at b behind inside =
    let past = at + length b in
    let size : length (take at l ++ b) ≡ past = length-append (take at l) b ∙ ap (λ (n : ℕ). n + length b) (length-take-le at l inside) in
    let split : past + (from - past) ≡ from = omega arith in
    ap (λ (n : ℕ). drop n (splice l at b)) (sym split)
    ∙ sym (drop-drop (from - past) past (splice l at b))
    ∙ ap (drop (from - past)) (drop_at (take at l ++ b) (drop past l) past size)
    ∙ drop-drop (from - past) past l
    ∙ ap (λ (n : ℕ). drop n l) split

-- ---- frames

-- a frame whose stack is whole: LB not below the floor, DT `height` bytes above LB and not above the end
pub record IsRoomy (f : Frame) (height : ℕ) : Type 0 where
  pub dyn : length f.dyn ≡ 512
  pub low : floor f ≤ f.lb
  pub top : f.dt ≡ f.lb + height
  pub high : f.dt ≤ dynamic_end

pub stands_roomy : (len size base h : ℕ) (f : Frame) → StandsAt len size base h f → IsRoomy f h
stands_roomy len size base h f s =
    let session : f.session ≡ size = s.session in
    let lb : f.lb ≡ dynamic_base + size + base = s.lb in
    let dt : f.dt ≡ f.lb + h = s.dt in
    let room : size + base + h ≤ 512 = s.room in
    record { dyn = s.dyn; low = omega arith; top = s.dt; high = omega arith }

-- What an effect leaves of a frame with these parts: DT is `height` bytes above LB then, the code goes on at `place`,
-- and the calls are unchanged if the write is safe.
pub record KeptParts (known : List ℕ) (size len base : ℕ) (opened : List ℕ) (height place : ℕ) (safe : Type 0) (e : Effect) : Type 0 where
  pub name : e.frame.name ≡ known
  pub session : e.frame.session ≡ size
  pub code_len : e.frame.code_len ≡ len
  pub lb : e.frame.lb ≡ base
  pub dyn : length e.frame.dyn ≡ 512
  pub dt : e.frame.dt ≡ base + height
  pub at : e.frame.at ≡ place
  pub calls : safe → calls_of e.frame ≡ opened

abbrev pub KeepsCalls : Frame → ℕ → ℕ → Type 0 → Effect → Type 0
KeepsCalls f height place safe e = KeptParts f.name f.session f.code_len f.lb (calls_of f) height place safe e

-- ---- effects by kind

-- a frame as it was
pub framed_kept : (f : Frame) (h k : ℕ) (safe : Type 0) (public : List ℕ) → IsRoomy f h → k ≡ h → KeepsCalls f k f.at safe (frame_effect f public)
framed_kept f h k safe public r is =
    let top : f.dt ≡ f.lb + h = r.top in
    record { name = refl; session = refl; code_len = refl; lb = refl; dyn = r.dyn; dt = omega arith; at = refl; calls = λ p. refl }

-- the code goes on elsewhere
pub gone_kept : (f : Frame) (h k to : ℕ) (safe : Type 0) (public : List ℕ) → IsRoomy f h → k ≡ h → KeepsCalls f k to safe (frame_effect (record f { at = to }) public)
gone_kept f h k to safe public r is =
    let top : f.dt ≡ f.lb + h = r.top in
    record { name = refl; session = refl; code_len = refl; lb = refl; dyn = r.dyn; dt = omega arith; at = refl; calls = λ p. refl }

-- an effect that sets the flags besides
pub flagged_kept : (f : Frame) (k place : ℕ) (safe : Type 0) (e : Effect) (c z : Bool) → KeepsCalls f k place safe e → KeepsCalls f k place safe (effect_flagged e c z)
flagged_kept f k place safe e c z s = record { name = s.name; session = s.session; code_len = s.code_len; lb = s.lb; dyn = s.dyn; dt = s.dt; at = s.at; calls = s.calls }

-- ---- written bytes

-- Bytes at a dynamic address that are none of those from the floor up to LB: session bytes, bytes from LB on, or any if
-- LB is the floor.
pub data MissesCalls (low base a n : ℕ) : Type 0 where
  session : a + n ≤ low → MissesCalls low base a n
  stack : base ≤ a → MissesCalls low base a n
  none : base ≤ low → MissesCalls low base a n

spliced_calls : (f : Frame) (h a : ℕ) (b : List ℕ) → IsRoomy f h → dynamic_base ≤ a → a + length b ≤ dynamic_end → MissesCalls (floor f) f.lb a (length b)
    → take (f.lb - floor f) (drop f.session (splice f.dyn (a - dynamic_base) b)) ≡ calls_of f
spliced_calls f h a b r from to h7 = grind (arith, rest_splice, middle_splice)

-- bytes written into the dynamic segment, DT at a place not above its end
spliced_kept : (f : Frame) (h k dt a : ℕ) (b : List ℕ) (safe : Type 0) (public : List ℕ) → IsRoomy f h → dynamic_base ≤ a → a + length b ≤ dynamic_end → dt ≡ f.lb + k → (safe → MissesCalls (floor f) f.lb a (length b))
    → KeepsCalls f k f.at safe (frame_effect (record f { dyn = splice f.dyn (a - dynamic_base) b; dt = dt }) public)
spliced_kept f h k dt a b safe public r from to is untouched =
    record {
      name = refl;
      session = refl;
      code_len = refl;
      lb = refl;
      dyn = length_splice f.dyn (a - dynamic_base) b (omega (arith, r.dyn)) ∙ r.dyn;
      dt = is;
      at = refl;
      calls = λ p. spliced_calls f h a b r from to (untouched p);
    }

-- bytes pushed
pub pushed_kept : (f : Frame) (h k : ℕ) (b : List ℕ) (safe : Type 0) (public : List ℕ) → IsRoomy f h → k ≡ h + length b → f.dt + length b ≤ dynamic_end → KeepsCalls f k f.at safe (frame_effect (frame_after_push f b) public)
pushed_kept f h k b safe public r is room =
    let top : f.dt ≡ f.lb + h = r.top in
    let low : floor f ≤ f.lb = r.low in
    spliced_kept f h k (f.dt + length b) f.dt b safe public r (omega arith) room (omega arith) (λ p. stack (omega arith))

-- the top bytes replaced
pub topped_kept : (f : Frame) (h k : ℕ) (b : List ℕ) (safe : Type 0) (public : List ℕ) → IsRoomy f h → length b ≤ h → k ≡ h → KeepsCalls f k f.at safe (frame_effect (frame_with_top f b) public)
topped_kept f h k b safe public r few is =
    let top : f.dt ≡ f.lb + h = r.top in
    let low : floor f ≤ f.lb = r.low in
    let high : f.dt ≤ dynamic_end = r.high in
    spliced_kept f h k f.dt (f.dt - length b) b safe public r (omega arith) (omega arith) (omega arith) (λ p. stack (omega arith))

-- the place of bytes that lie in the dynamic segment
dynamic_fits : (s d p : Bool) (a n i j k dt : ℕ) → d ≡ (nat_le dynamic_base a && nat_le (a + n) dt)
    → cond s (Some (Static j)) (cond d (Some (Dynamic (a - dynamic_base))) (cond p (Some (Public k)) None)) ≡ Some (Dynamic i) → (dynamic_base ≤ a) × (a + n ≤ dt) × (i ≡ a - dynamic_base)
dynamic_fits s d p a n i j k dt test e = grind (arith, and_parts, leb-true)

static_kept : (b : Bool) (f : Frame) (h k : ℕ) (safe : Type 0) (public : List ℕ) (i : ℕ) (bytes : List ℕ) → IsRoomy f h → k ≡ h → KeepsCalls f k f.at safe (static_written b f public i bytes)
static_kept true f h k safe public i bytes r is =
    let top : f.dt ≡ f.lb + h = r.top in
    record { name = refl; session = refl; code_len = refl; lb = refl; dyn = r.dyn; dt = omega arith; at = refl; calls = λ p. refl }
static_kept false f h k safe public i bytes r is =
    let top : f.dt ≡ f.lb + h = r.top in
    record { name = refl; session = refl; code_len = refl; lb = refl; dyn = r.dyn; dt = omega arith; at = refl; calls = λ p. refl }

-- under a condition, a write at an address is safe: if the address is in the dynamic segment, the write touches no call
abbrev pub IsSafeAt : Frame → ℕ → ℕ → Type 0 → Type 0
IsSafeAt f a n safe = dynamic_base ≤ a → a + n ≤ dynamic_end → safe → MissesCalls (floor f) f.lb a n

written_in_kept : (f : Frame) (h k : ℕ) (safe : Type 0) (public : List ℕ) (a : ℕ) (bytes : List ℕ) (place : Option Place) → IsRoomy f h → k ≡ h → IsSafeAt f a (length bytes) safe
    → where_is f a (length bytes) ≡ place → KeepsCalls f k f.at safe (write_effect_at f public bytes place)
written_in_kept f h k safe public a bytes None r is untouched e = framed_kept f h k safe public r is
written_in_kept f h k safe public a bytes (Some (Static i)) r is untouched e = static_kept f.protected f h k safe public i bytes r is
written_in_kept f h k safe public a bytes (Some (Dynamic i)) r is untouched e =
    let high : f.dt ≤ dynamic_end = r.high in
    let top : f.dt ≡ f.lb + h = r.top in
    let fits : (dynamic_base ≤ a) × (a + length bytes ≤ f.dt) × (i ≡ a - dynamic_base) = dynamic_fits _ _ _ a (length bytes) i _ _ f.dt refl e in
    let to : a + length bytes ≤ dynamic_end = omega arith in
    subst (λ (j : ℕ). KeepsCalls f k f.at safe (frame_effect (record f { dyn = splice f.dyn j bytes }) public)) (sym fits.2)
    (spliced_kept f h k f.dt a bytes safe public r fits.0 to (omega arith) (untouched fits.0 to))
written_in_kept f h k safe public a bytes (Some (Public i)) r is untouched e = framed_kept f h k safe (splice public i bytes) r is

-- bytes written at an address
pub written_kept : (f : Frame) (h k : ℕ) (safe : Type 0) (public : List ℕ) (a : ℕ) (bytes : List ℕ) → IsRoomy f h → k ≡ h → IsSafeAt f a (length bytes) safe → KeepsCalls f k f.at safe (write_effect f public a bytes)
unfolding write_effect
written_kept f h k safe public a bytes r is untouched = written_in_kept f h k safe public a bytes (where_is f a (length bytes)) r is untouched refl

-- ---- protection

cond_kept : (f : Frame) (k : ℕ) (safe : Type 0) (b : Bool) (d e : Effect) → KeepsCalls f k f.at safe d → KeepsCalls f k f.at safe e → KeepsCalls f k f.at safe (cond b d e)
cond_kept f k safe true d e s t = s
cond_kept f k safe false d e s t = t

pub protect_kept : (f : Frame) (h k : ℕ) (safe : Type 0) (public : List ℕ) (mode : ℕ) → IsRoomy f h → k ≡ h → KeepsCalls f k f.at safe (protect f public mode)
protect_kept f h k safe public mode r is =
    let top : f.dt ≡ f.lb + h = r.top in
    let on = nat_le 2 mode in
    let kept : Effect = record { frame = record f { fixed = static_bytes f; pieces = []; protected = on }; public = public; changes = pending_change f f.pieces } in
    let dropped : Effect = record { frame = record f { pieces = []; protected = on }; public = public; changes = None } in
    cond_kept f k safe (mode == 1 || mode == 3) kept dropped
    (record { name = refl; session = refl; code_len = refl; lb = refl; dyn = r.dyn; dt = omega arith; at = refl; calls = λ p. refl })
    (record { name = refl; session = refl; code_len = refl; lb = refl; dyn = r.dyn; dt = omega arith; at = refl; calls = λ p. refl })
