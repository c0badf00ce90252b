-- Primitives of one outcome that no byte decides: LOADCCR, which pushes the flags, and the change of protection.
use Rattle.std.proofs.Common.{◌≡◌, ℕ, ◌+◌, ◌-◌, ◌≤◌, Bool, true, false, cond, List, [], ◌∷◌, ◌++◌, length, Some, None, refl, ap, subst, arith}
use Rattle.std.specs.Prelude.{◌&&◌, ◌||◌, ◌==◌, nat_lt, nat_le, flat_map, slice_index}
use Rattle.std.proofs.lemmas.Bool.{lt-ltb}
use Rattle.model_prove.specs.model_device.specs.Bytes.{AreBytes}
use Rattle.model_prove.specs.model_device.specs.Pieces.{laid_pieces}
use Rattle.model_prove.specs.model_machine.specs.declared.instruction.Ins.{Ins}
use Rattle.model_prove.specs.model_machine.specs.declared.instruction.Ins.TheVariants as ins
use Rattle.model_prove.specs.model_machine.specs.declared.machine.Abend.TheVariants.{A05, A06, A0A}
use Rattle.model_prove.specs.model_machine.specs.Frame.{Frame, Effect, dynamic_base, dynamic_end, public_base, static_bytes, pending_change}
use Rattle.model_prove.specs.model_machine.specs.Primitives.{Around, Primitive, SetProtection, is_denied, later_causes}
use Rattle.model_prove.specs.model_machine.specs.Row.{causes}
use Rattle.model_prove.specs.model_machine.specs.Shapes.{Pushes, Protects, prim_shape, shape}
use Rattle.law_rules.specs.law_bytes.specs.law_rows.proofs.Keeping.{length_laid}
use Rattle.model_prove.specs.model_rules.specs.Keeping.{Amounts}
use Rattle.model_prove.specs.Facts.{Memory, Holds, within}
use Rattle.model_prove.specs.Compares.{IsSo, touched}
use Rattle.model_prove.specs.Keys.{Start, Delegated, OfClass, Call, Known, Tables}
use Rattle.model_prove.specs.Laws.{HoldsBytes}
use Rattle.model_prove.specs.Arrivals.{Setting, Arrival, static_size}
use Rattle.model_prove.specs.Steps.{Spot, arounds, sets}
use Rattle.model_prove.specs.Tables.{includes_all}
use Rattle.model_prove.proofs.CompareLemmas.{touched_holds}
use Rattle.law_prove.specs.Coverings.{parts_memory, moment_memory, frame_memory, IsFrameOf}
use Rattle.law_prove.specs.Laws.{LeadLaw, PrimitiveLaw}
use Rattle.law_prove.proofs.Parts.{not_lt, memory_static}
use Rattle.law_prove.proofs.Moments.{within_holds, cond_small}
use Rattle.law_prove.proofs.Places.{holds_both}
use Rattle.law_prove.proofs.Spots.{place_key}
use Rattle.law_prove.proofs.Seen.{Seen, fit_sets}
use Rattle.law_prove.proofs.Acts.{spot_of, Framed, WritesIf, Led, kept_holds}
use Rattle.law_prove.proofs.Turns.{blank}
use Rattle.law_prove.proofs.Single.{RowCase, IsFetchedOnce, law_of, shaped_row, led_pushes, low_frame, low_calls, low_known, low_seen, same_framed}
use Rattle.law_prove.proofs.Plain.{over_is}
use Rattle.law_rules.specs.law_bytes.proofs.ByteLists.{indexed}

-- ---- who delegated does not matter

-- a primitive that does not ask who delegated has the outcome of no primitive
pub asks_nobody : (t : Tables) (f : Around → List Arrival) (p : Primitive) (start : Start) → arounds Delegated (Some p) ≡ arounds Delegated None
    → includes_all t ((flat_map f (arounds start (Some p)) ++ []) ++ []) ≡ true → includes_all t ((flat_map f (arounds start None) ++ []) ++ []) ≡ true
asks_nobody t f p Delegated same e = subst (λ (xs : List Around). includes_all t ((flat_map f xs ++ []) ++ []) ≡ true) same e
asks_nobody t f p (OfClass class) same e = e

-- ---- the flags

load_ccr_once : (args : List ℕ) → IsFetchedOnce (ins.Prim 0 2 args)
load_ccr_once args s u t g loadable leads turn e = grind (arith, asks_nobody, place_key, blank, spot_of)

load_ccr_case : (args : List ℕ) → RowCase (ins.Prim 0 2 args)
unfolding causes shape later_causes prim_shape
load_ccr_case args s u t g loadable leads turn includes =
    let d = turn.frame.dt in
    let b = (cond turn.frame.c 2 0 + cond turn.frame.z 1 0) ∷ [] in
    shaped_row s u t g loadable leads (ins.Prim 0 2 args) turn ((A06, false) ∷ (A0A, false) ∷ (A05, nat_lt dynamic_end (d + 1)) ∷ []) d (Pushes b) None includes refl refl refl refl refl refl
    (λ none. led_pushes s u t g loadable leads (ins.Prim 0 2 args) turn d b (sets b) (fit_sets b) (over_is d 1 1 none.1.1.0 refl) turn.place.frame.low turn.place.frame.high)

-- ---- protection

-- past the static bytes these do not matter
static_beyond : (size : ℕ) (one other dyn segment : List ℕ) (a : ℕ) → size ≤ a → parts_memory size one dyn segment a ≡ parts_memory size other dyn segment a
static_beyond size one other dyn segment a h = grind (arith, not_lt)

commit_writes : (p : Bool) (f : Frame) (ps : List (ℕ × List ℕ)) → (p ≡ false → ps ≡ []) → WritesIf (p && true) (pending_change f ps)
commit_writes p f ps none = grind arith

-- the frame after a change of protection that drops what waits
abbrev dropped : Frame → Bool → Frame
dropped f on = record f { pieces = []; protected = on }

module _ (s : Setting) (st : Start) (al : Amounts) (f : Frame) (public : List ℕ) (calls : List Call) (k : Known) (framed : Framed s.app f) (seen : Seen calls k f public) (always : (session : List ℕ) → AreBytes session → Holds k.kept (moment_memory f.fixed session))
    (bytes : HoldsBytes (parts_memory (length f.fixed) f.fixed f.dyn public)) (on : Bool) where
  kept_size : length (static_bytes f) ≡ length f.fixed
  kept_size = length_laid f.pieces f.fixed framed.inside

  committed_led : Led s st al (record { key = record (place_key st al f calls) { protected = on }; known = record k { kept = within 0 (static_size s) k.bytes } }) (f.protected && true)
      (record { frame = record f { fixed = static_bytes f; pieces = []; protected = on }; public = public; changes = pending_change f f.pieces })
  committed_led = grind (arith, kept_size, within_holds, memory_static, lt-ltb, commit_writes)

  -- what power leaves is what is read
  same_memory : f.pieces ≡ [] → frame_memory f public ≡ frame_memory (dropped f on) public
  same_memory none = ap (λ (ps : List (ℕ × List ℕ)). parts_memory (length f.fixed) (laid_pieces f.fixed ps) f.dyn public) none

  dropped_compare : (p : Bool) → f.protected ≡ p → IsSo (cond p (touched 0 (static_size s) k.compare) k.compare) (frame_memory (dropped f on) public)
  dropped_compare p e = grind (arith, touched_holds, static_beyond, same_memory)

  dropped_led : Led s st al (record { key = record (place_key st al f calls) { protected = on }; known = record k { bytes = k.kept ++ within (static_size s) 65536 k.bytes; compare = cond f.protected (touched 0 (static_size s) k.compare) k.compare } }) (f.protected && false)
      (record { frame = dropped f on; public = public; changes = None })
  dropped_led =
      let size : length f.fixed ≡ static_size s = framed.size in
      let m : Memory = frame_memory (dropped f on) public in
      record {
        key = refl;
        seen = record {
          open_calls = seen.open_calls;
          holds = holds_both k.kept (within (static_size s) 65536 k.bytes) m
              (kept_holds f.fixed m k.kept (λ a low. memory_static (length f.fixed) f.fixed f.dyn public a low) bytes always)
              (within_holds (static_size s) 65536 k.bytes (frame_memory f public) m (λ a low high. static_beyond (length f.fixed) (static_bytes f) f.fixed f.dyn public a (omega (arith, low, size))) seen.holds);
          compares = dropped_compare f.protected refl;
          keeps = λ up session d. always session d;
        };
        framed = record { code = framed.code; deny = framed.deny; session = framed.session; size = size; room = framed.room; inside = tt; settled = λ off. refl; low = framed.low; high = framed.high; base = framed.base };
        writes = tt;
      }

protects_by : (c : Bool) (s : Setting) (st : Start) (al : Amounts) (f : Frame) (public : List ℕ) (calls : List Call) (k : Known) (framed : Framed s.app f) (seen : Seen calls k f public) (always : (session : List ℕ) → AreBytes session → Holds k.kept (moment_memory f.fixed session))
    (bytes : HoldsBytes (parts_memory (length f.fixed) f.fixed f.dyn public)) (on : Bool)
    → Led s st al (cond {A = Spot} c (record { key = record (place_key st al f calls) { protected = on }; known = record k { kept = within 0 (static_size s) k.bytes } }) (record { key = record (place_key st al f calls) { protected = on }; known = record k { bytes = k.kept ++ within (static_size s) 65536 k.bytes; compare = cond f.protected (touched 0 (static_size s) k.compare) k.compare } }))
    (f.protected && c) (cond {A = Effect} c (record { frame = record f { fixed = static_bytes f; pieces = []; protected = on }; public = public; changes = pending_change f f.pieces }) (record { frame = dropped f on; public = public; changes = None }))
protects_by true s st al f public calls k framed seen always bytes on = committed_led s st al f public calls k framed seen always bytes on
protects_by false s st al f public calls k framed seen always bytes on = dropped_led s st al f public calls k framed seen always bytes on

protection_once : (args : List ℕ) → IsFetchedOnce (ins.Prim 1 3 args)
protection_once args s u t g loadable leads turn e = grind (arith, asks_nobody, place_key, blank, spot_of)

protection_case : (args : List ℕ) → RowCase (ins.Prim 1 3 args)
unfolding causes shape later_causes prim_shape
protection_case args s u t g loadable leads turn includes =
    let i : Ins = ins.Prim 1 3 args in
    let d = turn.frame.dt in
    let mode = slice_index args 0 in
    let f : Frame = turn.frame in
    let frame : IsFrameOf s.app f = turn.place.frame in
    let m = parts_memory (length f.fixed) f.fixed f.dyn turn.public in
    let bytes : HoldsBytes m = λ a.
    let y = slice_index f.dyn (a - dynamic_base) in
    let z = slice_index turn.public (a - public_base) in
    cond_small (nat_lt a (length f.fixed)) (slice_index f.fixed a) (cond (nat_lt a dynamic_base) 0 (cond (nat_lt a public_base) y z)) (indexed f.fixed a frame.static)
    (cond_small (nat_lt a dynamic_base) 0 (cond (nat_lt a public_base) y z) (omega arith)
    (cond_small (nat_lt a public_base) y z (indexed f.dyn (a - dynamic_base) turn.place.dynamic) (indexed turn.public (a - public_base) turn.bytes)))
    in
    shaped_row s u t g loadable leads i turn ((A06, nat_lt 3 mode) ∷ (A0A, is_denied f.deny SetProtection) ∷ []) d (Protects mode) None includes refl refl refl refl refl refl
    (λ none. protects_by (mode == 1 || mode == 3) s turn.place.start turn.place.standing.allowances (low_frame s u t g loadable leads i turn d) turn.public (low_calls s u t g loadable leads i turn d) (low_known s u t g loadable leads i turn d)
    (same_framed s u t g loadable leads i turn) (low_seen s u t g loadable leads i turn d) turn.place.keeps bytes (nat_le 2 mode))

load_ccr_law : (args : List ℕ) → LeadLaw (ins.Prim 0 2 args)
load_ccr_law args = law_of (ins.Prim 0 2 args) (load_ccr_once args) (load_ccr_case args)

protection_law : (args : List ℕ) → LeadLaw (ins.Prim 1 3 args)
protection_law args = law_of (ins.Prim 1 3 args) (protection_once args) (protection_case args)

-- LOADCCR and the change of protection are covered
pub primitive_laws : PrimitiveLaw
primitive_laws = (load_ccr_law, protection_law)
