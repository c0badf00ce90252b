-- A frame of a running application, the public segment that a chain shares, and the accesses to both.
use Rattle.std.specs.Prelude.{ℕ, suc, ◌+◌, ◌-◌, Bool, true, false, cond, not, ◌&&◌, ◌||◌, nat_lt, nat_le, ◌==◌, List, [], ◌∷◌, ◌++◌, length, take, drop, ℤ, pos, negsuc, unwrap_or, is_none, Option, Some, None}
use Rattle.model_device.specs.Bytes.{be2, bytes2, num, zeros, splice}
use Rattle.model_device.specs.Pieces.{laid_pieces, touched_words}
use Rattle.model_machine.specs.Apdu.{ApduParts}

-- the frame of a running application: `fixed` is the static segment without the pending pieces, `dyn` the 512 dynamic
-- bytes, `at` the code address
pub record Frame : Type 0 where
  pub name : List ℕ
  pub code_len : ℕ
  pub session : ℕ
  pub deny : ℕ
  pub fixed : List ℕ
  pub pieces : List (ℕ × List ℕ)
  pub dyn : List ℕ
  pub dt : ℕ
  pub lb : ℕ
  pub at : ℕ
  pub c : Bool
  pub z : Bool
  pub protected : Bool

-- ---- addresses

-- DB, where the dynamic segment begins
abbrev pub dynamic_base : ℕ
dynamic_base = 0x8000

-- the greatest address at which the dynamic segment ends
abbrev pub dynamic_end : ℕ
dynamic_end = 0x8200

-- PB, where the public segment begins
abbrev pub public_base : ℕ
public_base = 0xC000

-- PT, where the public segment ends
abbrev pub public_end : ℕ
public_end = 0xC411

-- the lowest address of the stack, after the session bytes
abbrev pub floor : Frame → ℕ
floor f = dynamic_base + f.session

-- a segment, and the place in it
pub data Place : Type 0 where
  Static : (at : ℕ) → Place
  Dynamic : (at : ℕ) → Place
  Public : (at : ℕ) → Place

-- the place of n bytes at an address, if they lie whole in a segment (n is at least 1)
abbrev pub where_is : Frame → ℕ → ℕ → Option Place
where_is f a n =
    cond (nat_le (a + n) (length f.fixed)) (Some (Static a)) (
    cond (nat_le dynamic_base a && nat_le (a + n) f.dt) (Some (Dynamic (a - dynamic_base))) (
    cond (nat_le public_base a && nat_le (a + n) public_end) (Some (Public (a - public_base))) None
    )
    )

-- the registers SB, ST, DB, LB, DT, PB and PT, with the numbers 1 to 7
abbrev pub register : Frame → ℕ → ℕ
register f tag =
    cond (tag == 1) 0 (cond (tag == 2) (length f.fixed) (cond (tag == 3) dynamic_base (
    cond (tag == 4) f.lb (cond (tag == 5) f.dt (cond (tag == 6) public_base public_end))
    )))

-- a number, if it is an address: below 65,536
abbrev pub in_two_bytes : ℕ → Option ℕ
in_two_bytes a = cond (nat_lt a 65536) (Some a) None

-- a number plus a signed one, if that is an address
abbrev pub moved_address : ℕ → ℤ → Option ℕ
moved_address r (pos n) = in_two_bytes (r + n)
moved_address r (negsuc n) = cond (nat_lt n r) (in_two_bytes (r - suc n)) None

-- register plus offset, if that is an address
abbrev pub resolve : Frame → ℕ → ℤ → Option ℕ
resolve f tag off = moved_address (register f tag) off

-- ---- reading and writing

-- the static bytes as the frame reads them
abbrev pub static_bytes : Frame → List ℕ
static_bytes f = laid_pieces f.fixed f.pieces

-- n bytes at a place of a segment
abbrev pub bytes_in : Frame → List ℕ → ℕ → Option Place → List ℕ
bytes_in f public n None = []
bytes_in f public n (Some (Static i)) = take n (drop i (static_bytes f))
bytes_in f public n (Some (Dynamic i)) = take n (drop i f.dyn)
bytes_in f public n (Some (Public i)) = take n (drop i public)

-- the n bytes at an address
unfoldable pub bytes_at : Frame → List ℕ → ℕ → ℕ → List ℕ
bytes_at f public a n = cond (n == 0) [] (bytes_in f public n (where_is f a n))

-- the number in the two bytes at an address
abbrev pub address_at : Frame → List ℕ → ℕ → ℕ
address_at f public a = num (bytes_at f public a 2)

-- whether n bytes at an address are not whole in a segment, abend 03. No bytes always are
abbrev pub is_outside : Frame → ℕ → ℕ → Bool
is_outside f a n = not (n == 0) && is_none (where_is f a n)

-- whether n bytes at an address, which may be none, are not whole in a segment, abend 03
abbrev pub no_access : Frame → Option ℕ → ℕ → Bool
no_access f None n = true
no_access f (Some a) n = is_outside f a n

-- the result of a change of a frame: the frame, the public segment, and the list of static changes, if it makes one
pub record Effect : Type 0 where
  pub frame : Frame
  pub public : List ℕ
  pub changes : Option (List (ℕ × List ℕ))

-- the effect of writing static bytes: at once, or as pending pieces while protection is on
abbrev pub static_written : Bool → Frame → List ℕ → ℕ → List ℕ → Effect
static_written false f public i b =
    record { frame = record f { fixed = splice f.fixed i b }; public = public; changes = Some ((i, b) ∷ []) }
static_written true f public i b =
    record { frame = record f { pieces = f.pieces ++ (i, b) ∷ [] }; public = public; changes = None }

-- the effect of writing bytes at a place of a segment
abbrev pub write_effect_at : Frame → List ℕ → List ℕ → Option Place → Effect
write_effect_at f public b None = record { frame = f; public = public; changes = None }
write_effect_at f public b (Some (Static i)) = static_written f.protected f public i b
write_effect_at f public b (Some (Dynamic i)) = record { frame = record f { dyn = splice f.dyn i b }; public = public; changes = None }
write_effect_at f public b (Some (Public i)) = record { frame = f; public = splice public i b; changes = None }

-- the effect of writing bytes at an address
unfoldable pub write_effect : Frame → List ℕ → ℕ → List ℕ → Effect
write_effect f public a b = write_effect_at f public b (where_is f a (length b))

-- whether with n bytes more at a place of the static segment more than 64 distinct words would be pending, abend 08
abbrev pub passes_limit : Bool → Frame → Option Place → ℕ → Bool
passes_limit true f (Some (Static i)) n = nat_lt 64 (length (touched_words (f.pieces ++ (i, zeros n) ∷ [])))
passes_limit true f (Some (Dynamic i)) n = false
passes_limit true f (Some (Public i)) n = false
passes_limit true f None n = false
passes_limit false f place n = false

-- whether a write of n bytes at an address would pass that limit, abend 08
unfoldable pub too_many : Frame → ℕ → ℕ → Bool
too_many f a n = passes_limit f.protected f (where_is f a n) n

-- ---- the stack

-- whether fewer than n bytes are above the floor, abend 04
abbrev pub is_under : Frame → ℕ → Bool
is_under f n = nat_lt f.dt (floor f + n)

-- whether n bytes more would pass the end of the stack, abend 05
abbrev pub is_over : Frame → ℕ → Bool
is_over f n = nat_lt dynamic_end (f.dt + n)

-- the frame with bytes pushed on its stack
abbrev pub frame_after_push : Frame → List ℕ → Frame
frame_after_push f b = record f { dyn = splice f.dyn (f.dt - dynamic_base) b; dt = f.dt + length b }

-- the stack without its top n bytes
abbrev pub frame_after_pop : Frame → ℕ → Frame
frame_after_pop f n = record f { dt = f.dt - n }

-- the n bytes of the stack that begin k bytes below its top
abbrev pub stack_bytes : Frame → ℕ → ℕ → List ℕ
stack_bytes f k n = take n (drop (f.dt - k - dynamic_base) f.dyn)

-- the top n bytes of the stack
abbrev pub top : Frame → ℕ → List ℕ
top f n = stack_bytes f n n

-- the frame with the top bytes of its stack replaced
abbrev pub frame_with_top : Frame → List ℕ → Frame
frame_with_top f b = record f { dyn = splice f.dyn (f.dt - length b - dynamic_base) b }

-- the frame with these flags C and Z
abbrev pub frame_with_flags : Frame → Bool → Bool → Frame
frame_with_flags f c z = record f { c = c; z = z }

-- ---- calls

-- the frame after a call: LB and the code address are pushed, LB is the new top, and the code goes on at the target
abbrev pub frame_after_entry : Frame → ℕ → Frame
frame_after_entry f to = let g = frame_after_push f (bytes2 f.lb ++ bytes2 f.at) in record g { lb = g.dt; at = to }

-- whether no frame of a call lies below with i bytes under it, or fewer than o bytes lie above it, abend 04
abbrev pub no_return : Frame → ℕ → ℕ → Bool
no_return f i o = not (nat_le (floor f + 4 + i) f.lb && nat_le (f.lb + o) f.dt)

-- the saved LB and return address
abbrev pub saved_address : Frame → ℕ → ℕ
saved_address f k = num (take 2 (drop (f.lb - k - dynamic_base) f.dyn))

-- the frame after a return: the top o bytes move over the frame of the call and the i bytes below it
abbrev pub come_back : Frame → ℕ → ℕ → Frame
come_back f i o =
    record f {
      dyn = splice f.dyn (f.lb - 4 - i - dynamic_base) (top f o);
      dt = f.lb - 4 - i + o;
      lb = saved_address f 4;
      at = saved_address f 2;
    }

-- ---- protection

-- the static changes of a commit: all pending pieces at once; with none no change
abbrev pub pending_change : Frame → List (ℕ × List ℕ) → Option (List (ℕ × List ℕ))
pending_change f [] = None
pending_change f (p ∷ ps) = Some (p ∷ ps)

-- the effect of a change of protection: mode 0 drops the pending pieces and turns it off; 1 commits, off; 2 drops, on;
-- 3 commits, on
abbrev pub protect : Frame → List ℕ → ℕ → Effect
protect f public mode =
    let on = nat_le 2 mode in
    cond (mode == 1 || mode == 3) (
    record { frame = record f { fixed = static_bytes f; pieces = []; protected = on }; public = public; changes = pending_change f f.pieces }
    ) (record { frame = record f { pieces = []; protected = on }; public = public; changes = None })

-- ---- beginnings

-- a frame before its first instruction
abbrev pub new_frame : List ℕ → ℕ → ℕ → List ℕ → List ℕ → Frame
new_frame name code_len deny fixed session =
    record {
      name = name;
      code_len = code_len;
      session = length session;
      deny = deny;
      fixed = fixed;
      pieces = [];
      dyn = session ++ zeros (512 - length session);
      dt = dynamic_base + length session;
      lb = dynamic_base + length session;
      at = 0;
      c = false;
      z = false;
      protected = false;
    }

-- the session bytes of a frame
abbrev pub session_of : Frame → List ℕ
session_of f = take f.session f.dyn

-- The public segment of a command: the data, then in its last 17 bytes four zeros, CLA, INS, P1, P2, P3, Lc (2), Le
-- (2), La (2) and SW (2).
abbrev pub new_public : ApduParts → List ℕ
new_public a =
    a.body ++ zeros (1028 - length a.body) ++ a.cla ∷ a.ins ∷ a.p1 ∷ a.p2 ∷ a.p3
    ∷ (bytes2 (length a.body) ++ bytes2 (unwrap_or a.le 0) ++ 0 ∷ 0 ∷ 0x90 ∷ 0 ∷ [])

-- the public segment with this status
abbrev pub with_sw : List ℕ → ℕ → List ℕ
with_sw public sw = splice public 1039 (bytes2 sw)

-- the public segment with this length of the reply
abbrev pub with_la : List ℕ → ℕ → List ℕ
with_la public la = splice public 1037 (bytes2 la)

-- the status in the public segment
abbrev pub sw_of : List ℕ → ℕ
sw_of public = be2 public 1039

-- the length of the reply in the public segment
abbrev pub la_of : List ℕ → ℕ
la_of public = be2 public 1037
