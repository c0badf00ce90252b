-- Written addresses that are plain touch no byte of the stack below LB; and the number of bytes that rows read and
-- write.
use Rattle.std.proofs.Common.{◌≡◌, ◌⊎◌, ℕ, suc, ◌+◌, ◌-◌, ◌≤◌, ◌<◌, ℤ, pos, negsuc, Bool, true, false, cond, List, [], ◌∷◌, take, drop, length, Option, Some, None, refl, inl, inr, arith}
use Rattle.std.specs.Prelude.{◌==◌, ◌&&◌, not, nat_lt, nat_le, is_none}
use Rattle.std.proofs.lemmas.Bool.{and_parts, leb-true, ltb-true, eqb-true}
use Rattle.std.proofs.lemmas.List.{length-take, length-drop}
use Rattle.law_family.specs.model_device.specs.Bytes.{splice}
use Rattle.law_family.specs.model_machine.specs.Code.{IsAddress}
use Rattle.law_family.specs.model_device.specs.Pieces.{laid_pieces}
use Rattle.law_family.specs.model_machine.specs.Frame.{Frame, Place, Static, Dynamic, Public, where_is, floor, dynamic_base, dynamic_end, public_base, public_end, moved_address, static_bytes, bytes_in, bytes_at, is_outside, no_access}
use Rattle.law_family.specs.model_machine.specs.Row.{address_or_zero, place_of}
use Rattle.model_stack.specs.StackRows.{Writing, WritesAt, WritesAnywhere, is_plain, is_plain_at}
use Rattle.law_family.specs.model_device.proofs.ListLemmas.{splice_longer}
use Rattle.mc_check.specs.Standing.{StandsAt}
use Rattle.mc_check.proofs.CalmWrites.{IsRoomy, IsSafeAt, MissesCalls, session, stack, none}

-- ---- plain addresses

-- the write is plain, or there is no open call
abbrev pub IsSafe : ℕ → ℕ → ℕ → Writing → Type 0
IsSafe size base h w = (is_plain size h w ≡ true) ⊎ (base ≡ 0)

-- an address that is dynamic is no unknown one
two_is : (b : Bool) (x a : ℕ) → address_or_zero (cond b (Some x) None) ≡ a → dynamic_base ≤ a → a ≡ x
two_is true x a is low = omega arith
two_is false x a is low = absurd (omega arith)

below_is : (b c : Bool) (x a : ℕ) → address_or_zero (cond b (cond c (Some x) None) None) ≡ a → dynamic_base ≤ a → (b ≡ true) × (a ≡ x)
below_is true c x a is low = (refl, two_is c x a is low)
below_is false c x a is low = absurd (omega arith)

-- a register plus j, and less j
up_is : (r j a : ℕ) → address_or_zero (moved_address r (pos j)) ≡ a → dynamic_base ≤ a → a ≡ r + j
up_is r j a is low = two_is (nat_lt (r + j) 65536) (r + j) a is low

down_is : (r j a : ℕ) → address_or_zero (moved_address r (negsuc j)) ≡ a → dynamic_base ≤ a → (j < r) × (a ≡ r - suc j)
down_is r j a is low = grind (arith, below_is, ltb-true)

-- a plain address, tag by tag and by the sign of the offset
plain_untouched : (len size base h : ℕ) (f : Frame) (tag : ℕ) (off : ℤ) (n k m a : ℕ) → StandsAt len size base h f → IsAddress tag off → ((tag == 0) ≡ true → k ≤ h) → m ≤ n
    → place_of f tag off k ≡ a → dynamic_base ≤ a → a + m ≤ dynamic_end → is_plain_at size h tag off n ≡ true → MissesCalls (floor f) f.lb a m
plain_untouched len size base h f tag off n k m a s shaped top few is low high plain = grind (arith, stack, up_is, down_is, leb-true, session, and_parts)

-- without an open call LB is the floor
no_call : (len size base h : ℕ) (f : Frame) (a n : ℕ) → StandsAt len size base h f → base ≡ 0 → MissesCalls (floor f) f.lb a n
no_call len size base h f a n s is = none (omega arith)

safe_untouched : (len size base h : ℕ) (f : Frame) (tag : ℕ) (off : ℤ) (n k m : ℕ) → StandsAt len size base h f → IsAddress tag off → ((tag == 0) ≡ true → k ≤ h) → m ≤ n
    → dynamic_base ≤ place_of f tag off k → place_of f tag off k + m ≤ dynamic_end → IsSafe size base h (WritesAt tag off n) → MissesCalls (floor f) f.lb (place_of f tag off k) m
safe_untouched len size base h f tag off n k m s shaped top few low high (inl plain) = plain_untouched len size base h f tag off n k m _ s shaped top few refl low high plain
safe_untouched len size base h f tag off n k m s shaped top few low high (inr is) = no_call len size base h f _ m s is

-- a write at an operand is safe
pub operand_safe : (len size base h : ℕ) (f : Frame) (tag : ℕ) (off : ℤ) (n k m : ℕ) → StandsAt len size base h f → IsAddress tag off → ((tag == 0) ≡ true → k ≤ h) → m ≤ n
    → IsSafeAt f (place_of f tag off k) m (IsSafe size base h (WritesAt tag off n))
operand_safe len size base h f tag off n k m s shaped top few low high safe = safe_untouched len size base h f tag off n k m s shaped top few low high safe

-- a write anywhere is safe only without an open call
pub anywhere_safe : (len size base h : ℕ) (f : Frame) (a m : ℕ) → StandsAt len size base h f → IsSafeAt f a m (IsSafe size base h WritesAnywhere)
anywhere_safe len size base h f a m s low high (inl plain) = absurd (cc plain)
anywhere_safe len size base h f a m s low high (inr is) = no_call len size base h f a m s is

-- ---- bytes that are all there

-- pieces that are laid over a list never make it shorter
laid_longer : (l : List ℕ) (ps : List (ℕ × List ℕ)) → length l ≤ length (laid_pieces l ps)
laid_longer l [] = omega arith
laid_longer l (p ∷ ps) =
    let first : length l ≤ length (splice l p.0 p.1) = splice_longer l p.0 p.1 in
    let rest : length (splice l p.0 p.1) ≤ length (laid_pieces (splice l p.0 p.1) ps) = laid_longer (splice l p.0 p.1) ps in
    omega arith

-- n bytes from a place on lie within its segment
InPlace : Frame → ℕ → Option Place → Type 0
InPlace f n None = Unit {0}
InPlace f n (Some (Static i)) = i + n ≤ length f.fixed
InPlace f n (Some (Dynamic i)) = dynamic_base + i + n ≤ f.dt
InPlace f n (Some (Public i)) = i + n ≤ public_end - public_base

tested_in_place : (s d p : Bool) (f : Frame) (a n : ℕ) → nat_le (a + n) (length f.fixed) ≡ s → (nat_le dynamic_base a && nat_le (a + n) f.dt) ≡ d → (nat_le public_base a && nat_le (a + n) public_end) ≡ p
    → InPlace f n (cond s (Some (Static a)) (cond d (Some (Dynamic (a - dynamic_base))) (cond p (Some (Public (a - public_base))) None)))
unfolding InPlace
tested_in_place true d p f a n st dt pt = leb-true (a + n) (length f.fixed) st
tested_in_place false true p f a n st dt pt =
    let parts = and_parts (nat_le dynamic_base a) (nat_le (a + n) f.dt) dt in
    omega (arith, leb-true dynamic_base a parts.0, leb-true (a + n) f.dt parts.1)
tested_in_place false false true f a n st dt pt =
    let parts = and_parts (nat_le public_base a) (nat_le (a + n) public_end) pt in
    omega (arith, leb-true public_base a parts.0, leb-true (a + n) public_end parts.1)
tested_in_place false false false f a n st dt pt = tt

in_place : (f : Frame) (a n : ℕ) → InPlace f n (where_is f a n)
in_place f a n = tested_in_place _ _ _ f a n refl refl refl

-- n bytes from a place that has them
taken : (n i : ℕ) (l : List ℕ) → i + n ≤ length l → length (take n (drop i l)) ≡ n
taken n i l fits = omega (arith, length-take n (drop i l), length-drop i l)

whole_in : (b : Bool) (f : Frame) (h : ℕ) (public : List ℕ) (n : ℕ) (place : Option Place) → (n == 0) ≡ b → IsRoomy f h → public_end - public_base ≤ length public → InPlace f n place
    → (not b && is_none place) ≡ false → length (cond b [] (bytes_in f public n place)) ≡ n
unfolding InPlace
whole_in true f h public n place is r whole fits there =
    let nothing : n ≡ 0 = eqb-true n 0 is in
    omega arith
whole_in false f h public n None is r whole fits there = absurd (cc there)
whole_in false f h public n (Some (Static i)) is r whole fits there = taken n i (static_bytes f) (omega (arith, fits, laid_longer f.fixed f.pieces))
whole_in false f h public n (Some (Dynamic i)) is r whole fits there = taken n i f.dyn (omega (arith, fits, r.dyn, r.high))
whole_in false f h public n (Some (Public i)) is r whole fits there = taken n i public (omega (arith, fits))

-- the number of bytes that are read is the one that is asked for, if none is outside
pub at_whole : (f : Frame) (h : ℕ) (public : List ℕ) (a n : ℕ) → IsRoomy f h → public_end - public_base ≤ length public → is_outside f a n ≡ false → length (bytes_at f public a n) ≡ n
unfolding bytes_at
at_whole f h public a n r whole there = whole_in (n == 0) f h public n (where_is f a n) refl r whole (in_place f a n) there

-- the number of bytes of an operand that are read is the one that is asked for
pub operand_whole : (f : Frame) (h : ℕ) (public : List ℕ) (o : Option ℕ) (n : ℕ) → IsRoomy f h → public_end - public_base ≤ length public → no_access f o n ≡ false → length (bytes_at f public (address_or_zero o) n) ≡ n
operand_whole f h public None n r whole there = absurd (cc there)
operand_whole f h public (Some a) n r whole there = at_whole f h public a n r whole there
