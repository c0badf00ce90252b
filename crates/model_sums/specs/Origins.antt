-- Origins: where a byte comes from, by which a number in memory is a form.
use Rattle.std.specs.Prelude.{ℕ, zero, suc, ◌+◌, ◌-◌, ◌*◌, ◌^◌, Bool, true, false, cond, not, ◌&&◌, ◌||◌, nat_lt, nat_le, ◌==◌, List, [], ◌∷◌, ◌++◌, length, map, filter, replicate, Option, Some, None}
use Rattle.model_prove.specs.model_machine.specs.Frame.{dynamic_base, public_base}
use Rattle.model_sums.specs.Forms.{Form, number, public_byte, plus, times}

-- where a byte comes from: that is not known, it is a constant, or the public byte at a place as the frame began
pub data Origin : Type 0 where
  Unknown : Origin
  ConstantByte : (byte : ℕ) → Origin
  PublicByte : (at : ℕ) → Origin

-- The origins of bytes that are listed by their addresses, the newest first; and whether a public byte that is not
-- listed is what it was as the frame began.
pub record Origins : Type 0 where
  pub own : Bool
  pub listed : List (ℕ × Origin)

-- ---- reading

-- the origin of a byte that is not listed
abbrev pub unlisted : Bool → ℕ → Origin
unlisted own a = cond (own && nat_le public_base a) (PublicByte (a - public_base)) Unknown

-- the first origin of a byte in a list, or another
abbrev pub listed_or : Origin → List (ℕ × Origin) → ℕ → Origin
listed_or other [] a = other
listed_or other (e ∷ es) a = cond (e.0 == a) e.1 (listed_or other es a)

-- The origin of a byte. Static bytes have none, since what waits may be dropped.
abbrev pub origin_at : Origins → ℕ → Origin
origin_at o a = cond (nat_lt a dynamic_base) Unknown (listed_or (unlisted o.own a) o.listed a)

-- the origins of n bytes from an address on
abbrev pub origins_from : Origins → ℕ → ℕ → List Origin
origins_from o a zero = []
origins_from o a (suc n) = origin_at o a ∷ origins_from o (suc a) n

-- ---- writing

-- n bytes that come from nowhere
abbrev pub unknowns : ℕ → List Origin
unknowns n = replicate n Unknown

-- the origins after bytes from an address on were written that come from these
abbrev pub with_origins : ℕ → List Origin → Origins → Origins
with_origins a [] o = o
with_origins a (g ∷ gs) o =
    let rest = with_origins (suc a) gs o in
    record rest { listed = (a, g) ∷ rest.listed }

-- the origins of what a test keeps of the listed bytes; those of other dynamic bytes are not known then
abbrev pub kept_origins : (ℕ → Bool) → Origins → Origins
kept_origins keeps o = record o { listed = filter (λ e. keeps e.0) o.listed }

-- without those of dynamic bytes from DT on
abbrev pub origins_below : ℕ → Origins → Origins
origins_below dt o = kept_origins (λ a. nat_lt a dt || nat_le public_base a) o

-- without those of public bytes
abbrev pub without_public : Origins → Origins
without_public o = record { own = false; listed = filter (λ e. nat_lt e.0 public_base) o.listed }

-- ---- numbers

-- what a byte is
abbrev pub form_of_byte : Origin → Option Form
form_of_byte Unknown = None
form_of_byte (ConstantByte b) = Some (number b)
form_of_byte (PublicByte p) = Some (public_byte p)

-- a byte above n others
abbrev pub above : ℕ → Option Form → Option Form → Option Form
above n (Some f) (Some g) = Some (plus (times (256 ^ n) f) g)
above n f g = None

-- the number that bytes of these origins are, the highest first, if each is known
abbrev pub form_of : List Origin → Option Form
form_of [] = Some (number 0)
form_of (o ∷ os) = above (length os) (form_of_byte o) (form_of os)

-- ---- what follows

-- whether one origin says what another does, or more
abbrev pub origin_follows : Origin → Origin → Bool
origin_follows o Unknown = true
origin_follows (ConstantByte b) (ConstantByte c) = b == c
origin_follows (PublicByte p) (PublicByte q) = p == q
origin_follows o p = false

-- whether the origins of some listed bytes do
abbrev pub listed_follow : Origins → Origins → List (ℕ × Origin) → Bool
listed_follow o p [] = true
listed_follow o p (e ∷ es) = origin_follows (origin_at o e.0) (origin_at p e.0) && listed_follow o p es

-- whether the origins second follow from those first
abbrev pub origins_follow : Origins → Origins → Bool
origins_follow o p = (o.own || not p.own) && listed_follow o p o.listed && listed_follow o p p.listed
