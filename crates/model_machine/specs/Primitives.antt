-- What each primitive does, and the first cause for which it abends. A primitive is named by its set, which is the
-- number of its argument bytes, and its number. The ciphers are those of FIPS 46-3 and FIPS 197, the digest is SHA-1
-- (FIPS 180-4, 6.1).
use Rattle.std.specs.Prelude.{ℕ, ◌+◌, ◌-◌, ◌*◌, ◌/◌, ◌%◌, Bool, true, false, cond, not, ◌&&◌, ◌||◌, nat_lt, nat_le, ◌==◌, List, [], ◌∷◌, ◌++◌, length, take, drop, slice_index, position, is_some, Option, Some, None}
use Rattle.sha1.specs.Sha1.{sha1}
use Rattle.model_machine.specs.declared.machine.Abend.{Abend}
use Rattle.model_machine.specs.declared.machine.Abend.TheVariants.{A03, A04, A05, A06, A08, A0A}
use Rattle.model_device.specs.Bytes.{num}
use Rattle.model_machine.specs.Blocks.{Worked, sub_blocks, shift_left_block, shift_right_block, and_blocks, or_blocks, xor_blocks, not_block, is_zero}
use Rattle.model_machine.specs.Modes.{ecb, cbc_last}
use Rattle.model_machine.specs.Des.{des_encipher, des_decipher, tdes_encipher, tdes_decipher, des_signature, tdes_signature}
use Rattle.model_machine.specs.Aes.{aes_encipher, aes_decipher, aes_signature}
use Rattle.model_machine.specs.Frame.{Frame, Effect, bytes_at, is_outside, write_effect, too_many, is_under, is_over, frame_after_push, frame_after_pop, stack_bytes, top, frame_with_top, frame_with_flags, protect}

-- what a row knows besides its frame: the case of the command (1 to 4), and the name of the frame that delegated to
-- this one
pub record Around : Type 0 where
  pub case : ℕ
  pub delegator : Option (List ℕ)

-- what comes after an instruction
pub data Then : Type 0 where
  Goes : Then
  Exits : Then
  Delegates : (name : List ℕ) → Then

-- an instruction that was done
pub record Done : Type 0 where
  pub effect : Effect
  pub next : Then

-- a change after which the frame goes on
abbrev pub effect_and_next : Effect → Done
effect_and_next e = record { effect = e; next = Goes }

-- a change of the frame alone
abbrev pub frame_effect : Frame → List ℕ → Effect
frame_effect f public = record { frame = f; public = public; changes = None }

-- a change that sets the flags besides
abbrev pub effect_flagged : Effect → Bool → Bool → Effect
effect_flagged e c z = record e { frame = frame_with_flags e.frame c z }

-- the ciphers of the primitives
pub data Cipher : Type 0 where
  Des : Cipher
  TripleDes : Cipher
  Aes : Cipher

-- the primitives
pub data Primitive : Type 0 where
  CheckCase : Primitive
  LoadCcr : Primitive
  StoreCcr : Primitive
  Lookup : Primitive
  MemoryCompare : Primitive
  MemoryCopy : Primitive
  DelegateTo : Primitive
  DelegatorAid : Primitive
  Digest : Primitive
  CompareFixed : Primitive
  CopyFixed : Primitive
  SetProtection : Primitive
  Encipher : (cipher : Cipher) → Primitive
  Decipher : (cipher : Cipher) → Primitive
  Sign : (cipher : Cipher) → Primitive
  BitByte : Primitive
  ShiftLeft : Primitive
  ShiftRight : Primitive
  BitWord : Primitive

-- the element with this number in a numbered list
abbrev pub entry_of_number : {A : Type 0} → ℕ → List (ℕ × A) → Option A
entry_of_number n [] = None
entry_of_number n (e ∷ es) = cond (e.0 == n) (Some e.1) (entry_of_number n es)

-- the table of the primitives, set by set
abbrev pub primitives : ℕ → List (ℕ × Primitive)
primitives set =
    cond (set == 0) (
    (1, CheckCase) ∷ (2, LoadCcr) ∷ (3, StoreCcr) ∷ (4, Lookup) ∷ (5, MemoryCompare) ∷ (6, MemoryCopy) ∷ (7, DelegateTo) ∷ (8, DelegatorAid) ∷ (9, Digest) ∷ []
    ) (cond (set == 1) (
    (1, CompareFixed) ∷ (2, CopyFixed) ∷ (3, SetProtection) ∷ (4, Encipher Des) ∷ (5, Decipher Des) ∷ (6, Encipher TripleDes) ∷ (7, Decipher TripleDes)
    ∷ (8, Sign Des) ∷ (9, Sign TripleDes) ∷ (10, Encipher Aes) ∷ (11, Decipher Aes) ∷ (12, Sign Aes) ∷ []
    ) (cond (set == 2) ((1, BitByte) ∷ (2, ShiftLeft) ∷ (3, ShiftRight) ∷ []) (cond (set == 3) ((1, BitWord) ∷ []) [])))

-- the primitive of a set and a number
abbrev pub primitive : ℕ → ℕ → Option Primitive
primitive set number = entry_of_number number (primitives set)

-- ---- ciphers

-- the bytes of a block of a cipher
abbrev pub block_len : Cipher → ℕ
block_len Des = 8
block_len TripleDes = 8
block_len Aes = 16

-- the bytes of a key of a cipher
abbrev pub key_len : Cipher → ℕ
key_len Des = 8
key_len TripleDes = 16
key_len Aes = 16

-- whether a number of bytes is a message of whole blocks: 8 to 248 bytes by 8, or 16 to 240 by 16
abbrev pub is_message : Cipher → ℕ → Bool
is_message c n = nat_le (block_len c) n && n % block_len c == 0

-- a block enciphered under a key
abbrev pub encipherment : Cipher → List ℕ → List ℕ → List ℕ
encipherment Des key = des_encipher key
encipherment TripleDes key = tdes_encipher key
encipherment Aes key = aes_encipher key

-- a block deciphered under a key
abbrev pub decipherment : Cipher → List ℕ → List ℕ → List ℕ
decipherment Des key = des_decipher key
decipherment TripleDes key = tdes_decipher key
decipherment Aes key = aes_decipher key

-- the last block of CBC from a start block
abbrev pub signature : Cipher → List ℕ → List ℕ → List ℕ → List ℕ
signature Des = des_signature
signature TripleDes = tdes_signature
signature Aes = aes_signature

-- ---- access list

-- whether a number has a bit set, given by its value
abbrev pub has_bit : ℕ → ℕ → Bool
has_bit n bit = n / bit % 2 == 1

-- whether the access list denies the primitive, abend 0A
abbrev pub is_denied : ℕ → Primitive → Bool
is_denied deny (Encipher c) = has_bit deny 1
is_denied deny (Decipher c) = has_bit deny 1
is_denied deny (Sign c) = has_bit deny 1
is_denied deny DelegateTo = has_bit deny 2
is_denied deny DelegatorAid = has_bit deny 4
is_denied deny SetProtection = has_bit deny 8
is_denied deny _ = false

-- ---- causes

-- whether a number is from low to high
abbrev pub in_range : ℕ → ℕ → ℕ → Bool
in_range low high n = nat_le low n && nat_le n high

-- the number in the two bytes that begin k bytes below the top of the stack
abbrev pub number_below_top : Frame → ℕ → ℕ
number_below_top f k = num (stack_bytes f k 2)

-- the byte at an address
abbrev pub count_at : Frame → List ℕ → ℕ → ℕ
count_at f public a = num (bytes_at f public a 1)

-- whether the instruction's own bytes are out of their range, abend 06
abbrev pub has_bad_argument : Primitive → List ℕ → Bool
has_bad_argument CompareFixed args = slice_index args 0 == 0
has_bad_argument CopyFixed args = slice_index args 0 == 0
has_bad_argument SetProtection args = nat_lt 3 (slice_index args 0)
has_bad_argument (Encipher c) args = not (is_message c (slice_index args 0))
has_bad_argument (Decipher c) args = not (is_message c (slice_index args 0))
has_bad_argument (Sign c) args = not (is_message c (slice_index args 0))
has_bad_argument BitByte args = nat_lt 3 (slice_index args 0)
has_bad_argument ShiftLeft args = not (in_range 1 16 (slice_index args 0) && in_range 1 (8 * slice_index args 0 - 1) (slice_index args 1))
has_bad_argument ShiftRight args = not (in_range 1 16 (slice_index args 0) && in_range 1 (8 * slice_index args 0 - 1) (slice_index args 1))
has_bad_argument BitWord args = nat_lt 3 (slice_index args 0)
has_bad_argument _ args = false

-- the causes of writing the delegator's name, none if there is no delegator
abbrev pub reported_causes : Frame → ℕ → Option (List ℕ) → List (Abend × Bool)
reported_causes g a None = []
reported_causes g a (Some name) = (A03, is_outside g a (1 + length name)) ∷ (A08, too_many g a (1 + length name)) ∷ []

-- the causes of a cipher: a message of n bytes, the place that it goes to, and a key
abbrev pub cipher_causes : Cipher → ℕ → Frame → List (Abend × Bool)
cipher_causes c n f =
    let g = frame_after_pop f 6 in
    (A04, is_under f 6) ∷ (A03, is_outside g (number_below_top f 6) n || is_outside g (number_below_top f 4) n || is_outside g (number_below_top f 2) (key_len c)) ∷ (A08, too_many g (number_below_top f 4) n) ∷ []

-- the other causes, in their order. If a length that was read is out of its range, no access of that length is tested
unfoldable pub later_causes : Primitive → List ℕ → Frame → List ℕ → Around → List (Abend × Bool)
later_causes CheckCase args f public x = (A04, is_under f 1) ∷ (A06, not (in_range 1 4 (num (top f 1)))) ∷ []
later_causes LoadCcr args f public x = (A05, is_over f 1) ∷ []
later_causes StoreCcr args f public x = (A04, is_under f 1) ∷ []
later_causes Lookup args f public x =
    let g = frame_after_pop f 3 in
    let a = number_below_top f 2 in
    (A04, is_under f 3) ∷ (A03, is_outside g a 1 || is_outside g (a + 1) (count_at g public a)) ∷ []
later_causes MemoryCompare args f public x =
    let g = frame_after_pop f 6 in
    let n = number_below_top f 6 in
    (A04, is_under f 6) ∷ (A03, in_range 1 255 n && (is_outside g (number_below_top f 4) n || is_outside g (number_below_top f 2) n)) ∷ (A06, not (in_range 1 255 n)) ∷ []
later_causes MemoryCopy args f public x =
    let g = frame_after_pop f 6 in
    let n = number_below_top f 6 in
    (A04, is_under f 6) ∷ (A03, in_range 1 255 n && (is_outside g (number_below_top f 4) n || is_outside g (number_below_top f 2) n)) ∷ (A06, not (in_range 1 255 n)) ∷ (A08, too_many g (number_below_top f 4) n) ∷ []
later_causes DelegateTo args f public x =
    let g = frame_after_pop f 2 in
    let a = number_below_top f 2 in
    let n = count_at g public a in
    (A04, is_under f 2) ∷ (A03, is_outside g a 1 || (in_range 5 16 n && is_outside g (a + 1) n)) ∷ (A06, not (in_range 5 16 n)) ∷ []
later_causes DelegatorAid args f public x = (A04, is_under f 2) ∷ reported_causes (frame_after_pop f 2) (number_below_top f 2) x.delegator
later_causes Digest args f public x =
    let g = frame_after_pop f 6 in
    let n = number_below_top f 6 in
    (A04, is_under f 6) ∷ (A03, (in_range 1 255 n && is_outside g (number_below_top f 4) n) || is_outside g (number_below_top f 2) 20) ∷ (A06, not (in_range 1 255 n)) ∷ (A08, too_many g (number_below_top f 2) 20) ∷ []
later_causes CompareFixed args f public x =
    let g = frame_after_pop f 4 in
    let n = slice_index args 0 in
    (A04, is_under f 4) ∷ (A03, is_outside g (number_below_top f 4) n || is_outside g (number_below_top f 2) n) ∷ []
later_causes CopyFixed args f public x =
    let g = frame_after_pop f 4 in
    let n = slice_index args 0 in
    (A04, is_under f 4) ∷ (A03, is_outside g (number_below_top f 4) n || is_outside g (number_below_top f 2) n) ∷ (A08, too_many g (number_below_top f 4) n) ∷ []
later_causes SetProtection args f public x = []
later_causes (Encipher c) args f public x = cipher_causes c (slice_index args 0) f
later_causes (Decipher c) args f public x = cipher_causes c (slice_index args 0) f
later_causes (Sign c) args f public x =
    let g = frame_after_pop f 8 in
    (A04, is_under f 8)
    ∷ (A03, is_outside g (number_below_top f 8) (block_len c) || is_outside g (number_below_top f 6) (slice_index args 0) || is_outside g (number_below_top f 4) (block_len c) || is_outside g (number_below_top f 2) (key_len c))
    ∷ (A08, too_many g (number_below_top f 4) (block_len c)) ∷ []
later_causes BitByte args f public x = (A04, is_under f 1) ∷ []
later_causes ShiftLeft args f public x = (A04, is_under f (slice_index args 0)) ∷ []
later_causes ShiftRight args f public x = (A04, is_under f (slice_index args 0)) ∷ []
later_causes BitWord args f public x = (A04, is_under f 2) ∷ []

-- the causes of a pair of set and number: of one that is no primitive, and of a primitive
abbrev pub prim_causes : Option Primitive → List ℕ → Frame → List ℕ → Around → List (Abend × Bool)
prim_causes None args f public x = (A06, true) ∷ []
prim_causes (Some p) args f public x = (A06, has_bad_argument p args) ∷ (A0A, is_denied f.deny p) ∷ later_causes p args f public x

-- ---- effects

-- the effect of a search for a byte: its first place is pushed, with Z set; or 00, with Z clear
abbrev pub lookup_effect : Frame → List ℕ → Option ℕ → Effect
lookup_effect f public (Some i) = frame_effect (frame_with_flags (frame_after_push f (i ∷ [])) f.c true) public
lookup_effect f public None = frame_effect (frame_with_flags (frame_after_push f (0 ∷ [])) f.c false) public

-- the flags of a subtraction
abbrev pub comparison_effect : Frame → List ℕ → Worked → Effect
comparison_effect f public w = frame_effect (frame_with_flags f w.c w.z) public

-- the effect of writing the delegator's name after its length, with Z clear; if there is none, nothing is written and Z
-- is set
abbrev pub delegator_reported : Frame → List ℕ → ℕ → Option (List ℕ) → Effect
delegator_reported f public a None = frame_effect (frame_with_flags f f.c true) public
delegator_reported f public a (Some name) = effect_flagged (write_effect f public a (length name ∷ name)) f.c false

-- a value manipulated under a mask: op 0 clears the bits of the mask, 1 sets them, 2 inverts them, 3 leaves the value
abbrev pub masked_bytes : ℕ → List ℕ → List ℕ → List ℕ
masked_bytes op v mask =
    cond (op == 0) (and_blocks v (not_block mask)) (cond (op == 1) (or_blocks v mask) (cond (op == 2) (xor_blocks v mask) v))

-- the effect of a bit manipulation: Z is set if the result is zero; with op 3 if the value under the mask is
abbrev pub bits_done : Frame → List ℕ → ℕ → List ℕ → List ℕ → Effect
bits_done f public op v mask =
    let r = masked_bytes op v mask in
    frame_effect (frame_with_flags (frame_with_top f r) f.c (is_zero (cond (op == 3) (and_blocks v mask) r))) public

-- the effect of a shift of the top of the stack, which sets both flags
abbrev pub shift_effect : Frame → List ℕ → Worked → Effect
shift_effect f public w = frame_effect (frame_with_flags (frame_with_top f w.value) w.c w.z) public

-- the effect of a cipher: a message is read, and its cipher text written
abbrev pub cipher_done : (List ℕ → List ℕ → List ℕ) → Cipher → ℕ → Frame → List ℕ → Effect
cipher_done cipher c n f public =
    let g = frame_after_pop f 6 in
    let key = bytes_at g public (number_below_top f 2) (key_len c) in
    write_effect g public (number_below_top f 4) (ecb (cipher key) (block_len c) (bytes_at g public (number_below_top f 6) n))

-- the effect of each primitive if no cause holds
unfoldable pub prim_effect : Primitive → List ℕ → Frame → List ℕ → Around → Done
prim_effect CheckCase args f public x =
    let g = frame_after_pop f 1 in
    effect_and_next (frame_effect (frame_with_flags g g.c (num (top f 1) == x.case)) public)
prim_effect LoadCcr args f public x = effect_and_next (frame_effect (frame_after_push f ((cond f.c 2 0 + cond f.z 1 0) ∷ [])) public)
prim_effect StoreCcr args f public x = effect_and_next (frame_effect (frame_with_flags (frame_after_pop f 1) (has_bit (num (top f 1)) 2) (has_bit (num (top f 1)) 1)) public)
prim_effect Lookup args f public x =
    let g = frame_after_pop f 3 in
    let a = number_below_top f 2 in
    effect_and_next (lookup_effect g public (position (λ b. b == num (stack_bytes f 3 1)) (bytes_at g public (a + 1) (count_at g public a))))
prim_effect MemoryCompare args f public x =
    let g = frame_after_pop f 6 in
    let n = number_below_top f 6 in
    effect_and_next (comparison_effect g public (sub_blocks (bytes_at g public (number_below_top f 4) n) (bytes_at g public (number_below_top f 2) n)))
prim_effect MemoryCopy args f public x =
    let g = frame_after_pop f 6 in
    effect_and_next (write_effect g public (number_below_top f 4) (bytes_at g public (number_below_top f 2) (number_below_top f 6)))
prim_effect DelegateTo args f public x =
    let g = frame_after_pop f 2 in
    let a = number_below_top f 2 in
    record { effect = frame_effect g public; next = Delegates (bytes_at g public (a + 1) (count_at g public a)) }
prim_effect DelegatorAid args f public x = effect_and_next (delegator_reported (frame_after_pop f 2) public (number_below_top f 2) x.delegator)
prim_effect Digest args f public x =
    let g = frame_after_pop f 6 in
    effect_and_next (write_effect g public (number_below_top f 2) (sha1 (bytes_at g public (number_below_top f 4) (number_below_top f 6))))
prim_effect CompareFixed args f public x =
    let g = frame_after_pop f 4 in
    let n = slice_index args 0 in
    effect_and_next (comparison_effect g public (sub_blocks (bytes_at g public (number_below_top f 4) n) (bytes_at g public (number_below_top f 2) n)))
prim_effect CopyFixed args f public x =
    let g = frame_after_pop f 4 in
    effect_and_next (write_effect g public (number_below_top f 4) (bytes_at g public (number_below_top f 2) (slice_index args 0)))
prim_effect SetProtection args f public x = effect_and_next (protect f public (slice_index args 0))
prim_effect (Encipher c) args f public x = effect_and_next (cipher_done (encipherment c) c (slice_index args 0) f public)
prim_effect (Decipher c) args f public x = effect_and_next (cipher_done (decipherment c) c (slice_index args 0) f public)
prim_effect (Sign c) args f public x =
    let g = frame_after_pop f 8 in
    let key = bytes_at g public (number_below_top f 2) (key_len c) in
    let start = bytes_at g public (number_below_top f 8) (block_len c) in
    effect_and_next (write_effect g public (number_below_top f 4) (signature c key start (bytes_at g public (number_below_top f 6) (slice_index args 0))))
prim_effect BitByte args f public x = effect_and_next (bits_done f public (slice_index args 0) (top f 1) (take 1 (drop 1 args)))
prim_effect ShiftLeft args f public x = effect_and_next (shift_effect f public (shift_left_block (top f (slice_index args 0)) (slice_index args 1)))
prim_effect ShiftRight args f public x = effect_and_next (shift_effect f public (shift_right_block (top f (slice_index args 0)) (slice_index args 1)))
prim_effect BitWord args f public x = effect_and_next (bits_done f public (slice_index args 0) (top f 2) (take 2 (drop 1 args)))

-- the effect of a pair of set and number
abbrev pub prim_done : Option Primitive → List ℕ → Frame → List ℕ → Around → Done
prim_done None args f public x = effect_and_next (frame_effect f public)
prim_done (Some p) args f public x = prim_effect p args f public x
