-- Bytes of the public segment of a command: its INS, its length, and its status, which writes elsewhere leave.
use Rattle.std.proofs.Common.{◌≡◌, ℕ, ◌+◌, ◌-◌, ◌*◌, ◌<◌, ◌≤◌, List, [], ◌∷◌, ◌++◌, length, take, drop, get_or, sym, ap, ◌∙◌, arith}
use Rattle.std.specs.Prelude.{◌≢◌, true, false, unwrap_or}
use Rattle.std.proofs.lemmas.List.{append_assoc, length-append, length-replicate, length-take-le, drop-drop, drop_at, take_at, get_or-drop, get_or_append_left, get_or-append_right}
use Rattle.model_events.specs.model_device.specs.Bytes.{bytes, bytes2, num, zeros, splice}
use Rattle.model_events.specs.model_machine.specs.Apdu.{ApduParts}
use Rattle.model_events.specs.model_machine.specs.Blocks.{sub_blocks, is_zero}
use Rattle.model_events.specs.model_machine.specs.Frame.{new_public, with_la, sw_of}

-- ---- a command's public segment

-- the last 13 bytes
abbrev pub words_of : ApduParts → List ℕ
words_of a = a.cla ∷ a.ins ∷ a.p1 ∷ a.p2 ∷ a.p3 ∷ (bytes2 (length a.body) ++ bytes2 (unwrap_or a.le 0) ++ 0 ∷ 0 ∷ 0x90 ∷ 0 ∷ [])

-- the bytes of the public segment before the last 13: the body and zeros
abbrev pub front_of : ApduParts → List ℕ
front_of a = a.body ++ zeros (1028 - length a.body)

-- they are 1,028
pub front_size : (a : ApduParts) → length a.body ≤ 1024 → length (front_of a) ≡ 1028
front_size a h = omega (arith, length-append a.body (zeros (1028 - length a.body)), length-replicate {A = ℕ} (1028 - length a.body) 0)

-- the difference of a byte and itself is zero
pub equal_is : (n : ℕ) → (sub_blocks (n ∷ []) (n ∷ [])).z ≡ true
equal_is n = let same : 256 + num (n ∷ []) - num (n ∷ []) ≡ 256 = omega arith in ap (λ (k : ℕ). is_zero (bytes 1 k)) same

-- the bytes of a command's public segment from 1,028 on are its words
pub words_behind : (a : ApduParts) → length a.body ≤ 1024 → drop 1028 (new_public a) ≡ words_of a
words_behind a h = drop_at (front_of a) (words_of a) 1028 (front_size a h)

-- its INS is the byte at 1,029
pub ins_byte : (a : ApduParts) → length a.body ≤ 1024 → take 1 (drop 1029 (new_public a)) ≡ a.ins ∷ []
ins_byte a h = ap (λ (l : List ℕ). take 1 l) (sym (drop-drop 1 1028 (new_public a)) ∙ ap (λ (l : List ℕ). drop 1 l) (words_behind a h))

-- a comparison of the INS that clears Z: the command has another
pub other_ins : (a : ApduParts) (n : ℕ) (p : List ℕ) → p ≡ new_public a → length a.body ≤ 1024 → (sub_blocks (take 1 (drop 1029 p)) (n ∷ [])).z ≡ false → a.ins ≢ n
other_ins a n p is small z same = grind (arith, ins_byte, equal_is)

-- the length of its body is the two bytes at 1,033
pub length_bytes : (a : ApduParts) → length a.body ≤ 1024 → take 2 (drop 1033 (new_public a)) ≡ bytes2 (length a.body)
length_bytes a h = ap (λ (l : List ℕ). take 2 l) (sym (drop-drop 5 1028 (new_public a)) ∙ ap (λ (l : List ℕ). drop 5 l) (words_behind a h))

-- a body of two bytes is the first two bytes of the segment
pub body_of_two : (a : ApduParts) → length a.body ≡ 2 → take 2 (new_public a) ≡ a.body
body_of_two a h = ap (λ (l : List ℕ). take 2 l) (append_assoc a.body (zeros (1028 - length a.body)) (words_of a)) ∙ take_at a.body (zeros (1028 - length a.body) ++ words_of a) 2 h

-- ---- a byte beside or within what is written

-- a byte after what was written stays
pub index_after : (l : List ℕ) (at : ℕ) (b : List ℕ) (i : ℕ) → at ≤ length l → at + length b ≤ i → get_or (splice l at b) i 0 ≡ get_or l i 0
index_after l at b i fits h = grind (arith, length-append, length-take-le, get_or-append_right, get_or-drop)

-- a byte within what was written is the written one
pub index_within : (l : List ℕ) (at : ℕ) (b : List ℕ) (k : ℕ) → at ≤ length l → k < length b → get_or (splice l at b) (at + k) 0 ≡ get_or b k 0
index_within l at b k fits h = grind (arith, length-append, length-take-le, get_or_append_left, get_or-append_right)

-- ---- the status

-- the status after its two bytes were written is their number
pub status_set : (p : List ℕ) (high low : ℕ) → 1041 ≤ length p → sw_of (splice p 1039 (high ∷ low ∷ [])) ≡ 256 * high + low
status_set p high low h =
    let fits : 1039 ≤ length p = omega arith in
    ap (λ (x : ℕ). 256 * x + get_or (splice p 1039 (high ∷ low ∷ [])) 1040 0) (index_within p 1039 (high ∷ low ∷ []) 0 fits (omega arith))
    ∙ ap (λ (x : ℕ). 256 * high + x) (index_within p 1039 (high ∷ low ∷ []) 1 fits (omega arith))

-- a write beside the status leaves it
pub status_kept : (p : List ℕ) (at : ℕ) (b : List ℕ) → at ≤ length p → at + length b ≤ 1039 → sw_of (splice p at b) ≡ sw_of p
status_kept p at b fits h = grind (arith, index_after)

-- the status stays when the length of the reply is set
pub status_beside_la : (p : List ℕ) (la : ℕ) → 1041 ≤ length p → sw_of (with_la p la) ≡ sw_of p
status_beside_la p la h = status_kept p 1037 (bytes2 la) (omega arith) (omega arith)

-- the status stays when two bytes at the start are written
pub status_beside_two : (p : List ℕ) (x y : ℕ) → sw_of (splice p 0 (x ∷ y ∷ [])) ≡ sw_of p
status_beside_two p x y = status_kept p 0 (x ∷ y ∷ []) (omega arith) (omega arith)

-- the status of a new command is 9000
pub status_new : (a : ApduParts) → length a.body ≤ 1024 → sw_of (new_public a) ≡ 0x9000
status_new a h = grind (arith, get_or-append_right, front_size)
