-- Command APDUs in the short and the extended cases.
-- ISO/IEC 7816-4:2005, 5.1 (command-response pairs); of command data at most 1,024 bytes are taken.
use Rattle.std.specs.Prelude.{◌≡◌, ◌≢◌, ◌⊎◌, ℕ, ◌+◌, ◌*◌, ◌≤◌, cond, ◌&&◌, nat_le, ◌==◌, List, [], ◌∷◌, length, take, drop, slice_index, Option, Some, None, option_map}
use Rattle.model_device.specs.Bytes.{be2}

-- a command APDU: its header, its fifth byte in the short cases that have one, its data, and the number of reply bytes
-- that it expects
pub record ApduParts : Type 0 where
  pub cla : ℕ
  pub ins : ℕ
  pub p1 : ℕ
  pub p2 : ℕ
  pub p3 : ℕ
  pub body : List ℕ
  pub le : Option ℕ

-- what follows the header of a command
pub record Rest : Type 0 where
  pub p3 : ℕ
  pub body : List ℕ
  pub le : Option ℕ

-- Le in one byte: 00 means 256
abbrev pub short_le : ℕ → ℕ
short_le n = cond (n == 0) 256 n

-- Le in two bytes: 0000 is held as 65,535
abbrev pub extended_le : ℕ → ℕ
extended_le n = cond (n == 0) 65535 n

-- the short cases 3 and 4: Lc, and what follows it
abbrev pub short_rest : ℕ → List ℕ → Option Rest
short_rest lc b =
    cond (length b == lc) (Some (record { p3 = lc; body = b; le = None }))
    (cond (length b == lc + 1) (Some (record { p3 = lc; body = take lc b; le = Some (short_le (slice_index b lc)) })) None)

-- the extended cases 3 and 4: Lc, and what follows it
abbrev pub extended_body : ℕ → List ℕ → Option Rest
extended_body lc b =
    cond (length b == lc) (Some (record { p3 = 0; body = b; le = None }))
    (cond (length b == lc + 2) (Some (record { p3 = 0; body = take lc b; le = Some (extended_le (be2 b lc)) })) None)

-- the extended cases: a two-byte number, alone the Le of case 2, and else an Lc of 1 to 1,024
abbrev pub extended_rest : List ℕ → Option Rest
extended_rest (h ∷ l ∷ []) = Some (record { p3 = 0; body = []; le = Some (extended_le (256 * h + l)) })
extended_rest (h ∷ l ∷ x ∷ xs) = cond (nat_le 1 (256 * h + l) && nat_le (256 * h + l) 1024) (extended_body (256 * h + l) (x ∷ xs)) None
extended_rest b = None

-- what follows the header, read by its length: no byte is case 1, one byte the short case 2
abbrev pub rest_read : List ℕ → Option Rest
rest_read [] = Some (record { p3 = 0; body = []; le = None })
rest_read (p3 ∷ []) = Some (record { p3 = p3; body = []; le = Some (short_le p3) })
rest_read (p3 ∷ x ∷ xs) = cond (p3 == 0) (extended_rest (x ∷ xs)) (short_rest p3 (x ∷ xs))

-- the command APDU that the bytes are, or none if their length is wrong
unfoldable pub apdu_read : List ℕ → Option ApduParts
apdu_read (cla ∷ ins ∷ p1 ∷ p2 ∷ b) = option_map (λ r. record { cla = cla; ins = ins; p1 = p1; p2 = p2; p3 = r.p3; body = r.body; le = r.le }) (rest_read b)
apdu_read b = None

-- the number of the case: 1 without data and Le, 2 with Le alone, 3 with data alone, 4 with both
abbrev pub case_of : List ℕ → Option ℕ → ℕ
case_of [] None = 1
case_of [] (Some le) = 2
case_of (x ∷ xs) None = 3
case_of (x ∷ xs) (Some le) = 4

-- the case of a command
abbrev pub apdu_case : ApduParts → ℕ
apdu_case a = case_of a.body a.le

-- ---- the seven cases as a relation of bytes and command

-- the header is that of the bytes
pub record HasHeader (b : List ℕ) (a : ApduParts) : Type 0 where
  pub cla : a.cla ≡ slice_index b 0
  pub ins : a.ins ≡ slice_index b 1
  pub p1 : a.p1 ≡ slice_index b 2
  pub p2 : a.p2 ≡ slice_index b 3

-- the rest of the command
abbrev pub HasRest : ApduParts → ℕ → List ℕ → Option ℕ → Type 0
HasRest a p3 body le = (a.p3 ≡ p3) × (a.body ≡ body) × (a.le ≡ le)

-- the short case 1, of bytes b
abbrev pub IsShort1 : List ℕ → ApduParts → Type 0
IsShort1 b a = (length b ≡ 4) × HasRest a 0 [] None

-- the short case 2
abbrev pub IsShort2 : List ℕ → ApduParts → Type 0
IsShort2 b a = (length b ≡ 5) × HasRest a (slice_index b 4) [] (Some (short_le (slice_index b 4)))

-- the short case 3
abbrev pub IsShort3 : List ℕ → ApduParts → Type 0
IsShort3 b a =
    let lc = slice_index b 4 in
    (lc ≢ 0) × (length b ≡ 5 + lc) × HasRest a lc (drop 5 b) None

-- the short case 4
abbrev pub IsShort4 : List ℕ → ApduParts → Type 0
IsShort4 b a =
    let lc = slice_index b 4 in
    (lc ≢ 0) × (length b ≡ 6 + lc) × HasRest a lc (take lc (drop 5 b)) (Some (short_le (slice_index b (5 + lc))))

-- the extended case 2; the number of an extended case is b[5] b[6]
abbrev pub IsExtended2 : List ℕ → ApduParts → Type 0
IsExtended2 b a = (slice_index b 4 ≡ 0) × (length b ≡ 7) × HasRest a 0 [] (Some (extended_le (be2 b 5)))

-- the extended case 3
abbrev pub IsExtended3 : List ℕ → ApduParts → Type 0
IsExtended3 b a =
    let lc = be2 b 5 in
    (slice_index b 4 ≡ 0) × (1 ≤ lc) × (lc ≤ 1024) × (length b ≡ 7 + lc) × HasRest a 0 (drop 7 b) None

-- the extended case 4
abbrev pub IsExtended4 : List ℕ → ApduParts → Type 0
IsExtended4 b a =
    let lc = be2 b 5 in
    (slice_index b 4 ≡ 0) × (1 ≤ lc) × (lc ≤ 1024) × (length b ≡ 9 + lc) × HasRest a 0 (take lc (drop 7 b)) (Some (extended_le (be2 b (7 + lc))))

-- the bytes are this command
abbrev pub IsApdu : List ℕ → ApduParts → Type 0
IsApdu b a = HasHeader b a × (IsShort1 b a ⊎ IsShort2 b a ⊎ IsShort3 b a ⊎ IsShort4 b a ⊎ IsExtended2 b a ⊎ IsExtended3 b a ⊎ IsExtended4 b a)
