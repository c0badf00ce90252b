-- Load units: the grammar as a reader and as a relation, and the name in a DIR record.
-- The objects of a DIR record are tag, length and value (ISO/IEC 7816-4:2005, 5.2.2, BER-TLV data objects).
use Rattle.std.specs.Prelude.{◌≡◌, ℕ, zero, suc, ◌+◌, ◌%◌, ◌<◌, ◌≤◌, cond, ◌&&◌, nat_lt, nat_le, ◌==◌, if◌then◌else◌, List, [], ◌∷◌, ◌++◌, length, take, drop, position, bytes_eq, Option, Some, None, option_map, option_and_then, Result, Ok, Err}
use Rattle.model_machine.specs.model_device.specs.Limits.{most_code, most_static}
use Rattle.model_machine.specs.model_device.specs.Bytes.{be2, bytes2, zeros}
use Rattle.model_card.specs.declared.unit.UnitRefusal.{UnitRefusal}
use Rattle.model_card.specs.declared.unit.UnitRefusal.TheVariants.{Short, NoCode, TooLarge, Signed, Enciphered, Tail}
use Rattle.model_card.specs.declared.unit.UnitRefusal.TheVariants as refusals
use Rattle.model_card.specs.declared.unit.AidFault.{AidFault}
use Rattle.model_card.specs.declared.unit.AidFault.TheVariants as faults

-- a load unit: its card number, its four fields, and the name in its DIR record
pub record UnitParts : Type 0 where
  pub number : List ℕ
  pub code : List ℕ
  pub init : List ℕ
  pub dir : List ℕ
  pub fci : List ℕ
  pub aid : List ℕ

-- ---- the name in a DIR record

-- an object at the front of some bytes, and the bytes after it
pub record Object : Type 0 where
  pub tag : List ℕ
  pub value : List ℕ
  pub rest : List ℕ

-- the number of bytes of the tag at the front: one, or if its low five bits are all set, all up to the first below 128
-- after it
abbrev pub tag_len : List ℕ → Option ℕ
tag_len [] = None
tag_len (b ∷ bs) = cond (b % 32 == 31) (option_map (λ i. i + 2) (position (λ b. nat_lt b 128) bs)) (Some 1)

-- the byte at the front, and the bytes after it
abbrev pub byte_at : List ℕ → Option (ℕ × List ℕ)
byte_at [] = None
byte_at (b ∷ bs) = Some (b, bs)

-- the length at the front, one byte below 128, or 129 and one byte, and the bytes after it
abbrev pub size_at : List ℕ → Option (ℕ × List ℕ)
size_at [] = None
size_at (b ∷ bs) = cond (nat_lt b 128) (Some (b, bs)) (cond (b == 129) (byte_at bs) None)

-- the object with this tag, by its length and the bytes after it, if its value is whole
abbrev pub value_at : List ℕ → ℕ × List ℕ → Option Object
value_at t s = cond (nat_lt (length s.1) s.0) None (Some (record { tag = t; value = take s.0 s.1; rest = drop s.0 s.1 }))

-- the object at the front, if its tag, its length and its value are whole
unfoldable pub object_at : List ℕ → Option Object
object_at b = option_and_then (λ n. option_and_then (value_at (take n b)) (size_at (drop n b))) (tag_len b)

-- the value of the first object with the tag 4F, among at most n objects
unfoldable pub name_among : ℕ → List ℕ → Option (List ℕ)
unfolding object_at
name_among zero b = None
name_among (suc n) b = option_and_then (λ o. cond (bytes_eq o.tag (79 ∷ [])) (Some o.value) (name_among n o.rest)) (object_at b)

-- the template that a DIR record begins with, the object with the tag 61
unfoldable pub template_of : List ℕ → Option (List ℕ)
unfolding object_at
template_of d = option_and_then (λ o. cond (bytes_eq o.tag (97 ∷ [])) (Some o.value) None) (object_at d)

-- the name, if it has 5 to 16 bytes, else the fault
abbrev pub checked_name : Option (List ℕ) → Result (List ℕ) AidFault
checked_name None = Err faults.NoAid
checked_name (Some v) = cond (nat_le 5 (length v) && nat_le (length v) 16) (Ok v) (Err faults.AidLength)

-- the name in a DIR record (no template has more objects than bytes)
unfoldable pub name_of : List ℕ → Result (List ℕ) AidFault
unfolding template_of name_among
name_of d = checked_name (option_and_then (λ t. name_among (length t) t) (template_of d))

-- ---- the fields of a unit, read from the front with the first refusal

infixl 10 ◌>>=◌
-- what is read next, unless a refusal came first
abbrev pub ◌>>=◌ : {A B : Type 0} → Result A UnitRefusal → (A → Result B UnitRefusal) → Result B UnitRefusal
(Ok x) >>= f = f x
(Err e) >>= f = Err e

-- n bytes, and the bytes after them
abbrev pub bytes_at : ℕ → List ℕ → Result (List ℕ × List ℕ) UnitRefusal
bytes_at n b = if nat_lt (length b) n then Err Short else Ok (take n b, drop n b)

-- a two-byte length, and the bytes after it
abbrev pub length_at : List ℕ → Result (ℕ × List ℕ) UnitRefusal
length_at b = if nat_lt (length b) 2 then Err Short else Ok (be2 b 0, drop 2 b)

-- a field of at most `most` bytes after its length, which is checked before the bytes
unfoldable pub field_at : ℕ → List ℕ → Result (List ℕ × List ℕ) UnitRefusal
field_at most b = do
  n ← length_at b
  if nat_lt most n.0 then Err TooLarge else bytes_at n.0 n.1

-- the code field, which is not empty
unfoldable pub code_at : List ℕ → Result (List ℕ × List ℕ) UnitRefusal
code_at b = do
  n ← length_at b
  if n.0 == 0 then Err NoCode else (if nat_lt most_code n.0 then Err TooLarge else bytes_at n.0 n.1)

-- the bytes after a field that has to be empty; if it is not, this refusal
unfoldable pub empty_at : UnitRefusal → List ℕ → Result (List ℕ) UnitRefusal
empty_at e b = do
  n ← length_at b
  if n.0 == 0 then Ok n.1 else Err e

-- no bytes follow
abbrev pub end_at : List ℕ → Result (Unit {0}) UnitRefusal
end_at [] = Ok tt
end_at (b ∷ bs) = Err Tail

-- the refusal of a unit whose DIR record has no name
abbrev pub refusal_of : AidFault → UnitRefusal
refusal_of faults.NoAid = refusals.NoAid
refusal_of faults.AidLength = refusals.AidLength

-- the name, or a unit's refusal
abbrev pub refused_name : Result (List ℕ) AidFault → Result (List ℕ) UnitRefusal
refused_name (Ok v) = Ok v
refused_name (Err e) = Err (refusal_of e)

-- the unit that the bytes are, or the first refusal
unfoldable pub unit_read : List ℕ → Result UnitParts UnitRefusal
unfolding code_at field_at empty_at name_of
unit_read b = do
  number ← bytes_at 8 b
  code ← code_at number.1
  init ← field_at most_static code.1
  dir ← field_at 128 init.1
  fci ← field_at 128 dir.1
  signature ← empty_at Signed fci.1
  key ← empty_at Enciphered signature
  last ← end_at key
  aid ← refused_name (name_of dir.0)
  Ok (record { number = number.0; code = code.0; init = init.0; dir = dir.0; fci = fci.0; aid = aid })

-- ---- the grammar as a relation, and the units that are written

-- a field as it is in a unit: its length in two bytes, and its bytes
abbrev pub field : List ℕ → List ℕ
field x = bytes2 (length x) ++ x

-- a unit's bytes: the card number, the four fields, and an empty signature and key transformation unit
abbrev pub unit_text : List ℕ → List ℕ → List ℕ → List ℕ → List ℕ → List ℕ
unit_text number code init dir fci = number ++ field code ++ field init ++ field dir ++ field fci ++ zeros 4

-- the limits of the four fields
pub record FitsUnit (code init dir fci : List ℕ) : Type 0 where
  pub some_code : 0 < length code
  pub code_len : length code ≤ most_code
  pub init_len : length init ≤ most_static
  pub dir_len : length dir ≤ 128
  pub fci_len : length fci ≤ 128

-- the bytes are this unit
pub record IsUnit (b : List ℕ) (u : UnitParts) : Type 0 where
  pub number : length u.number ≡ 8
  pub limits : FitsUnit u.code u.init u.dir u.fci
  pub bytes : b ≡ unit_text u.number u.code u.init u.dir u.fci
  pub name : name_of u.dir ≡ Ok u.aid

-- the unit that is written of four fields: its card number is zeros
abbrev pub unit_bytes : List ℕ → List ℕ → List ℕ → List ℕ → List ℕ
unit_bytes code init dir fci = unit_text (zeros 8) code init dir fci

-- an object as it is among others: a tag of one byte, a length of one byte, and the value
abbrev pub object : ℕ → List ℕ → List ℕ
object tag value = tag ∷ length value ∷ value

-- the made DIR record of a name, 61 l 4F l name
abbrev pub made_dir : List ℕ → List ℕ
made_dir aid = object 97 (object 79 aid)

-- the made FCI of a name, 6F l 84 l name
abbrev pub made_fci : List ℕ → List ℕ
made_fci aid = object 111 (object 132 aid)
