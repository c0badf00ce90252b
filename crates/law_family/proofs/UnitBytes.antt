-- The fields of a unit that was read of bytes are bytes.
use Rattle.std.proofs.Common.{arith, ℕ, ◌<◌, Bool, true, false, List, length, take, drop, Result, Ok, Err}
use Rattle.std.specs.Prelude.{⊤, nat_lt, ◌==◌, if◌then◌else◌, IfOk}
use Rattle.model_play.specs.model_card.specs.declared.unit.UnitRefusal.{UnitRefusal}
use Rattle.model_play.specs.model_card.specs.declared.unit.UnitRefusal.TheVariants.{Short, NoCode, TooLarge, Signed, Enciphered}
use Rattle.model_play.specs.model_device.specs.Bytes.{AreBytes, be2}
use Rattle.model_play.specs.model_card.specs.Units.{UnitParts, ◌>>=◌, bytes_at, length_at, field_at, code_at, empty_at, end_at, refused_name, name_of, unit_read}
use Rattle.law_family.proofs.CardFacts.{all_take, all_drop}

-- all fields of a unit are bytes
abbrev pub UnitBytes : UnitParts → Type 0
UnitBytes u = AreBytes u.code × AreBytes u.init × AreBytes u.dir × AreBytes u.fci

then_ok : {A B : Type 0} (r : Result A UnitRefusal) (f : A → Result B UnitRefusal) (P : A → Type 0) (Q : B → Type 0) → IfOk r P → ((a : A) → P a → IfOk (f a) Q) → IfOk (r >>= f) Q
then_ok (Ok a) f P Q h k = k a h
then_ok (Err e) f P Q h k = tt

any : {A : Type 0} (r : Result A UnitRefusal) → IfOk r (λ a. ⊤)
any (Ok a) = tt
any (Err e) = tt

if_ok : {A : Type 0} (b : Bool) (e : UnitRefusal) (r : Result A UnitRefusal) (P : A → Type 0) → IfOk r P → IfOk (if b then Err e else r) P
if_ok true e r P h = tt
if_ok false e r P h = h

-- bytes, and the bytes after them
BothBytes : List ℕ × List ℕ → Type 0
BothBytes p = AreBytes p.0 × AreBytes p.1

BytesBehind : ℕ × List ℕ → Type 0
BytesBehind p = AreBytes p.1

bytes_ok : (n : ℕ) (b : List ℕ) → AreBytes b → IfOk (bytes_at n b) BothBytes
unfolding BothBytes
bytes_ok n b h = if_ok (nat_lt (length b) n) Short (Ok (take n b, drop n b)) BothBytes (all_take (λ x. x < 256) n b h, all_drop (λ x. x < 256) n b h)

length_ok : (b : List ℕ) → AreBytes b → IfOk (length_at b) BytesBehind
unfolding BytesBehind
length_ok b h = if_ok (nat_lt (length b) 2) Short (Ok (be2 b 0, drop 2 b)) BytesBehind (all_drop (λ x. x < 256) 2 b h)

field_ok : (most : ℕ) (b : List ℕ) → AreBytes b → IfOk (field_at most b) BothBytes
unfolding field_at BytesBehind
field_ok most b h =
    then_ok (length_at b) (λ n. if nat_lt most n.0 then Err TooLarge else bytes_at n.0 n.1) BytesBehind BothBytes (length_ok b h) (λ n k. if_ok (nat_lt most n.0) TooLarge (bytes_at n.0 n.1) BothBytes (bytes_ok n.0 n.1 k))

code_ok : (b : List ℕ) → AreBytes b → IfOk (code_at b) BothBytes
unfolding code_at BytesBehind
code_ok b h =
    then_ok (length_at b) (λ n. if n.0 == 0 then Err NoCode else (if nat_lt 8192 n.0 then Err TooLarge else bytes_at n.0 n.1)) BytesBehind BothBytes (length_ok b h)
    (λ n k. if_ok (n.0 == 0) NoCode (if nat_lt 8192 n.0 then Err TooLarge else bytes_at n.0 n.1) BothBytes (if_ok (nat_lt 8192 n.0) TooLarge (bytes_at n.0 n.1) BothBytes (bytes_ok n.0 n.1 k)))

-- ---- the fields in turn

abbrev whole : (number code init dir fci : List ℕ × List ℕ) → List ℕ → Result UnitParts UnitRefusal
whole number code init dir fci aid = Ok (record { number = number.0; code = code.0; init = init.0; dir = dir.0; fci = fci.0; aid = aid })

abbrev from_key : (number code init dir fci : List ℕ × List ℕ) → List ℕ → Result UnitParts UnitRefusal
from_key number code init dir fci key = end_at key >>= λ last. (refused_name (name_of dir.0) >>= λ aid. whole number code init dir fci aid)

abbrev from_signature : (number code init dir fci : List ℕ × List ℕ) → List ℕ → Result UnitParts UnitRefusal
from_signature number code init dir fci signature = empty_at Enciphered signature >>= λ key. from_key number code init dir fci key

abbrev from_fci : (number code init dir fci : List ℕ × List ℕ) → Result UnitParts UnitRefusal
from_fci number code init dir fci = empty_at Signed fci.1 >>= λ signature. from_signature number code init dir fci signature

abbrev from_dir : (number code init dir : List ℕ × List ℕ) → Result UnitParts UnitRefusal
from_dir number code init dir = field_at 128 dir.1 >>= λ fci. from_fci number code init dir fci

abbrev from_init : (number code init : List ℕ × List ℕ) → Result UnitParts UnitRefusal
from_init number code init = field_at 128 init.1 >>= λ dir. from_dir number code init dir

abbrev from_code : (number code : List ℕ × List ℕ) → Result UnitParts UnitRefusal
from_code number code = field_at 4096 code.1 >>= λ init. from_init number code init

abbrev from_number : List ℕ × List ℕ → Result UnitParts UnitRefusal
from_number number = code_at number.1 >>= λ code. from_code number code

fci_ok : (number code init dir fci : List ℕ × List ℕ) → AreBytes code.0 → AreBytes init.0 → AreBytes dir.0 → AreBytes fci.0 → IfOk (from_fci number code init dir fci) UnitBytes
fci_ok number code init dir fci c i d f = grind (arith, then_ok, any)

-- a unit that was read of bytes
pub unit_ok : (b : List ℕ) → AreBytes b → IfOk (unit_read b) UnitBytes
unfolding unit_read BothBytes
unit_ok b bytes =
    then_ok (bytes_at 8 b) (λ number. from_number number) BothBytes UnitBytes (bytes_ok 8 b bytes)
    (λ number n. then_ok (code_at number.1) (λ code. from_code number code) BothBytes UnitBytes (code_ok number.1 n.1)
    (λ code c. then_ok (field_at 4096 code.1) (λ init. from_init number code init) BothBytes UnitBytes (field_ok 4096 code.1 c.1)
    (λ init i. then_ok (field_at 128 init.1) (λ dir. from_dir number code init dir) BothBytes UnitBytes (field_ok 128 init.1 i.1)
    (λ dir d. then_ok (field_at 128 dir.1) (λ fci. from_fci number code init dir fci) BothBytes UnitBytes (field_ok 128 dir.1 d.1)
    (λ fci f. fci_ok number code init dir fci c.0 i.0 d.0 f.0)))))
