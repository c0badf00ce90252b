-- The commands of a load and of a deletion reach the manager, and of a load only the last one creates.
use Rattle.std.specs.Prelude.{◌≡◌, ℕ, zero, suc, ◌+◌, Bool, true, false, cond, ◌==◌, List, [], ◌∷◌, ◌++◌, length, take, drop, option_map, Option, Some, None, ⊤}
use Rattle.std.proofs.Common.{arith, refl}
use Rattle.model_play.specs.model_device.specs.Bytes.{bytes2}
use Rattle.model_play.specs.model_machine.specs.Apdu.{Rest, rest_read, apdu_read}
use Rattle.model_play.specs.model_card.specs.Units.{UnitParts}
use Rattle.model_play.specs.model_card.specs.Manager.{Route, WrongLength, WrongClass, ToSelect, ToManager, ToApplication, route_of_parts, route}
use Rattle.model_play.specs.Play.{delete_bytes, piece_commands, section_commands, load_commands}
use Rattle.law_family.proofs.OtherCommand.{IsManagers, AreManagers}

-- a command that reaches the manager with an INS that neither creates nor deletes, or nothing
abbrev pub IsFiller : Route → Type 0
IsFiller WrongLength = ⊤
IsFiller (ToManager a) = ((a.ins == 0x16) ≡ false) × ((a.ins == 0x18) ≡ false)
IsFiller WrongClass = ⊥
IsFiller (ToSelect a) = ⊥
IsFiller (ToApplication a) = ⊥

abbrev pub AreFillers : List (List ℕ) → Type 0
AreFillers [] = ⊤
AreFillers (b ∷ bs) = IsFiller (route b) × AreFillers bs

-- a command that reaches the manager with this INS, or nothing
abbrev pub IsManagerOf : ℕ → Route → Type 0
IsManagerOf ins WrongLength = ⊤
IsManagerOf ins (ToManager a) = a.ins ≡ ins
IsManagerOf ins WrongClass = ⊥
IsManagerOf ins (ToSelect a) = ⊥
IsManagerOf ins (ToApplication a) = ⊥

read_manager : (ins p1 p2 : ℕ) (o : Option Rest) → IsManagerOf ins (route_of_parts (option_map (λ (r : Rest). record { cla = 0xBE; ins = ins; p1 = p1; p2 = p2; p3 = r.p3; body = r.body; le = r.le }) o))
read_manager ins p1 p2 None = tt
read_manager ins p1 p2 (Some r) = refl

pub class_manager : (ins p1 p2 : ℕ) (b : List ℕ) → IsManagerOf ins (route (0xBE ∷ ins ∷ p1 ∷ p2 ∷ b))
unfolding apdu_read
class_manager ins p1 p2 b = read_manager ins p1 p2 (rest_read b)

pub of_managers : (ins : ℕ) (r : Route) → IsManagerOf ins r → IsManagers r
of_managers ins r h = grind arith

of_filler : (ins : ℕ) (r : Route) → (ins == 0x16) ≡ false → (ins == 0x18) ≡ false → IsManagerOf ins r → IsFiller r
of_filler ins r p q h = grind arith

filler_manager : (r : Route) → IsFiller r → IsManagers r
filler_manager r h = grind arith

-- ---- lists

are_fillers_append : (cs bs : List (List ℕ)) → AreFillers cs → AreFillers bs → AreFillers (cs ++ bs)
are_fillers_append [] bs g h = h
are_fillers_append (a ∷ cs) bs g h = (g.0, are_fillers_append cs bs g.1 h)

managers_after : (cs bs : List (List ℕ)) → AreFillers cs → AreManagers bs → AreManagers (cs ++ bs)
managers_after [] bs g h = h
managers_after (a ∷ cs) bs g h = (filler_manager (route a) g.0, managers_after cs bs g.1 h)

module _ (ins : ℕ) (p : (ins == 0x16) ≡ false) (q : (ins == 0x18) ≡ false) where
  piece_fillers : (n at : ℕ) (b : List ℕ) → AreFillers (piece_commands n ins at b)
  piece_fillers zero at b = tt
  piece_fillers (suc n) at b = by_test (length b == 0) (piece_fillers n (at + 248) (drop 248 b))
    where
      by_test : (x : Bool) → AreFillers (piece_commands n ins (at + 248) (drop 248 b)) → AreFillers (cond x [] ((0xBE ∷ ins ∷ (bytes2 at ++ length (take 248 b) ∷ take 248 b)) ∷ piece_commands n ins (at + 248) (drop 248 b)))
      by_test true r = tt
      by_test false r = (of_filler ins (route (0xBE ∷ ins ∷ (bytes2 at ++ length (take 248 b) ∷ take 248 b))) p q (class_manager ins _ _ _), r)

  section_fillers : (b : List ℕ) → AreFillers (section_commands ins b)
  section_fillers b = piece_fillers (length b) 0 b

-- ---- a load, and a deletion

-- OPEN and the pieces of the four sections
abbrev pub load_front : UnitParts → ℕ → ℕ → List (List ℕ)
load_front u fixed session =
    (0xBE ∷ 0x12 ∷ 0x00 ∷ 0x00 ∷ 12 ∷ (bytes2 (length u.code) ++ bytes2 fixed ++ bytes2 (length u.init) ++ bytes2 session ++ bytes2 (length u.dir) ++ bytes2 (length u.fci)))
    ∷ (section_commands 0x24 u.code ++ section_commands 0x26 u.init ++ section_commands 0x20 u.dir ++ section_commands 0x22 u.fci)

abbrev pub create_bytes : List ℕ
create_bytes = 0xBE ∷ 0x16 ∷ 0x00 ∷ 0x00 ∷ []

pub front_fillers : (u : UnitParts) (fixed session : ℕ) → AreFillers (load_front u fixed session)
front_fillers u fixed session = grind (arith, of_filler, class_manager, are_fillers_append, section_fillers)

pub create_manager : IsManagerOf 0x16 (route create_bytes)
create_manager = class_manager 0x16 0 0 []

pub load_managers : (u : UnitParts) (fixed session : ℕ) → AreManagers (load_commands u fixed session)
load_managers u fixed session = managers_after (load_front u fixed session) (create_bytes ∷ []) (front_fillers u fixed session) (of_managers 0x16 (route create_bytes) create_manager, tt)

pub delete_manager : (n : List ℕ) → IsManagers (route (delete_bytes n))
delete_manager n = of_managers 0x18 (route (delete_bytes n)) (class_manager 0x18 _ _ _)
