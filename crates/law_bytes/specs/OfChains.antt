-- What is of bytes in a chain: its applications, its frames and the public segment. Names have 5 to 16 bytes.
use Rattle.std.specs.Prelude.{◌≤◌, ℕ, List, [], ◌∷◌, length, ⊤}
use Rattle.std.specs.List.{AllByRecursion}
use Rattle.law_family.specs.model_device.specs.Bytes.{AreBytes}
use Rattle.law_family.specs.model_device.specs.Card.{App}
use Rattle.law_family.specs.model_machine.specs.Apdu.{ApduParts}
use Rattle.law_family.specs.model_machine.specs.Frame.{Frame}
use Rattle.law_family.specs.model_machine.specs.Chain.{Chain, Write, Follows, Continues, Ends, Acted, Ran, turn_of_chain, run_of_chain, start}
use Rattle.law_bytes.specs.OfBytes.{ArePieces, IsByteFrame}

-- a name: 5 to 16 bytes
pub record IsName (name : List ℕ) : Type 0 where
  pub bytes : AreBytes name
  pub least : 5 ≤ length name
  pub most : length name ≤ 16

-- an application under a name, with code and static bytes that are bytes
pub record IsByteApp (e : List ℕ × App) : Type 0 where
  pub name : IsName e.0
  pub code : AreBytes (e.1).code
  pub fixed : AreBytes (e.1).fixed

-- applications of bytes
abbrev pub AreByteApps : List (List ℕ × App) → Type 0
AreByteApps = AllByRecursion IsByteApp

-- a frame of bytes, of an application with a name
pub record IsNamedFrame (f : Frame) : Type 0 where
  pub name : IsName f.name
  pub bytes : IsByteFrame f

-- a chain of bytes
pub record IsByteChain (ch : Chain) : Type 0 where
  pub apps : AreByteApps ch.map
  pub frame : IsNamedFrame ch.frame
  pub below : AllByRecursion IsNamedFrame ch.below
  pub public : AreBytes ch.public

-- a command of bytes
pub record IsByteCommand (a : ApduParts) : Type 0 where
  pub body : AreBytes a.body
  pub head : AreBytes (a.cla ∷ a.ins ∷ a.p1 ∷ a.p2 ∷ a.p3 ∷ [])

-- ---- laws

-- if a chain goes on
abbrev pub OnGoing : Follows → (Chain → Type 0) → Type 0
OnGoing (Continues ch) P = P ch
OnGoing (Ends outcome) P = ⊤

-- atomic writes of bytes
abbrev pub AreByteWrites : List Write → Type 0
AreByteWrites = AllByRecursion (λ w. ArePieces w.pieces)

-- a turn that writes bytes, after which the chain is of bytes
pub record IsByteTurn (t : Acted) : Type 0 where
  pub writes : AreByteWrites t.writes
  pub goes : OnGoing t.follows IsByteChain

-- a run that writes bytes, and leaves session bytes that are bytes
pub record IsByteRun (r : Ran) : Type 0 where
  pub writes : AreByteWrites r.writes
  pub session : AreBytes r.session

-- each turn of a chain of bytes
abbrev pub TurnBytesLaw : Type 0
TurnBytesLaw = (ch : Chain) → IsByteChain ch → IsByteTurn (turn_of_chain ch)

-- so each run of it
abbrev pub RunBytesLaw : Type 0
RunBytesLaw = (n : ℕ) (ch : Chain) → IsByteChain ch → IsByteRun (run_of_chain n ch)

-- a command of bytes to an application that is there begins a chain of bytes
abbrev pub StartBytesLaw : Type 0
StartBytesLaw =
    (m : List (List ℕ × App)) (name session : List ℕ) (a : ApduParts) → AreByteApps m → IsName name → AreBytes session → IsByteCommand a
    → IsByteChain (start m name session a)
