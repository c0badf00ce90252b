-- What every row keeps of its frame, whatever it does.
use Rattle.std.specs.Prelude.{◌≡◌, ℕ, ◌+◌, ◌≤◌, List, length, Option, Some, None, ⊤}
use Rattle.std.specs.List.{AllByRecursion}
use Rattle.model_machine.specs.declared.instruction.Ins.{Ins}
use Rattle.model_machine.specs.model_device.specs.Pieces.{laid_pieces}
use Rattle.model_machine.specs.Frame.{Frame, Effect}
use Rattle.model_machine.specs.Primitives.{Around, Then, Goes, Exits, Delegates, Done}
use Rattle.model_machine.specs.Row.{effect, RowEnd, Abends, Does, row}

-- pieces that lie in a list of this length
abbrev pub PiecesWithin : ℕ → List (ℕ × List ℕ) → Type 0
PiecesWithin n ps = AllByRecursion (λ p. p.0 + length p.1 ≤ n) ps

-- a change, if there is one, whose pieces lie in a list of this length
abbrev pub ChangeWithin : ℕ → Option (List (ℕ × List ℕ)) → Type 0
ChangeWithin n None = ⊤
ChangeWithin n (Some ps) = PiecesWithin n ps

-- static bytes after a change, if there is one
abbrev pub after_change : List ℕ → Option (List (ℕ × List ℕ)) → List ℕ
after_change fixed None = fixed
after_change fixed (Some ps) = laid_pieces fixed ps

-- What an effect keeps of a frame with these parts, and of a public segment of this length: its name, its access list
-- and the number of its session bytes; no segment gets shorter; the static bytes change just as the list of changes
-- says; and the pieces of that list and the pending ones lie in the static segment, if the pending ones did before.
pub record KeptParts (known : List ℕ) (denies bytes : ℕ) (static : List ℕ) (pending : List (ℕ × List ℕ)) (room least : ℕ) (e : Effect) : Type 0 where
  pub name : e.frame.name ≡ known
  pub deny : e.frame.deny ≡ denies
  pub session : e.frame.session ≡ bytes
  pub dyn : room ≤ length e.frame.dyn
  pub public : least ≤ length e.public
  pub fixed : e.frame.fixed ≡ after_change static e.changes
  pub inside : PiecesWithin (length static) pending → PiecesWithin (length static) e.frame.pieces
  pub changes : PiecesWithin (length static) pending → ChangeWithin (length static) e.changes

-- what an effect keeps of a frame and a public segment
abbrev pub Keeps : Frame → List ℕ → Effect → Type 0
Keeps f public e = KeptParts f.name f.deny f.session f.fixed f.pieces (length f.dyn) (length public) e

-- what a frame leaves that may run no more: its segments as they were, no change, and a stack no higher
pub record LeavesParts (static : List ℕ) (pending : List (ℕ × List ℕ)) (bytes : ℕ) (stack : List ℕ) (most : ℕ) (e : Effect) : Type 0 where
  pub fixed : e.frame.fixed ≡ static
  pub pieces : e.frame.pieces ≡ pending
  pub session : e.frame.session ≡ bytes
  pub dyn : e.frame.dyn ≡ stack
  pub dt : e.frame.dt ≤ most
  pub changes : e.changes ≡ None

-- what of a frame that may run no more is left
abbrev pub Leaves : Frame → Effect → Type 0
Leaves f e = LeavesParts f.fixed f.pieces f.session f.dyn f.dt e

-- if the frame exits or delegates
abbrev pub OnLeave : Then → Type 0 → Type 0
OnLeave Goes P = ⊤
OnLeave Exits P = P
OnLeave (Delegates n) P = P

-- if a row is done
abbrev pub OnDone : RowEnd → (Done → Type 0) → Type 0
OnDone (Abends a) P = ⊤
OnDone (Does d) P = P d

-- each row that is done keeps these parts of its frame
abbrev pub KeepingLaw : Type 0
KeepingLaw = (i : Ins) (f : Frame) (public : List ℕ) (x : Around) → OnDone (row i f public x) (λ d. Keeps f public d.effect)

-- each row that is done and exits or delegates leaves its frame's segments as they were
abbrev pub LeavingLaw : Type 0
LeavingLaw = (i : Ins) (f : Frame) (public : List ℕ) (x : Around) → OnDone (row i f public x) (λ d. OnLeave d.next (Leaves f d.effect))
