-- The laws of closed tables between commands: each moment that may follow a moment is one that the tables have.
use Rattle.std.specs.Prelude.{◌≡◌, ℕ, ℤ, ◌==◌, true, false, List, [], ◌∷◌, Some, Ok, Err}
use Rattle.model_prove.specs.model_device.specs.Bytes.{AreBytes, zeros}
use Rattle.model_prove.specs.model_machine.specs.declared.instruction.DecodeFault.{DecodeFault}
use Rattle.model_prove.specs.model_machine.specs.declared.machine.Abend.TheVariants.{A07}
use Rattle.model_prove.specs.model_machine.specs.Code.{instruction_at}
use Rattle.model_prove.specs.model_machine.specs.Frame.{Frame, session_of}
use Rattle.model_prove.specs.model_machine.specs.declared.instruction.Ins.{Ins}
use Rattle.model_prove.specs.model_machine.specs.declared.instruction.Ins.TheVariants as ins
use Rattle.model_prove.specs.model_machine.specs.Primitives.{Around}
use Rattle.model_prove.specs.model_machine.specs.Row.{row}
use Rattle.model_prove.specs.model_machine.specs.Chain.{Abended, frame_at}
use Rattle.law_rules.specs.law_promise.specs.History.{fetch_cause}
use Rattle.law_rules.specs.law_promise.specs.Outline.{Entry, ByDelegation, FitsEntry}
use Rattle.law_rules.specs.law_promise.specs.Domain.{IsSegment, IsDelegator, AbendCovered, EndCovered, RowCovered, FitsDepth, first_frame_in}
use Rattle.model_prove.specs.model_rules.specs.Rules.{Target, AppRules}
use Rattle.model_prove.specs.model_rules.specs.Happenings.{Event, History, Failed, Session}
use Rattle.model_prove.specs.model_rules.specs.Keeping.{keeps_rules}
use Rattle.law_rules.specs.Law.{domain_of_rules}
use Rattle.model_prove.specs.Keys.{PlaceKey, Known, Tables}
use Rattle.model_prove.specs.Arrivals.{Setting}
use Rattle.model_prove.specs.Steps.{place_arrivals}
use Rattle.model_prove.specs.Tables.{place_at, includes_all, is_closed}
use Rattle.model_prove.specs.model_rules.specs.Loadable.{IsLoadable}
use Rattle.law_prove.specs.Coverings.{IsMoment, IsUnbroken, IsPlace, covering_of}

-- What closed tables have between commands: the moment of a creation; after each moment the selection of the
-- application, with zero session bytes, and the end of a session; and no moment breaks a rule, nor is one broken while
-- the application is not on the card.
pub record MomentsCovered (s : Setting) (t : Tables) : Type 0 where
  pub none : IsUnbroken s []
  pub created : IsMoment s t false [] s.app.fixed []
  pub deleted : (h : History) (fixed : List ℕ) → IsMoment s t false h fixed [] → IsUnbroken s h
  pub selected : (h : History) (fixed : List ℕ) → IsMoment s t false h fixed [] → IsMoment s t true (Session ∷ h) fixed (zeros s.app.session)
  pub selected_again : (h : History) (fixed session : List ℕ) → IsMoment s t true h fixed session → IsMoment s t true (Session ∷ h) fixed (zeros s.app.session)
  pub ended : (h : History) (fixed session : List ℕ) → IsMoment s t true h fixed session → IsMoment s t false (Session ∷ h) fixed []
  pub idle_keeps : s.rules.totals ≡ [] → (h : History) (fixed : List ℕ) → IsMoment s t false h fixed [] → keeps_rules s.rules h fixed ≡ true
  pub session_keeps : s.rules.totals ≡ [] → (h : History) (fixed session : List ℕ) → IsMoment s t true h fixed session → keeps_rules s.rules h fixed ≡ true

-- of each setting whose application a card can have
abbrev pub MomentLaw : Type 0
MomentLaw = (s : Setting) (t : Tables) → IsLoadable s.app → is_closed s t ≡ true → MomentsCovered s t

-- ---- places

-- What closed tables have at places: the beginning of a frame by a delegation, with a public segment of bytes; and where
-- the budget ends at a place, or no instruction is there, the answer to the command or the end of the delegation.
pub record PlacesCovered (s : Setting) (t : Tables) (g : Target) : Type 0 where
  pub entered : (h : History) (fixed public : List ℕ) → IsMoment s t false h fixed [] → AreBytes public
      → IsPlace s t ByDelegation h (first_frame_in (domain_of_rules g (covering_of s t)) fixed (zeros s.app.session)) public
  pub spent : (e : Entry Event) (h : History) (f : Frame) (public : List ℕ) → IsPlace s t e h f public
      → EndCovered (domain_of_rules g (covering_of s t)) e h f.fixed (session_of f) (Abended A07)
  pub unfetched : (e : Entry Event) (h : History) (f : Frame) (public : List ℕ) (fault : DecodeFault) → IsPlace s t e h f public → instruction_at s.app.code f.at ≡ Err fault
      → AbendCovered (domain_of_rules g (covering_of s t)) e (Failed f.at (fetch_cause fault) ∷ h) f (fetch_cause fault)

-- of an application that a card can have
abbrev pub PlaceLaw : Type 0
PlaceLaw =
    (r : AppRules) (g : Target) (t : Tables) → IsLoadable g.app → is_closed (record { rules = r; app = g.app }) t ≡ true → PlacesCovered (record { rules = r; app = g.app }) t g

-- ---- rows

-- Tables u lead into tables t: these include the outcomes of each place of u. Closed tables lead into themselves.
abbrev pub LeadsInto : Setting → Tables → Tables → Type 0
LeadsInto s u t = (k : PlaceKey) (known : Known) → place_at u.places k ≡ Some known → includes_all t (place_arrivals s k known) ≡ true

-- At each place of tables u that has this instruction, what its row leads to is covered by tables t: the next place, an
-- exit or a delegation, a stop in its write, or its abend.
abbrev pub RowIsCovered : AppRules → Target → Tables → Tables → Ins → Type 0
RowIsCovered r g u t i =
    let s : Setting = record { rules = r; app = g.app } in
    let o = domain_of_rules g (covering_of s t) in
    (e : Entry Event) (h : History) (f : Frame) (public : List ℕ) (depth : ℕ) (x : Around) (next : ℕ) → IsPlace s u e h f public → FitsEntry e x → FitsDepth e depth → IsDelegator x.delegator → IsSegment o public
    → instruction_at g.app.code f.at ≡ Ok (i, next) → RowCovered o e h f public depth i (row i (frame_at f next) public x)

-- of tables that lead into others, for an application that a card can have
abbrev pub LeadLaw : Ins → Type 0
LeadLaw i = (r : AppRules) (g : Target) (u t : Tables) → IsLoadable g.app → LeadsInto (record { rules = r; app = g.app }) u t → RowIsCovered r g u t i

-- so of closed tables
abbrev pub RowLaw : Ins → Type 0
RowLaw i = (r : AppRules) (g : Target) (t : Tables) → IsLoadable g.app → is_closed (record { rules = r; app = g.app }) t ≡ true → RowIsCovered r g t t i

-- of the rows that pop
abbrev pub PopLaw : Type 0
PopLaw = ((n : ℕ) → LeadLaw (ins.Popn n)) × LeadLaw ins.Popb × LeadLaw ins.Popw

-- of the rows that set status and length of the reply
abbrev pub StatusLaw : Type 0
StatusLaw = ((sw : ℕ) → LeadLaw (ins.Setsw sw)) × ((la : ℕ) → LeadLaw (ins.Setla la)) × ((sw la : ℕ) → LeadLaw (ins.Setswla sw la))

-- of branches, and of jumps and calls whose target is in the instruction
abbrev pub JumpLaw : Type 0
JumpLaw =
    ((k : ℕ) (d : ℤ) → LeadLaw (ins.Branch k d)) × ((k to : ℕ) → (k == 0) ≡ false → LeadLaw (ins.Jump k to)) × ((k to : ℕ) → (k == 0) ≡ false → LeadLaw (ins.Call k to))

-- of the rows that push what the instruction or the registers say
abbrev pub PushLaw : Type 0
PushLaw = ((n : ℕ) → LeadLaw (ins.Pushz n)) × ((b : ℕ) → LeadLaw (ins.Pushb b)) × ((w : ℕ) → LeadLaw (ins.Pushw w)) × ((tag : ℕ) (off : ℤ) → LeadLaw (ins.Loada tag off))

-- of the rows that copy bytes between the stack and an operand, or set an operand
abbrev pub MoveLaw : Type 0
MoveLaw =
    ((tag : ℕ) (off : ℤ) (n : ℕ) → LeadLaw (ins.Load tag off n))
    × ((tag : ℕ) (off : ℤ) (n : ℕ) → LeadLaw (ins.Store tag off n))
    × ((tag : ℕ) (off : ℤ) (b : ℕ) → LeadLaw (ins.Setb tag off b))
    × ((tag : ℕ) (off : ℤ) (w : ℕ) → LeadLaw (ins.Setw tag off w))

-- of the comparisons and the test
abbrev pub CompareLaw : Type 0
CompareLaw =
    ((tag : ℕ) (off : ℤ) (b : ℕ) → LeadLaw (ins.Cmpb tag off b))
    × ((tag : ℕ) (off : ℤ) (w : ℕ) → LeadLaw (ins.Cmpw tag off w))
    × ((tag : ℕ) (off : ℤ) (n : ℕ) → LeadLaw (ins.Cmpn tag off n))
    × ((tag : ℕ) (off : ℤ) (n : ℕ) → LeadLaw (ins.Testn tag off n))

-- of the sums and differences
abbrev pub SumLaw : Type 0
SumLaw =
    ((tag : ℕ) (off : ℤ) (b : ℕ) → LeadLaw (ins.Addb tag off b))
    × ((tag : ℕ) (off : ℤ) (b : ℕ) → LeadLaw (ins.Subb tag off b))
    × ((tag : ℕ) (off : ℤ) (w : ℕ) → LeadLaw (ins.Addw tag off w))
    × ((tag : ℕ) (off : ℤ) (w : ℕ) → LeadLaw (ins.Subw tag off w))
    × ((tag : ℕ) (off : ℤ) (n : ℕ) → LeadLaw (ins.Incn tag off n))
    × ((tag : ℕ) (off : ℤ) (n : ℕ) → LeadLaw (ins.Decn tag off n))
    × ((tag : ℕ) (off : ℤ) (n : ℕ) → LeadLaw (ins.Addn tag off n))
    × ((tag : ℕ) (off : ℤ) (n : ℕ) → LeadLaw (ins.Subn tag off n))

-- of the operations on bits
abbrev pub BitLaw : Type 0
BitLaw =
    ((tag : ℕ) (off : ℤ) (n : ℕ) → LeadLaw (ins.Clearn tag off n))
    × ((tag : ℕ) (off : ℤ) (n : ℕ) → LeadLaw (ins.Notn tag off n))
    × ((tag : ℕ) (off : ℤ) (n : ℕ) → LeadLaw (ins.Andn tag off n))
    × ((tag : ℕ) (off : ℤ) (n : ℕ) → LeadLaw (ins.Orn tag off n))
    × ((tag : ℕ) (off : ℤ) (n : ℕ) → LeadLaw (ins.Xorn tag off n))

-- of the primitives that push the flags and that change the protection
abbrev pub PrimitiveLaw : Type 0
PrimitiveLaw = ((args : List ℕ) → LeadLaw (ins.Prim 0 2 args)) × ((args : List ℕ) → LeadLaw (ins.Prim 1 3 args))

-- of the primitives that manipulate the bits of the top under a mask
abbrev pub MaskLaw : Type 0
MaskLaw = ((args : List ℕ) → LeadLaw (ins.Prim 2 1 args)) × ((args : List ℕ) → LeadLaw (ins.Prim 3 1 args))

-- of the rows that return
abbrev pub ReturnLaw : Type 0
ReturnLaw =
    LeadLaw ins.Ret × ((less : ℕ) → LeadLaw (ins.Reti less)) × ((more : ℕ) → LeadLaw (ins.Reto more)) × ((less more : ℕ) → LeadLaw (ins.Retio less more))
