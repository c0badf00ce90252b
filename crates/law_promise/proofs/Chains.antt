-- What holds of a chain while an application that a domain covers may be among its frames: its own frame runs, or waits
-- below, or there is none.
use Rattle.std.proofs.Common.{◌≡◌, ℕ, ◌≤◌, Bool, true, false, List, [], ◌∷◌, length, Option, Some, None, sym, subst, arith}
use Rattle.std.specs.Prelude.{⊤, bytes_eq}
use Rattle.std.proofs.lemmas.Bool.{or_parts}
use Rattle.model_events.specs.model_machine.specs.declared.machine.Abend.{Abend}
use Rattle.model_events.specs.model_device.specs.Bytes.{lookup}
use Rattle.model_events.specs.model_device.specs.Card.{App}
use Rattle.model_events.specs.model_machine.specs.Apdu.{ApduParts}
use Rattle.model_events.specs.model_machine.specs.Frame.{Frame, session_of}
use Rattle.model_events.specs.model_machine.specs.Chain.{Outcome, Abended, Chain, map_changed, is_active, first_frame}
use Rattle.law_bytes.specs.OfChains.{IsByteChain}
use Rattle.law_promise.specs.History.{with_event}
use Rattle.law_promise.specs.Outline.{Entry, BySelection, ByDelegation, public_size}
use Rattle.law_promise.specs.Kept.{IsLike}
use Rattle.law_promise.specs.Domain.{Domain, IsSegment, AnswerCovered, EndCovered, StopCovered, IsRowCause, IdleCovered}
use Rattle.law_bytes.specs.law_rows.specs.Keeping.{after_change}
use Rattle.model_events.specs.model_device.proofs.MapLemmas.{lookup_beside, lookup_inserted_lem}

-- ---- names

-- no frame of this name
abbrev pub NoneOf : List ℕ → List Frame → Type 0
NoneOf n [] = ⊤
NoneOf n (f ∷ fs) = (bytes_eq f.name n ≡ false) × NoneOf n fs

-- no frame of a chain in which a name is not active has that name
pub inactive : (n : List ℕ) (f : Frame) (fs : List Frame) → is_active n f fs ≡ false → NoneOf n (f ∷ fs)
inactive n f [] h = (h, tt)
inactive n f (g ∷ gs) h =
    ((or_parts (bytes_eq f.name n) (is_active n g gs) h).0, inactive n g gs (or_parts (bytes_eq f.name n) (is_active n g gs) h).1)

-- nor has the first frame of such a chain
pub first_none : (n : List ℕ) (f : Frame) (fs : List Frame) → NoneOf n (f ∷ fs) → bytes_eq (first_frame f fs).name n ≡ false
first_none n f [] h = h.0
first_none n f (g ∷ gs) h = first_none n g gs h.1

-- ---- frames

-- the command of a chain, with the history before it
pub record Asked (E : Type 0) : Type 0 where
  pub bytes : List ℕ
  pub apdu : ApduParts
  pub before : List E

-- how the first frame began, if it is the application's
abbrev pub entry_of : {E : Type 0} → Asked E → Entry E
entry_of q = BySelection q.bytes q.apdu q.before

-- how a frame above these began
abbrev pub entry_over : {E : Type 0} → Asked E → List Frame → Entry E
entry_over q [] = entry_of q
entry_over q (f ∷ fs) = ByDelegation

-- a frame of the application that waits for a delegation: what is required after it, whatever public segment comes back,
-- if a delegate abends, and if power goes
pub record Waits {E : Type 0} (o : Domain E) (q : Asked E) (h : List E) (fixed : List ℕ) (f : Frame) (fs : List Frame) : Type 0 where
  pub same : f.fixed ≡ fixed
  pub at : (p : List ℕ) → IsSegment o p → o.at (entry_over q fs) h f p
  pub ends : (cause : Abend) → IsRowCause cause → EndCovered o (entry_over q fs) h fixed (session_of f) (Abended cause)
  pub stops : StopCovered o (entry_over q fs) h fixed
  pub none : NoneOf o.watch.name fs

-- a frame of the application that runs
pub record Runs {E : Type 0} (o : Domain E) (q : Asked E) (h : List E) (fixed : List ℕ) (f : Frame) (fs : List Frame) (public : List ℕ) : Type 0 where
  pub same : f.fixed ≡ fixed
  pub at : o.at (entry_over q fs) h f public
  pub none : NoneOf o.watch.name fs

-- a frame waits, if it is the application's, else the rest holds
abbrev pub WaitsIf : {E : Type 0} → Bool → Domain E → Asked E → List E → List ℕ → Frame → List Frame → Type 0 → Type 0
WaitsIf true o q h fixed f fs rest = Waits o q h fixed f fs
WaitsIf false o q h fixed f fs rest = rest

-- frames that wait: one is of the application, or none is and it is idle
abbrev pub AllWait : {E : Type 0} → Domain E → Asked E → List E → List ℕ → List Frame → Type 0
AllWait o q h fixed [] = o.idle h fixed
AllWait o q h fixed (f ∷ fs) = WaitsIf (bytes_eq f.name o.watch.name) o q h fixed f fs (AllWait o q h fixed fs)

-- a frame runs, if it is the application's, else the rest holds
abbrev pub RunsIf : {E : Type 0} → Bool → Domain E → Asked E → List E → List ℕ → Frame → List Frame → List ℕ → Type 0 → Type 0
RunsIf true o q h fixed f fs public rest = Runs o q h fixed f fs public
RunsIf false o q h fixed f fs public rest = rest

-- the running frame and those below it
abbrev pub StackKept : {E : Type 0} → Domain E → Asked E → List E → List ℕ → Frame → List Frame → List ℕ → Type 0
StackKept o q h fixed f fs public = RunsIf (bytes_eq f.name o.watch.name) o q h fixed f fs public (AllWait o q h fixed fs)

module _ {E : Type 0} (o : Domain E) (q : Asked E) (h : List E) (fixed : List ℕ) where
  -- where none of the application is and it is idle, all wait
  pub none_waits : (fs : List Frame) → NoneOf o.watch.name fs → o.idle h fixed → AllWait o q h fixed fs
  none_waits [] n i = i
  none_waits (f ∷ fs) n i = grind (arith, none_waits fs n.1 i)

  -- and the reverse
  pub none_idle : (fs : List Frame) → NoneOf o.watch.name fs → AllWait o q h fixed fs → o.idle h fixed
  none_idle [] n w = w
  none_idle (f ∷ fs) n w = none_idle fs n.1 (subst (λ (b : Bool). WaitsIf b o q h fixed f fs (AllWait o q h fixed fs)) n.0 w)

  resumed_by : (b : Bool) (f : Frame) (fs : List Frame) (p : List ℕ) → IsSegment o p → WaitsIf b o q h fixed f fs (AllWait o q h fixed fs)
      → RunsIf b o q h fixed f fs p (AllWait o q h fixed fs)
  resumed_by true f fs p l w = record { same = w.same; at = w.at p l; none = w.none }
  resumed_by false f fs p l w = w

  -- a waiting frame goes on with any public segment
  pub resumed : (f : Frame) (fs : List Frame) (p : List ℕ) → IsSegment o p → AllWait o q h fixed (f ∷ fs) → StackKept o q h fixed f fs p
  resumed f fs p l w = resumed_by (bytes_eq f.name o.watch.name) f fs p l w

  -- the running frame is of another application
  pub others_run : (f : Frame) (fs : List Frame) (p : List ℕ) → bytes_eq f.name o.watch.name ≡ false → AllWait o q h fixed fs → StackKept o q h fixed f fs p
  others_run f fs p n w = subst (λ (b : Bool). RunsIf b o q h fixed f fs p (AllWait o q h fixed fs)) (sym n) w

  -- or of this one
  pub own_runs : (f : Frame) (fs : List Frame) (p : List ℕ) → bytes_eq f.name o.watch.name ≡ true → Runs o q h fixed f fs p → StackKept o q h fixed f fs p
  own_runs f fs p n r = subst (λ (b : Bool). RunsIf b o q h fixed f fs p (AllWait o q h fixed fs)) (sym n) r

  -- a frame of the application that waits is one of frames that wait
  pub own_waits : (f : Frame) (fs : List Frame) → bytes_eq f.name o.watch.name ≡ true → Waits o q h fixed f fs → AllWait o q h fixed (f ∷ fs)
  own_waits f fs n w = subst (λ (b : Bool). WaitsIf b o q h fixed f fs (AllWait o q h fixed fs)) (sym n) w

  -- a frame of another application above frames that wait leaves them waiting
  pub others_wait : (f : Frame) (fs : List Frame) → bytes_eq f.name o.watch.name ≡ false → AllWait o q h fixed fs → AllWait o q h fixed (f ∷ fs)
  others_wait f fs n w = subst (λ (b : Bool). WaitsIf b o q h fixed f fs (AllWait o q h fixed fs)) (sym n) w

  -- below a running frame of another application all frames wait
  pub others_wait_below : (f : Frame) (fs : List Frame) (p : List ℕ) → bytes_eq f.name o.watch.name ≡ false → StackKept o q h fixed f fs p → AllWait o q h fixed fs
  others_wait_below f fs p n s = subst (λ (b : Bool). RunsIf b o q h fixed f fs p (AllWait o q h fixed fs)) n s

  -- a running frame of the application runs in the chain
  pub own_run : (f : Frame) (fs : List Frame) (p : List ℕ) → bytes_eq f.name o.watch.name ≡ true → StackKept o q h fixed f fs p → Runs o q h fixed f fs p
  own_run f fs p n s = subst (λ (b : Bool). RunsIf b o q h fixed f fs p (AllWait o q h fixed fs)) n s

-- ---- chains

-- the application is not on the card, or it is, and its frame runs, or waits, or there is none
pub record ThereKept {E : Type 0} (o : Domain E) (q : Asked E) (h : List E) (a : App) (f : Frame) (fs : List Frame) (public : List ℕ) : Type 0 where
  pub like : IsLike o.app a
  pub stack : StackKept o q h a.fixed f fs public

-- the application is kept on the card, or it is gone and no frame is its own
abbrev pub FoundKept : {E : Type 0} → Domain E → Asked E → List E → Option App → Frame → List Frame → List ℕ → Type 0
FoundKept o q h None f fs public = NoneOf o.watch.name (f ∷ fs) × o.gone h
FoundKept o q h (Some a) f fs public = ThereKept o q h a f fs public

-- what a chain keeps of a domain, with the command that it runs
pub record ChainKept {E : Type 0} (o : Domain E) (q : Asked E) (h : List E) (ch : Chain) : Type 0 where
  pub kept : FoundKept o q h (lookup ch.map o.watch.name) ch.frame ch.below ch.public
  pub command : ch.apdu ≡ q.apdu
  pub whole : public_size ≤ length ch.public
  pub shallow : length ch.below ≤ 3
  pub bytes : o.of_bytes → IsByteChain ch

-- ---- the end of a command

-- of the application if the first frame is its own, else while it is idle
abbrev pub EndIf : {E : Type 0} → Bool → Domain E → Asked E → List E → List ℕ → List ℕ → Outcome → Type 0
EndIf true o q k fixed session outcome = EndCovered o (entry_of q) k fixed session outcome
EndIf false o q k fixed session outcome = o.idle k fixed

-- the answer is covered, if the first frame is the application's
abbrev pub AnswerIf : {E : Type 0} → Bool → Domain E → Asked E → List E → Outcome → Type 0
AnswerIf true o q k outcome = AnswerCovered o q.bytes q.apdu q.before k outcome
AnswerIf false o q k outcome = ⊤

-- power goes, with the first frame the application's or another's
abbrev pub StopIf : {E : Type 0} → Bool → Domain E → List E → Option App → Type 0
StopIf b o k found = IdleCovered o (with_event (o.watch.of_end b) k) found

-- what is kept at the end of a command while the application is on the card
pub record EndOf {E : Type 0} (b : Bool) (o : Domain E) (q : Asked E) (k : List E) (a : App) (session : List ℕ) (outcome : Outcome) : Type 0 where
  pub like : IsLike o.app a
  pub ended : EndIf b o q k a.fixed session outcome
  pub answer : AnswerIf b o q k outcome
  pub stops : o.anywhere → o.idle (with_event (o.watch.of_end b) k) a.fixed

-- of the end of a command, where the first frame is the application's or not
abbrev pub EndKept : {E : Type 0} → Bool → Domain E → Asked E → List E → Option App → List ℕ → Outcome → Type 0
EndKept b o q k None session outcome = (b ≡ false) × o.gone k
EndKept b o q k (Some a) session outcome = EndOf b o q k a session outcome

-- ---- changes of static bytes

-- a change of another application
pub beside_changed : (m : List (List ℕ × App)) (n k : List ℕ) (c : Option (List (ℕ × List ℕ))) → bytes_eq n k ≡ false → lookup (map_changed m n c) k ≡ lookup m k
beside_changed m n k c h = grind (arith, lookup_beside)

-- an application after a change of its static bytes
abbrev pub with_change : App → Option (List (ℕ × List ℕ)) → App
with_change a c = record a { fixed = after_change a.fixed c }

-- a change of its own
pub own_changed : (m : List (List ℕ × App)) (n : List ℕ) (a : App) (c : Option (List (ℕ × List ℕ))) → lookup m n ≡ Some a → lookup (map_changed m n c) n ≡ Some (with_change a c)
own_changed m n a c h = grind (arith, lookup_inserted_lem)
