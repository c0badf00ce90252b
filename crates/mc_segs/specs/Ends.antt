-- How calls on frames end, and the state after them.
use Rattle.std.specs.Prelude.{◌≡◌, ◌⊎◌, ℕ, ◌≤◌, Bool, true, false, List, [], ◌∷◌, length, Option, Some, None, Result, Ok, Err}
use Rattle.mc_apdu.specs.model_machine.specs.declared.instruction.Ins.{Ins}
use Rattle.mc_apdu.specs.model_machine.specs.declared.machine.Abend.{Abend}
use Rattle.mc_apdu.specs.model_machine.specs.declared.machine.Abend.TheVariants.{A03, A08}
use Rattle.mc_words.specs.model_device.specs.declared.device.Stop.{Stop}
use Rattle.mc_words.specs.model_device.specs.Orders.{Answer, InOrder}
use Rattle.mc_bank.specs.model_card.specs.Items.{BankItem, Commit}
use Rattle.mc_words.specs.model_device.specs.Pieces.{laid_pieces, HoldPieces}
use Rattle.mc_apdu.specs.model_machine.specs.Frame.{Frame, Effect, is_outside, too_many}
use Rattle.mc_apdu.specs.model_machine.specs.Primitives.{Around, Then, Goes, Exits, Delegates}
use Rattle.mc_apdu.specs.model_machine.specs.Row.{RowEnd, Abends, Does, row}
use Rattle.mc_bank.specs.Bank.{BankState}
use Rattle.mc_segs.specs.HeldFrames.{Held, FitsBank, frame_on_bank, frame_reading}
use Rattle.mc_segs.specs.declared.ends.Halt.{Halt}
use Rattle.mc_segs.specs.declared.ends.Halt.TheVariants as halt
use Rattle.mc_segs.specs.declared.ends.Next.{Next}
use Rattle.mc_segs.specs.declared.ends.Next.TheVariants.{Go, Exit, Delegate}
use Rattle.mc_bank.specs.declared.bank.Bank.{Ghosts}

-- the abend `a` exactly if it is due
abbrev pub IfDue : Result (Unit {0}) Abend → Bool → Abend → Type 0
IfDue (Ok u) due a = due ≡ false
IfDue (Err b) due a = (due ≡ true) × (b ≡ a)

-- the abend `a` exactly if it is due, and else the value w
abbrev pub GivesOrAbends : Result ℕ Abend → Bool → Abend → ℕ → Type 0
GivesOrAbends (Ok v) due a w = (due ≡ false) × (v ≡ w)
GivesOrAbends (Err b) due a w = (due ≡ true) × (b ≡ a)

-- an address if there is one, else abend 03
abbrev pub address_or_abend : Option ℕ → Result ℕ Abend
address_or_abend (Some a) = Ok a
address_or_abend None = Err A03

-- ---- static changes

-- A change of static bytes is one commit of at most 64 words that hold its pieces; without a change there is no commit.
abbrev pub IsOneCommit : {B : Type 0} → (B → BankItem → Answer → B → Type 0) → List ℕ → List ℕ → Option (List (ℕ × List ℕ)) → B → Answer → B → Type 0
IsOneCommit did name fixed None b a e = InOrder did b [] a e
IsOneCommit did name fixed (Some ps) b a e = (ws : List (ℕ × List ℕ)) × HoldPieces fixed ps ws × InOrder did b (Commit name ws ∷ []) a e × (length ws ≤ 64)

-- static bytes after a change
abbrev pub changed_bytes : List ℕ → Option (List (ℕ × List ℕ)) → List ℕ
changed_bytes l None = l
changed_bytes l (Some ps) = laid_pieces l ps

-- ---- calls on a frame, a public segment and a bank

-- the bank, the frame and the public segment that a call borrows, before and after it
pub record Scene (B : Type 0) : Type 0 where
  pub bank : B
  pub bank_after : B
  pub held : Held
  pub held_after : Held
  pub public : List ℕ
  pub public_after : List ℕ

-- In what follows the first parameters are the bank's relation of items, its state and the names of its slots.

-- the frame on the bank before a call
abbrev pub before : {B : Type 0} → Ghosts B → Scene B → Frame
before ghosts s = frame_on_bank ghosts s.bank s.held

-- the frame on the bank after a call
abbrev pub after : {B : Type 0} → Ghosts B → Scene B → Frame
after ghosts s = frame_on_bank ghosts s.bank_after s.held_after

-- the static change of an effect, as a commit of the bank with this result
abbrev pub Commits : {B : Type 0} → Ghosts B → Scene B → Effect → Answer → Type 0
Commits ghosts s e a = IsOneCommit ghosts.did (before ghosts s).name (before ghosts s).fixed e.changes s.bank a s.bank_after

-- an effect that was done: the state after it is the effect's, the frame fits the bank, and the bank has not stopped
pub record EffectDone {B : Type 0} (ghosts : Ghosts B) (s : Scene B) (e : Effect) : Type 0 where
  pub commits : Commits ghosts s e (Ok tt)
  pub bytes : (after ghosts s).fixed ≡ changed_bytes (before ghosts s).fixed e.changes
  pub frame : frame_reading (after ghosts s) ≡ frame_reading e.frame
  pub public : s.public_after ≡ e.public
  pub slot : s.held_after.slot ≡ s.held.slot
  pub fits : FitsBank (ghosts.state s.bank_after) (ghosts.named s.bank_after) s.held_after
  pub going : (ghosts.state s.bank_after).stopped ≡ false

-- after an abend no byte of a segment has changed; the registers may have
pub record WroteNoByte {B : Type 0} (s : Scene B) : Type 0 where
  pub bank : s.bank_after ≡ s.bank
  pub public : s.public_after ≡ s.public
  pub dyn : s.held_after.frame.dyn ≡ s.held.frame.dyn
  pub session : s.held_after.frame.session ≡ s.held.frame.session

-- the continuation after an instruction, as the definition's type
abbrev pub then_of : Next → Then
then_of Go = Goes
then_of Exit = Exits
then_of (Delegate name) = Delegates name

-- the scene of a call, from its bank, frame and public bytes before and after it
abbrev pub scene : {B : Type 0} → B → B → Held → Held → List ℕ → List ℕ → Scene B
scene b c h k p q = record { bank = b; bank_after = c; held = h; held_after = k; public = p; public_after = q }

-- the end of a row agrees with the result of the call
abbrev pub EndActs : {B : Type 0} → Ghosts B → Scene B → RowEnd → Result Next Halt → Type 0
EndActs ghosts s (Abends a) (Ok next) = ⊥
EndActs ghosts s (Abends a) (Err (halt.Abend b)) = (b ≡ a) × WroteNoByte s
EndActs ghosts s (Abends a) (Err (halt.Stop stop)) = ⊥
EndActs ghosts s (Does d) (Ok next) = (then_of next ≡ d.next) × EffectDone ghosts s d.effect
EndActs ghosts s (Does d) (Err (halt.Abend b)) = ⊥
EndActs ghosts s (Does d) (Err (halt.Stop stop)) = Commits ghosts s d.effect (Err stop)

-- the result and the state after the call are those of the row of the instruction
abbrev pub RowActs : {B : Type 0} → Ghosts B → Scene B → Ins → Around → Result Next Halt → Type 0
RowActs ghosts s i x r = EndActs ghosts s (row i (before ghosts s) s.public x) r

-- why a write of n bytes abends: 03 if they lie in no segment, else 08 if too many words would be pending
abbrev pub WriteAbends : Frame → ℕ → ℕ → Abend → Type 0
WriteAbends f a n b = ((is_outside f a n ≡ true) × (b ≡ A03)) ⊎ ((is_outside f a n ≡ false) × (too_many f a n ≡ true) × (b ≡ A08))

-- a write of n bytes does not abend
abbrev pub CanWrite : Frame → ℕ → ℕ → Type 0
CanWrite f a n = (is_outside f a n ≡ false) × (too_many f a n ≡ false)

-- a write of n bytes at an address: how its effect and the result of the call agree
abbrev pub Stores : {B : Type 0} → Ghosts B → Scene B → ℕ → ℕ → Effect → Result (Unit {0}) Halt → Type 0
Stores ghosts s a n e (Ok u) = CanWrite (before ghosts s) a n × EffectDone ghosts s e
Stores ghosts s a n e (Err (halt.Abend b)) = WriteAbends (before ghosts s) a n b × (s.bank_after ≡ s.bank) × (s.held_after ≡ s.held) × (s.public_after ≡ s.public)
Stores ghosts s a n e (Err (halt.Stop stop)) = CanWrite (before ghosts s) a n × Commits ghosts s e (Err stop)

-- a change of protection: how its effect and the result of the call agree
abbrev pub Protects : {B : Type 0} → Ghosts B → Scene B → Effect → Result (Unit {0}) Stop → Type 0
Protects ghosts s e (Ok u) = EffectDone ghosts s e
Protects ghosts s e (Err stop) = Commits ghosts s e (Err stop)
