-- A chain as the code holds it, the chain of the definitions that it runs, and what a turn and a run do to it.
use Rattle.std.specs.Prelude.{◌≡◌, ℕ, ◌≤◌, false, List, [], ◌∷◌, length, bytes_eq, unwrap_or, Option, Some}
use Rattle.std.specs.List.{AllByRecursion}
use Rattle.law_machine.specs.model_device.specs.Orders.{Answer}
use Rattle.law_machine.specs.model_card.specs.Items.{Commit}
use Rattle.law_machine.specs.model_device.specs.Pieces.{HoldPieces}
use Rattle.law_machine.specs.model_machine.specs.Apdu.{apdu_case}
use Rattle.law_machine.specs.model_machine.specs.Frame.{Frame, new_frame, session_of}
use Rattle.law_machine.specs.model_machine.specs.Chain.{Chain, Ran, Write, no_app, run}
use Rattle.mc_bank.specs.Bank.{BankState, app_of, name_or}
use Rattle.law_machine.specs.model_device.specs.Bytes.{lookup}
use Rattle.law_machine.specs.model_device.specs.Card.{App}
use Rattle.mc_apdu.specs.declared.command.Apdu.{Apdu}
use Rattle.mc_apdu.specs.Command.{parts_of}
use Rattle.mc_segs.specs.HeldFrames.{Held, FitsBank, frame_with, frame_reading}
use Rattle.mc_machine.specs.Alike.{IsGuarded}
use Rattle.mc_bank.specs.declared.bank.Bank.{Ghosts}

-- a chain of the code: the running frame, the frames below it with the one that delegated to it first, the public
-- segment, the case of the command, its Le, which is 0 if it has none, and the number of instructions left in the
-- budget
pub record Chained : Type 0 where
  pub running : Held
  pub below : List Held
  pub public : List ℕ
  pub case : ℕ
  pub le : ℕ
  pub left : ℕ

-- ---- the chain of the definitions

-- a frame of the code fits the bank, and its reading there is a frame of the definitions, which has pending bytes only
-- while protection is on
pub record FrameReadsAs (s : BankState) (named : ℕ → Option (List ℕ)) (h : Held) (f : Frame) : Type 0 where
  pub fits : FitsBank s named h
  pub same : frame_reading (frame_with s named h) ≡ frame_reading f
  pub guarded : IsGuarded f

-- each frame of a list reads as the one at its place in a list of frames of the definitions
abbrev pub ReadAll : BankState → (ℕ → Option (List ℕ)) → List Held → List Frame → Type 0
ReadAll s named [] [] = Unit {0}
ReadAll s named [] (f ∷ fs) = ⊥
ReadAll s named (h ∷ hs) [] = ⊥
ReadAll s named (h ∷ hs) (f ∷ fs) = FrameReadsAs s named h f × ReadAll s named hs fs

-- no two frames have the same name
abbrev pub NamesApart : List Frame → Type 0
NamesApart [] = Unit {0}
NamesApart (f ∷ fs) = AllByRecursion (λ g. bytes_eq f.name g.name ≡ false) fs × NamesApart fs

-- a chain of the code runs as a chain of the definitions
pub record RunsAs (s : BankState) (named : ℕ → Option (List ℕ)) (c : Chained) (ch : Chain) : Type 0 where
  pub map : ch.map ≡ s.apps
  pub running : FrameReadsAs s named c.running ch.frame
  pub below : ReadAll s named c.below ch.below
  pub public : c.public ≡ ch.public
  pub case : c.case ≡ apdu_case ch.apdu
  pub le : c.le ≡ unwrap_or ch.apdu.le 0
  pub few : length ch.below ≤ 3
  pub apart : NamesApart (ch.frame ∷ ch.below)

-- the frames of a chain fit the bank
abbrev pub FitsChain : {B : Type 0} → Ghosts B → B → Chained → Type 0
FitsChain ghosts bank c = (ch : Chain) × RunsAs (ghosts.state bank) (ghosts.named bank) c ch

-- the first frame
abbrev pub first_held : Held → List Held → Held
first_held h [] = h
first_held h (g ∷ gs) = first_held g gs

-- the session bytes of the first frame
abbrev pub session_in : Chained → List ℕ
session_in c = session_of (first_held c.running c.below).frame

-- ---- atomic writes

-- an atomic write of a chain, of at most 64 words, is a commit of words that hold its pieces over the static bytes
abbrev pub ChainWrote : {B : Type 0} → Ghosts B → B → Write → Answer → B → Type 0
ChainWrote ghosts b w a e = (ws : List (ℕ × List ℕ)) × HoldPieces (app_of (ghosts.state b).apps (Some w.name)).fixed w.pieces ws × ghosts.did b (Commit w.name ws) a e × (w.words ≤ 64)

-- ---- runs

-- the first frame of a command to an application of a name
abbrev pub first_of : List (List ℕ × App) → List ℕ → List ℕ → Frame
first_of apps name session =
    let a = unwrap_or (lookup apps name) no_app in
    new_frame name (length a.code) a.deny a.fixed session

-- the run of a command to the application of a slot
abbrev pub run_of_command : BankState → (ℕ → Option (List ℕ)) → ℕ → List ℕ → Apdu → ℕ → Ran
run_of_command s named first session apdu budget = run s.apps (name_or (named first)) session (parts_of apdu) budget
