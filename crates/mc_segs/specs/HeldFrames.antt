-- A frame as the code holds it, the machine's frame that it makes with a bank, and when it fits that bank.
use Rattle.std.specs.Prelude.{◌≡◌, ℕ, ◌-◌, ◌*◌, ◌<◌, ◌≤◌, Bool, true, false, List, [], ◌∷◌, length, take, map, Option, IsSome}
use Rattle.std.specs.List.{AllByRecursion}
use Rattle.mc_bank.specs.model_card.specs.declared.card.Sizes.{Sizes}
use Rattle.mc_words.specs.model_device.specs.Bytes.{lookup, zeros}
use Rattle.mc_words.specs.model_device.specs.Card.{App}
use Rattle.mc_words.specs.model_device.specs.Pieces.{touched_words, ArePending}
use Rattle.mc_apdu.specs.model_machine.specs.Frame.{Frame, static_bytes, floor, dynamic_end, new_frame}
use Rattle.mc_bank.specs.Bank.{BankState, app_of, name_or}
use Rattle.mc_bank.specs.declared.bank.Bank.{Ghosts}

-- A frame without what the bank stores: the slot of its application, and a frame without a name, whose static segment
-- has its length but zeros for bytes, and whose pieces are its pending words.
pub record Held : Type 0 where
  pub slot : ℕ
  pub frame : Frame

-- pending words as pieces of a segment of n bytes: the bytes of a word after the segment's end are dropped
abbrev pub pieces_of : ℕ → List (ℕ × List ℕ) → List (ℕ × List ℕ)
pieces_of n ws = map (λ w. (8 * w.0, take (n - 8 * w.0) w.1)) ws

-- pending words of a segment of n bytes
pub record ArePendingIn (n : ℕ) (ws : List (ℕ × List ℕ)) : Type 0 where
  pub few : length ws ≤ 64
  pub pending : ArePending ws
  pub within : AllByRecursion (λ w. 8 * w.0 < n) ws

-- the invariant of a frame: 512 dynamic bytes, DT between the floor and the end of the dynamic segment, at most 256
-- session bytes
pub record KeepsFrame (f : Frame) : Type 0 where
  pub dyn : length f.dyn ≡ 512
  pub low : floor f ≤ f.dt
  pub high : f.dt ≤ dynamic_end
  pub session : f.session ≤ 256

-- the application of a frame on a bank
abbrev pub app_under : BankState → (ℕ → Option (List ℕ)) → Held → App
app_under s named h = app_of s.apps (named h.slot)

-- the machine's frame: the held one with the name and the static bytes of its application, by the applications of a
-- bank and the names of its slots
abbrev pub frame_with : BankState → (ℕ → Option (List ℕ)) → Held → Frame
frame_with s named h = record h.frame { name = name_or (named h.slot); fixed = (app_under s named h).fixed }

-- a frame fits a bank: its application is there, with the sizes and the access list that the frame was made with
pub record FitsBank (s : BankState) (named : ℕ → Option (List ℕ)) (h : Held) : Type 0 where
  pub there : IsSome (named h.slot)
  pub app : IsSome (lookup s.apps (name_or (named h.slot)))
  pub code : h.frame.code_len ≡ length (app_under s named h).code
  pub fixed : length h.frame.fixed ≡ length (app_under s named h).fixed
  pub deny : h.frame.deny ≡ (app_under s named h).deny
  pub session : h.frame.session ≡ (app_under s named h).session

-- the machine's frame on a bank
abbrev pub frame_on_bank : {B : Type 0} → Ghosts B → B → Held → Frame
frame_on_bank ghosts bank h = frame_with (ghosts.state bank) (ghosts.named bank) h

-- an instruction may run: the bank takes changes, and the frame fits it
pub record CanRun {B : Type 0} (ghosts : Ghosts B) (bank : B) (h : Held) : Type 0 where
  pub going : (ghosts.state bank).stopped ≡ false
  pub fits : FitsBank (ghosts.state bank) (ghosts.named bank) h

-- a new frame of an application with these sizes
abbrev pub new_held : ℕ → Sizes → List ℕ → Held
new_held slot sizes session = record { slot = slot; frame = new_frame [] sizes.code sizes.deny (zeros sizes.fixed) session }

-- ---- frames up to the pieces that their pending words come from

-- whether there are no pieces
abbrev pub no_pieces : List (ℕ × List ℕ) → Bool
no_pieces [] = true
no_pieces (p ∷ ps) = false

-- what a frame has whichever pieces its pending words come from: the static bytes as they read, the words that are
-- pending, and whether none are
pub record Seen : Type 0 where
  pub name : List ℕ
  pub code_len : ℕ
  pub session : ℕ
  pub deny : ℕ
  pub fixed : List ℕ
  pub read : List ℕ
  pub pending : List ℕ
  pub none : Bool
  pub dyn : List ℕ
  pub dt : ℕ
  pub lb : ℕ
  pub at : ℕ
  pub c : Bool
  pub z : Bool
  pub protected : Bool

-- the observation of a frame
abbrev pub frame_reading : Frame → Seen
frame_reading f =
    record {
      name = f.name;
      code_len = f.code_len;
      session = f.session;
      deny = f.deny;
      fixed = f.fixed;
      read = static_bytes f;
      pending = touched_words f.pieces;
      none = no_pieces f.pieces;
      dyn = f.dyn;
      dt = f.dt;
      lb = f.lb;
      at = f.at;
      c = f.c;
      z = f.z;
      protected = f.protected;
    }
