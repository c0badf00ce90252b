-- What a turn keeps of a sound chain: its frames match their applications, the sizes of the applications do not change,
-- and its writes lie in their static segments.
use Rattle.std.proofs.Common.{◌≡◌, ℕ, zero, suc, ◌-◌, Bool, true, false, cond, List, [], ◌∷◌, length, Option, Some, None, Result, Ok, Err, refl, sym, ap, subst, ◌∙◌, arith}
use Rattle.std.specs.Prelude.{unwrap_or, bytes_eq, ◌||◌, nat_lt, nat_le}
use Rattle.std.specs.List.{AllByRecursion}
use Rattle.std.proofs.lemmas.List.{length-append, length-take, length-replicate}
use Rattle.law_machine.specs.model_machine.specs.declared.instruction.Ins.{Ins}
use Rattle.law_machine.specs.model_machine.specs.declared.instruction.DecodeFault.{DecodeFault}
use Rattle.law_machine.specs.model_machine.specs.declared.instruction.DecodeFault.TheVariants.{Undefined, Past}
use Rattle.law_machine.specs.model_device.specs.Bytes.{lookup, insert, zeros}
use Rattle.law_machine.specs.model_device.specs.Pieces.{touched_words}
use Rattle.law_machine.specs.model_device.specs.Card.{App}
use Rattle.law_machine.specs.model_machine.specs.Code.{instruction_at}
use Rattle.law_machine.specs.model_machine.specs.Frame.{Frame, Effect, new_frame, la_of}
use Rattle.law_machine.specs.model_machine.specs.Primitives.{Then, Goes, Exits, Delegates}
use Rattle.law_machine.specs.model_machine.specs.Row.{RowEnd, Abends, Does, row}
use Rattle.law_machine.specs.model_machine.specs.Chain.{Chain, Write, Acted, Follows, Continues, Ends, code_in, around, first_frame, chain_session, map_changed, write_of, chain_after_effect, chain_after_call, called_app, is_active, depth_of, after_exit, follows, row_turn, frame_at, turn_of_fetch, turn_of_chain, turn_of}
use Rattle.law_machine.specs.model_card.specs.Items.{apps_after_items, write_items}
use Rattle.mc_bank.specs.Bank.{no_app, app_of}
use Rattle.mc_machine.specs.Sound.{IsSoundFrame, IsSoundChain}
use Rattle.law_machine.specs.law_rows.specs.Keeping.{PiecesWithin, ChangeWithin, Keeps, OnDone}
use Rattle.law_machine.specs.law_rows.proofs.Keeping.{length_laid, fixed_length, row_keeps}
use Rattle.law_machine.specs.model_device.proofs.MapLemmas.{same_name, lookup_inserted_lem, lookup_beside}

-- ---- applications whose sizes do not change

-- the application of each name has the same numbers of static and session bytes as before
pub record SameLengths (apps now : List (List ℕ × App)) : Type 0 where
  pub fixed : (n : List ℕ) → length (app_of now (Some n)).fixed ≡ length (app_of apps (Some n)).fixed
  pub session : (n : List ℕ) → (app_of now (Some n)).session ≡ (app_of apps (Some n)).session

pub same_sizes : (apps : List (List ℕ × App)) → SameLengths apps apps
same_sizes apps = record { fixed = λ n. refl; session = λ n. refl }

pub sizes_onward : (a b c : List (List ℕ × App)) → SameLengths a b → SameLengths b c → SameLengths a c
sizes_onward a b c first second = record { fixed = λ n. second.fixed n ∙ first.fixed n; session = λ n. second.session n ∙ first.session n }

-- an application in the place of one with the same sizes
module _ (apps : List (List ℕ × App)) (n : List ℕ) (old new : App) (there : lookup apps n ≡ Some old) (fixed : length new.fixed ≡ length old.fixed) (session : new.session ≡ old.session) where
  inserted_at : (m : List ℕ) (b : Bool) → bytes_eq n m ≡ b → (length (app_of (insert apps n new) (Some m)).fixed ≡ length (app_of apps (Some m)).fixed) × ((app_of (insert apps n new) (Some m)).session ≡ (app_of apps (Some m)).session)
  inserted_at m false other = grind (arith, lookup_beside)
  inserted_at m true own =
      grind (arith, same_name n m own, ap (λ (k : List ℕ). app_of (insert apps n new) (Some k)) (sym (same_name n m own)) ∙ ap (λ (o : Option App). unwrap_or o no_app) (lookup_inserted_lem apps n new), ap (λ (k : List ℕ). app_of apps (Some k)) (sym (same_name n m own)) ∙ ap (λ (o : Option App). unwrap_or o no_app) there)

  sizes_inserted : SameLengths apps (insert apps n new)
  sizes_inserted = record { fixed = λ m. (inserted_at m (bytes_eq n m) refl).0; session = λ m. (inserted_at m (bytes_eq n m) refl).1 }

sizes_by : (apps : List (List ℕ × App)) (n : List ℕ) (ps : List (ℕ × List ℕ)) (o : Option App) → lookup apps n ≡ o → PiecesWithin (length (app_of apps (Some n)).fixed) ps → SameLengths apps (map_changed apps n (Some ps))
sizes_by apps n ps o is within = grind (arith, same_sizes, length_laid, sizes_inserted)

pub sizes_changed : (apps : List (List ℕ × App)) (n : List ℕ) (changes : Option (List (ℕ × List ℕ))) → ChangeWithin (length (app_of apps (Some n)).fixed) changes → SameLengths apps (map_changed apps n changes)
sizes_changed apps n None within = same_sizes apps
sizes_changed apps n (Some ps) within = sizes_by apps n ps (lookup apps n) refl within

-- ---- atomic writes

-- a write whose number of words is that of the words that its pieces touch, and whose pieces lie in the static segment
pub record IsSoundWrite (apps : List (List ℕ × App)) (w : Write) : Type 0 where
  pub words : w.words ≡ length (touched_words w.pieces)
  pub within : PiecesWithin (length (app_of apps (Some w.name)).fixed) w.pieces

-- each write of a list is sound on the applications as the writes before it left them
abbrev pub AreSound : List (List ℕ × App) → List Write → Type 0
AreSound apps [] = Unit {0}
AreSound apps (w ∷ ws) = IsSoundWrite apps w × AreSound (map_changed apps w.name (Some w.pieces)) ws

write_sound : (apps : List (List ℕ × App)) (n : List ℕ) (changes : Option (List (ℕ × List ℕ))) → ChangeWithin (length (app_of apps (Some n)).fixed) changes → AreSound apps (write_of n changes)
write_sound apps n None within = tt
write_sound apps n (Some ps) within = (record { words = refl; within = within }, tt)

-- the applications after the write of a change
pub write_done : (apps : List (List ℕ × App)) (n : List ℕ) (changes : Option (List (ℕ × List ℕ))) → apps_after_items apps (write_items (write_of n changes)) ≡ map_changed apps n changes
write_done apps n None = refl
write_done apps n (Some ps) = refl

-- the applications keep their sizes
pub sizes_done : (ws : List Write) (apps : List (List ℕ × App)) → AreSound apps ws → SameLengths apps (apps_after_items apps (write_items ws))
sizes_done [] apps sound = same_sizes apps
sizes_done (w ∷ ws) apps sound =
    let now = map_changed apps w.name (Some w.pieces) in
    sizes_onward apps now (apps_after_items now (write_items ws)) (sizes_changed apps w.name (Some w.pieces) sound.0.within) (sizes_done ws now sound.1)

-- ---- frames

frame_stays : (apps now : List (List ℕ × App)) (f : Frame) → SameLengths apps now → IsSoundFrame apps f → IsSoundFrame now f
frame_stays apps now f same s = record { fixed = s.fixed ∙ sym (same.fixed f.name); pieces = s.pieces; session = s.session ∙ sym (same.session f.name); held = s.held }

frames_stay : (apps now : List (List ℕ × App)) (fs : List Frame) → SameLengths apps now → AllByRecursion (IsSoundFrame apps) fs → AllByRecursion (IsSoundFrame now) fs
frames_stay apps now [] same all = tt
frames_stay apps now (f ∷ fs) same all = (frame_stays apps now f same all.0, frames_stay apps now fs same all.1)

-- the frame after an effect, on the applications after its change
frame_kept : (apps now : List (List ℕ × App)) (f : Frame) (public : List ℕ) (e : Effect) → SameLengths apps now → IsSoundFrame apps f → Keeps f public e → IsSoundFrame now e.frame
frame_kept apps now f public e same s k =
    grind (arith, fixed_length f public e k s.pieces, ap (λ (n : List ℕ). app_of now (Some n)) k.name, s.held, k.dyn, k.session)

pub new_sound : (apps : List (List ℕ × App)) (n : List ℕ) (a : App) (session : List ℕ) → app_of apps (Some n) ≡ a → length session ≡ a.session → IsSoundFrame apps (new_frame n (length a.code) a.deny a.fixed session)
new_sound apps n a session is size = grind (arith, length-append session (zeros (512 - length session)))

-- ---- the first frame

abbrev pub first_in : Chain → Frame
first_in ch = first_frame ch.frame ch.below

first_all : (apps : List (List ℕ × App)) (f : Frame) (fs : List Frame) → AllByRecursion (IsSoundFrame apps) (f ∷ fs) → IsSoundFrame apps (first_frame f fs)
first_all apps f [] all = all.0
first_all apps f (g ∷ fs) all = first_all apps g fs all.1

-- the number of a chain's session bytes is that of its first application
pub session_size : (ch : Chain) → IsSoundChain ch → length (chain_session ch) ≡ (app_of ch.map (Some (first_in ch).name)).session
session_size ch sound =
    let first : IsSoundFrame ch.map (first_in ch) = first_all ch.map ch.frame ch.below sound in
    let held = first.held in
    let size : length (chain_session ch) ≡ (first_in ch).session = omega (arith, length-take (first_in ch).session (first_in ch).dyn) in
    size ∙ first.session

first_name : (f g : Frame) (fs : List Frame) → g.name ≡ f.name → (first_frame g fs).name ≡ (first_frame f fs).name
first_name f g [] same = same
first_name f g (h ∷ fs) same = refl

-- ---- what follows

-- a chain that goes on is sound, its frames match the applications after the writes, and its first frame has the same
-- name as before
pub record GoesSound (ch : Chain) (apps : List (List ℕ × App)) (next : Chain) : Type 0 where
  pub sound : IsSoundChain next
  pub map : next.map ≡ apps
  pub first : (first_in next).name ≡ (first_in ch).name

abbrev pub FollowsSound : Chain → List (List ℕ × App) → Follows → Type 0
FollowsSound ch apps (Continues next) = GoesSound ch apps next
FollowsSound ch apps (Ends o) = Unit {0}

last_sound : (ch : Chain) (b : Bool) (o p : Follows) → FollowsSound ch ch.map o → FollowsSound ch ch.map p → FollowsSound ch ch.map (cond b o p)
last_sound ch true o p s t = s
last_sound ch false o p s t = t

exited_sound : (ch : Chain) (below : List Frame) → ch.below ≡ below → IsSoundChain ch → FollowsSound ch ch.map (after_exit ch below)
exited_sound ch [] is sound = last_sound ch (nat_lt 1024 (la_of ch.public)) _ _ tt tt
exited_sound ch (f ∷ fs) is sound =
    record {
      sound = subst (λ (fs : List Frame). AllByRecursion (IsSoundFrame ch.map) fs) is sound.1;
      map = refl;
      first = ap (λ (fs : List Frame). (first_frame ch.frame fs).name) (sym is);
    }

called_app_sound : (b : Bool) (ch : Chain) (n : List ℕ) (a : App) → app_of ch.map (Some n) ≡ a → IsSoundChain ch → GoesSound ch ch.map (called_app b ch n a)
called_app_sound true ch n a is sound = record { sound = sound; map = refl; first = refl }
called_app_sound false ch n a is sound = record { sound = (new_sound ch.map n a (zeros a.session) is (length-replicate a.session 0), sound); map = refl; first = refl }

called_sound : (ch : Chain) (n : List ℕ) (o : Option App) → lookup ch.map n ≡ o → IsSoundChain ch → GoesSound ch ch.map (chain_after_call ch n o)
called_sound ch n None is sound = record { sound = sound; map = refl; first = refl }
called_sound ch n (Some a) is sound = called_app_sound (is_active n ch.frame ch.below || nat_le 4 (depth_of ch)) ch n a (ap (λ (o : Option App). unwrap_or o no_app) is) sound

follows_sound : (ch : Chain) (t : Then) → IsSoundChain ch → FollowsSound ch ch.map (follows ch t)
follows_sound ch Goes sound = record { sound = sound; map = refl; first = refl }
follows_sound ch Exits sound = exited_sound ch ch.below refl sound
follows_sound ch (Delegates n) sound = called_sound ch n (lookup ch.map n) refl sound

-- ---- turns

-- what a turn of a sound chain keeps: its writes are sound, and the chain stays sound
pub record TurnSound (ch : Chain) (t : Acted) : Type 0 where
  pub writes : AreSound ch.map t.writes
  pub follows : FollowsSound ch (apps_after_items ch.map (write_items t.writes)) t.follows

onward : (ch now : Chain) (apps : List (List ℕ × App)) (r : Follows) → now.map ≡ apps → (first_in now).name ≡ (first_in ch).name → FollowsSound now now.map r → FollowsSound ch apps r
onward ch now apps (Ends o) map first s = tt
onward ch now apps (Continues next) map first s = record { sound = s.sound; map = s.map ∙ map; first = s.first ∙ first }

row_sound : (ch : Chain) (i : Ins) (f : Frame) (r : RowEnd) → IsSoundChain ch → IsSoundFrame ch.map f → f.name ≡ ch.frame.name → OnDone r (λ d. Keeps f ch.public d.effect) → TurnSound ch (row_turn ch i r)
row_sound ch i f (Abends a) sound stands name keeps = record { writes = tt; follows = tt }
row_sound ch i f (Does d) sound stands name keeps =
    let e = d.effect in
    let own : length f.fixed ≡ length (app_of ch.map (Some ch.frame.name)).fixed = stands.fixed ∙ ap (λ (n : List ℕ). length (app_of ch.map (Some n)).fixed) name in
    let within : ChangeWithin (length (app_of ch.map (Some ch.frame.name)).fixed) e.changes = subst (λ (n : ℕ). ChangeWithin n e.changes) own (keeps.changes stands.pieces) in
    let same : SameLengths ch.map (map_changed ch.map ch.frame.name e.changes) = sizes_changed ch.map ch.frame.name e.changes within in
    let now = chain_after_effect ch e in
    let stays : IsSoundChain now = (frame_kept ch.map now.map f ch.public e same stands keeps, frames_stay ch.map now.map ch.below same sound.1) in
    record {
      writes = write_sound ch.map ch.frame.name e.changes within;
      follows = onward ch now (apps_after_items ch.map (write_items (write_of ch.frame.name e.changes))) (follows now d.next) (sym (write_done ch.map ch.frame.name e.changes)) (first_name ch.frame e.frame ch.below (keeps.name ∙ name)) (follows_sound now d.next stays);
    }

stepped_sound : (apps : List (List ℕ × App)) (f : Frame) (next : ℕ) → IsSoundFrame apps f → IsSoundFrame apps (frame_at f next)
stepped_sound apps f next s = record { fixed = s.fixed; pieces = s.pieces; session = s.session; held = s.held }

fetched_sound : (ch : Chain) (r : Result (Ins × ℕ) DecodeFault) → IsSoundChain ch → TurnSound ch (turn_of_fetch ch r)
fetched_sound ch (Err Undefined) sound = record { writes = tt; follows = tt }
fetched_sound ch (Err Past) sound = record { writes = tt; follows = tt }
fetched_sound ch (Ok i) sound =
    let f = frame_at ch.frame i.1 in
    row_sound ch i.0 f (row i.0 f ch.public (around ch)) sound (stepped_sound ch.map ch.frame i.1 sound.0) refl (row_keeps i.0 f ch.public (around ch))

pub acted_sound : (ch : Chain) → IsSoundChain ch → TurnSound ch (turn_of_chain ch)
unfolding turn_of_chain
acted_sound ch sound = fetched_sound ch (instruction_at (code_in (lookup ch.map ch.frame.name)) ch.frame.at) sound

pub turn_sound : (n : ℕ) (ch : Chain) → IsSoundChain ch → TurnSound ch (turn_of n ch)
turn_sound zero ch sound = record { writes = tt; follows = tt }
turn_sound (suc n) ch sound = acted_sound ch sound
