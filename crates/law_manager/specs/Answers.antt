-- What the answers of the card manager to each command are.
use Rattle.std.specs.Prelude.{◌≡◌, ℕ, ◌≤◌, true, false, ◌==◌, List, [], ◌∷◌, length, unwrap_or, Option, Some, None, Ok}
use Rattle.model_card.specs.declared.card.Part.{Part}
use Rattle.model_card.specs.declared.card.Sizes.{Sizes}
use Rattle.model_card.specs.model_device.specs.Bytes.{lookup}
use Rattle.model_card.specs.model_machine.specs.Apdu.{ApduParts}
use Rattle.model_card.specs.Units.{name_of}
use Rattle.model_card.specs.model_device.specs.Card.{App}
use Rattle.model_card.specs.Manager.{Open, SessionState, Managed, Declines, Accepts, changes_nothing, p1p2, sizes_in, fits_limits, got_of, load_done, is_complete, create_done, is_selected, delete_done}
use Rattle.law_manager.specs.Orders.{Order, Opens, Loads, Creates, Deletes}

-- ---- what holds if no refusal does

-- of an OPEN: its sizes are within the limits, and there is room for one more application
pub record IsOpening (map : List (List ℕ × App)) (a : ApduParts) : Type 0 where
  pub limits : fits_limits (sizes_in a) ≡ true
  pub few : length map ≤ 31

-- of a LOAD for a section: the bytes go to the end of what the section has received
pub record IsPiece (session_state : SessionState) (a : ApduParts) (p : Part) (load : Open) : Type 0 where
  pub is : session_state.load ≡ Some load
  pub at : p1p2 a ≡ length (got_of p load.got)

-- of a CREATE: the open load is complete, and its name is valid and not on the card
pub record IsCreation (map : List (List ℕ × App)) (session_state : SessionState) (load : Open) (n : List ℕ) : Type 0 where
  pub is : session_state.load ≡ Some load
  pub complete : is_complete load ≡ true
  pub name : name_of load.got.dir ≡ Ok n
  pub free : lookup map n ≡ None

-- of a DELETE: the application is not the selected one
pub record IsDeletion (session_state : SessionState) (a : ApduParts) : Type 0 where
  pub other : is_selected session_state.selected a.body ≡ false

-- ---- answers

-- the load that an OPEN opens
abbrev pub opened_load : (Sizes → Option ℕ) → ApduParts → Open
opened_load room a =
    record { site = record { sizes = sizes_in a; place = unwrap_or (room (sizes_in a)) 0 }; got = record { code = []; init = []; dir = []; fci = [] } }

-- a command without items, by its data and the open load after it: one that answers with data and keeps the load, or an
-- OPEN
pub data IsQuiet (room : Sizes → Option ℕ) (map : List (List ℕ × App)) (session_state : SessionState) (a : ApduParts) : Order → List ℕ → Option Open → Type 0 where
  answers : (o : Order) (first : ℕ) (rest : List ℕ) → IsQuiet room map session_state a o (first ∷ rest) session_state.load
  opens : IsOpening map a → IsQuiet room map session_state a Opens [] (Some (opened_load room a))

-- an answer to a command: a refusal, a command without items that keeps the selection, the pieces of the open load, a
-- creation, or a deletion
pub data IsAnswer (room : Sizes → Option ℕ) (map : List (List ℕ × App)) (session_state : SessionState) (a : ApduParts) : Order → Managed → Type 0 where
  refused : (o : Order) (sw : ℕ) → (sw == 0x9000) ≡ false → IsAnswer room map session_state a o (Declines sw)
  quiet : (o : Order) (body : List ℕ) (load : Option Open) → IsQuiet room map session_state a o body load
      → IsAnswer room map session_state a o (Accepts (changes_nothing body (record session_state { load = load })))
  loaded : (p : Part) (load : Open) → IsPiece session_state a p load → IsAnswer room map session_state a (Loads p) (Accepts (load_done session_state (Some load) p a))
  created : (load : Open) (name : List ℕ) → IsCreation map session_state load name → IsAnswer room map session_state a Creates (Accepts (create_done session_state (Some load) (Ok name)))
  deleted : IsDeletion session_state a → IsAnswer room map session_state a Deletes (Accepts (delete_done session_state a))
