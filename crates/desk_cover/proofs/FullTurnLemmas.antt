-- A full turn of a chain: its turn, its code, and the frame that it leaves.
use Rattle.std.proofs.Common.{◌≡◌, ℕ, zero, suc, List, Option, Some, None, Result, Ok, Err, refl, sym, ap, ◌∙◌}
use Rattle.std.specs.Prelude.{unwrap_or, IsSome}
use Rattle.mc_words.specs.model_device.specs.Bytes.{lookup}
use Rattle.mc_words.specs.model_device.specs.Card.{App}
use Rattle.mc_words.specs.model_device.specs.Device.{DeviceState}
use Rattle.mc_arith.specs.model_machine.specs.declared.instruction.Ins.{Ins}
use Rattle.mc_arith.specs.model_machine.specs.declared.instruction.DecodeFault.{DecodeFault}
use Rattle.mc_arith.specs.model_machine.specs.declared.instruction.DecodeFault.TheVariants.{Undefined, Past}
use Rattle.mc_arith.specs.model_machine.specs.Code.{instruction_at}
use Rattle.mc_arith.specs.model_machine.specs.Frame.{Frame}
use Rattle.mc_arith.specs.model_machine.specs.Row.{RowEnd, Abends, Does, row}
use Rattle.mc_arith.specs.model_machine.specs.Chain.{Chain, Turn, Follows, Continues, Ends, Reply, Abended, around, chain_after_effect, code_in, follows, frame_at, reported_frame, row_turn, turn_of, turn_of_chain, turn_of_fetch}
use Rattle.mc_deck.specs.law_rows.specs.Keeping.{Keeps, OnDone}
use Rattle.mc_deck.specs.law_rows.proofs.Keeping.{row_keeps}
use Rattle.desk_draft.specs.FullTurns.{after_fetch, after_row, full_turn, running_code}
use Rattle.mc_bank.specs.Bank.{app_of, name_or, no_app}
use Rattle.mc_segs.specs.HeldFrames.{Seen}
use Rattle.mc_machine.specs.Chains.{Chained}
use Rattle.mc_card.specs.declared.card.Card.{Card}
use Rattle.mc_card.specs.Parts.{RunsChain, view_in}
use Rattle.desk_cover.specs.Watching.{code_on, full_turn_of, name_in}

-- ---- registers

-- the registers of a frame are those that a turn records
pub record Registers (f : Frame) (t : Turn) : Type 0 where
  pub dt : f.dt ≡ t.dt
  pub c : f.c ≡ t.c
  pub z : f.z ≡ t.z

row_registers : (ch : Chain) (i : Ins) (r : RowEnd) → Registers (after_row ch i r).0 (row_turn ch i r).turn
row_registers ch i (Abends a) = record { dt = refl; c = refl; z = refl }
row_registers ch i (Does d) = record { dt = refl; c = refl; z = refl }

fetch_registers : (ch : Chain) (r : Result (Ins × ℕ) DecodeFault) → Registers (after_fetch ch r).0 (turn_of_fetch ch r).turn
fetch_registers ch (Err Undefined) = record { dt = refl; c = refl; z = refl }
fetch_registers ch (Err Past) = record { dt = refl; c = refl; z = refl }
fetch_registers ch (Ok i) = row_registers ch i.0 (row i.0 (frame_at ch.frame i.1) ch.public (around ch))

-- the frame that a full turn leaves has the registers that the turn records
pub turn_registers : (n : ℕ) (ch : Chain) → Registers (full_turn_of n ch).frame (turn_of n ch).turn
unfolding full_turn turn_of_chain
turn_registers zero ch = record { dt = refl; c = refl; z = refl }
turn_registers (suc n) ch = fetch_registers ch (instruction_at (running_code ch) ch.frame.at)

-- the turn of a full turn
pub turn_is : (n : ℕ) (ch : Chain) → (full_turn_of n ch).turn ≡ (turn_of n ch).turn
unfolding full_turn
turn_is zero ch = refl
turn_is (suc n) ch = refl

-- the code of a full turn
pub code_is : (n : ℕ) (ch : Chain) → (full_turn_of n ch).code ≡ running_code ch
unfolding full_turn
code_is zero ch = refl
code_is (suc n) ch = refl

-- ---- the name of the frame

reported_name : (old new : Frame) (f : Follows) → new.name ≡ old.name → (reported_frame old new f).name ≡ old.name
reported_name old new (Continues ch) e = e
reported_name old new (Ends (Reply b sw)) e = e
reported_name old new (Ends (Abended cause)) e = refl

row_names : (ch : Chain) (i : Ins) (r : RowEnd) → OnDone r (λ d. Keeps ch.frame ch.public d.effect) → ((after_row ch i r).0).name ≡ ch.frame.name
row_names ch i (Abends a) keeps = refl
row_names ch i (Does d) keeps = reported_name ch.frame d.effect.frame (follows (chain_after_effect ch d.effect) d.next) keeps.name

fetch_names : (ch : Chain) (r : Result (Ins × ℕ) DecodeFault) → ((after_fetch ch r).0).name ≡ ch.frame.name
fetch_names ch (Err e) = refl
fetch_names ch (Ok i) = row_names ch i.0 (row i.0 (frame_at ch.frame i.1) ch.public (around ch)) (row_keeps i.0 (frame_at ch.frame i.1) ch.public (around ch))

-- the frame that a full turn leaves has the name of the one before it
pub frame_name : (n : ℕ) (ch : Chain) → ((full_turn_of n ch).frame).name ≡ ch.frame.name
unfolding full_turn
frame_name zero ch = refl
frame_name (suc n) ch = fetch_names ch (instruction_at (running_code ch) ch.frame.at)

-- ---- the running frame of a card

code_there : (o : Option App) → (unwrap_or o no_app).code ≡ code_in o
code_there None = refl
code_there (Some a) = refl

named_code : (apps : List (List ℕ × App)) (o : Option (List ℕ)) (n : List ℕ) → o ≡ Some n → (app_of apps o).code ≡ code_in (lookup apps n)
named_code apps o n e = ap (λ (o : Option (List ℕ)). (app_of apps o).code) e ∙ code_there (lookup apps n)

there_is : (o : Option (List ℕ)) (n : List ℕ) → IsSome o → name_or o ≡ n → o ≡ Some n
there_is None n there e = absurd (cc there)
there_is (Some m) n there e = ap Some e

module _ {N : Type 0} (state : N → DeviceState) where
  -- the running frame of a card has the name and the code of the chain's
  pub chained_name : (c : Card N) (ch : Chain) (left : ℕ) (r : RunsChain state c ch left) → name_in state c r.chained.running ≡ ch.frame.name
  chained_name c ch left r = ap (λ (s : Seen). s.name) r.runs.running.same

  -- the code of a chain's running frame on a card is that of the definitions
  pub chained_code : (c : Card N) (ch : Chain) (left : ℕ) (r : RunsChain state c ch left) → code_on state c r.chained.running ≡ running_code ch
  chained_code c ch left r =
      let name = chained_name c ch left r in
      named_code (view_in state c).state.apps ((view_in state c).named r.chained.running.slot) ch.frame.name (there_is ((view_in state c).named r.chained.running.slot) ch.frame.name r.runs.running.fits.there name)
      ∙ ap (λ (m : List (List ℕ × App)). code_in (lookup m ch.frame.name)) (sym r.runs.map)

  -- the chain that a card runs is its only one
  pub same_chain : (c : Card N) (ch : Chain) (left : ℕ) (h : Chained) (r : RunsChain state c ch left) → Some h ≡ c.chain → r.chained ≡ h
  same_chain c ch left h r e = cc (sym r.is ∙ sym e)
