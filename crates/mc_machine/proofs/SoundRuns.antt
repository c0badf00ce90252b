-- A run by its turns: its writes lie in the static segments of their applications, and the number of session bytes that
-- it leaves.
use Rattle.std.proofs.Common.{arith, ◌≡◌, ℕ, zero, suc, List, [], ◌∷◌, ◌++◌, length, Some, Result, refl, ap, subst, ◌∙◌}
use Rattle.law_machine.specs.model_machine.specs.declared.instruction.Ins.{Ins}
use Rattle.law_machine.specs.model_machine.specs.declared.instruction.DecodeFault.{DecodeFault}
use Rattle.law_machine.specs.model_machine.specs.Code.{instruction_at}
use Rattle.law_machine.specs.model_device.specs.Bytes.{lookup}
use Rattle.law_machine.specs.model_machine.specs.Row.{RowEnd, Abends, Does}
use Rattle.law_machine.specs.model_device.specs.Card.{App}
use Rattle.law_machine.specs.model_machine.specs.Apdu.{ApduParts}
use Rattle.law_machine.specs.model_card.specs.Items.{apps_after_items, write_items}
use Rattle.law_machine.specs.model_machine.specs.Chain.{Chain, Write, Acted, Ran, Follows, Continues, Ends, code_in, chain_session, row_turn, turn_of_fetch, turn_of_chain, turn_of, end_of, map_changed, run_after_turn, run_of_chain, start}
use Rattle.mc_bank.specs.Bank.{app_of}
use Rattle.mc_machine.specs.Sound.{IsSoundChain}
use Rattle.mc_machine.proofs.SoundChains.{AreSound, FollowsSound, TurnSound, SameLengths, sizes_done, first_in, new_sound, session_size, turn_sound}

-- ---- writes and session bytes

sound_append : (xs ys : List Write) (apps : List (List ℕ × App)) → AreSound apps xs → AreSound (apps_after_items apps (write_items xs)) ys → AreSound apps (xs ++ ys)
sound_append [] ys apps first second = second
sound_append (x ∷ xs) ys apps first second = (first.0, sound_append xs ys (map_changed apps x.name (Some x.pieces)) first.1 second)

-- what a run keeps of a sound chain: its writes are sound, and it leaves the number of session bytes of the first
-- application
pub record RunSound (ch : Chain) (r : Ran) : Type 0 where
  pub writes : AreSound ch.map r.writes
  pub session : length r.session ≡ (app_of ch.map (Some (first_in ch).name)).session

on_sound : (ch : Chain) (t : Acted) (f : Follows) (rest : Chain → Ran) → IsSoundChain ch → AreSound ch.map t.writes → FollowsSound ch (apps_after_items ch.map (write_items t.writes)) f
    → ((next : Chain) → IsSoundChain next → RunSound next (rest next)) → RunSound ch (run_after_turn t (chain_session ch) f rest)
on_sound ch t (Ends o) rest sound writes s all = record { writes = writes; session = session_size ch sound }
on_sound ch t (Continues next) rest sound writes s all =
    let r = all next s.sound in
    let now = apps_after_items ch.map (write_items t.writes) in
    let same : SameLengths ch.map now = sizes_done t.writes ch.map writes in
    record {
      writes = sound_append t.writes (rest next).writes ch.map writes (subst (λ (apps : List (List ℕ × App)). AreSound apps (rest next).writes) s.map r.writes);
      session = r.session ∙ ap (λ (apps : List (List ℕ × App)). (app_of apps (Some (first_in next).name)).session) s.map ∙ ap (λ (n : List ℕ). (app_of now (Some n)).session) s.first ∙ same.session (first_in ch).name;
    }

pub run_sound : (n : ℕ) (ch : Chain) → IsSoundChain ch → RunSound ch (run_of_chain n ch)
unfolding run_of_chain
run_sound zero ch sound = record { writes = tt; session = session_size ch sound }
run_sound (suc n) ch sound =
    let t : TurnSound ch (turn_of_chain ch) = turn_sound (suc n) ch sound in
    on_sound ch (turn_of_chain ch) (turn_of_chain ch).follows (λ c. run_of_chain n c) sound t.writes t.follows (λ c. run_sound n c)

-- a chain before its first turn is sound
pub start_sound : (apps : List (List ℕ × App)) (name session : List ℕ) (apdu : ApduParts) → length session ≡ (app_of apps (Some name)).session → IsSoundChain (start apps name session apdu)
start_sound apps name session apdu size = (new_sound apps name (app_of apps (Some name)) session refl size, tt)

-- ---- the end in the record of a turn

row_end : (ch : Chain) (i : Ins) (r : RowEnd) → (row_turn ch i r).turn.end ≡ end_of (row_turn ch i r).follows
row_end ch i (Abends a) = refl
row_end ch i (Does d) = refl

fetched_end : (ch : Chain) (r : Result (Ins × ℕ) DecodeFault) → (turn_of_fetch ch r).turn.end ≡ end_of (turn_of_fetch ch r).follows
fetched_end ch r = grind (arith, row_end)

acted_end : (ch : Chain) → (turn_of_chain ch).turn.end ≡ end_of (turn_of_chain ch).follows
unfolding turn_of_chain
acted_end ch = fetched_end ch (instruction_at (code_in (lookup ch.map ch.frame.name)) ch.frame.at)

pub turn_end : (n : ℕ) (ch : Chain) → (turn_of n ch).turn.end ≡ end_of (turn_of n ch).follows
turn_end zero ch = refl
turn_end (suc n) ch = acted_end ch
