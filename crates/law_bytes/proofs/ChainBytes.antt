-- Bytes stay bytes along a chain: each turn keeps it of bytes, and so does a run.
use Rattle.std.proofs.Common.{◌≡◌, ℕ, zero, suc, ◌-◌, ◌≤◌, Bool, true, false, cond, List, [], ◌∷◌, length, Option, Some, None, Result, Ok, Err, refl, arith}
use Rattle.std.specs.Prelude.{◌||◌, nat_le, nat_lt, unwrap_or}
use Rattle.std.specs.List.{AllByRecursion}
use Rattle.law_family.specs.model_device.specs.Bytes.{AreBytes, bytes2, zeros, lookup}
use Rattle.law_family.specs.model_device.specs.Card.{App}
use Rattle.law_family.specs.model_device.proofs.ImageLemmas.{all_append}
use Rattle.law_family.specs.model_device.proofs.ListLemmas.{pair_bytes}
use Rattle.law_family.specs.model_device.proofs.MapLemmas.{each_found, each_inserted}
use Rattle.law_family.specs.model_machine.specs.declared.instruction.Ins.{Ins}
use Rattle.law_family.specs.model_machine.specs.declared.instruction.DecodeFault.{DecodeFault}
use Rattle.law_family.specs.model_machine.specs.declared.instruction.DecodeFault.TheVariants.{Undefined, Past}
use Rattle.law_family.specs.model_machine.specs.declared.machine.Abend.TheVariants.{A09}
use Rattle.law_family.specs.model_machine.specs.Apdu.{ApduParts}
use Rattle.law_family.specs.model_machine.specs.Code.{DecodesTo, instruction_at}
use Rattle.law_family.specs.model_machine.specs.Frame.{Frame, Effect, new_frame, new_public, with_sw, la_of}
use Rattle.law_family.specs.model_machine.specs.Primitives.{Then}
use Rattle.law_family.specs.model_machine.specs.Row.{RowEnd, row}
use Rattle.law_family.specs.model_machine.specs.Chain.{Chain, Outcome, Abended, Follows, Ends, Acted, Ran, code_in, delegator_in, around, first_frame, chain_session, changed_app, map_changed, write_of, chain_after_effect, is_active, depth_of, called_app, chain_after_call, after_exit, reply_of, follows, row_turn, turn_of_fetch, turn_of_chain, frame_at, run_after_turn, run_of_chain, start_app, no_app}
use Rattle.law_family.specs.law_rows.specs.Keeping.{Keeps, OnDone}
use Rattle.law_family.specs.law_rows.proofs.Keeping.{row_keeps}
use Rattle.law_family.specs.law_rows.proofs.PlaceLemmas.{decoded_stands}
use Rattle.law_bytes.specs.OfBytes.{ArePieces, IsChange, IsByteFrame, IsByteEffect, IsCaller}
use Rattle.law_bytes.specs.OfChains.{IsName, IsByteApp, AreByteApps, IsNamedFrame, IsByteChain, IsByteCommand, OnGoing, AreByteWrites, IsByteTurn, IsByteRun, TurnBytesLaw, RunBytesLaw, StartBytesLaw}
use Rattle.law_bytes.proofs.ByteLists.{taken, joined, spliced, laid, zero_bytes}
use Rattle.law_bytes.proofs.RowBytes.{row_bytes}

-- ---- applications

-- the code of an application on a card of bytes is of bytes
pub code_bytes : (m : List (List ℕ × App)) (n : List ℕ) (o : Option App) → lookup m n ≡ o → AreByteApps m → AreBytes (code_in o)
code_bytes m n None e h = tt
code_bytes m n (Some a) e h = (each_found IsByteApp m n a h e).code

changed_by : (m : List (List ℕ × App)) (n : List ℕ) (ps : List (ℕ × List ℕ)) (o : Option App) → lookup m n ≡ o → ArePieces ps → AreByteApps m → AreByteApps (changed_app m n ps o)
changed_by m n ps o e k h = grind (arith, each_found, each_inserted, laid)

-- a change of static bytes leaves the applications of bytes
pub changed_apps : (m : List (List ℕ × App)) (n : List ℕ) (c : Option (List (ℕ × List ℕ))) → IsChange c → AreByteApps m → AreByteApps (map_changed m n c)
changed_apps m n None k h = h
changed_apps m n (Some ps) k h = changed_by m n ps (lookup m n) refl k h

-- ---- frames

begun : (n : List ℕ) (code deny : ℕ) (fixed session : List ℕ) → IsName n → AreBytes fixed → AreBytes session → IsNamedFrame (new_frame n code deny fixed session)
begun n code deny fixed session name f s =
    record { name = name; bytes = record { static = f; pieces = tt; stack = joined session (zeros (512 - length session)) s (zero_bytes (512 - length session)) } }

caller : (fs : List Frame) → AllByRecursion IsNamedFrame fs → IsCaller (delegator_in fs)
caller [] h = tt
caller (f ∷ fs) h = let name : IsName f.name = (h.0).name in let most : length f.name ≤ 16 = name.most in (name.bytes, omega (arith, most))

first_bytes : (f : Frame) (fs : List Frame) → IsNamedFrame f → AllByRecursion IsNamedFrame fs → IsByteFrame (first_frame f fs)
first_bytes f [] h k = h.bytes
first_bytes f (g ∷ gs) h k = first_bytes g gs k.0 k.1

-- the session bytes of a chain of bytes are bytes
pub session_bytes : (ch : Chain) → IsByteChain ch → AreBytes (chain_session ch)
session_bytes ch h = grind (arith, taken, first_bytes)

-- ---- what follows an instruction

refused : (ch : Chain) (sw : ℕ) → IsByteChain ch → IsByteChain (record ch { public = with_sw ch.public sw })
refused ch sw h = record { apps = h.apps; frame = h.frame; below = h.below; public = spliced ch.public 1039 (bytes2 sw) h.public (pair_bytes sw) }

entered : (b : Bool) (ch : Chain) (n : List ℕ) (a : App) → IsByteChain ch → IsByteApp (n, a) → IsByteChain (called_app b ch n a)
entered true ch n a h k = refused ch 0x6985 h
entered false ch n a h k =
    record { apps = h.apps; frame = begun n (length a.code) a.deny a.fixed (zeros a.session) k.name k.fixed (zero_bytes a.session); below = (h.frame, h.below); public = h.public }

delegated : (ch : Chain) (n : List ℕ) (o : Option App) → lookup ch.map n ≡ o → IsByteChain ch → IsByteChain (chain_after_call ch n o)
delegated ch n None e h = refused ch 0x6A82 h
delegated ch n (Some a) e h = entered (is_active n ch.frame ch.below || nat_le 4 (depth_of ch)) ch n a h (each_found IsByteApp ch.map n a h.apps e)

ended : (b : Bool) (x y : Outcome) → OnGoing (cond b (Ends x) (Ends y)) IsByteChain
ended true x y = tt
ended false x y = tt

exited : (ch : Chain) (fs : List Frame) → AllByRecursion IsNamedFrame fs → IsByteChain ch → OnGoing (after_exit ch fs) IsByteChain
exited ch [] k h = ended (nat_lt 1024 (la_of ch.public)) (Abended A09) (reply_of ch)
exited ch (f ∷ fs) k h = record { apps = h.apps; frame = k.0; below = k.1; public = h.public }

followed : (ch : Chain) (next : Then) → IsByteChain ch → OnGoing (follows ch next) IsByteChain
followed ch next h = grind (arith, exited, delegated)

-- ---- turns

write_bytes : (n : List ℕ) (c : Option (List (ℕ × List ℕ))) → IsChange c → AreByteWrites (write_of n c)
write_bytes n None k = tt
write_bytes n (Some ps) k = (k, tt)

after_effect : (ch : Chain) (e : Effect) → IsByteChain ch → e.frame.name ≡ ch.frame.name → IsByteEffect e → IsByteChain (chain_after_effect ch e)
after_effect ch e h name k = grind (arith, changed_apps)

row_turned : (ch : Chain) (i : Ins) (r : RowEnd) → IsByteChain ch → OnDone r (λ d. Keeps ch.frame ch.public d.effect) → OnDone r (λ d. IsByteEffect d.effect) → IsByteTurn (row_turn ch i r)
row_turned ch i r h keeps k = grind (arith, write_bytes, followed, after_effect)

fetched : (ch : Chain) (code : List ℕ) (r : Result (Ins × ℕ) DecodeFault) → DecodesTo code ch.frame.at r → IsByteChain ch → IsByteTurn (turn_of_fetch ch r)
fetched ch code (Err Undefined) d h = record { writes = tt; goes = tt }
fetched ch code (Err Past) d h = record { writes = tt; goes = tt }
fetched ch code (Ok i) d h =
    let f : Frame = frame_at ch.frame i.1 in
    let was : IsByteFrame ch.frame = (h.frame).bytes in
    row_turned ch i.0 (row i.0 f ch.public (around ch)) h (row_keeps i.0 f ch.public (around ch))
    (row_bytes i.0 f ch.public (around ch) d.shaped (record { static = was.static; pieces = was.pieces; stack = was.stack }) h.public (caller ch.below h.below))

-- each turn keeps a chain of bytes
pub turn_bytes : TurnBytesLaw
unfolding turn_of_chain
turn_bytes ch h =
    let code = code_in (lookup ch.map ch.frame.name) in
    fetched ch code (instruction_at code ch.frame.at) (decoded_stands code ch.frame.at (code_bytes ch.map ch.frame.name (lookup ch.map ch.frame.name) refl h.apps)) h

-- ---- runs

ran : (t : Acted) (session : List ℕ) (f : Follows) (rest : Chain → Ran) → AreByteWrites t.writes → AreBytes session → OnGoing f IsByteChain → ((c : Chain) → IsByteChain c → IsByteRun (rest c)) → IsByteRun (run_after_turn t session f rest)
ran t session f rest w s g again = grind (arith, all_append)

-- a run keeps a chain of bytes
pub run_bytes : RunBytesLaw
unfolding run_of_chain
run_bytes zero ch h = record { writes = tt; session = session_bytes ch h }
run_bytes (suc n) ch h =
    let t : IsByteTurn (turn_of_chain ch) = turn_bytes ch h in
    ran (turn_of_chain ch) (chain_session ch) (turn_of_chain ch).follows (λ c. run_of_chain n c) t.writes (session_bytes ch h) t.goes (λ c k. run_bytes n c k)

-- ---- beginnings

-- the public segment of a command of bytes is of bytes
pub command_bytes : (a : ApduParts) → IsByteCommand a → AreBytes (new_public a)
command_bytes a h = grind (arith, joined, zero_bytes, pair_bytes)

started : (m : List (List ℕ × App)) (name session : List ℕ) (a : ApduParts) (o : Option App) → lookup m name ≡ o → AreByteApps m → IsName name → AreBytes session → IsByteCommand a → IsByteChain (start_app m name session a (unwrap_or o no_app))
started m name session a None e h n s k = record { apps = h; frame = begun name 0 0 [] session n tt s; below = tt; public = command_bytes a k }
started m name session a (Some b) e h n s k =
    record { apps = h; frame = begun name (length b.code) b.deny b.fixed session n (each_found IsByteApp m name b h e).fixed s; below = tt; public = command_bytes a k }

-- a command of bytes begins a chain of bytes
pub start_bytes : StartBytesLaw
start_bytes m name session a h n s k = started m name session a (lookup m name) refl h n s k
