-- The dynamic and the public segment of a chain keep their bytes: no turn makes them shorter.
use Rattle.std.specs.Prelude.{◌≡◌, ℕ, ◌-◌, ◌≤◌, Bool, true, false, ◌||◌, nat_le, List, [], ◌∷◌, ◌++◌, length, unwrap_or, Option, Some, None, Result, Ok, Err}
use Rattle.std.specs.List.{AllByRecursion}
use Rattle.std.proofs.Common.{refl, arith, subst, length-append}
use Rattle.std.proofs.lemmas.List.{length-replicate}
use Rattle.model_play.specs.model_device.specs.Bytes.{bytes2, lookup, zeros}
use Rattle.model_play.specs.model_device.specs.Card.{App}
use Rattle.model_play.specs.model_device.proofs.ListLemmas.{splice_longer}
use Rattle.model_play.specs.model_machine.specs.declared.instruction.Ins.{Ins}
use Rattle.model_play.specs.model_machine.specs.declared.instruction.DecodeFault.{DecodeFault}
use Rattle.model_play.specs.model_machine.specs.declared.instruction.DecodeFault.TheVariants.{Undefined, Past}
use Rattle.model_play.specs.model_machine.specs.Apdu.{ApduParts}
use Rattle.model_play.specs.model_machine.specs.Code.{instruction_at}
use Rattle.model_play.specs.model_machine.specs.Frame.{Frame, new_public, with_sw}
use Rattle.model_play.specs.model_machine.specs.Primitives.{Then}
use Rattle.model_play.specs.model_machine.specs.Row.{RowEnd, row}
use Rattle.model_play.specs.model_machine.specs.Chain.{Chain, Follows, Continues, Ends, code_in, after_exit, around, called_app, chain_after_call, depth_of, follows, frame_at, is_active, last_exit, row_turn, start, turn_of_chain, turn_of_fetch}
use Rattle.mc_deck.specs.law_rows.specs.Keeping.{Keeps, OnDone}
use Rattle.mc_deck.specs.law_rows.proofs.Keeping.{row_keeps}
use Rattle.mc_script.specs.Watching.{IsWide}

-- ---- chains

-- what follows a turn
abbrev pub GoesWide : Follows → Type 0
GoesWide (Continues ch) = IsWide ch
GoesWide (Ends o) = Unit {0}

last_wide : (ch : Chain) → GoesWide (last_exit ch)
last_wide ch = grind arith

exit_wide : (ch : Chain) (fs : List Frame) → AllByRecursion (λ f. 512 ≤ length f.dyn) fs → 1041 ≤ length ch.public → GoesWide (after_exit ch fs)
exit_wide ch [] all public = last_wide ch
exit_wide ch (f ∷ fs) all public = record { frames = all; public = public }

sw_wide : (public : List ℕ) (sw : ℕ) → 1041 ≤ length public → 1041 ≤ length (with_sw public sw)
sw_wide public sw h = let a = splice_longer public 1039 (bytes2 sw) in omega (arith, h, a)

zeros_many : (n : ℕ) → length (zeros n) ≡ n
zeros_many n = length-replicate n 0

new_wide : (session : List ℕ) → 512 ≤ length (session ++ zeros (512 - length session))
new_wide session = let a = length-append session (zeros (512 - length session)) in let b = zeros_many (512 - length session) in omega (arith, a, b)

called_wide : (b : Bool) (ch : Chain) (n : List ℕ) (a : App) → IsWide ch → IsWide (called_app b ch n a)
called_wide true ch n a h = record { frames = h.frames; public = sw_wide ch.public 0x6985 h.public }
called_wide false ch n a h = record { frames = (new_wide (zeros a.session), h.frames); public = h.public }

call_after_wide : (ch : Chain) (n : List ℕ) (o : Option App) → IsWide ch → IsWide (chain_after_call ch n o)
call_after_wide ch n None h = record { frames = h.frames; public = sw_wide ch.public 0x6A82 h.public }
call_after_wide ch n (Some a) h = called_wide (is_active n ch.frame ch.below || nat_le 4 (depth_of ch)) ch n a h

follows_wide : (ch : Chain) (t : Then) → IsWide ch → GoesWide (follows ch t)
follows_wide ch t h = grind (arith, exit_wide, call_after_wide)

row_goes_wide : (ch : Chain) (i : Ins) (r : RowEnd) → OnDone r (λ d. Keeps ch.frame ch.public d.effect) → IsWide ch → GoesWide (row_turn ch i r).follows
row_goes_wide ch i r keeps h = grind (arith, follows_wide)

fetch_wide : (ch : Chain) (r : Result (Ins × ℕ) DecodeFault) → IsWide ch → GoesWide (turn_of_fetch ch r).follows
fetch_wide ch (Err Undefined) h = tt
fetch_wide ch (Err Past) h = tt
fetch_wide ch (Ok i) h =
    row_goes_wide ch i.0 (row i.0 (frame_at ch.frame i.1) ch.public (around ch)) (row_keeps i.0 (frame_at ch.frame i.1) ch.public (around ch)) h

-- a chain after a turn
turn_wide : (ch : Chain) → IsWide ch → GoesWide (turn_of_chain ch).follows
unfolding turn_of_chain
turn_wide ch h = fetch_wide ch (instruction_at (code_in (lookup ch.map ch.frame.name)) ch.frame.at) h

pub next_wide : (ch next : Chain) → (turn_of_chain ch).follows ≡ Continues next → IsWide ch → IsWide next
next_wide ch next e h = subst GoesWide e (turn_wide ch h)

-- a chain before its first turn
public_wide : (a : ApduParts) → 1041 ≤ length (new_public a)
public_wide a =
    let tail = a.cla ∷ a.ins ∷ a.p1 ∷ a.p2 ∷ a.p3 ∷ (bytes2 (length a.body) ++ bytes2 (unwrap_or a.le 0) ++ 0 ∷ 0 ∷ 0x90 ∷ 0 ∷ []) in
    let front = length-append a.body (zeros (1028 - length a.body)) in
    let whole = length-append (a.body ++ zeros (1028 - length a.body)) tail in
    let many = zeros_many (1028 - length a.body) in
    let last : length tail ≡ 13 = refl in
    omega (arith, front, whole, many, last)

pub start_wide : (map : List (List ℕ × App)) (first session : List ℕ) (a : ApduParts) → IsWide (start map first session a)
start_wide map first session a = record { frames = (new_wide session, tt); public = public_wide a }
