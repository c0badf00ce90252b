-- A turn of a chain whose frames of accepted code are at facts: it ends with no excluded abend, and the chain that
-- follows is such a chain.
use Rattle.std.proofs.Common.{◌≡◌, ℕ, ◌-◌, ◌≤◌, ◌<◌, Bool, true, false, cond, List, [], ◌∷◌, length, Option, Some, None, Result, Ok, Err, refl, sym, ap, subst, ◌∙◌, arith}
use Rattle.std.specs.Prelude.{unwrap_or, bytes_eq, ◌||◌, nat_lt, nat_le}
use Rattle.std.specs.List.{AllByRecursion}
use Rattle.std.proofs.lemmas.List.{length-append, length-replicate}
use Rattle.law_family.specs.model_machine.specs.declared.instruction.DecodeFault.{DecodeFault}
use Rattle.law_family.specs.model_machine.specs.declared.instruction.DecodeFault.TheVariants.{Undefined, Past}
use Rattle.law_family.specs.model_machine.specs.declared.instruction.Ins.{Ins}
use Rattle.law_family.specs.model_device.specs.Bytes.{bytes2, lookup, insert, zeros}
use Rattle.law_family.specs.model_device.specs.Card.{App}
use Rattle.law_family.specs.model_machine.specs.Code.{instruction_at}
use Rattle.law_family.specs.model_machine.specs.Frame.{Frame, Effect, dynamic_base, public_base, public_end, new_frame, with_sw, la_of}
use Rattle.law_family.specs.model_machine.specs.Primitives.{Around, Then, Done}
use Rattle.law_family.specs.model_machine.specs.Row.{RowEnd, Abends, Does, row}
use Rattle.law_family.specs.model_machine.specs.Chain.{Chain, Outcome, Follows, Ends, code_in, around, with_pieces, changed_app, map_changed, chain_after_effect, chain_after_call, called_app, is_active, depth_of, after_exit, follows, end_of, reported_frame, row_turn, frame_at, turn_of_fetch, turn_of_chain}
use Rattle.law_family.specs.model_device.specs.Limits.{most_static, most_code}
use Rattle.model_stack.specs.StackShape.{Main, fact, begins, main, Accepts}
use Rattle.mc_bank.specs.Bank.{no_app, app_of}
use Rattle.law_family.specs.model_device.proofs.ListLemmas.{splice_longer}
use Rattle.mc_check.specs.Checked.{ends_excluded, RunsCode, IsCalm, OnFollows}
use Rattle.law_family.specs.law_machine.specs.Limited.{AreLimited}
use Rattle.mc_machine.specs.Sound.{IsSoundFrame, IsSoundChain}
use Rattle.mc_check.specs.Standing.{none}
use Rattle.law_family.specs.law_rows.specs.Keeping.{Keeps, OnDone}
use Rattle.law_family.specs.law_rows.proofs.Keeping.{fixed_length, row_keeps}
use Rattle.mc_machine.proofs.SoundChains.{SameLengths, sizes_changed}
use Rattle.mc_check.proofs.RowFacts.{RowsAreCalm}
use Rattle.mc_check.proofs.AcceptedFacts.{HasBases, room_at, undefined_never, past_never, GoodAt, good_at}
use Rattle.mc_check.proofs.OpenCalls.{IsStanding}
use Rattle.mc_check.proofs.CalmTurns.{OnGoing, IsLow, DoneCalm, RowCalm, FixedStays, row_calm, low_at}
use Rattle.law_family.specs.model_device.proofs.MapLemmas.{same_name, lookup_inserted_lem, lookup_beside}

-- ---- applications with the code

-- the application of a name has the given code and number of session bytes
pub record HasCode (bytes : List ℕ) (size : ℕ) (map : List (List ℕ × App)) (name : List ℕ) : Type 0 where
  pub app : App
  pub there : lookup map name ≡ Some app
  pub code : app.code ≡ bytes
  pub session : app.session ≡ size

-- an application with the code after a change of static bytes had it before
inserted_back : (code : List ℕ) (session : ℕ) (map : List (List ℕ × App)) (n : List ℕ) (ps : List (ℕ × List ℕ)) (old : App) (m : List ℕ) (b : Bool) → lookup map n ≡ Some old → bytes_eq n m ≡ b
    → HasCode code session (insert map n (with_pieces ps old)) m → HasCode code session map m
inserted_back code session map n ps old m false there other has =
    record { app = has.app; there = sym (lookup_beside map n (with_pieces ps old) m other) ∙ has.there; code = has.code; session = has.session }
inserted_back code session map n ps old m true there own has =
    let name : n ≡ m = same_name n m own in
    let now : Some (with_pieces ps old) ≡ Some has.app = sym (lookup_inserted_lem map n (with_pieces ps old)) ∙ ap (λ (k : List ℕ). lookup (insert map n (with_pieces ps old)) k) name ∙ has.there in
    let app : with_pieces ps old ≡ has.app = cc now in
    record {
      app = old;
      there = ap (λ (k : List ℕ). lookup map k) (sym name) ∙ there;
      code = ap (λ (a : App). a.code) app ∙ has.code;
      session = ap (λ (a : App). a.session) app ∙ has.session;
    }

changed_back : (code : List ℕ) (session : ℕ) (map : List (List ℕ × App)) (n : List ℕ) (ps : List (ℕ × List ℕ)) (o : Option App) (m : List ℕ) → lookup map n ≡ o → HasCode code session (changed_app map n ps o) m → HasCode code session map m
changed_back code session map n ps None m there has = has
changed_back code session map n ps (Some old) m there has = inserted_back code session map n ps old m (bytes_eq n m) there refl has

pub code_back : (code : List ℕ) (session : ℕ) (map : List (List ℕ × App)) (n : List ℕ) (changes : Option (List (ℕ × List ℕ))) (m : List ℕ) → HasCode code session (map_changed map n changes) m → HasCode code session map m
code_back code session map n None m has = has
code_back code session map n (Some ps) m has = changed_back code session map n ps (lookup map n) m refl has

-- ---- static bytes

-- applications of the same sizes keep to the limit
limited_by : (map : List (List ℕ × App)) (name : List ℕ) (o : Option App) → AreLimited map → lookup map name ≡ o → length (unwrap_or o no_app).fixed ≤ most_static
limited_by map name None limited is = omega arith
limited_by map name (Some a) limited is = limited name a is

pub limited_still : (map now : List (List ℕ × App)) → SameLengths map now → AreLimited map → AreLimited now
limited_still map now same limited = λ name a there.
    let size : length a.fixed ≡ length (app_of now (Some name)).fixed = ap (λ (o : Option App). length (unwrap_or o no_app).fixed) (sym there) in
    let low = limited_by map name (lookup map name) limited refl in
    subst (λ (n : ℕ). n ≤ most_static) (sym (size ∙ same.fixed name)) low

-- the static segment of a frame lies below the dynamic one
pub fixed_low : (map : List (List ℕ × App)) (f : Frame) → AreLimited map → IsSoundFrame map f → length f.fixed ≤ dynamic_base
fixed_low map f limited s = grind (arith, limited_by)

-- ---- chains whose frames of the code are at facts

-- a frame, if it runs the code, is at a fact
abbrev pub StandsIfRunning : List ℕ → ℕ → List (List ℕ × App) → Frame → Type 0
StandsIfRunning code session map f = HasCode code session map f.name → IsStanding code session f

-- a public segment with all its bytes
abbrev pub IsWholePublic : List ℕ → Type 0
IsWholePublic public = public_end - public_base ≤ length public

-- each frame of a chain is at a fact, if it runs the code; its applications keep to the limit, and its public segment
-- is whole
pub record IsHeldChain (code : List ℕ) (session : ℕ) (ch : Chain) : Type 0 where
  pub limited : AreLimited ch.map
  pub whole : IsWholePublic ch.public
  pub frame : StandsIfRunning code session ch.map ch.frame
  pub below : AllByRecursion (StandsIfRunning code session ch.map) ch.below

held_still : (code : List ℕ) (session : ℕ) (map : List (List ℕ × App)) (n : List ℕ) (changes : Option (List (ℕ × List ℕ))) (fs : List Frame) → AllByRecursion (StandsIfRunning code session map) fs → AllByRecursion (StandsIfRunning code session (map_changed map n changes)) fs
held_still code session map n changes [] all = tt
held_still code session map n changes (f ∷ fs) all = (λ has. all.0 (code_back code session map n changes f.name has), held_still code session map n changes fs all.1)

-- a property of a frame that does not exit, under a premise
going_under : (t : Then) (P Q : Type 0) → (P → OnGoing t Q) → OnGoing t (P → Q)
going_under t h h2 h3 = grind arith

-- ---- what follows

module _ (code : List ℕ) (session most : ℕ) (accepts : Accepts code session most) (bases : HasBases code) where
  -- a frame before its first instruction
  pub new_held : (map : List (List ℕ × App)) (name : List ℕ) (a : App) (bytes : List ℕ) → lookup map name ≡ Some a → length bytes ≡ a.session → AreLimited map → StandsIfRunning code session map (new_frame name (length a.code) a.deny a.fixed bytes)
  new_held map name a bytes there size limited = λ has.
      let found : Some a ≡ Some has.app = sym there ∙ has.there in
      let same : a ≡ has.app = cc found in
      let same_code : a.code ≡ code = ap (λ (b : App). b.code) same ∙ has.code in
      let many : length bytes ≡ session = size ∙ ap (λ (b : App). b.session) same ∙ has.session in
      let low = limited name a there in
      let room = room_at code session most accepts bases (fact Main 0 0) 0 begins main in
      let fits = room.stack in
      let long = length-append bytes (zeros (512 - length bytes)) in
      let rest = length-replicate {A = ℕ} (512 - length bytes) 0 in
      record {
        routine = Main;
        base = 0;
        height = 0;
        here = record {
          stands = record {
            session = many;
            code_len = ap (λ (c : List ℕ). length c) same_code;
            dyn = omega (arith, long, rest, many, fits);
            fixed = omega (arith, low);
            lb = omega (arith, many);
            dt = omega arith;
            room = omega (arith, fits);
          };
          opened = none;
          reached = begins;
        };
      }

  -- a status in a public segment leaves it whole
  whole_still : (public : List ℕ) (sw : ℕ) → IsWholePublic public → IsWholePublic (with_sw public sw)
  whole_still public sw whole = let longer = splice_longer public 1039 (bytes2 sw) in omega (arith, whole, longer)

  entered_held : (b : Bool) (ch : Chain) (n : List ℕ) (a : App) → lookup ch.map n ≡ Some a → IsHeldChain code session ch → IsHeldChain code session (called_app b ch n a)
  entered_held true ch n a there held = record { limited = held.limited; whole = whole_still ch.public 0x6985 held.whole; frame = held.frame; below = held.below }
  entered_held false ch n a there held =
      record { limited = held.limited; whole = held.whole; frame = new_held ch.map n a (zeros a.session) there (length-replicate {A = ℕ} a.session 0) held.limited; below = (held.frame, held.below) }

  called_held : (ch : Chain) (n : List ℕ) (o : Option App) → lookup ch.map n ≡ o → IsHeldChain code session ch → IsHeldChain code session (chain_after_call ch n o)
  called_held ch n None there held = record { limited = held.limited; whole = whole_still ch.public 0x6A82 held.whole; frame = held.frame; below = held.below }
  called_held ch n (Some a) there held = entered_held (is_active n ch.frame ch.below || nat_le 4 (depth_of ch)) ch n a there held

  -- of the end of a chain nothing is claimed
  ends_both : (b : Bool) (o p : Outcome) → OnFollows (cond b (Ends o) (Ends p)) (IsHeldChain code session)
  ends_both true o p = tt
  ends_both false o p = tt

  exited_held : (ch : Chain) (fs : List Frame) → AreLimited ch.map → IsWholePublic ch.public → AllByRecursion (StandsIfRunning code session ch.map) fs → OnFollows (after_exit ch fs) (IsHeldChain code session)
  exited_held ch [] limited whole all = ends_both (nat_lt 1024 (la_of ch.public)) _ _
  exited_held ch (f ∷ fs) limited whole all = record { limited = limited; whole = whole; frame = all.0; below = all.1 }

  follows_held : (ch : Chain) (t : Then) → AreLimited ch.map → IsWholePublic ch.public → OnGoing t (StandsIfRunning code session ch.map ch.frame) → AllByRecursion (StandsIfRunning code session ch.map) ch.below → OnFollows (follows ch t) (IsHeldChain code session)
  follows_held ch t limited whole frame below = grind (arith, exited_held, called_held)

-- ---- the end of a turn

ends_calm : (b : Bool) (o p : Outcome) → ends_excluded (Some o) ≡ false → ends_excluded (Some p) ≡ false → ends_excluded (end_of (cond b (Ends o) (Ends p))) ≡ false
ends_calm true o p h k = h
ends_calm false o p h k = k

exited_calm : (ch : Chain) (fs : List Frame) → ends_excluded (end_of (after_exit ch fs)) ≡ false
exited_calm ch [] = ends_calm (nat_lt 1024 (la_of ch.public)) _ _ refl refl
exited_calm ch (f ∷ fs) = refl

follows_calm : (ch : Chain) (t : Then) → ends_excluded (end_of (follows ch t)) ≡ false
follows_calm ch t = grind (arith, exited_calm)

reported_low : (session most : ℕ) (old new : Frame) (next : Follows) → IsLow session most old → IsLow session most new → IsLow session most (reported_frame old new next)
reported_low session most old new next before after = grind arith

row_turn_calm : (code : List ℕ) (session most : ℕ) (ch : Chain) (i : Ins) (r : RowEnd) → IsLow session most ch.frame → RowCalm code session most r → IsCalm session most (row_turn ch i r).turn
row_turn_calm code session most ch i r low calm = grind (arith, follows_calm, reported_low)

-- ---- turns

-- a row makes the public segment no shorter
abbrev RowGrows : List ℕ → RowEnd → Type 0
RowGrows public (Abends cause) = Unit {0}
RowGrows public (Does d) = length public ≤ length d.effect.public

end_grows : (facts : RowsAreCalm) (i : Ins) (f : Frame) (public : List ℕ) (x : Around) (end : RowEnd) → row i f public x ≡ end → RowGrows public end
end_grows facts i f public x (Abends cause) is = tt
end_grows facts i f public x (Does d) is = facts.grows i f public x d is

-- the chain's applications and its frame after a row
fixed_stays : (ch : Chain) (next : ℕ) (r : RowEnd) → AreLimited ch.map → IsSoundChain ch → OnDone r (λ d. Keeps (frame_at ch.frame next) ch.public d.effect) → FixedStays r
fixed_stays ch next (Abends cause) limited sound keeps = tt
fixed_stays ch next (Does d) limited sound keeps = subst (λ (n : ℕ). n ≤ dynamic_base) (sym (fixed_length (frame_at ch.frame next) ch.public d.effect keeps sound.0.pieces)) (fixed_low ch.map ch.frame limited sound.0)

settled_limited : (ch : Chain) (next : ℕ) (e : Effect) → AreLimited ch.map → IsSoundChain ch → Keeps (frame_at ch.frame next) ch.public e → AreLimited (chain_after_effect ch e).map
settled_limited ch next e limited sound keeps = grind (arith, limited_still, sizes_changed)

module _ (code : List ℕ) (session most : ℕ) (accepts : Accepts code session most) (bases : HasBases code) where
  -- the frame after an instruction, if it runs the code
  frame_held : (ch : Chain) (next : ℕ) (d : Done) → Keeps (frame_at ch.frame next) ch.public d.effect → (HasCode code session ch.map ch.frame.name → DoneCalm code session most d) → OnGoing d.next (StandsIfRunning code session (chain_after_effect ch d.effect).map d.effect.frame)
  frame_held ch next d keeps calm = grind (arith, code, session, code_back, going_under, IsStanding)

  row_turn_held : (ch : Chain) (i : Ins) (next : ℕ) (r : RowEnd) → IsSoundChain ch → IsHeldChain code session ch → OnDone r (λ d. Keeps (frame_at ch.frame next) ch.public d.effect) → RowGrows ch.public r → (HasCode code session ch.map ch.frame.name → RowCalm code session most r) → OnFollows (row_turn ch i r).follows (IsHeldChain code session)
  row_turn_held ch i next (Abends cause) sound held keeps grows calm = tt
  row_turn_held ch i next (Does d) sound held keeps grows calm =
      let whole = held.whole in
      follows_held code session most accepts bases (chain_after_effect ch d.effect) d.next
      (settled_limited ch next d.effect held.limited sound keeps) (omega (arith, whole, grows)) (frame_held ch next d keeps calm)
      (held_still code session ch.map ch.frame.name d.effect.changes ch.below held.below)

  module _ (short : length code ≤ most_code) (bytes : AllByRecursion (λ b. b < 256) code) (facts : RowsAreCalm) where
    -- the code that a frame fetches from, if it runs this code
    fetches : (ch : Chain) (r : Result (Ins × ℕ) DecodeFault) → HasCode code session ch.map ch.frame.name → instruction_at (code_in (lookup ch.map ch.frame.name)) ch.frame.at ≡ r → instruction_at code ch.frame.at ≡ r
    fetches ch r has is = grind (arith, code)

    row_here : (ch : Chain) (i : Ins) (next : ℕ) → IsSoundChain ch → IsHeldChain code session ch → HasCode code session ch.map ch.frame.name → instruction_at code ch.frame.at ≡ Ok (i, next) → RowCalm code session most (row i (frame_at ch.frame next) ch.public (around ch))
    row_here ch i next sound held has is =
        let s : IsStanding code session ch.frame = held.frame has in
        let good : GoodAt code (fact s.routine ch.frame.at s.height) i next = good_at code session most accepts (fact s.routine ch.frame.at s.height) s.here.reached i next is in
        row_calm code session most accepts bases s.routine s.base s.height ch.frame s.here i next good short bytes facts ch.public held.whole (around ch)
        (fixed_stays ch next (row i (frame_at ch.frame next) ch.public (around ch)) held.limited sound (row_keeps i (frame_at ch.frame next) ch.public (around ch)))

    fetched_held : (ch : Chain) (r : Result (Ins × ℕ) DecodeFault) → instruction_at (code_in (lookup ch.map ch.frame.name)) ch.frame.at ≡ r → IsSoundChain ch → IsHeldChain code session ch → OnFollows (turn_of_fetch ch r).follows (IsHeldChain code session)
    fetched_held ch (Err Undefined) is sound held = tt
    fetched_held ch (Err Past) is sound held = tt
    fetched_held ch (Ok i) is sound held =
        let f = frame_at ch.frame i.1 in
        row_turn_held ch i.0 i.1 (row i.0 f ch.public (around ch)) sound held (row_keeps i.0 f ch.public (around ch)) (end_grows facts i.0 f ch.public (around ch) (row i.0 f ch.public (around ch)) refl) (λ has. row_here ch i.0 i.1 sound held has (fetches ch (Ok i) has is))

    fetched_calm : (ch : Chain) (r : Result (Ins × ℕ) DecodeFault) → instruction_at code ch.frame.at ≡ r → IsSoundChain ch → IsHeldChain code session ch → HasCode code session ch.map ch.frame.name → IsCalm session most (turn_of_fetch ch r).turn
    fetched_calm ch (Err Undefined) is sound held has =
        let s : IsStanding code session ch.frame = held.frame has in
        absurd (undefined_never code session most accepts (fact s.routine ch.frame.at s.height) s.here.reached is)
    fetched_calm ch (Err Past) is sound held has =
        let s : IsStanding code session ch.frame = held.frame has in
        absurd (past_never code session most accepts (fact s.routine ch.frame.at s.height) s.here.reached is)
    fetched_calm ch (Ok i) is sound held has =
        row_turn_calm code session most ch i.0 (row i.0 (frame_at ch.frame i.1) ch.public (around ch)) (low_at code session most accepts bases ch.frame (held.frame has)) (row_here ch i.0 i.1 sound held has is)

    -- the chain that follows a turn
    pub acted_held : (ch : Chain) → IsSoundChain ch → IsHeldChain code session ch → OnFollows (turn_of_chain ch).follows (IsHeldChain code session)
    unfolding turn_of_chain
    acted_held ch sound held = fetched_held ch (instruction_at (code_in (lookup ch.map ch.frame.name)) ch.frame.at) refl sound held

    -- the turn of a frame that runs the code
    pub acted_calm : (ch : Chain) → IsSoundChain ch → IsHeldChain code session ch → RunsCode code session ch → IsCalm session most (turn_of_chain ch).turn
    unfolding turn_of_chain
    acted_calm ch sound held runs =
        let has : HasCode code session ch.map ch.frame.name = record { app = runs.app; there = runs.there; code = runs.code; session = runs.session } in
        let r = instruction_at (code_in (lookup ch.map ch.frame.name)) ch.frame.at in
        fetched_calm ch r (fetches ch r has refl) sound held has
