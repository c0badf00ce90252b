-- The memory that the lines of a run give is that of its chains.
use Rattle.std.proofs.Common.{◌≡◌, ℕ, zero, suc, ◌+◌, ◌-◌, ◌<◌, ◌≤◌, Bool, true, false, cond, ◌==◌, ◌&&◌, ◌||◌, List, [], ◌∷◌, ◌++◌, length, Option, Some, None, Result, Ok, Err, refl, arith, sym, ap, subst, ◌∙◌}
use Rattle.std.proofs.lemmas.Bool.Decides.{nat_tests}
use Rattle.std.specs.Prelude.{get_or, nat_le, nat_lt, unwrap_or}
use Rattle.law_family.specs.model_device.specs.Bytes.{lookup, or_else}
use Rattle.law_family.specs.model_device.specs.Card.{App}
use Rattle.law_family.specs.model_device.specs.Pieces.{covering_byte}
use Rattle.law_family.specs.model_machine.specs.declared.instruction.Ins.{Ins}
use Rattle.law_family.specs.model_machine.specs.declared.instruction.DecodeFault.{DecodeFault}
use Rattle.law_family.specs.model_machine.specs.declared.instruction.DecodeFault.TheVariants.{Undefined, Past}
use Rattle.law_family.specs.model_machine.specs.declared.machine.Abend.TheVariants.{A09}
use Rattle.law_family.specs.model_machine.specs.Code.{instruction_at}
use Rattle.law_family.specs.model_machine.specs.Frame.{Frame, Effect, dynamic_base, public_base, la_of}
use Rattle.law_family.specs.model_machine.specs.Primitives.{Then, Goes, Exits, Delegates}
use Rattle.law_family.specs.model_machine.specs.Row.{RowEnd, Abends, Does, row}
use Rattle.law_family.specs.model_machine.specs.Chain.{Chain, Follows, Continues, Ends, Abended, after_exit, around, called_app, chain_after_call, chain_after_effect, code_in, depth_of, follows, frame_at, is_active, reply_of, row_turn, turn_of, turn_of_chain, turn_of_fetch}
use Rattle.law_steps.specs.Runs.{changes}
use Rattle.law_steps.specs.Readings.{Reading, reading_of, reading_after, row_reading, fetch_reading, done_reading, exit_reading, no_reading, sets_between, first_sets}
use Rattle.law_steps.specs.Replays.{BeginsFrame, RunsTurn, Memory, HoldsFrame, HoldsFrames, HoldsPublic, HoldsChain, HoldsOn, HoldsAlong, TurnFits, FrameFits, ChainFits, FitsAlong, OnNext, bytes_with, below_top, called_lines, frame_line, memory_after, memory_of, no_memory, turn_line}
use Rattle.law_steps.specs.Laws.{ReplayLaw}
use Rattle.law_steps.proofs.RunBytes.{Run, after_none, before_none, changes_from, else_none, exact_sets, run_byte}

-- ---- bytes of runs

else_else : (x y z : Option ℕ) → or_else (or_else x y) z ≡ or_else x (or_else y z)
else_else None y z = refl
else_else (Some n) y z = refl

covering_append : (xs ys : List Run) (k : ℕ) → covering_byte (xs ++ ys) k ≡ or_else (covering_byte ys k) (covering_byte xs k)
covering_append [] ys k = sym (else_none (covering_byte ys k))
covering_append (x ∷ xs) ys k = ap (λ (o : Option ℕ). or_else o (run_byte x k)) (covering_append xs ys k) ∙ else_else (covering_byte ys k) (covering_byte xs k) (run_byte x k)

less_none : (a : ℕ) → a - 0 ≡ a
less_none a = omega arith

past : (l : List ℕ) (i : ℕ) → length l ≤ i → get_or l i 0 ≡ 0
past [] i h = refl
past (x ∷ xs) zero h = absurd (omega (arith, h))
past (x ∷ xs) (suc i) h = past xs i (omega (arith, h))

same_or : (x y : ℕ) (t : Bool) → (x == y) ≡ t → unwrap_or (cond t None (Some x)) y ≡ x
same_or x y true e = grind (arith, nat_tests, e)
same_or x y false e = refl

-- an address of a segment that has a byte
covered : (a k : ℕ) (old new : List ℕ) (b : ℕ) → a ≤ k → k < a + length new → b ≡ get_or old (k - a) 0 → unwrap_or (covering_byte (changes a old new) k) b ≡ get_or new (k - a) 0
covered a k old new b low high is =
    let at : k ≡ a + (k - a) = omega (arith, low) in
    let here : covering_byte (changes a old new) k ≡ cond (get_or new (k - a) 0 == get_or old (k - a) 0) None (Some (get_or new (k - a) 0)) =
    ap (λ (n : ℕ). covering_byte (changes a old new) n) at ∙ exact_sets a (k - a) old new (omega (arith, low, high))
    in
    ap (λ (o : Option ℕ). unwrap_or o b) here ∙ ap (λ (y : ℕ). unwrap_or (cond (get_or new (k - a) 0 == get_or old (k - a) 0) None (Some (get_or new (k - a) 0))) y) is
    ∙ same_or (get_or new (k - a) 0) (get_or old (k - a) 0) (get_or new (k - a) 0 == get_or old (k - a) 0) refl

-- an address of a segment, which has no fewer bytes than before
covered_all : (a k : ℕ) (old new : List ℕ) (b : ℕ) → a ≤ k → length old ≤ length new → b ≡ get_or old (k - a) 0 → unwrap_or (covering_byte (changes a old new) k) b ≡ get_or new (k - a) 0
covered_all a k old new b low size is = by (nat_lt k (a + length new)) refl
  where
    by : (t : Bool) → nat_lt k (a + length new) ≡ t → unwrap_or (covering_byte (changes a old new) k) b ≡ get_or new (k - a) 0
    by true e = covered a k old new b low (grind (arith, nat_tests, e)) is
    by false e =
        let high : a + length new ≤ k = grind (arith, nat_tests, e) in
        ap (λ (o : Option ℕ). unwrap_or o b) (after_none a k old new high) ∙ is ∙ past old (k - a) (omega (arith, high, size)) ∙ sym (past new (k - a) (omega (arith, high)))

-- the byte of the runs of three segments, by the segment of its address
three : (s d p : List Run) (k : ℕ) → covering_byte (s ++ d ++ p) k ≡ or_else (covering_byte p k) (or_else (covering_byte d k) (covering_byte s k))
three s d p k = covering_append (s ++ d) p k ∙ ap (λ (o : Option ℕ). or_else (covering_byte p k) o) (covering_append s d k)

pick : (p d s : Option ℕ) → p ≡ None → d ≡ None → or_else p (or_else d s) ≡ s
pick p d s e f = ap (λ (x : Option ℕ). or_else x (or_else d s)) e ∙ ap (λ (x : Option ℕ). or_else x s) f

pick_middle : (p d s : Option ℕ) → p ≡ None → s ≡ None → or_else p (or_else d s) ≡ d
pick_middle p d s e f = ap (λ (x : Option ℕ). or_else x (or_else d s)) e ∙ ap (λ (x : Option ℕ). or_else d x) f ∙ else_none d

pick_first : (p d s : Option ℕ) → d ≡ None → s ≡ None → or_else p (or_else d s) ≡ p
pick_first p d s e f = ap (λ (x : Option ℕ). or_else p (or_else x s)) e ∙ ap (λ (x : Option ℕ). or_else p x) f ∙ else_none p

module _ (old new : Reading) where
  static_part : (k : ℕ) → k < dynamic_base → covering_byte (sets_between old new) k ≡ covering_byte (changes 0 old.fixed new.fixed) k
  static_part k h =
      three (changes 0 old.fixed new.fixed) (changes dynamic_base old.dynamic new.dynamic) (changes public_base old.public new.public) k
      ∙ pick _ _ _ (before_none public_base k _ (changes_from public_base old.public new.public) (omega (arith, h))) (before_none dynamic_base k _ (changes_from dynamic_base old.dynamic new.dynamic) h)

  dynamic_part : (k : ℕ) → length new.fixed ≤ k → k < public_base → covering_byte (sets_between old new) k ≡ covering_byte (changes dynamic_base old.dynamic new.dynamic) k
  dynamic_part k low high =
      three (changes 0 old.fixed new.fixed) (changes dynamic_base old.dynamic new.dynamic) (changes public_base old.public new.public) k
      ∙ pick_middle _ _ _ (before_none public_base k _ (changes_from public_base old.public new.public) high) (after_none 0 k old.fixed new.fixed (omega (arith, low)))

  public_part : (k : ℕ) → length new.fixed ≤ k → dynamic_base + length new.dynamic ≤ k → covering_byte (sets_between old new) k ≡ covering_byte (changes public_base old.public new.public) k
  public_part k low high =
      three (changes 0 old.fixed new.fixed) (changes dynamic_base old.dynamic new.dynamic) (changes public_base old.public new.public) k
      ∙ pick_first _ _ _ (after_none dynamic_base k old.dynamic new.dynamic high) (after_none 0 k old.fixed new.fixed (omega (arith, low)))

-- ---- one frame

itself : (n : ℕ) → (n == n) ≡ true
itself n = grind (arith, nat_tests)

-- bytes of a frame with runs over them
module _ (old new : Reading) (bytes : ℕ → ℕ) where
  static_held : (a : ℕ) → a < dynamic_base → (length new.fixed ≡ length old.fixed) → bytes a ≡ get_or old.fixed a 0 → bytes_with (sets_between old new) bytes a ≡ get_or new.fixed a 0
  static_held a h size is = ap (λ (o : Option ℕ). unwrap_or o (bytes a)) (static_part old new a h) ∙ covered_all 0 a old.fixed new.fixed (bytes a) (omega arith) (omega (arith, size)) (is ∙ ap (λ (k : ℕ). get_or old.fixed k 0) (sym (less_none a))) ∙ ap (λ (k : ℕ). get_or new.fixed k 0) (less_none a)

  dynamic_held : (a : ℕ) → dynamic_base ≤ a → length new.fixed ≤ dynamic_base → a < dynamic_base + length new.dynamic → a < public_base → bytes a ≡ get_or old.dynamic (a - dynamic_base) 0 → bytes_with (sets_between old new) bytes a ≡ get_or new.dynamic (a - dynamic_base) 0
  dynamic_held a low few high top is = ap (λ (o : Option ℕ). unwrap_or o (bytes a)) (dynamic_part old new a (omega (arith, low, few)) top) ∙ covered dynamic_base a old.dynamic new.dynamic (bytes a) low high is

  public_held : (a : ℕ) → public_base ≤ a → length new.fixed ≤ dynamic_base → dynamic_base + length new.dynamic ≤ public_base → length old.public ≤ length new.public → bytes a ≡ get_or old.public (a - public_base) 0 → bytes_with (sets_between old new) bytes a ≡ get_or new.public (a - public_base) 0
  public_held a low few high size is = ap (λ (o : Option ℕ). unwrap_or o (bytes a)) (public_part old new a (omega (arith, low, few)) (omega (arith, low, high))) ∙ covered_all public_base a old.public new.public (bytes a) low size is

-- the bytes of the frame that ran a turn
turn_frame : (m : Memory) (depth dt : ℕ) (old new : Reading) → TurnFits old new dt → HoldsFrame m depth old → HoldsFrame (memory_after m (RunsTurn depth dt (sets_between old new))) depth new
turn_frame m depth dt old new fits held a high =
    let sets : List Run = sets_between old new in
    let bytes : ℕ → ℕ = m.frames depth in
    ap (λ (t : Bool). cond t (below_top dt a (bytes_with sets bytes a)) (bytes a)) (itself depth) ∙ by (nat_lt a dynamic_base) refl (held a high)
  where
    above : (t : Bool) → nat_le dt a ≡ t → dynamic_base ≤ a → m.frames depth a ≡ get_or old.dynamic (a - dynamic_base) 0 → cond (nat_le dynamic_base a && t) 0 (bytes_with (sets_between old new) (m.frames depth) a) ≡ get_or new.dynamic (a - dynamic_base) 0
    above true e low is =
        let far : dt ≤ a = grind (arith, nat_tests, e) in
        let d = fits.dynamic in
        let one : (nat_le dynamic_base a && true) ≡ true = grind (arith, nat_tests, low) in
        ap (λ (t : Bool). cond t 0 (bytes_with (sets_between old new) (m.frames depth) a)) one ∙ sym (past new.dynamic (a - dynamic_base) (omega (arith, far, d, low)))
    above false e low is =
        let near : a < dt = grind (arith, nat_tests, e) in
        let d = fits.dynamic in
        let few = fits.few in
        let size = fits.fixed in
        let one : (nat_le dynamic_base a && false) ≡ false = grind (arith, nat_tests, low) in
        ap (λ (t : Bool). cond t 0 (bytes_with (sets_between old new) (m.frames depth) a)) one
        ∙ dynamic_held old new (m.frames depth) a low (omega (arith, few, size)) (omega (arith, near, d)) high is

    by : (t : Bool) → nat_lt a dynamic_base ≡ t → m.frames depth a ≡ cond t (get_or old.fixed a 0) (get_or old.dynamic (a - dynamic_base) 0) → below_top dt a (bytes_with (sets_between old new) (m.frames depth) a) ≡ cond t (get_or new.fixed a 0) (get_or new.dynamic (a - dynamic_base) 0)
    by true e is =
        let low : (nat_le dynamic_base a && nat_le dt a) ≡ false = grind (arith, nat_tests, e) in
        ap (λ (t : Bool). cond t 0 (bytes_with (sets_between old new) (m.frames depth) a)) low ∙ static_held old new (m.frames depth) a (grind (arith, nat_tests, e)) fits.fixed is
    by false e is = above (nat_le dt a) refl (grind (arith, nat_tests, e)) is

-- the public bytes after a turn
turn_public : (m : Memory) (depth dt : ℕ) (old new : Reading) → TurnFits old new dt → HoldsPublic m old.public → HoldsPublic (memory_after m (RunsTurn depth dt (sets_between old new))) new.public
turn_public m depth dt old new fits held a low =
    let few = fits.few in
    let size = fits.fixed in
    let d = fits.dynamic in
    let high = fits.high in
    public_held old new m.public a low (omega (arith, few, size)) (omega (arith, d, high)) fits.public (held a low)

-- a frame that begins
begun_frame : (m : Memory) (depth : ℕ) (new : Reading) → FrameFits new → HoldsFrame (memory_after m (BeginsFrame depth (sets_between no_reading new))) depth new
begun_frame m depth new fits a high =
    let sets : List Run = sets_between no_reading new in
    ap (λ (t : Bool). cond t (bytes_with sets (λ b. 0) a) (m.frames depth a)) (itself depth) ∙ by (nat_lt a dynamic_base) refl
  where
    beyond : (k : ℕ) (l : List ℕ) (t : Bool) → nat_lt a (k + length l) ≡ t → k ≤ a → unwrap_or (covering_byte (changes k [] l) a) 0 ≡ get_or l (a - k) 0
    beyond k l true e low = covered k a [] l 0 low (grind (arith, nat_tests, e)) refl
    beyond k l false e low =
        let far : k + length l ≤ a = grind (arith, nat_tests, e) in
        ap (λ (o : Option ℕ). unwrap_or o 0) (after_none k a [] l far) ∙ sym (past l (a - k) (omega (arith, far)))

    by : (t : Bool) → nat_lt a dynamic_base ≡ t → bytes_with (sets_between no_reading new) (λ b. 0) a ≡ cond t (get_or new.fixed a 0) (get_or new.dynamic (a - dynamic_base) 0)
    by true e = ap (λ (o : Option ℕ). unwrap_or o 0) (static_part no_reading new a (grind (arith, nat_tests, e))) ∙ beyond 0 new.fixed (nat_lt a (0 + length new.fixed)) refl (omega arith) ∙ ap (λ (k : ℕ). get_or new.fixed k 0) (less_none a)
    by false e =
        let low : dynamic_base ≤ a = grind (arith, nat_tests, e) in
        let few = fits.few in
        ap (λ (o : Option ℕ). unwrap_or o 0) (dynamic_part no_reading new a (omega (arith, few, low)) high) ∙ beyond dynamic_base new.dynamic (nat_lt a (dynamic_base + length new.dynamic)) refl low

begun_public : (m : Memory) (new : Reading) → FrameFits new → HoldsPublic (memory_after m (BeginsFrame 1 (sets_between no_reading new))) new.public
begun_public m new fits a low =
    let few = fits.few in
    let high = fits.high in
    ap (λ (o : Option ℕ). unwrap_or o 0) (public_part no_reading new a (omega (arith, few, low)) (omega (arith, high, low))) ∙ by (nat_lt a (public_base + length new.public)) refl
  where
    by : (t : Bool) → nat_lt a (public_base + length new.public) ≡ t → unwrap_or (covering_byte (changes public_base [] new.public) a) 0 ≡ get_or new.public (a - public_base) 0
    by true e = covered public_base a [] new.public 0 low (grind (arith, nat_tests, e)) refl
    by false e =
        let far : public_base + length new.public ≤ a = grind (arith, nat_tests, e) in
        ap (λ (o : Option ℕ). unwrap_or o 0) (after_none public_base a [] new.public far) ∙ sym (past new.public (a - public_base) (omega (arith, far)))

-- ---- the frames below

-- the frames up to a depth are the same
abbrev SameBelow : Memory → Memory → ℕ → Type 0
SameBelow m k depth = (d : ℕ) → d ≤ depth → (a : ℕ) → k.frames d a ≡ m.frames d a

frames_kept : (m k : Memory) (fs : List Frame) → SameBelow m k (length fs) → HoldsFrames m fs → HoldsFrames k fs
frames_kept m k [] same held = tt
frames_kept m k (f ∷ fs) same held =
    (λ a high. same (length fs + 1) (omega arith) a ∙ held.0 a high, frames_kept m k fs (λ d low. same d (omega (arith, low))) held.1)

turn_below : (m : Memory) (depth dt : ℕ) (sets : List Run) (n : ℕ) → n < depth → SameBelow m (memory_after m (RunsTurn depth dt sets)) n
turn_below m depth dt sets n h d low a =
    let other : (d == depth) ≡ false = grind (arith, nat_tests, h, low) in
    ap (λ (t : Bool). cond t (below_top dt a (bytes_with sets (m.frames depth) a)) (m.frames d a)) other

begun_below : (m : Memory) (depth : ℕ) (sets : List Run) (n : ℕ) → n < depth → SameBelow m (memory_after m (BeginsFrame depth sets)) n
begun_below m depth sets n h d low a =
    let other : (d == depth) ≡ false = grind (arith, nat_tests, h, low) in
    ap (λ (t : Bool). cond t (bytes_with sets (λ b. 0) a) (m.frames d a)) other

-- ---- what follows a turn

-- The chain after a turn: the frame that ran it goes on; or it called a frame; or it ended and the frame below goes on.
data NextIs (r : Reading) (ch c : Chain) : Type 0 where
  Stays : c.below ≡ ch.below → reading_of c.frame c.public ≡ r → NextIs r ch c
  Enters : (g : Frame) → c.below ≡ g ∷ ch.below → reading_of g c.public ≡ r → NextIs r ch c
  Leaves : ch.below ≡ c.frame ∷ c.below → c.public ≡ r.public → NextIs r ch c

abbrev NextReads : Reading → Chain → Follows → Type 0
NextReads r ch f = OnNext (λ c. NextIs r ch c) f

exit_reads : (ch : Chain) (e : Effect) (fs : List Frame) → ch.below ≡ fs → (let c = chain_after_effect ch e in NextReads (exit_reading ch e (after_exit c fs)) ch (after_exit c fs))
exit_reads ch e [] is = last (nat_lt 1024 (la_of e.public))
  where
    last : (b : Bool) → (let c = chain_after_effect ch e in let f = cond {A = Follows} b (Ends (Abended A09)) (Ends (reply_of c)) in NextReads (exit_reading ch e f) ch f)
    last true = tt
    last false = tt
exit_reads ch e (f ∷ fs) is = Leaves is refl

called_reads : (ch : Chain) (e : Effect) (n : List ℕ) (a : App) (b : Bool) → (let c = called_app b (chain_after_effect ch e) n a in NextIs (reading_of e.frame c.public) ch c)
called_reads ch e n a true = Stays refl refl
called_reads ch e n a false = Enters e.frame refl refl

call_reads : (ch : Chain) (e : Effect) (n : List ℕ) (o : Option App) → (let c = chain_after_call (chain_after_effect ch e) n o in NextIs (reading_of e.frame c.public) ch c)
call_reads ch e n None = Stays refl refl
call_reads ch e n (Some a) = called_reads ch e n a (is_active n e.frame ch.below || nat_le 4 (depth_of (chain_after_effect ch e)))

done_reads : (ch : Chain) (e : Effect) (t : Then) → (let f = follows (chain_after_effect ch e) t in NextReads (done_reading ch e t f) ch f)
done_reads ch e Goes = Stays refl refl
done_reads ch e Exits = exit_reads ch e ch.below refl
done_reads ch e (Delegates n) = call_reads ch e n (lookup (chain_after_effect ch e).map n)

row_reads : (ch : Chain) (i : Ins) (r : RowEnd) → NextReads (row_reading ch r) ch (row_turn ch i r).follows
row_reads ch i (Abends c) = tt
row_reads ch i (Does d) = done_reads ch d.effect d.next

fetch_reads : (ch : Chain) (r : Result (Ins × ℕ) DecodeFault) → NextReads (fetch_reading ch r) ch (turn_of_fetch ch r).follows
fetch_reads ch (Err Undefined) = tt
fetch_reads ch (Err Past) = tt
fetch_reads ch (Ok i) = row_reads ch i.0 (row i.0 (frame_at ch.frame i.1) ch.public (around ch))

turn_reads : (n : ℕ) (ch : Chain) → NextReads (reading_after n ch) ch (turn_of n ch).follows
unfolding reading_after turn_of_chain
turn_reads zero ch = tt
turn_reads (suc n) ch = fetch_reads ch (instruction_at (code_in (lookup ch.map ch.frame.name)) ch.frame.at)

-- ---- a turn

-- memory after the line of a turn
record Turned (m : Memory) (n : ℕ) (ch : Chain) : Type 0 where
  frame : HoldsFrame m (depth_of ch) (reading_after n ch)
  public : HoldsPublic m (reading_after n ch).public
  below : HoldsFrames m ch.below

turned : (m : Memory) (n : ℕ) (ch : Chain) → HoldsChain m ch → ChainFits n ch → Turned (memory_after m (turn_line n ch)) n ch
turned m n ch held fits =
    let old = reading_of ch.frame ch.public in
    let new = reading_after n ch in
    let dt = (turn_of n ch).turn.dt in
    record {
      frame = turn_frame m (depth_of ch) dt old new fits.turn held.frames.0;
      public = turn_public m (depth_of ch) dt old new fits.turn held.public;
      below = frames_kept m (memory_after m (turn_line n ch)) ch.below (turn_below m (depth_of ch) dt (sets_between old new) (length ch.below) (omega arith)) held.frames.1;
    }

-- memory after the line of the frame that was called, if one was
next_held : (m : Memory) (n : ℕ) (ch c : Chain) → Turned m n ch → NextIs (reading_after n ch) ch c → FrameFits (reading_of c.frame c.public) → HoldsChain (memory_of m (called_lines (depth_of ch) (Continues c))) c
next_held m n ch c t (Stays below reads) fits =
    let same : nat_lt (depth_of ch) (depth_of c) ≡ false = let size : length c.below ≡ length ch.below = ap (λ (fs : List Frame). length fs) below in grind (arith, nat_tests, size) in
    let held : HoldsChain m c = record {
      frames = (
        subst (λ (r : Reading). HoldsFrame m (length c.below + 1) r) (sym reads) (subst (λ (k : ℕ). HoldsFrame m (k + 1) (reading_after n ch)) (sym (ap (λ (fs : List Frame). length fs) below)) t.frame),
        subst (λ (fs : List Frame). HoldsFrames m fs) (sym below) t.below,
      );
      public = subst (λ (r : Reading). HoldsPublic m r.public) (sym reads) t.public;
    }
    in
    subst (λ (b : Bool). HoldsChain (memory_of m (cond b (frame_line c ∷ []) [])) c) (sym same) held
next_held m n ch c t (Leaves below public) fits =
    let size : length ch.below ≡ length c.below + 1 = ap (λ (fs : List Frame). length fs) below ∙ omega arith in
    let less : nat_lt (depth_of ch) (depth_of c) ≡ false = grind (arith, nat_tests, size) in
    let held : HoldsChain m c = record {
      frames = subst (λ (fs : List Frame). HoldsFrames m fs) below t.below;
      public = subst (λ (p : List ℕ). HoldsPublic m p) (sym public) t.public;
    }
    in
    subst (λ (b : Bool). HoldsChain (memory_of m (cond b (frame_line c ∷ []) [])) c) (sym less) held
next_held m n ch c t (Enters g below reads) fits =
    let size : length c.below ≡ length ch.below + 1 = ap (λ (fs : List Frame). length fs) below ∙ omega arith in
    let more : nat_lt (depth_of ch) (depth_of c) ≡ true = grind (arith, nat_tests, size) in
    let later : (depth_of c == 1) ≡ false = grind (arith, nat_tests, size) in
    let k : Memory = memory_after m (frame_line c) in
    let first : HoldsFrame m (length ch.below + 1) (reading_of g c.public) = subst (λ (r : Reading). HoldsFrame m (length ch.below + 1) r) (sym reads) t.frame in
    let before : HoldsFrames m c.below = subst (λ (fs : List Frame). HoldsFrames m fs) (sym below) (first, t.below) in
    let begun : HoldsFrame k (depth_of c) (reading_of c.frame (cond (depth_of c == 1) c.public [])) = begun_frame m (depth_of c) (reading_of c.frame (cond (depth_of c == 1) c.public [])) (record { few = fits.few; high = fits.high }) in
    let public : HoldsPublic m c.public = subst (λ (r : Reading). HoldsPublic m r.public) (sym reads) t.public in
    let held : HoldsChain k c = record {
      frames = (begun, frames_kept m k c.below (begun_below m (depth_of c) (first_sets (depth_of c) c.frame c.public) (length c.below) (omega arith)) before);
      public = λ a low. ap (λ (b : Bool). cond b (bytes_with (first_sets (depth_of c) c.frame c.public) (λ b. 0) a) (m.public a)) later ∙ public a low;
    }
    in
    subst (λ (b : Bool). HoldsChain (memory_of m (cond b (frame_line c ∷ []) [])) c) (sym more) held

-- ---- a run

first_fits : (n : ℕ) (ch : Chain) → FitsAlong n ch → ChainFits n ch
first_fits zero ch h = h
first_fits (suc n) ch h = h.0

-- what follows a turn, by what is known of each chain that may follow
follow_held : (n : ℕ) (m : Memory) (ch : Chain) (f : Follows) → Turned m (suc n) ch → NextReads (reading_after (suc n) ch) ch f → OnNext (λ next. FitsAlong n next) f
    → ((k : Memory) (c : Chain) → HoldsChain k c → FitsAlong n c → HoldsAlong k n c)
    → HoldsOn (memory_of m (called_lines (depth_of ch) f)) (depth_of ch) (reading_after (suc n) ch) (λ k next. HoldsAlong k n next) f
follow_held n m ch (Ends o) t reads fit rest = record { frame = t.frame; public = t.public }
follow_held n m ch (Continues c) t reads fit rest = rest (memory_of m (called_lines (depth_of ch) (Continues c))) c (next_held m (suc n) ch c t reads (first_fits n c fit).frame) fit

held_along : (n : ℕ) (m : Memory) (ch : Chain) → HoldsChain m ch → FitsAlong n ch → HoldsAlong m n ch
held_along zero m ch held fits = let t = turned m zero ch held fits in (held, record { frame = t.frame; public = t.public })
held_along (suc n) m ch held fits =
    let k : Memory = memory_after m (turn_line (suc n) ch) in
    (held, follow_held n k ch (turn_of (suc n) ch).follows (turned m (suc n) ch held fits.0) (turn_reads (suc n) ch) fits.1 (λ k c h fit. held_along n k c h fit))

first_held : (n : ℕ) (ch : Chain) → ch.below ≡ [] → ChainFits n ch → HoldsChain (memory_after no_memory (frame_line ch)) ch
first_held n ch none fits =
    let depth : depth_of ch ≡ 1 = ap (λ (fs : List Frame). length fs + 1) none in
    let one : (depth_of ch == 1) ≡ true = grind (arith, nat_tests, depth) in
    let r = reading_of ch.frame ch.public in
    let sets : first_sets (depth_of ch) ch.frame ch.public ≡ sets_between no_reading r = ap (λ (b : Bool). sets_between no_reading (reading_of ch.frame (cond b ch.public []))) one in
    let m : Memory = memory_after no_memory (BeginsFrame 1 (sets_between no_reading r)) in
    let same : memory_after no_memory (frame_line ch) ≡ m =
    ap (λ (s : List Run). memory_after no_memory (BeginsFrame (depth_of ch) s)) sets ∙ ap (λ (d : ℕ). memory_after no_memory (BeginsFrame d (sets_between no_reading r))) depth
    in
    let frame : HoldsFrame m (depth_of ch) r = subst (λ (d : ℕ). HoldsFrame m d r) (sym depth) (begun_frame no_memory 1 r fits.frame) in
    let held : HoldsChain m ch = record { frames = (frame, subst (λ (fs : List Frame). HoldsFrames m fs) (sym none) tt); public = begun_public no_memory r fits.frame } in
    subst (λ (k : Memory). HoldsChain k ch) (sym same) held

-- each byte of each frame of a command is known from its lines alone
pub replay : ReplayLaw
replay n ch none fits = held_along n (memory_after no_memory (frame_line ch)) ch (first_held n ch none (first_fits n ch fits)) fits
