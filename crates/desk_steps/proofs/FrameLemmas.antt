-- The frame that a turn calls: whether it calls one, and its line.
use Rattle.std.proofs.Common.{◌≡◌, inl, inr, ℕ, suc, ◌+◌, ◌≤◌, Bool, true, false, cond, not, List, [], ◌∷◌, Option, Some, refl, arith, sym, ap, ◌∙◌}
use Rattle.std.proofs.lemmas.Bool.Decides.{nat_tests}
use Rattle.std.specs.Prelude.{◌==◌, bytes_eq, length, nat_lt}
use Rattle.mc_text.specs.model_machine.specs.declared.instruction.Ins.{Ins}
use Rattle.mc_text.specs.model_machine.specs.declared.machine.Abend.{Abend}
use Rattle.mc_text.specs.model_machine.specs.Frame.{Frame}
use Rattle.mc_text.specs.model_machine.specs.Chain.{Chain, Follows, Continues, Ends, Abended, depth_of, turn_of}
use Rattle.law_steps.specs.Nexts.{Nexts}
use Rattle.law_steps.specs.Readings.{Reading, first_sets, no_reading, reading_of, sets_between}
use Rattle.law_steps.specs.Registers.{frame_after}
use Rattle.law_steps.specs.Shown.{is_exit_of}
use Rattle.law_steps.proofs.NextFrames.{next_law}
use Rattle.law_steps.proofs.Opens.{next_end}
use Rattle.desk_steps.specs.declared.shot.Shot.{Shot}
use Rattle.desk_steps.specs.Lines.{frame_text}
use Rattle.desk_steps.specs.Recorded.{first_before, first_by}
use Rattle.desk_steps.specs.Shots.{frame_changes}
use Rattle.desk_steps.specs.Turning.{IsBefore, IsOneDeeper, is_deeper, is_other}

-- ---- depths

same_depth : (ch c : Chain) → c.below ≡ ch.below → nat_lt (depth_of ch) (depth_of c) ≡ false
same_depth ch c e = let size : length c.below ≡ length ch.below = ap (λ (fs : List Frame). length fs) e in grind (arith, nat_tests, size)

more_depth : (ch c : Chain) (f : Frame) → c.below ≡ f ∷ ch.below → length c.below ≡ length ch.below + 1
more_depth ch c f e = let size : length c.below ≡ suc (length ch.below) = ap (λ (fs : List Frame). length fs) e in omega (arith, size)

called_depth : (ch c : Chain) (f : Frame) → c.below ≡ f ∷ ch.below → nat_lt (depth_of ch) (depth_of c) ≡ true
called_depth ch c f e = let size = more_depth ch c f e in grind (arith, nat_tests, size)

left_depth : (ch c : Chain) → ch.below ≡ c.frame ∷ c.below → nat_lt (depth_of ch) (depth_of c) ≡ false
left_depth ch c e = let size : length ch.below ≡ suc (length c.below) = ap (λ (fs : List Frame). length fs) e in grind (arith, nat_tests, size)

true_is_not : (b : Bool) → b ≡ true → b ≡ false → ⊥
true_is_not b e f = absurd (cc (sym e ∙ f))

-- ---- whether a turn calls a frame

-- a turn that abends calls none
pub abend_calls : (n : ℕ) (ch : Chain) (c : Abend) → (turn_of n ch).turn.end ≡ Some (Abended c) → is_deeper (depth_of ch) (turn_of n ch).follows ≡ false
abend_calls n ch a end = by (turn_of n ch).follows refl
  where
    by : (f : Follows) → (turn_of n ch).follows ≡ f → is_deeper (depth_of ch) f ≡ false
    by (Ends o) e = refl
    by (Continues c) e = absurd (cc (sym end ∙ next_end n ch c e))

exit_next : (ch c : Chain) (f : Frame) (ins : Option Ins) (i : Ins) → ins ≡ Some i → is_exit_of i ≡ true → Nexts ch f ins c → nat_lt (depth_of ch) (depth_of c) ≡ false
exit_next ch c f ins i is exits (inl s) = let same : i ≡ (s.ran).0 = cc (sym is ∙ (s.ran).1) in absurd (true_is_not (is_exit_of i) exits (ap (λ (j : Ins). is_exit_of j) same ∙ (s.ran).2))
exit_next ch c f ins i is exits (inr (inl s)) = let same : i ≡ (s.ran).0 = cc (sym is ∙ (s.ran).1) in absurd (true_is_not (is_exit_of i) exits (ap (λ (j : Ins). is_exit_of j) same ∙ (s.ran).2))
exit_next ch c f ins i is exits (inr (inr s)) = left_depth ch c s.below

-- nor does one that exits
pub exit_calls : (n : ℕ) (ch : Chain) (i : Ins) → (turn_of n ch).turn.ins ≡ Some i → is_exit_of i ≡ true → is_deeper (depth_of ch) (turn_of n ch).follows ≡ false
exit_calls n ch i is exits = by (turn_of n ch).follows refl
  where
    by : (f : Follows) → (turn_of n ch).follows ≡ f → is_deeper (depth_of ch) f ≡ false
    by (Ends o) e = refl
    by (Continues c) e = exit_next ch c (frame_after n ch) (turn_of n ch).turn.ins i is exits (next_law n ch c e)

going_next : (ch c : Chain) (f : Frame) (ins : Option Ins) → ((i : Ins) → ins ≡ Some i → is_exit_of i ≡ false) → Nexts ch f ins c → not (bytes_eq c.frame.name ch.frame.name) ≡ nat_lt (depth_of ch) (depth_of c)
going_next ch c f ins stays (inl s) = ap not s.name ∙ sym (same_depth ch c s.below)
going_next ch c f ins stays (inr (inl s)) = ap not s.name ∙ sym (called_depth ch c f s.below)
going_next ch c f ins stays (inr (inr s)) = absurd (true_is_not (is_exit_of (s.exits).0) (s.exits).2 (stays (s.exits).0 (s.exits).1))

-- any other turn calls the frame that runs after it, if that has another name
pub going_calls : (n : ℕ) (ch : Chain) → ((i : Ins) → (turn_of n ch).turn.ins ≡ Some i → is_exit_of i ≡ false) → is_other (turn_of n ch).follows ch.frame.name ≡ is_deeper (depth_of ch) (turn_of n ch).follows
going_calls n ch stays = by (turn_of n ch).follows refl
  where
    by : (f : Follows) → (turn_of n ch).follows ≡ f → is_other f ch.frame.name ≡ is_deeper (depth_of ch) f
    by (Ends o) e = refl
    by (Continues c) e = going_next ch c (frame_after n ch) (turn_of n ch).turn.ins stays (next_law n ch c e)

deeper_next : (ch c : Chain) (f : Frame) (ins : Option Ins) → Nexts ch f ins c → nat_lt (depth_of ch) (depth_of c) ≡ true → (depth_of c ≡ depth_of ch + 1) × (depth_of ch ≤ 3)
deeper_next ch c f ins (inl s) h = absurd (true_is_not (nat_lt (depth_of ch) (depth_of c)) h (same_depth ch c s.below))
deeper_next ch c f ins (inr (inl s)) h = let size = more_depth ch c f s.below in let few = s.few in (omega (arith, size), omega (arith, few))
deeper_next ch c f ins (inr (inr s)) h = absurd (true_is_not (nat_lt (depth_of ch) (depth_of c)) h (left_depth ch c s.below))

-- a frame that a turn called is one deeper
pub one_deeper : (n : ℕ) (ch : Chain) → IsOneDeeper (depth_of ch) (turn_of n ch).follows
one_deeper n ch = by (turn_of n ch).follows refl
  where
    by : (f : Follows) → (turn_of n ch).follows ≡ f → IsOneDeeper (depth_of ch) f
    by (Ends o) e = tt
    by (Continues c) e = deeper_next ch c (frame_after n ch) (turn_of n ch).turn.ins (next_law n ch c e)

-- ---- the bytes of a frame that begins

first_shown : (s : Shot) (ch : Chain) → IsBefore s ch → 512 ≤ length ch.frame.dyn → frame_changes true s ≡ first_sets 1 ch.frame ch.public
first_shown s ch before wide = ap (λ (r : Reading). sets_between no_reading r) (before.reading wide)

-- the line of the first frame
pub first_is : (n : ℕ) (command name : List ℕ) (s : Shot) (ch : Chain) → name ≡ ch.frame.name → IsBefore s ch → 512 ≤ length ch.frame.dyn → first_by n command name s ≡ first_before n command ch
first_is n command name s ch named before wide =
    ap (λ (m : List ℕ). cond (n == 0) (frame_text 1 m (Some command) (frame_changes true s)) []) named ∙ ap (λ (rs : List (ℕ × List ℕ)). cond (n == 0) (frame_text 1 ch.frame.name (Some command) rs) []) (first_shown s ch before wide)

-- the bytes of a frame that was called
pub called_shown : (s : Shot) (ch : Chain) (d : ℕ) → IsBefore s ch → 512 ≤ length ch.frame.dyn → 2 ≤ d → frame_changes false s ≡ first_sets d ch.frame ch.public
called_shown s ch d before wide deep =
    let other : (d == 1) ≡ false = grind (arith, nat_tests, deep) in
    ap (λ (r : Reading). sets_between no_reading (record r { public = [] })) (before.reading wide) ∙ sym (ap (λ (b : Bool). sets_between no_reading (reading_of ch.frame (cond b ch.public []))) other)
