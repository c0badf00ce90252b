-- Protection that is computed turn by turn, from the turns alone, is that of the frames.
use Rattle.std.proofs.Common.{◌≡◌, inl, inr, ℕ, zero, suc, ◌+◌, ◌<◌, ◌≤◌, Bool, true, false, cond, List, [], ◌∷◌, length, Option, Some, None, refl, arith, sym, ap, subst, ◌∙◌}
use Rattle.std.proofs.lemmas.Bool.Decides.{nat_tests}
use Rattle.std.proofs.lemmas.List.{get_or-set_other}
use Rattle.std.specs.Prelude.{get_or, nat_lt, slice_index, slice_set}
use Rattle.law_promise.specs.model_events.specs.model_machine.specs.declared.instruction.Ins.{Ins}
use Rattle.law_promise.specs.model_events.specs.model_machine.specs.declared.instruction.Ins.TheVariants as ins
use Rattle.law_promise.specs.model_events.specs.model_machine.specs.Frame.{Frame}
use Rattle.law_promise.specs.model_events.specs.model_machine.specs.Primitives.{Primitive, SetProtection, primitive}
use Rattle.law_promise.specs.model_events.specs.model_machine.specs.Chain.{Chain, Continues, Follows, Outcome, depth_of, turn_of}
use Rattle.law_steps.specs.Registers.{frame_after, mode_of as mode_by_shape, pair_mode, protection_after_mode}
use Rattle.law_steps.specs.Nexts.{AllOpen, Nexts, OpensOf, RanOn, called_opens, open_by, open_on, opens_after}
use Rattle.law_steps.proofs.NextFrames.{next_law}
use Rattle.law_steps.proofs.Opens.{next_end, opens_law}
use Rattle.model_rules.specs.Keeping.{mode_of, mode_of_primitive}
use Rattle.law_events.specs.Turns.{mode_in, opens_seen}

-- ---- modes

-- the mode of an instruction is one, by either definition
same_mode : (i : Ins) → mode_by_shape i ≡ mode_of i
same_mode (ins.Prim set number args) = same_pair (primitive set number) args
  where
    same_pair : (p : Option Primitive) (args : List ℕ) → pair_mode p args ≡ mode_of_primitive p (slice_index args 0)
    same_pair None args = refl
    same_pair (Some SetProtection) args = refl
    same_pair (Some _) args = refl
same_mode _ = refl

-- ---- by depth

set_length : (os : List Bool) (i : ℕ) (b : Bool) → length (slice_set os i b) ≡ length os
set_length [] i b = refl
set_length (o ∷ os) zero b = refl
set_length (o ∷ os) (suc i) b = ap (λ (n : ℕ). suc n) (set_length os i b)

-- frames below a depth keep their protection
all_below : (os : List Bool) (fs : List Frame) (i : ℕ) (b : Bool) → length fs ≤ i → AllOpen os fs → AllOpen (slice_set os i b) fs
all_below os [] i b h all = tt
all_below os (f ∷ fs) i b h all =
    let less : length fs < i = omega (arith, h) in
    (get_or-set_other os i (length fs) b false (λ e. omega (arith, e, less)) ∙ all.0, all_below os fs i b (omega (arith, h)) all.1)

-- protection with one of a deeper frame, which is not there
opens_below : (os : List Bool) (c : Chain) (i : ℕ) (b : Bool) → length c.below < i → OpensOf os c → OpensOf (slice_set os i b) c
opens_below os c i b h o = record { size = set_length os i b ∙ o.size; few = o.few; all = all_below os (c.frame ∷ c.below) i b (omega (arith, h)) o.all }

-- ---- after a turn

module _ (n : ℕ) (ch c : Chain) (os : List Bool) (o : OpensOf os ch) (next : (turn_of n ch).follows ≡ Continues c) where
  abbrev d : ℕ
  d = length ch.below

  -- protection of the frame that ran the turn, after an instruction that does not exit
  abbrev on : Bool
  on = protection_after_mode (mode_in (turn_of n ch).turn.ins) (get_or os d false)

  ran_on : (e : Option Outcome) (i : Option Ins) (b : Bool) → e ≡ None → RanOn i → open_by e i b ≡ protection_after_mode (mode_in i) b
  ran_on e i b none ran =
      ap (λ (x : Option Outcome). open_by x i b) none ∙ ap (λ (x : Option Ins). open_on x b) ran.1
      ∙ ap (λ (x : Bool). cond x false (protection_after_mode (mode_by_shape ran.0) b)) ran.2
      ∙ ap (λ (m : Option ℕ). protection_after_mode m b) (same_mode ran.0) ∙ ap (λ (x : Option Ins). protection_after_mode (mode_in x) b) (sym ran.1)

  -- the law's protection, if the instruction does not exit
  opens_are : RanOn (turn_of n ch).turn.ins → opens_after n ch os ≡ called_opens (depth_of ch) (Continues c) (slice_set os d on)
  opens_are ran =
      let t = (turn_of n ch).turn in
      ap (λ (f : Follows). called_opens (depth_of ch) f (slice_set os d (open_by t.end t.ins (get_or os d false)))) next
      ∙ ap (λ (b : Bool). called_opens (depth_of ch) (Continues c) (slice_set os d b)) (ran_on t.end t.ins (get_or os d false) (next_end n ch c next) ran)

  law : OpensOf (opens_after n ch os) c
  law = opens_law.onward n ch c os o next

  by : Nexts ch (frame_after n ch) (turn_of n ch).turn.ins c → OpensOf (opens_seen n ch os) c
  by (inl s) =
      let same : length c.below ≡ d = ap (λ (fs : List Frame). length fs) s.below in
      let less : nat_lt (d + 1) (length c.below + 1) ≡ false = grind (arith, nat_tests, same) in
      let is : opens_after n ch os ≡ slice_set os d on = opens_are s.ran ∙ ap (λ (b : Bool). cond b (slice_set (slice_set os d on) (d + 1) false) (slice_set os d on)) less in
      opens_below (slice_set os d on) c (d + 1) false (omega (arith, same)) (subst (λ (xs : List Bool). OpensOf xs c) is law)
  by (inr (inl s)) =
      let more : length c.below ≡ d + 1 = ap (λ (fs : List Frame). length fs) s.below ∙ omega arith in
      let deep : nat_lt (d + 1) (length c.below + 1) ≡ true = grind (arith, nat_tests, more) in
      let is : opens_after n ch os ≡ opens_seen n ch os = opens_are s.ran ∙ ap (λ (b : Bool). cond b (slice_set (slice_set os d on) (d + 1) false) (slice_set os d on)) deep in
      subst (λ (xs : List Bool). OpensOf xs c) is law
  by (inr (inr s)) =
      let one : d ≡ length c.below + 1 = ap (λ (fs : List Frame). length fs) s.below ∙ omega arith in
      let few = o.few in
      let kept : OpensOf os c = record { size = o.size; few = omega (arith, few, one); all = subst (λ (fs : List Frame). AllOpen os fs) s.below o.all.1 } in
      opens_below (slice_set os d on) c (d + 1) false (omega (arith, one)) (opens_below os c d on (omega (arith, one)) kept)

  pub seen_opens_by : OpensOf (opens_seen n ch os) c
  seen_opens_by = by (next_law n ch c next)

-- protection that is computed turn by turn is that of the frames
pub seen_opens : (n : ℕ) (ch c : Chain) (os : List Bool) → OpensOf os ch → (turn_of n ch).follows ≡ Continues c → OpensOf (opens_seen n ch os) c
seen_opens n ch c os o next = seen_opens_by n ch c os o next
