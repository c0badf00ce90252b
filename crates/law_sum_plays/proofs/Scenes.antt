-- An instruction at a place, whose outcomes a table of sums has: the scene of a choice that the memory makes, or, of too
-- many choices, the scene that stands for the place.
use Rattle.std.proofs.Common.{◌≡◌, ◌⊎◌, inl, inr, ℕ, suc, ◌+◌, ◌-◌, ◌≤◌, Bool, true, false, List, [], ◌∷◌, ◌++◌, length, Option, Some, None, Ok, refl, sym, ap, subst, ◌∙◌, arith}
use Rattle.std.specs.List.{AllByRecursion}
use Rattle.std.proofs.lemmas.Bool.{and_parts}
use Rattle.std.proofs.lemmas.List.{length-replicate}
use Rattle.law_sums.specs.model_device.specs.Bytes.{zeros}
use Rattle.law_sums.specs.model_device.proofs.ImageLemmas.{all_append}
use Rattle.law_sums.specs.model_machine.specs.declared.instruction.Ins.{Ins}
use Rattle.law_sums.specs.model_machine.specs.Code.{Shaped}
use Rattle.law_sums.specs.model_machine.specs.Frame.{Frame, dynamic_base, public_base, public_end, is_outside}
use Rattle.law_sums.specs.model_machine.specs.Primitives.{Around}
use Rattle.law_sums.specs.model_machine.specs.Chain.{frame_at}
use Rattle.law_sums.specs.law_promise.specs.Outline.{Entry, FitsEntry}
use Rattle.law_sums.specs.law_promise.specs.Domain.{IsDelegator}
use Rattle.law_sums.specs.model_rules.specs.Happenings.{Event, History}
use Rattle.law_sums.specs.model_prove.specs.Facts.{Facts, Memory}
use Rattle.law_sums.specs.model_prove.specs.Keys.{Start, Delegated, OfClass, Tables}
use Rattle.law_sums.specs.model_prove.specs.Laws.{Among, values_in}
use Rattle.law_sums.specs.model_prove.specs.Splits.{Scene, Choice, stand_in, stand_in_stack, with_values, deciders, later_deciders, combinations, few_combinations}
use Rattle.law_sums.specs.model_prove.specs.Reach.{target_choices, takes_target}
use Rattle.law_sums.specs.model_prove.specs.Arrivals.{Setting}
use Rattle.law_sums.specs.model_prove.specs.Steps.{Spot, arounds, primitive_of, inside, coarse_around}
use Rattle.law_sums.specs.model_prove.proofs.ChangeLemmas.{choice_is_there}
use Rattle.law_prove_closed.specs.law_prove.specs.Coverings.{parts_memory, frame_memory, IsPlace}
use Rattle.law_prove_closed.specs.law_prove.proofs.Alike.{Sized, stack_length}
use Rattle.law_prove_closed.specs.law_prove.proofs.Turns.{blank, framed_of, stand_in_like}
use Rattle.law_prove_closed.specs.law_prove.proofs.ReachScenes.{scene_of, Fits, Standing, values_stand, same_outside, all_inside_of, among_inside}
use Rattle.law_prove_closed.specs.law_prove.proofs.Choices.{choice_among}
use Rattle.law_sums.specs.model_sums.specs.Sums.{Sums, SumsTable}
use Rattle.law_sums.specs.model_sums.specs.Says.{SumsHold}
use Rattle.law_sums.specs.model_sums.specs.Closed.{Turn, all_pass, turn_closed, choice_closed, first_choice_closed, coarse_closed, choices_closed, fetched_closed}
use Rattle.law_sum_plays.specs.Rows.{spot_at}
use Rattle.law_prove_closed.specs.law_prove.proofs.Blocks.{among_left}

-- ---- lists

-- what passes for all passes for one
pub all_at : {A : Type 0} (test : A → Bool) (x : A) (xs : List A) → Among x xs → all_pass test xs ≡ true → test x ≡ true
all_at test x [] a e = absurd a
all_at {A} test x (y ∷ xs) a e =
    let p = and_parts (test y) (all_pass test xs) e in
    elim a [
      | inl is ↦ subst (λ (z : A). test z ≡ true) is p.0
      | inr more ↦ all_at test x xs more p.1
    ]

values_append : (m : Memory) (p q : List ℕ) → values_in m (p ++ q) ≡ values_in m p ++ values_in m q
values_append m [] q = refl
values_append m (a ∷ p) q = ap (λ (c : Choice). (a, m a) ∷ c) (values_append m p q)

-- ---- an instruction at a place

-- An instruction at a place of tables, before which what is known for sums holds, and whose outcomes a table of sums has.
pub record Step (s : Setting) (t : Tables) (u : SumsTable) (i : Ins) : Type 0 where
  pub entry : Entry Event
  pub history : History
  pub frame : Frame
  pub public : List ℕ
  pub around : Around
  pub next : ℕ
  pub place : IsPlace s t entry history frame public
  pub fits : FitsEntry entry around
  pub names : IsDelegator around.delegator
  pub whole : 1041 ≤ length public
  pub small : length s.app.fixed ≤ dynamic_base
  pub shaped : Shaped i
  pub before : Sums
  pub sums : SumsHold s.rules.totals before frame.protected (frame_memory frame public) frame.fixed place.standing
  pub closed : fetched_closed s u (spot_at s t entry history frame public place) before (Ok (i, next)) ≡ true

module _ (s : Setting) (t : Tables) (u : SumsTable) (i : Ins) (step : Step s t u i) where
  -- the frame after the fetch, and its bytes
  abbrev pub fetched : Frame
  fetched = frame_at step.frame step.next

  -- the bytes of the frame after the fetch
  abbrev pub memory : Memory
  memory = frame_memory fetched step.public

  -- the place with what tables know there
  abbrev pub spot : Spot
  spot = spot_at s t step.entry step.history step.frame step.public step.place

  -- the scene that stands for the place
  abbrev pub base : Scene
  base = scene_of fetched (zeros (length step.frame.fixed)) (stand_in_stack step.place.calls) blank

  -- the turn in a scene
  abbrev pub turn_in : Scene → Turn
  turn_in z = record { ins = i; scene = z; spot = spot; sums = step.before }

  -- the segments of the frame have their lengths
  pub sized : Sized fetched step.public
  sized = grind (arith, step.place.frame, step.place.frame.size, step.small)

  -- so have those of the scene
  pub base_fits : Fits fetched (zeros (length step.frame.fixed)) (stand_in_stack step.place.calls) blank
  base_fits =
      let z : Sized fetched step.public = sized in
      let count : length (zeros (public_end - public_base)) ≡ public_end - public_base = length-replicate {A = ℕ} (public_end - public_base) 0 in
      record {
        small = z.small;
        size = length-replicate {A = ℕ} (length step.frame.fixed) 0;
        room = stack_length (dynamic_base + step.frame.session) step.frame.dt step.frame.lb step.frame.dyn step.place.calls (omega arith) z.high step.place.open_calls;
        high = z.high;
        whole = omega (arith, count);
      }

  -- what was fetched, in that scene
  pub by_base : choices_closed (few_combinations step.place.known.bytes (inside base (deciders i base.frame))) (takes_target i) s u (turn_in base) ≡ true
  by_base =
      grind (arith, frame_at (stand_in s.app spot.key).frame step.next, stand_in_like s.app step.frame step.place.start step.place.standing.allowances step.place.calls step.next (framed_of s.app step.frame step.place.frame))

  -- ---- few choices

  -- A scene that has the deciding bytes of the memory, in which the turn is closed.
  pub record Found (places : List ℕ) (x : Around) : Type 0 where
    pub fixed : List ℕ
    pub dyn : List ℕ
    pub public : List ℕ
    pub fits : Fits fetched fixed dyn public
    pub agrees : (b : ℕ) → Among b places → is_outside fetched b 1 ≡ false → parts_memory (length step.frame.fixed) fixed dyn public b ≡ memory b
    pub closed : turn_closed s u (turn_in (scene_of fetched fixed dyn public)) x ≡ true

  -- of places that lie in a segment
  found_of : (places inner : List ℕ) (x : Around) → AllByRecursion (λ a. is_outside fetched a 1 ≡ false) inner → ((b : ℕ) → Among b places → is_outside fetched b 1 ≡ false → Among b inner)
      → turn_closed s u (turn_in (with_values base (values_in memory inner))) x ≡ true → Found places x
  found_of places inner x all among e =
      let fixed = zeros (length step.frame.fixed) in
      let dyn = stand_in_stack step.place.calls in
      let stand : Standing fetched (with_values base (values_in memory inner)) memory (parts_memory (length step.frame.fixed) fixed dyn blank) inner = values_stand fetched memory inner fixed dyn blank base_fits all in
      record {
        fixed = stand.fixed;
        dyn = stand.dyn;
        public = stand.public;
        fits = stand.fits;
        agrees = λ b there low. stand.agrees b (inr (among b there low));
        closed = subst (λ (z : Scene). turn_closed s u (turn_in z) x ≡ true) stand.is e;
      }

  -- of few choices one is that of the memory, and its scene is closed
  pub found_few : (places : List ℕ) (cs : List Choice) (x : Around) → Among x (arounds step.place.start (primitive_of i)) → few_combinations step.place.known.bytes (inside base places) ≡ Some cs
      → all_pass (first_choice_closed s u (turn_in base)) cs ≡ true → Found places x
  found_few places cs x among e all =
      let known : Facts = step.place.known.bytes in
      let fixed = zeros (length step.frame.fixed) in
      let dyn = stand_in_stack step.place.calls in
      let w : Turn = turn_in base in
      let first = inside base places in
      let c : Choice = values_in memory first in
      let one : first_choice_closed s u w c ≡ true = all_at (first_choice_closed s u w) c cs (choice_among known first memory cs e step.place.holds step.place.bytes) all in
      let z : Scene = with_values base c in
      let later = inside z (later_deciders i z.frame) in
      let d : Choice = values_in memory later in
      let two : choice_closed s u w (c ++ d) ≡ true = all_at (λ d. choice_closed s u w (c ++ d)) d (combinations known later) (choice_is_there known later memory step.place.holds step.place.bytes) one in
      let three : turn_closed s u (turn_in (with_values base (c ++ d))) x ≡ true = all_at (turn_closed s u (turn_in (with_values base (c ++ d)))) x (arounds step.place.start (primitive_of i)) among two in
      let all_first : AllByRecursion (λ a. is_outside fetched a 1 ≡ false) first =
      all_inside_of (λ a. is_outside base.frame a 1) (λ a. is_outside fetched a 1) places (λ a. same_outside fetched fixed dyn a 1 base_fits.size)
      in
      let stand : Standing fetched z memory (parts_memory (length step.frame.fixed) fixed dyn blank) first = values_stand fetched memory first fixed dyn blank base_fits all_first in
      let all_later : AllByRecursion (λ a. is_outside fetched a 1 ≡ false) later =
      all_inside_of (λ a. is_outside z.frame a 1) (λ a. is_outside fetched a 1) (later_deciders i z.frame)
      (λ a. ap (λ (q : Scene). is_outside q.frame a 1) stand.is ∙ same_outside fetched stand.fixed stand.dyn a 1 stand.fits.size)
      in
      found_of places (first ++ later) x (all_append (λ a. is_outside fetched a 1 ≡ false) first later all_first all_later)
      (λ b there low. among_left b first later (among_inside (λ a. is_outside base.frame a 1) b places there (same_outside fetched fixed dyn b 1 base_fits.size ∙ low)))
      (subst (λ (c : Choice). turn_closed s u (turn_in (with_values base c)) x ≡ true) (sym (values_append memory first later)) three)

  -- ---- few choices or many

  -- the outcomes of too many choices
  abbrev pub IsCoarse : Type 0
  IsCoarse = coarse_closed s u (turn_in base) (coarse_around step.place.start) ≡ true

  by_number : (o : Option (List Choice)) (places : List ℕ) (x : Around) → Among x (arounds step.place.start (primitive_of i)) → few_combinations step.place.known.bytes (inside base places) ≡ o
      → choices_closed o false s u (turn_in base) ≡ true → Found places x ⊎ IsCoarse
  by_number (Some cs) places x among e all = inl (found_few places cs x among e all)
  by_number None places x among e all = inr all

  by_target : (b : Bool) → takes_target i ≡ b → choices_closed (few_combinations step.place.known.bytes (inside base (deciders i base.frame))) b s u (turn_in base) ≡ true
  by_target b e = subst (λ (b : Bool). choices_closed (few_combinations step.place.known.bytes (inside base (deciders i base.frame))) b s u (turn_in base) ≡ true) e by_base

  -- an instruction that takes no target from the stack has few choices or many
  pub few_or_many : (x : Around) → Among x (arounds step.place.start (primitive_of i)) → takes_target i ≡ false → Found (deciders i base.frame) x ⊎ IsCoarse
  few_or_many x among e = by_number (few_combinations step.place.known.bytes (inside base (deciders i base.frame))) (deciders i base.frame) x among refl (by_target false e)

  -- one that no byte decides has one
  pub found_one : (x : Around) → Among x (arounds step.place.start (primitive_of i)) → takes_target i ≡ false → deciders i base.frame ≡ [] → Found [] x
  found_one x among e none = grind (arith, found_few, by_target)

  -- ---- a target that the stack has

  -- two bytes that are one of the choices that are followed
  found_pair : (a : ℕ) (cs : List Choice) (x : Around) → Among x (arounds step.place.start (primitive_of i)) → Among (values_in memory (a ∷ suc a ∷ [])) cs → is_outside fetched a 1 ≡ false → is_outside fetched (suc a) 1 ≡ false
      → all_pass (choice_closed s u (turn_in base)) cs ≡ true → Found [] x
  found_pair a cs x among there first second all =
      let c : Choice = values_in memory (a ∷ suc a ∷ []) in
      let one : choice_closed s u (turn_in base) c ≡ true = all_at (choice_closed s u (turn_in base)) c cs there all in
      let two : turn_closed s u (turn_in (with_values base c)) x ≡ true = all_at (turn_closed s u (turn_in (with_values base c))) x (arounds step.place.start (primitive_of i)) among one in
      found_of [] (a ∷ suc a ∷ []) x (first, (second, tt)) (λ b none low. absurd none) two

  -- a scene of any choice, of which nothing is said
  forgotten : (places : List ℕ) (x : Around) → Found places x → Found [] x
  forgotten places x o = record { fixed = o.fixed; dyn = o.dyn; public = o.public; fits = o.fits; agrees = λ b none low. absurd none; closed = o.closed }

  target_by : (o : Option (List Choice)) (places : List ℕ) (x : Around) → Among x (arounds step.place.start (primitive_of i)) → few_combinations step.place.known.bytes (inside base places) ≡ o
      → Among (values_in memory ((step.frame.dt - 2) ∷ suc (step.frame.dt - 2) ∷ [])) (target_choices step.place.known.bytes (step.frame.dt - 2) (length s.app.code))
      → is_outside fetched (step.frame.dt - 2) 1 ≡ false → is_outside fetched (suc (step.frame.dt - 2)) 1 ≡ false → choices_closed o true s u (turn_in base) ≡ true → Found [] x
  target_by (Some cs) places x among e there first second all = forgotten places x (found_few places cs x among e all)
  target_by None places x among e there first second all = found_pair (step.frame.dt - 2) (target_choices step.place.known.bytes (step.frame.dt - 2) (length s.app.code)) x among there first second all

  -- an instruction that takes its target from the stack, if that is a place of the code
  pub found_target : (x : Around) → Among x (arounds step.place.start (primitive_of i)) → takes_target i ≡ true
      → Among (values_in memory ((step.frame.dt - 2) ∷ suc (step.frame.dt - 2) ∷ [])) (target_choices step.place.known.bytes (step.frame.dt - 2) (length s.app.code))
      → is_outside fetched (step.frame.dt - 2) 1 ≡ false → is_outside fetched (suc (step.frame.dt - 2)) 1 ≡ false → Found [] x
  found_target x among e there first second =
      target_by (few_combinations step.place.known.bytes (inside base (deciders i base.frame))) (deciders i base.frame) x among refl there first second (by_target true e)

-- nobody is around a frame, if its instruction does not ask
pub nobody_among : (st : Start) → Among (record { case = 1; delegator = None }) (arounds st None)
nobody_among Delegated = inl refl
nobody_among (OfClass class) = inl refl
