-- An instruction that is followed for each combination of its deciding bytes is followed for those of the machine: in a
-- scene that has them, at a place that knows them.
use Rattle.std.proofs.Common.{◌≡◌, ◌⊎◌, inl, inr, ℕ, Bool, true, false, List, [], ◌∷◌, ◌++◌, length, Option, Some, None, Ok, refl, ap, subst, ◌∙◌, arith}
use Rattle.std.specs.Prelude.{nat_le, flat_map}
use Rattle.std.specs.List.{AllByRecursion}
use Rattle.std.proofs.lemmas.List.{length-replicate}
use Rattle.law_prove.specs.model_device.specs.Bytes.{zeros}
use Rattle.law_prove.specs.model_machine.specs.declared.instruction.Ins.{Ins}
use Rattle.law_prove.specs.model_machine.specs.Frame.{Frame, is_outside}
use Rattle.law_prove.specs.model_machine.specs.Primitives.{Around}
use Rattle.law_prove.specs.model_machine.specs.Row.{row}
use Rattle.law_prove.specs.model_machine.specs.Chain.{frame_at}
use Rattle.law_prove.specs.law_promise.specs.Domain.{IsDelegator}
use Rattle.law_prove.specs.model_rules.specs.Rules.{Target}
use Rattle.law_prove.specs.model_prove.specs.Facts.{Facts, Memory, Holds, know}
use Rattle.law_prove.specs.model_prove.specs.Keys.{Known, Tables}
use Rattle.law_prove.specs.model_prove.specs.Laws.{Among, values_in, HoldsBytes}
use Rattle.law_prove.specs.model_prove.specs.Splits.{Scene, Choice, stand_in_stack, with_values, deciders, later_deciders, combinations, count_of_combinations, most_combinations, few_if, few_combinations}
use Rattle.law_prove.specs.model_prove.specs.Reach.{takes_target}
use Rattle.law_prove.specs.model_prove.specs.Arrivals.{Setting, Arrival}
use Rattle.law_prove.specs.model_prove.specs.Steps.{Spot, with_facts, instruction, arounds, primitive_of, chosen, with_choice, inside, with_first_choice, by_choices, coarse_arrivals, coarse_around, fetched}
use Rattle.law_prove.specs.model_rules.specs.Loadable.{IsLoadable}
use Rattle.law_prove.specs.model_prove.specs.Tables.{includes_all}
use Rattle.law_prove.specs.model_prove.proofs.ChangeLemmas.{written_holds, choice_is_there}
use Rattle.law_prove.specs.model_prove.proofs.SetLemmas.{is_first}
use Rattle.law_prove.specs.Coverings.{parts_memory, frame_memory, IsFrameOf}
use Rattle.law_prove.specs.Laws.{LeadsInto, LeadLaw}
use Rattle.law_prove.proofs.Alike.{Sized, stack_length}
use Rattle.law_prove.proofs.Closed.{included_first, included_second}
use Rattle.law_prove.proofs.Moves.{turn_sized}
use Rattle.law_prove.proofs.Spots.{place_key}
use Rattle.law_prove.proofs.Seen.{Seen}
use Rattle.law_prove.proofs.Acts.{spot_of}
use Rattle.law_prove.proofs.Turns.{blank, framed_of, stand_in_like}
use Rattle.law_prove.proofs.Single.{Turn, here, there, IsRowCovered, law_from}
use Rattle.law_prove.proofs.ReachScenes.{scene_of, Fits, Standing, values_stand, same_outside, all_inside_of, among_inside}

-- ---- choices

-- an outcome of an element among some
pub one_of : {A : Type 0} (t : Tables) (f : A → List Arrival) (x : A) (xs : List A) → Among x xs → includes_all t (flat_map f xs) ≡ true → includes_all t (f x) ≡ true
one_of t f x [] a e = absurd a
one_of {A} t f x (y ∷ xs) a e =
    elim a [
      | inl is ↦ rw (← is) (included_first t (f y) (flat_map f xs) e)
      | inr more ↦ one_of t f x xs more (included_second t (f y) (flat_map f xs) e)
    ]

-- facts with those of a choice
abbrev pub chosen_facts : Choice → Facts → Facts
chosen_facts [] f = f
chosen_facts (e ∷ es) f = chosen_facts es (know e.0 (e.1 ∷ []) f)

-- a choice adds facts alone
pub chosen_is : (c : Choice) (p : Spot) → chosen c p ≡ with_facts p (chosen_facts c p.known.bytes)
chosen_is [] p = refl
chosen_is (e ∷ es) p = chosen_is es (with_facts p (know e.0 (e.1 ∷ []) p.known.bytes))

-- the values that bytes have are so
pub chosen_holds : (places : List ℕ) (f : Facts) (m : Memory) → Holds f m → Holds (chosen_facts (values_in m places) f) m
chosen_holds [] f m h = h
chosen_holds (a ∷ places) f m h =
    chosen_holds places (know a (m a ∷ []) f) m (written_holds a ((m a ∷ []) ∷ []) f m m (λ b outside. refl) (is_first (m a) [], tt) h)

few_is : (b : Bool) (all cs : List Choice) → few_if b all ≡ Some cs → all ≡ cs
few_is true all cs e = cc e
few_is false all cs e = absurd (cc e)

-- the values that the deciding bytes have are one of the choices that are followed
pub choice_among : (f : Facts) (places : List ℕ) (m : Memory) (cs : List Choice) → few_combinations f places ≡ Some cs → Holds f m → HoldsBytes m → Among (values_in m places) cs
choice_among f places m cs e h bytes =
    rw (← few_is (nat_le (count_of_combinations f places) most_combinations) (combinations f places) cs e) (choice_is_there f places m h bytes)

nothing_after : (c : Choice) → c ++ [] ≡ c
nothing_after [] = refl
nothing_after (e ∷ c) = ap (λ (t : Choice). e ∷ t) (nothing_after c)

-- ---- turns

-- an instruction that its first deciding bytes decide
abbrev pub IsDecided : Ins → Type 0
IsDecided i = (f : Frame) → later_deciders i f ≡ []

module _ (s : Setting) (u t : Tables) (g : Target) (loadable : IsLoadable s.app) (leads : LeadsInto s u t) (i : Ins) (turn : Turn s u i) where
  -- the frame after the fetch, and its bytes
  abbrev pub fetched_frame : Frame
  fetched_frame = frame_at turn.frame turn.next

  -- the bytes that it reads
  abbrev pub memory : Memory
  memory = frame_memory fetched_frame turn.public

  -- the scene that stands for the place
  abbrev pub base : Scene
  base = scene_of fetched_frame (zeros (length turn.frame.fixed)) (stand_in_stack turn.place.calls) blank

  -- its segments have their lengths
  pub base_fits : Fits fetched_frame (zeros (length turn.frame.fixed)) (stand_in_stack turn.place.calls) blank
  base_fits = grind (arith, Sized, turn_sized, length-replicate, stack_length)

  -- what was fetched, in that scene
  abbrev pub IsBy : Bool → Type 0
  IsBy jump = includes_all t (by_choices (few_combinations turn.place.known.bytes (inside base (deciders i base.frame))) jump s i base (here s u t g loadable leads i turn) (there s u t g loadable leads i turn)) ≡ true

  -- an instruction that was fetched is followed in that scene
  pub by_base : includes_all t (fetched s (here s u t g loadable leads i turn) (Ok (i, turn.next))) ≡ true → IsBy (takes_target i)
  by_base includes = grind (arith, here, there, place_key, stand_in_like, framed_of, blank)

  -- ---- few choices

  -- An outcome that is followed: in a scene that has the deciding bytes of the memory, with facts of them.
  pub record Followed (places : List ℕ) (x : Around) : Type 0 where
    pub fixed : List ℕ
    pub dyn : List ℕ
    pub public : List ℕ
    pub fits : Fits fetched_frame fixed dyn public
    pub agrees : (b : ℕ) → Among b places → is_outside fetched_frame b 1 ≡ false → parts_memory (length turn.frame.fixed) fixed dyn public b ≡ memory b
    pub known : Known
    pub seen : Seen turn.place.calls known fetched_frame turn.public
    pub is : includes_all t (instruction s i (scene_of fetched_frame fixed dyn public) (here s u t g loadable leads i turn) (spot_of turn.place.start turn.place.standing.allowances fetched_frame turn.place.calls known) x) ≡ true

  -- the choice that the memory makes
  abbrev pub choice : List ℕ → Choice
  choice places = values_in memory (inside base places)

  choice_followed : (places : List ℕ) (cs : List Choice) → IsDecided i → few_combinations turn.place.known.bytes (inside base places) ≡ Some cs
      → includes_all t (flat_map (with_first_choice s i base (here s u t g loadable leads i turn) (there s u t g loadable leads i turn)) cs) ≡ true
      → includes_all t (with_choice s i base (here s u t g loadable leads i turn) (there s u t g loadable leads i turn) (choice places)) ≡ true
  choice_followed places cs decided e includes =
      let p : Spot = here s u t g loadable leads i turn in
      let q : Spot = there s u t g loadable leads i turn in
      let c : Choice = choice places in
      let z : Scene = with_values base c in
      let one = one_of t (with_first_choice s i base p q) c cs (choice_among turn.place.known.bytes (inside base places) memory cs e turn.place.holds turn.place.bytes) includes in
      let none : includes_all t (flat_map (λ d. with_choice s i base p q (c ++ d)) (combinations p.known.bytes (inside z []))) ≡ true = grind arith in
      subst (λ (d : Choice). includes_all t (with_choice s i base p q d) ≡ true) (nothing_after c) (included_first t (with_choice s i base p q (c ++ [])) [] none)

  -- so is the outcome of each of those that may have delegated to the frame
  pub followed_by : (places : List ℕ) (cs : List Choice) (x : Around) → IsDecided i → Among x (arounds turn.place.start (primitive_of i)) → few_combinations turn.place.known.bytes (inside base places) ≡ Some cs
      → includes_all t (flat_map (with_first_choice s i base (here s u t g loadable leads i turn) (there s u t g loadable leads i turn)) cs) ≡ true → Followed places x
  followed_by places cs x decided among e includes =
      let p : Spot = here s u t g loadable leads i turn in
      let q : Spot = there s u t g loadable leads i turn in
      let c : Choice = choice places in
      let frame : IsFrameOf s.app turn.frame = turn.place.frame in
      let fixed = zeros (length turn.frame.fixed) in
      let dyn = stand_in_stack turn.place.calls in
      let one : includes_all t (instruction s i (with_values base c) p (chosen c q) x) ≡ true =
      one_of t (instruction s i (with_values base c) p (chosen c q)) x (arounds turn.place.start (primitive_of i)) among (choice_followed places cs decided e includes)
      in
      let all : AllByRecursion (λ a. is_outside fetched_frame a 1 ≡ false) (inside base places) =
      all_inside_of (λ a. is_outside base.frame a 1) (λ a. is_outside fetched_frame a 1) places (λ a. same_outside fetched_frame fixed dyn a 1 base_fits.size)
      in
      let stand : Standing fetched_frame (with_values base c) memory (parts_memory (length turn.frame.fixed) fixed dyn blank) (inside base places) = values_stand fetched_frame memory (inside base places) fixed dyn blank base_fits all in
      let facts : Facts = chosen_facts c turn.place.known.bytes in
      record {
        fixed = stand.fixed;
        dyn = stand.dyn;
        public = stand.public;
        fits = stand.fits;
        agrees = λ b there low. stand.agrees b (inr (among_inside (λ a. is_outside base.frame a 1) b places there (same_outside fetched_frame fixed dyn b 1 base_fits.size ∙ low)));
        known = record turn.place.known { bytes = facts };
        seen = record {
          open_calls = turn.place.open_calls;
          holds = chosen_holds (inside base places) turn.place.known.bytes memory turn.place.holds;
          compares = turn.place.compares;
          keeps = λ on session d. turn.place.keeps session d;
        };
        is = subst (λ (z : Scene). includes_all t (instruction s i z p (with_facts q facts) x) ≡ true) stand.is
            (subst (λ (r : Spot). includes_all t (instruction s i (with_values base c) p r x) ≡ true) (chosen_is c q) one);
      }

  -- ---- few choices or many

  -- the outcomes of too many choices
  abbrev pub IsCoarse : Type 0
  IsCoarse = includes_all t (coarse_arrivals s i base (here s u t g loadable leads i turn) (there s u t g loadable leads i turn) (coarse_around turn.place.start)) ≡ true

  by_number : (o : Option (List Choice)) (places : List ℕ) (x : Around) → IsDecided i → Among x (arounds turn.place.start (primitive_of i)) → few_combinations turn.place.known.bytes (inside base places) ≡ o
      → includes_all t (by_choices o false s i base (here s u t g loadable leads i turn) (there s u t g loadable leads i turn)) ≡ true → Followed places x ⊎ IsCoarse
  by_number (Some cs) places x decided among e includes = inl (followed_by places cs x decided among e includes)
  by_number None places x decided among e includes = inr includes

  -- each row that bytes decide has one of these outcomes
  pub few_or_many : (x : Around) → IsDecided i → Among x (arounds turn.place.start (primitive_of i)) → IsBy false → Followed (deciders i base.frame) x ⊎ IsCoarse
  few_or_many x decided among includes = by_number (few_combinations turn.place.known.bytes (inside base (deciders i base.frame))) (deciders i base.frame) x decided among refl includes

-- A row that bytes decide is covered in each of its turns, whoever delegated to the frame.
abbrev pub DelegatedCase : Ins → Type 0
DelegatedCase i =
    (s : Setting) (u t : Tables) (g : Target) (loadable : IsLoadable s.app) (leads : LeadsInto s u t) (turn : Turn s u i) → IsDelegator turn.around.delegator → IsBy s u t g loadable leads i turn (takes_target i)
    → IsRowCovered s u t g loadable leads i turn (row i (frame_at turn.frame turn.next) turn.public turn.around)

-- so its law holds
pub law_with : (i : Ins) → DelegatedCase i → LeadLaw i
law_with i case = law_from i (λ s u t g loadable leads turn names e. case s u t g loadable leads turn names (by_base s u t g loadable leads i turn e))

-- a row that does not ask who that was
abbrev pub ChoiceCase : Ins → Type 0
ChoiceCase i =
    (s : Setting) (u t : Tables) (g : Target) (loadable : IsLoadable s.app) (leads : LeadsInto s u t) (turn : Turn s u i) → IsBy s u t g loadable leads i turn (takes_target i)
    → IsRowCovered s u t g loadable leads i turn (row i (frame_at turn.frame turn.next) turn.public turn.around)

-- a row that is covered for each choice of its deciding bytes has its law
pub law_by : (i : Ins) → ChoiceCase i → LeadLaw i
law_by i case = law_with i (λ s u t g loadable leads turn names includes. case s u t g loadable leads turn includes)
