-- What an instruction leads to, by equations of its parts.
use Rattle.std.specs.Prelude.{◌≡◌, ℕ, ◌+◌, ◌-◌, ◌<◌, ◌≤◌, true, false, List, [], ◌∷◌, ◌++◌, length, drop, get_or, flat_map, map, Option, Some, None, IfSome, Bool}
use Rattle.std.proofs.Common.{ap, sym, subst, ◌∙◌, arith}
use Rattle.std.proofs.lemmas.List.{append-nil, drop_more, drop_all}
use Rattle.mc_isa.specs.model_machine.specs.Shapes.{Shape}
use Rattle.mc_isa.specs.model_machine.specs.declared.instruction.Ins.{Ins}
use Rattle.mc_isa.specs.model_machine.specs.Primitives.{Around}
use Rattle.prove_facts.specs.model_prove.specs.Arrivals.{Setting, Arrival}
use Rattle.prove_facts.specs.model_prove.specs.Facts.{Facts, know}
use Rattle.prove_facts.specs.model_prove.specs.Keys.{Tables}
use Rattle.prove_facts.specs.model_prove.specs.Splits.{Scene, Choice, combinations, deciders, few_combinations, later_deciders}
use Rattle.prove_facts.specs.model_prove.specs.Steps.{Spot, by_choices, caused, chosen, coarse_around, coarse_arrivals, inside, spots, with_facts, with_first_choice}
use Rattle.prove_facts.specs.model_prove.specs.Tables.{includes_all}
use Rattle.prove_facts.specs.model_prove.specs.Work.{Work}
use Rattle.prove_scenes.specs.Outlines.{OutlineLaw, outlined}
use Rattle.prove_steps.specs.declared.choices.Choices.{Choices}
use Rattle.prove_steps.specs.declared.choices.Choices.TheVariants.{Few, Many}
use Rattle.prove_steps.specs.Choices.{ChoicesAre, choices_value}
use Rattle.prove_arrivals.proofs.IncludedLemmas.{next_included, none_included, one_of, mapped_included}

-- the value of the next byte of a choice
pub chosen_next : (xs : Choice) (i : ℕ) (d : ℕ × ℕ) (p q r : Spot) → i < length xs
    → q ≡ with_facts p (know (get_or xs i d).0 ((get_or xs i d).1 ∷ []) p.known.bytes)
    → chosen (drop i xs) p ≡ r → chosen (drop (i + 1) xs) q ≡ r
chosen_next xs i d p q r below e so =
    ap (λ (q : Spot). chosen (drop (i + 1) xs) q) e ∙ sym (ap (λ (l : Choice). chosen l p) (drop_more xs i d below)) ∙ so

-- no byte of a choice is left
pub chosen_last : (xs : Choice) (i : ℕ) (p r : Spot) → length xs ≤ i → chosen (drop i xs) p ≡ r → p ≡ r
chosen_last xs i p r end so = sym (ap (λ (l : Choice). chosen l p) (drop_all i xs end)) ∙ so

-- what follows a row that is done follows from what of its shape matters
pub outline_included : (t : Tables) (law : OutlineLaw) (s : Setting) (i : Ins) (h g : Shape) (w : Work) (p q : Spot) → g ≡ outlined w h
    → includes_all t (caused None s i g w p q) ≡ true → includes_all t (caused None s i h w p q) ≡ true
outline_included t law s i h g w p q e so =
    subst (λ (l : List Arrival). includes_all t l ≡ true) (law None s i h w p q)
    (subst (λ (g : Shape). includes_all t (caused None s i g w p q) ≡ true) e so)

-- the places after a row, by what it works on
pub spots_of_work : (s : Setting) (h : Shape) (v w : Work) (q : Spot) (l : List Spot) → v ≡ w → l ≡ spots s h v q → spots s h w q ≡ l
spots_of_work s h v w q l e so = sym (so ∙ ap (λ (w : Work). spots s h w q) e)

-- an instruction in a scene with a choice, whatever it may know around its frame
pub choice_included : (t : Tables) (f : Scene → Spot → Around → List Arrival) (e g : Scene) (q r : Spot) (xs ys : List Around) → e ≡ g → q ≡ r → xs ≡ ys
    → includes_all t (flat_map (f e q) xs) ≡ true → includes_all t (flat_map (f g r) ys) ≡ true
choice_included t f e g q r xs ys a b c so =
    subst (λ (ys : List Around). includes_all t (flat_map (f g r) ys) ≡ true) c (
    subst (λ (r : Spot). includes_all t (flat_map (f g r) xs) ≡ true) b
    (subst (λ (g : Scene). includes_all t (flat_map (f g q) xs) ≡ true) a so))

-- what some choices lead to
pub choices_included : (t : Tables) (f : Choice → List Arrival) (cs ds : List Choice) → cs ≡ ds
    → includes_all t (flat_map f cs) ≡ true → includes_all t (flat_map f ds) ≡ true
choices_included t f cs ds e so = subst (λ (ds : List Choice). includes_all t (flat_map f ds) ≡ true) e so

-- the outcomes of the values of a list, of which the next are included
module _ {X Y : Type 0} (t : Tables) (f : Y → List Arrival) (g : X → Y) (xs : List X) where
  pub value_next : (i : ℕ) (d : X) (W : Type 0) → i < length xs → includes_all t (f (g (get_or xs i d))) ≡ true
      → (includes_all t (flat_map (λ x. f (g x)) (drop i xs)) ≡ true → W) → includes_all t (flat_map (λ x. f (g x)) (drop (i + 1) xs)) ≡ true → W
  value_next i d W below one before rest = next_included t (λ x. f (g x)) xs i d W below one before rest

  pub item_next : (i : ℕ) (x : X) (W : Type 0) → i < length xs → x ≡ get_or xs i x → includes_all t (f (g x)) ≡ true
      → (includes_all t (flat_map (λ x. f (g x)) (drop i xs)) ≡ true → W) → includes_all t (flat_map (λ x. f (g x)) (drop (i + 1) xs)) ≡ true → W
  item_next i x W below e one before rest = value_next i x W below (subst (λ (x : X). includes_all t (f (g x)) ≡ true) e one) before rest

  pub values_all : (i : ℕ) → length xs ≤ i → (includes_all t (flat_map (λ x. f (g x)) (drop i xs)) ≡ true → includes_all t (flat_map f (map g xs)) ≡ true)
      → includes_all t (flat_map f (map g xs)) ≡ true
  values_all i end so = so (none_included t (λ x. f (g x)) xs i end)

  pub values_whole : includes_all t (flat_map (λ x. f (g x)) (drop 0 xs)) ≡ true → includes_all t (flat_map f (map g xs)) ≡ true
  values_whole so = mapped_included t f g xs so

-- the outcomes by the combinations of the bytes that decide: those of too many
module _ (t : Tables) (jump : Bool) (s : Setting) (i : Ins) (e g : Scene) (p q : Spot) where
  pub coarsely_included : jump ≡ false → e ≡ g → includes_all t (coarse_arrivals s i e p q (coarse_around p.key.start)) ≡ true
      → includes_all t (by_choices None jump s i g p q) ≡ true
  coarsely_included j same so =
      subst (λ (j : Bool). includes_all t (by_choices None j s i g p q) ≡ true) (sym j)
      (subst (λ (g : Scene). includes_all t (coarse_arrivals s i g p q (coarse_around p.key.start)) ≡ true) same so)

-- the combinations of the bytes of a scene that decide
pub few_of : (k f : Facts) (e g : Scene) (i : Ins) (places list : List ℕ) → f ≡ k → list ≡ inside e places → places ≡ deciders i e.frame → e ≡ g
    → few_combinations f list ≡ few_combinations k (inside g (deciders i g.frame))
few_of k f e g i places list a b c d =
    ap (λ (f : Facts). few_combinations f list) a
    ∙ ap (few_combinations k) (b ∙ ap (inside e) c ∙ ap (λ (e : Scene). inside e (deciders i e.frame)) d)

-- those that decide after a first choice
pub later_of : (k f : Facts) (e g : Scene) (i : Ins) (places list : List ℕ) → f ≡ k → list ≡ inside e places → places ≡ later_deciders i e.frame → e ≡ g
    → combinations f list ≡ combinations k (inside g (later_deciders i g.frame))
later_of k f e g i places list a b c d =
    ap (λ (f : Facts). combinations f list) a
    ∙ ap (combinations k) (b ∙ ap (inside e) c ∙ ap (λ (e : Scene). inside e (later_deciders i e.frame)) d)

-- a first choice after which no bytes decide
pub alone_included : (t : Tables) (f : Choice → List Arrival) (k : Facts) (c : Choice) (places : List ℕ) → length places ≡ 0
    → includes_all t (f c) ≡ true → includes_all t (flat_map (λ d. f (c ++ d)) (combinations k places)) ≡ true
alone_included t f k c [] none so =
    one_of t (λ (d : Choice). f (c ++ d)) [] (subst (λ (d : Choice). includes_all t (f d) ≡ true) (sym (append-nil c)) so)
alone_included t f k c (a ∷ places) none so = absurd (omega (arith, none))

-- no bytes decide, so that there is one choice, of none
pub few_alone : (t : Tables) (jump : Bool) (s : Setting) (i : Ins) (g : Scene) (p q : Spot) (k : Facts) (places : List ℕ) → length places ≡ 0
    → includes_all t (with_first_choice s i g p q []) ≡ true → includes_all t (by_choices (few_combinations k places) jump s i g p q) ≡ true
few_alone t jump s i g p q k [] none so = one_of t (with_first_choice s i g p q) [] so
few_alone t jump s i g p q k (a ∷ places) none so = absurd (omega (arith, none))

-- choices that are those of a place
pub choices_are : (f : Facts) (places : List ℕ) (cs : Choices) → ChoicesAre f places cs → few_combinations f places ≡ choices_value cs
choices_are f places (Few cs) e = e
choices_are f places Many e = e

-- what is promised of the value that was found
pub from_some : {X : Type 0} (P : X → Type 0) (r : Option X) (x : X) → r ≡ Some x → IfSome r P → P x
from_some {X} P r x e h = subst (λ (r : Option X). IfSome r P) e h
