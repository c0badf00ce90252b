-- What is held against the tables, in parts.
use Rattle.std.specs.Prelude.{◌≡◌, ℕ, ◌+◌, ◌*◌, ◌/◌, ◌%◌, suc, Bool, cond, ◌&&◌, nat_le, List, [], ◌∷◌, Option, Some}
use Rattle.mc_isa.specs.model_machine.specs.declared.machine.Abend.{Abend}
use Rattle.model_device.specs.Bytes.{zeros}
use Rattle.prove_facts.specs.model_prove.specs.Sets.{is_in}
use Rattle.prove_facts.specs.model_prove.specs.Facts.{Facts, values_at}
use Rattle.prove_facts.specs.model_prove.specs.Reach.{address_choice, greatest_value, takes_target}
use Rattle.prove_facts.specs.model_prove.specs.Arrivals.{Setting, Arrival, fails}
use Rattle.mc_isa.specs.model_machine.specs.Primitives.{Around}
use Rattle.prove_facts.specs.model_prove.specs.Splits.{Scene, Choice, deciders, few_combinations, with_values}
use Rattle.prove_facts.specs.model_prove.specs.Steps as steps
use Rattle.prove_arrivals.specs.declared.subject.Subject.{Subject}
use Rattle.prove_arrivals.specs.Subjects.{Accepts, IsOver, spot_in}
use Rattle.prove_scenes.specs.Scenes.{IsSized}
use Rattle.prove_spots.specs.Grounds.{Ground}
use Rattle.prove_steps.specs.declared.stepping.Fetched.{Fetched}
use Rattle.prove_steps.specs.Scenes.{scene_after}

-- the place before an instruction
abbrev pub before : List (List ℕ) → Subject → Fetched → steps.Spot
before names u f = spot_in names u f.begun f.amounts.now f.before.now

-- the place after its fetch
abbrev pub after_fetch : List (List ℕ) → Subject → Fetched → steps.Spot
after_fetch names u f = let p = before names u f in record p { key = record p.key { at = f.next } }

-- the scene after its fetch
abbrev pub scene_of : List (List ℕ) → Setting → Subject → Fetched → Scene
scene_of names s u f = scene_after s.app (before names u f).key f.next

-- what is accepted for every setting that a subject is of
abbrev pub AcceptsAll : Subject → List ℕ → (List (List ℕ) → Setting → List Arrival) → Type 0
AcceptsAll u amounts more =
    (names : List (List ℕ)) (s : Setting) → IsOver names s u amounts → Accepts names u (more names s)

-- if the rest is accepted, so is all
abbrev pub Leaves : Subject → List ℕ → (List (List ℕ) → Setting → List Arrival) → (List (List ℕ) → Setting → List Arrival) → Type 0
Leaves u amounts rest all =
    (names : List (List ℕ)) (s : Setting) → IsOver names s u amounts → Accepts names u (rest names s) → Accepts names u (all names s)

-- what a row may know around it: a name of n bytes
abbrev pub named_value : ℕ → Around
named_value n = record { case = 1; delegator = Some (zeros n) }

-- what an instruction leads to in a scene, at a place after its fetch
abbrev pub in_scene : List (List ℕ) → Setting → Subject → Fetched → Scene → Ground → Around → List Arrival
in_scene names s u f e g = steps.instruction s f.ins.now e (before names u f) (spot_in names u f.begun f.amounts.now g)

-- what it leads to with a choice of the bytes that decide it
abbrev pub by_choice : List (List ℕ) → Setting → Subject → Fetched → Choice → List Arrival
by_choice names s u f = steps.with_choice s f.ins.now (scene_of names s u f) (before names u f) (after_fetch names u f)

-- what it leads to after its first choice
abbrev pub by_first_choice : List (List ℕ) → Setting → Subject → Fetched → Choice → List Arrival
by_first_choice names s u f =
    steps.with_first_choice s f.ins.now (scene_of names s u f) (before names u f) (after_fetch names u f)

-- what it leads to by the combinations of the bytes that decide it, if they are few
abbrev pub by_choices : List (List ℕ) → Setting → Subject → Fetched → Option (List Choice) → List Arrival
by_choices names s u f few =
    steps.by_choices few (takes_target f.ins.now) s f.ins.now (scene_of names s u f) (before names u f) (after_fetch names u f)

-- a scene is that after a fetch, with a choice of the bytes that decide
abbrev pub IsSceneWith : Subject → Fetched → Scene → Choice → Type 0
IsSceneWith u f e c = (names : List (List ℕ)) (s : Setting) → IsSized s.app u.sizes → e ≡ with_values (scene_of names s u f) c

-- a scene is that after a fetch
abbrev pub IsSceneOf : Subject → Fetched → Scene → Type 0
IsSceneOf u f e = IsSceneWith u f e []

-- what it leads to with the two bytes at a place an address
abbrev pub by_target : List (List ℕ) → Setting → Subject → Fetched → ℕ → ℕ → List Arrival
by_target names s u f a v = by_choice names s u f (address_choice a v)

-- whether two bytes from a place on may be an address
abbrev pub is_target : Facts → ℕ → ℕ → Bool
is_target f a v = is_in (v / 256) (values_at f a) && is_in (v % 256) (values_at f (suc a))

-- the greatest address that the two bytes at a place may be, if it is not below a limit
abbrev pub last_targets : Facts → ℕ → ℕ → List ℕ
last_targets f a limit =
    let most = greatest_value (values_at f a) * 256 + greatest_value (values_at f (suc a)) in
    cond (nat_le limit most) (most ∷ []) []

-- an abend, if it is possible
abbrev pub fails_when : Bool → Setting → steps.Spot → Abend → List Arrival
fails_when possible s p cause = cond possible (fails s p.key p.known cause) []

-- what an instruction that was fetched leads to
abbrev pub fetched_arrivals : List (List ℕ) → Setting → Subject → Fetched → List Arrival
fetched_arrivals names s u f =
    let g = scene_of names s u f in
    by_choices names s u f (few_combinations f.before.now.bytes (steps.inside g (deciders f.ins.now g.frame)))
