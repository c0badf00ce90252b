-- What follows a row, in parts.
use Rattle.std.specs.Prelude.{◌≡◌, ℕ, Bool, List, [], ◌∷◌, ◌++◌, flat_map, cond, Some}
use Rattle.mc_arith.specs.model_machine.specs.declared.instruction.Ins.{Ins}
use Rattle.mc_arith.specs.model_machine.specs.declared.machine.Abend.TheVariants.{A08}
use Rattle.mc_arith.specs.model_machine.specs.Primitives.{Then, Goes, Exits, Delegates}
use Rattle.mc_isa.specs.model_text.specs.Listing.{text_of}
use Rattle.prove_facts.specs.model_rules.specs.Keeping.{Amounts, OnTurn, after_occasion, line_of}
use Rattle.prove_facts.specs.model_prove.specs.Arrivals.{Setting, Arrival, arrive, stopped, abended, exited, fails, after_turn}
use Rattle.prove_facts.specs.model_prove.specs.Steps.{Spot, arrived, stops, delegate_abends, after_delegation, follows, settled_spot}
use Rattle.prove_scenes.specs.ShapeValues.{next_value}
use Rattle.prove_spots.specs.Grounds.{Ground}
use Rattle.prove_arrivals.specs.declared.subject.Subject.{Subject}
use Rattle.prove_arrivals.specs.declared.turns.Row.{Row}
use Rattle.prove_arrivals.specs.Subjects.{spot_in, Accepts}

-- what follows the event of a row that leads from p to q
abbrev pub after_event : Setting → Bool → Then → Spot → Spot → Amounts → List Arrival
after_event s writes Goes p q a = arrived q a ∷ stops writes s p q a
after_event s writes Exits p q a = exited s p.key.start q.known a
after_event s writes (Delegates name) p q a =
    arrived (after_delegation q) a ∷ (flat_map (abended s p.key.start a q.known) delegate_abends ++ stopped s p.key.start a q.known.kept)

-- the place before a row
abbrev pub spot_before : List (List ℕ) → Subject → Row → List ℕ → Spot
spot_before names u r amounts = spot_in names u r.begun amounts r.before.now

-- the place after it
abbrev pub spot_after : List (List ℕ) → Subject → Row → List ℕ → Ground → Spot
spot_after names u r amounts g = spot_in names u r.begun amounts g

-- the text of a row is that of its instruction
abbrev pub IsText : Row → Ins → Type 0
IsText r i = r.text.now ≡ text_of i

-- the abend of a row that may leave too much waiting
abbrev pub late_arrivals : Setting → Bool → Spot → List Arrival
late_arrivals s late p = cond late (fails s p.key p.known A08) []

-- what follows a row that leads to some places, and that may leave too much waiting
abbrev pub leads : Setting → Ins → Bool → Bool → Then → Spot → List Spot → List Arrival
leads s i late writes next p rs = late_arrivals s late p ++ flat_map (λ r. follows s i writes next p (settled_spot s r)) rs

-- what follows a row at a depth
abbrev pub at_depth : List (List ℕ) → Setting → Ins → Subject → Row → List ℕ → ℕ → Ground → List Arrival
at_depth names s i u r amounts depth g =
    let p = spot_before names u r amounts in
    let q = spot_after names u r amounts g in
    arrive (Some p.key.at) (after_occasion s.rules.ons (OnTurn (line_of depth p.key.at i q.key.dt q.key.c q.key.z)) p.key.allowances)
    (after_event s r.writes (next_value r.next) p q)

-- the tables include it
abbrev pub IsAccepted : List (List ℕ) → Setting → Ins → Subject → Row → List ℕ → ℕ → Ground → Type 0
IsAccepted names s i u r amounts depth g = Accepts names u (at_depth names s i u r amounts depth g)

-- what follows the event of a row, at each depth that its frame can have
abbrev pub turned_arrivals : List (List ℕ) → Setting → Ins → Subject → Row → List ℕ → Ground → List Arrival
turned_arrivals names s i u r amounts g =
    let p = spot_before names u r amounts in
    let q = spot_after names u r amounts g in
    after_turn s p.key i q.key.dt q.key.c q.key.z (after_event s r.writes (next_value r.next) p q)

-- what follows a row that leads to a place, before it is settled
abbrev pub followed : List (List ℕ) → Setting → Ins → Subject → Row → List ℕ → Ground → List Arrival
followed names s i u r amounts g =
    follows s i r.writes (next_value r.next) (spot_before names u r amounts) (settled_spot s (spot_after names u r amounts g))
