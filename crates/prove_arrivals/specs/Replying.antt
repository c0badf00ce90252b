-- What follows an exit of a command, in parts.
use Rattle.std.specs.Prelude.{ℕ, Bool, List, [], cond, get_or, None}
use Rattle.mc_arith.specs.model_machine.specs.declared.machine.Abend.TheVariants.{A09}
use Rattle.prove_facts.specs.model_prove.specs.Arrivals.{Setting, Arrival, arrive, after_answer, in_session, fails}
use Rattle.prove_facts.specs.model_prove.specs.Steps.{Spot}
use Rattle.prove_keys.specs.Keys.{amounts_of}
use Rattle.prove_spots.specs.Grounds.{Ground}
use Rattle.prove_arrivals.specs.declared.subject.Subject.{Subject}
use Rattle.prove_arrivals.specs.Subjects.{classes_in, known_in}

-- an answer of a command of a class, whose result matches these lines
abbrev pub reply_arrivals : List (List ℕ) → Setting → Subject → ℕ → List ℕ → Ground → List Bool → List Arrival
reply_arrivals names s u number amounts g m =
    arrive None (after_answer s (get_or (classes_in u) number []) m (amounts_of names amounts)) (in_session s (known_in g))

-- the abend of a reply that may be too long
abbrev pub long_arrivals : Setting → Bool → Spot → List Arrival
long_arrivals s too_long p = cond too_long (fails s p.key p.known A09) []
