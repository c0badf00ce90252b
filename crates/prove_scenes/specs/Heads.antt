-- What a row knows besides its frame, and the causes that come first.
use Rattle.std.specs.Prelude.{Bool, List, ◌∷◌, option_map}
use Rattle.model_machine.specs.declared.machine.Abend.{Abend}
use Rattle.model_machine.specs.declared.machine.Abend.TheVariants.{A06, A0A}
use Rattle.model_machine.specs.model_device.specs.Bytes.{zeros}
use Rattle.model_machine.specs.Primitives as model
use Rattle.prove_scenes.specs.declared.around.Around.{Around}
use Rattle.prove_scenes.specs.declared.prim_causes.Head.{Head}

-- what a row knows besides its frame, as the definition's value: a delegator has a name of zeros
abbrev pub around_value : Around → model.Around
around_value a = record { case = 1; delegator = option_map zeros a.delegator }

-- the two causes of a primitive that come before all others
abbrev pub first_causes : Head → List (Abend × Bool) → List (Abend × Bool)
first_causes h later = (A06, h.bad) ∷ (A0A, h.denied) ∷ later
