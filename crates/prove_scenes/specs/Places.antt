-- Places of a scene in the definition's type.
use Rattle.model_machine.specs.Frame as model
use Rattle.prove_scenes.specs.declared.looking.Place.{Place}
use Rattle.prove_scenes.specs.declared.looking.Place.TheVariants as place

-- a place as the definition's value
abbrev pub place_value : Place → model.Place
place_value (place.Static i) = model.Static i
place_value (place.Dynamic i) = model.Dynamic i
place_value (place.Public i) = model.Public i
