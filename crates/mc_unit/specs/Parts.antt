-- The values of the crate's structs, whatever place their bytes are borrowed from.
use Rattle.model_card.specs.Units.{Object, UnitParts}
use Rattle.mc_unit.specs.declared.name.Object.{Object as Borrowed}
use Rattle.mc_unit.specs.declared.unit.Unit.{Unit as LoadUnit}

-- the parts of a load unit
abbrev pub parts_of : LoadUnit → UnitParts
parts_of u = record { number = u.number.now; code = u.code.now; init = u.init.now; dir = u.dir.now; fci = u.fci.now; aid = u.aid }

-- an object, and the bytes after it
abbrev pub object_of : Borrowed → Object
object_of o = record { tag = o.tag.now; value = o.value.now; rest = o.rest.now }
