use Rattle.std.proofs.Common.{◌≡◌, length}
use Rattle.model_card.specs.Units.{name_among}
use Rattle.mc_unit.proofs.name.name_in.Given as goal

-- the bytes that are left have the name of the whole
abbrev pub invariant-loop-tag : goal.invariant-loop-tag
invariant-loop-tag l = name_among (length l.rest) l.rest ≡ name_among (length l.fn.template) l.fn.template

abbrev pub decreases-loop-tag : goal.decreases-loop-tag
decreases-loop-tag l = length l.rest
