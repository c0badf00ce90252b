use Rattle.std.proofs.Common.{◌≡◌, drop}
use Rattle.model_device.specs.Bytes.{has_name}
use Rattle.prove_patterns.specs.Ways.{texts}
use Rattle.prove_patterns.proofs.ways.has_way.Given as goal

-- what is left of the ways decides
abbrev pub invariant-loop-one : goal.invariant-loop-one
invariant-loop-one l = has_name l.way (texts l.ways) ≡ has_name l.way (texts (drop l.one-index l.ways))
