use Rattle.std.proofs.Common.{◌≡◌, drop}
use Rattle.law_explore.specs.model_device.specs.Bytes.{has_name}
use Rattle.mc_lab.proofs.sweep_names.is_among.Given as goal

-- the name is among the rest, or nowhere
abbrev pub invariant-loop-known : goal.invariant-loop-known
invariant-loop-known l = has_name l.name (drop l.known-index l.names) ≡ has_name l.name l.names
