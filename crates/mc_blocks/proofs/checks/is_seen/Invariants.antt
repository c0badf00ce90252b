use Rattle.std.proofs.Common.{◌≡◌, drop, map}
use Rattle.mc_words.specs.model_device.specs.Bytes.{has_name}
use Rattle.mc_words.specs.model_device.specs.Card.{name_in}
use Rattle.mc_blocks.proofs.checks.is_seen.Given as goal

-- the name is among all records exactly if it is among those that are left
abbrev pub invariant-loop-known : goal.invariant-loop-known
invariant-loop-known l = has_name (name_in l.entry) (map name_in l.seen) ≡ has_name (name_in l.entry) (map name_in (drop l.known-index l.seen))
