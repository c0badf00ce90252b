use Rattle.std.proofs.Common.{◌≡◌, ◌++◌, map, drop}
use Rattle.prove_patterns.specs.Opens.{opens_of}
use Rattle.prove_patterns.specs.Lines.{opened_plain, command_patterns}
use Rattle.prove_patterns.proofs.lines.opened_commands.Given as goal

-- the patterns so far, and those of the lines that are left, are all
abbrev pub invariant-loop-on : goal.invariant-loop-on
invariant-loop-on l = opens_of l.opens.items ++ map opened_plain (command_patterns (drop l.on-index l.ons)) ≡ map opened_plain (command_patterns l.ons)
