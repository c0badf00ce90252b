use Rattle.std.proofs.Common.{◌≡◌, map}
use Rattle.prove_facts.specs.Sets.{set_of}
use Rattle.prove_patterns.specs.Headers.{groups_of, headers_of, header_with}
use Rattle.prove_patterns.proofs.command_headers.with_header_byte.Given as goal

-- the groups so far are headers
abbrev pub invariant-loop-group : goal.invariant-loop-group
invariant-loop-group l = headers_of l.headers.items ≡ map (header_with (map set_of l.header.sets.items)) (groups_of l.yielded)
