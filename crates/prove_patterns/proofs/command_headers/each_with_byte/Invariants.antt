use Rattle.std.proofs.Common.{◌≡◌, ◌++◌, drop, flat_map}
use Rattle.prove_facts.specs.model_prove.specs.Between.{with_header_byte}
use Rattle.prove_facts.specs.Sets.{set_of}
use Rattle.prove_patterns.specs.Headers.{headers_of}
use Rattle.prove_patterns.proofs.command_headers.each_with_byte.Given as goal

-- those so far, and those of the rest, are all
abbrev pub invariant-loop-header : goal.invariant-loop-header
invariant-loop-header l =
    headers_of l.headers.items ++ flat_map (with_header_byte (set_of l.set)) (headers_of (drop l.header-index l.from)) ≡ flat_map (with_header_byte (set_of l.set)) (headers_of l.from)
