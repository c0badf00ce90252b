use Rattle.std.proofs.Common.{◌≡◌, ◌≤◌, ◌+◌, ◌*◌, map}
use Rattle.prove_facts.specs.model_prove.specs.Between.{by_left}
use Rattle.prove_facts.specs.model_prove.specs.Texts.{Opens, after_character}
use Rattle.prove_patterns.specs.Opens.{opens_of}
use Rattle.prove_patterns.specs.Ways.{digit_sign, values_from}
use Rattle.prove_patterns.specs.Headers.{groups_of}
use Rattle.prove_patterns.proofs.command_headers.add_low.Given as goal

-- the values from one of this high digit on are in their groups
abbrev pub invariant-loop-end : goal.invariant-loop-end
invariant-loop-end l =
    record {
      within : l.end ≤ 16;
      groups : (o : Opens) → opens_of l.half ≡ map (after_character (digit_sign l.high)) o
          → groups_of l.fn.groups.items ≡ by_left o (values_from l.set.words (16 * l.high + 16))
          → groups_of l.groups.items ≡ by_left o (values_from l.set.words (16 * l.high + l.end));
    }

abbrev pub decreases-loop-end : goal.decreases-loop-end
decreases-loop-end l = l.end
