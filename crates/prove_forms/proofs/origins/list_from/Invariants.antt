use Rattle.std.proofs.Common.{◌≡◌, ◌+◌, ◌++◌, drop}
use Rattle.prove_forms.specs.Origins.{origin_values, listed_values, listed_from}
use Rattle.prove_forms.proofs.origins.list_from.Given as goal

-- what is listed, and what is left of the bytes, are all
abbrev pub invariant-loop-origin : goal.invariant-loop-origin
invariant-loop-origin l =
    record {
      next : l.next ≡ l.at + l.origin-index;
      listed : listed_values l.list.items ++ listed_from l.next (origin_values (drop l.origin-index l.bytes))
          ≡ listed_values l.fn.list.items ++ listed_from l.at (origin_values l.bytes);
    }
