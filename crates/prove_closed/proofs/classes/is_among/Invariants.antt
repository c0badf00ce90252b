use Rattle.std.proofs.Common.{◌≡◌, false, drop}
use Rattle.prove_closed.specs.Classes.{lists_of, is_among}
use Rattle.prove_closed.proofs.classes.is_among.Given as goal

-- if the class is not among those that are left, it is among none
abbrev pub invariant-loop-class : goal.invariant-loop-class
invariant-loop-class l =
    is_among l.matches (lists_of (drop l.class-index l.classes)) ≡ false → is_among l.matches (lists_of l.classes) ≡ false
