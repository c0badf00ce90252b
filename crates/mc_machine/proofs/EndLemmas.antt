-- The outcome of the end of a turn, by whether it has one.
use Rattle.std.proofs.Common.{◌≡◌, true, false, Option, Some, None, ap, refl}
use Rattle.std.specs.Prelude.{is_some}
use Rattle.mc_machine.specs.declared.outcome.End.{End}
use Rattle.mc_machine.specs.declared.outcome.Outcome.{Outcome}
use Rattle.mc_machine.specs.Turns.{end_outcome}

pub end_there : (e : Option End) (o : Outcome) → is_some e ≡ true → end_outcome e o ≡ Some o
end_there None o h = absurd (cc h)
end_there (Some e) o h = refl

pub end_missing : (e : Option End) (o : Outcome) → is_some e ≡ false → end_outcome e o ≡ None
end_missing None o h = refl
end_missing (Some e) o h = absurd (cc h)

-- ---- whether it has one

pub ends_there : (e : Option End) (o : Outcome) → is_some e ≡ true → is_some (end_outcome e o) ≡ true
ends_there e o h = ap is_some (end_there e o h)

pub goes_there : (e : Option End) (o : Outcome) → is_some e ≡ false → is_some (end_outcome e o) ≡ false
goes_there e o h = ap is_some (end_missing e o h)
