-- the lines that are left do to the amounts what all do to the first ones
use Rattle.std.proofs.Common.{◌≡◌, drop}
use Rattle.lab_history.specs.Applying.{session_effect}
use Rattle.lab_history.proofs.applying.apply_session.Given as goal

abbrev pub invariant-loop-i : goal.invariant-loop-i
invariant-loop-i l = session_effect l.ons l.i (drop l.i l.ons) l.amounts ≡ session_effect l.fn.ons 0 l.fn.ons l.fn.amounts
