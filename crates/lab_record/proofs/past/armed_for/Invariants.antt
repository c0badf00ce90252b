use Rattle.std.specs.Prelude.{◌≡◌, option_map, take, None}
use Rattle.lab_record.specs.Steady.{armed_in}
use Rattle.lab_record.proofs.past.armed_for.Given as goal

-- the stop that the lines so far armed last
abbrev pub invariant-loop-j : goal.invariant-loop-j
invariant-loop-j l = option_map (λ a. a.write) l.armed ≡ armed_in None (take l.j l.deck)
