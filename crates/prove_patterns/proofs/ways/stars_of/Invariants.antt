use Rattle.std.proofs.Common.{◌≡◌, ◌<◌, ℕ, get_or}
use Rattle.prove_patterns.proofs.ways.stars_of.Given as goal

-- each sign so far is a star
abbrev pub invariant-loop-i : goal.invariant-loop-i
invariant-loop-i l = (k : ℕ) → k < l.i → get_or l.pattern k 0 ≡ 42
