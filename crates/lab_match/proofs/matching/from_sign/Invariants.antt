use Rattle.std.proofs.Common.{◌≡◌, ◌≤◌, ◌∷◌, ℕ, List, length}
use Rattle.model_events.specs.Matching.{matches, plain, some_rest}
use Rattle.lab_match.proofs.matching.from_sign.Given as goal

-- a pattern that begins with the sign matches a rest of what is left if it matches one of the text
abbrev pub invariant-loop-rest : goal.invariant-loop-rest
invariant-loop-rest l = record {
  same : (ps : List ℕ) → some_rest (matches (l.sign ∷ ps)) (plain l.rest) ≡ some_rest (matches (l.sign ∷ ps)) (plain l.text);
  less : length l.rest ≤ length l.text;
}

abbrev pub decreases-loop-rest : goal.decreases-loop-rest
decreases-loop-rest l = length l.rest
