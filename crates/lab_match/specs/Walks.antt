-- The end of a walk of a pattern along a text.
use Rattle.std.specs.Prelude.{◌≡◌, ◌+◌, ◌<◌, List, ℕ, length, true, false}
use Rattle.lab_match.specs.declared.matching.Walk.{Walk}
use Rattle.lab_match.specs.declared.matching.Walk.TheVariants as walk
use Rattle.model_events.specs.Matching.{matches, plain, some_rest}

-- a pattern and a text, without blanks and capital letters, were walked up to a `*`: the pattern matches here, or
-- further on, exactly if the rest of it does
pub record Parts (p t ps ts : List ℕ) : Type 0 where
  pub here : matches p t ≡ some_rest (matches ps) ts
  pub later : some_rest (matches p) t ≡ some_rest (matches ps) ts

-- the match, by the end of a walk, without blanks and capital letters
abbrev pub WalkIs : List ℕ → List ℕ → Walk → Type 0
WalkIs p t walk.Whole = matches (plain p) (plain t) ≡ true
WalkIs p t walk.Apart = matches (plain p) (plain t) ≡ false
WalkIs p t (walk.Star ps ts) = Parts (plain p) (plain t) (plain ps.now) (plain ts.now)

-- the rests after a `*` are shorter
abbrev pub WalkEnds : List ℕ → List ℕ → Walk → Type 0
WalkEnds p t walk.Whole = Unit {0}
WalkEnds p t walk.Apart = Unit {0}
WalkEnds p t (walk.Star ps ts) = length ps.now + length ts.now < length p + length t
