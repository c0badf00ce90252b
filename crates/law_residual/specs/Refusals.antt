-- A device by the writes that it refuses, and a play on it.
use Rattle.std.specs.Prelude.{ℕ, zero, suc, ◌+◌, ◌-◌, cond, min, nat_le, List, [], ◌∷◌, Option, Some, None}
use Rattle.model_play.specs.DeckGrammar.{DeckLine}
use Rattle.model_play.specs.Play.{Armed, Unarmed, ArmedCut, ArmedFail, FailedWrite, State, Step, armed_stop_in, moves_of, plays, start, steady_at, step}

-- a device by the writes that are tried on it, from 1 on: it refuses those that have a word here, and this word is then
-- left in their place
abbrev pub Refusals : Type 0
Refusals = ℕ → Option (List ℕ)

-- a device that does its first writes, and then refuses those of another that is counted from there on
abbrev pub refuses_after : ℕ → Refusals → Refusals
refuses_after done r n = cond (nat_le n done) None (r (n - done))

-- write k of a line, if it is refused, and else what comes later
abbrev pub refused_or : ℕ → Option (List ℕ) → Option FailedWrite → Option FailedWrite
refused_or k None later = later
refused_or k (Some x) later = Some (record { at = k; left = x })

-- the first of n writes of a line that is refused, from its write k + 1 on; `before` writes were tried before the line
abbrev pub first_refused : Refusals → ℕ → ℕ → ℕ → Option FailedWrite
first_refused r before k zero = None
first_refused r before k (suc n) = refused_or (k + 1) (r (before + (k + 1))) (first_refused r before (k + 1) n)

-- the number of writes of a line of m writes that come before the stop that the deck armed for it
abbrev pub count_before_armed : Armed → ℕ → ℕ
count_before_armed Unarmed m = m
count_before_armed (ArmedCut k x) m = min m (k - 1)
count_before_armed (ArmedFail k) m = min m (k - 1)

-- a failed write, or else another
abbrev pub failure_or : Option FailedWrite → Option FailedWrite → Option FailedWrite
failure_or None w = w
failure_or (Some v) w = Some v

-- the failed write of a line of m writes: the first that the device refuses, or else the one that the deck asked for
abbrev pub failure_among : Refusals → ℕ → Armed → DeckLine → ℕ → Option FailedWrite
failure_among r before a l m = failure_or (first_refused r before 0 (count_before_armed a m)) (steady_at a l m)

-- the failed write of a line in a state, on a device on which `before` writes were tried
abbrev pub failure_on : Refusals → ℕ → State → ℕ × DeckLine → Option FailedWrite
failure_on r before s l = failure_among r before (armed_stop_in s) l.1 (moves_of s l)

-- the failed writes of a play on such a device
unfoldable pub failures_on : Refusals → ℕ → State → List (ℕ × DeckLine) → List (Option FailedWrite)
failures_on r before s [] = []
failures_on r before s (l ∷ ls) =
    let w = failure_on r before s l in
    let t = step s l w in
    w ∷ failures_on r (before + t.moves) t.after ls

-- the play of a deck on a device with these words, which refuses these writes
abbrev pub play_on : Refusals → List (List ℕ) → List (ℕ × DeckLine) → List Step
play_on r m ls = plays (start m) ls (failures_on r 0 (start m) ls)
