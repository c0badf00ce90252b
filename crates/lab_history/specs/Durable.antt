-- The device writes of one instruction among those of a line: those before which the number of instructions is the same.
use Rattle.std.specs.Prelude.{◌≡◌, ◌≢◌, ℕ, suc, ◌+◌, ◌<◌, ◌≤◌, cond, ◌==◌, List, [], ◌∷◌, ◌++◌, length, replicate}
use Rattle.std.specs.List.{AllByRecursion}
use Rattle.model_device.specs.Image.{Two}
use Rattle.model_device.specs.Stopped.{cost}

-- the number of places of a list that have a value
abbrev pub count_in : List ℕ → ℕ → ℕ
count_in [] n = 0
count_in (x ∷ xs) n = cond (x == n) 1 0 + count_in xs n

-- the first place that has a value, or the number of places
abbrev pub first_in : List ℕ → ℕ → ℕ
first_in [] n = 0
first_in (x ∷ xs) n = cond (x == n) 0 (suc (first_in xs n))

-- The device write with an index is one of an atomic write of 1 to 64 words; before each of its device writes a number of
-- instructions was done, and before no other device write of the line that number.
pub record IsGroup (turns : List ℕ) (i : ℕ) (front : List ℕ) (words turn : ℕ) (back : List ℕ) : Type 0 where
  pub is : turns ≡ front ++ replicate (cost Two words) turn ++ back
  pub before : AllByRecursion (λ n. n ≢ turn) front
  pub after : AllByRecursion (λ n. n ≢ turn) back
  pub low : 1 ≤ words
  pub high : words ≤ 64
  pub from : length front ≤ i
  pub to : i < length front + cost Two words
