-- What calls do to the bytes that a source has left and a sink has taken, if it states them: `Some` of the bytes. For a
-- stream that does not, `None`, nothing is claimed here, and one that does goes on stating them.
use Rattle.std.specs.Prelude.{◌≡◌, ℕ, zero, suc, ◌+◌, ◌-◌, ◌<◌, ◌≤◌, min, List, [], ◌++◌, length, take, Option, Some, None, option_map, ⊤}
use Rattle.model_device.specs.Counts.{last_count}

-- a count plus one, up to the last value of a count
abbrev pub one_more : ℕ → ℕ
one_more n = min (n + 1) last_count

-- the bytes that a writer holds without the last n of them, which it could not pass on
abbrev pub without_last : ℕ → Option (List ℕ) → Option (List ℕ)
without_last zero held = held
without_last (suc n) held = option_map (λ xs. take (length xs - suc n) xs) held

-- these bytes came from the front of what was left
abbrev pub Took : Option (List ℕ) → Option (List ℕ) → List ℕ → Type 0
Took None new bs = ⊤
Took (Some xs) None bs = ⊥
Took (Some xs) (Some ys) bs = xs ≡ bs ++ ys

-- no byte is left
abbrev pub AtEnd : Option (List ℕ) → Type 0
AtEnd None = ⊤
AtEnd (Some xs) = xs ≡ []

-- these bytes were added after what was taken before
abbrev pub Grew : Option (List ℕ) → Option (List ℕ) → List ℕ → Type 0
Grew None new bs = ⊤
Grew (Some xs) None bs = ⊥
Grew (Some xs) (Some ys) bs = ys ≡ xs ++ bs

-- the stated bytes stay as they were
abbrev pub Stays : Option (List ℕ) → Option (List ℕ) → Type 0
Stays None new = ⊤
Stays (Some xs) None = ⊥
Stays (Some xs) (Some ys) = ys ≡ xs

-- some front of what was left was taken, of at most `most` bytes
pub record TookAtMost (old new : Option (List ℕ)) (most : ℕ) : Type 0 where
  pub front : List ℕ
  pub took : Took old new front
  pub bound : length front ≤ most

-- some front of what was left was taken, of more than `limit` bytes
pub record TookMore (old new : Option (List ℕ)) (limit : ℕ) : Type 0 where
  pub front : List ℕ
  pub took : Took old new front
  pub over : limit < length front

-- a front of these bytes was added, and not all of them
pub record GrewByPart (old new : Option (List ℕ)) (bs : List ℕ) : Type 0 where
  pub front : List ℕ
  pub rest : List ℕ
  pub parts : bs ≡ front ++ rest
  pub some_left : 0 < length rest
  pub grew : Grew old new front
