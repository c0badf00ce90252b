-- Power-ups on a device one word of which refuses every write.
use Rattle.std.specs.Prelude.{ℕ, ◌+◌, cond, ◌==◌, List, [], ◌∷◌, Option, Some, None}
use Rattle.model_play.specs.model_device.specs.Image.{image_with}
use Rattle.model_play.specs.model_device.specs.Stopped.{image_after_stop}
use Rattle.model_play.specs.Play.{FailedWrite, LineResult, FailureStop, power_result}
use Rattle.mc_store.specs.Power.{base_of_words, power_count, power_writes}

-- the number of the first write to word p among writes that are numbered from k + 1 on
abbrev pub first_to : ℕ → ℕ → List (ℕ × List ℕ) → Option ℕ
first_to p k [] = None
first_to p k (w ∷ ws) = cond (w.0 == p) (Some (k + 1)) (first_to p (k + 1) ws)

-- the write at which a power-up of a device with these words stops, if its word p refuses every write
abbrev pub stops_at : ℕ → List (List ℕ) → Option ℕ
stops_at p m = first_to p 0 (power_writes m)

-- the words after writes, all of them or up to one that left x
abbrev pub words_by : Option ℕ → List (List ℕ) → List (ℕ × List ℕ) → List ℕ → List (List ℕ)
words_by None m ws x = image_with m ws
words_by (Some k) m ws x = image_after_stop m ws k x

-- the words after such a power-up, which leaves x in word p if it writes it
abbrev pub after_power : ℕ → List ℕ → List (List ℕ) → List (List ℕ)
after_power p x m = words_by (stops_at p m) m (power_writes m) x

-- the words after several of them, each with what it leaves
abbrev pub after_powers : ℕ → List (List ℕ) → List (List ℕ) → List (List ℕ)
after_powers p [] m = m
after_powers p (x ∷ xs) m = after_powers p xs (after_power p x m)

-- what the power line answers, by the write at which it stops
abbrev pub answer_by : Option ℕ → List (List ℕ) → LineResult
answer_by None m = power_result (power_count m) (base_of_words m)
answer_by (Some k) m = FailureStop

-- its failed write
abbrev pub failure_by : Option ℕ → List ℕ → Option FailedWrite
failure_by None x = None
failure_by (Some k) x = Some (record { at = k; left = x })
