-- Computed power-ups: a small card with one word in its open journal, and a word that fails.
use Rattle.std.specs.Prelude.{ℕ, List, [], ◌∷◌, replicate, slice_set}
use Rattle.model_play.specs.model_device.specs.Bytes.{zeros}
use Rattle.model_play.specs.model_device.specs.Card.{blocks_from, apps_of}
use Rattle.model_play.specs.model_device.specs.Image.{Two, gate, opening, targets_1, targets_2, pairs}
use Rattle.model_play.specs.model_device.specs.Layout.{layout, bad_block, bad_record}
use Rattle.model_play.specs.model_device.specs.Stopped.{word_of_number, four_targets}
use Rattle.model_play.specs.Play.{LineResult, formatted_image}
use Rattle.mc_store.specs.Power.{power_writes}
use Rattle.mc_dead_word.specs.Powers.{after_powers, answer_by, stops_at}

-- a formatted device of 256 words with an atomic write pending: word 200, of the hole, is to be zero
abbrev pub pending : List (List ℕ)
pending =
    slice_set (slice_set (slice_set (slice_set (formatted_image (replicate 256 (zeros 8))) 19 (zeros 8)) 3 (four_targets (200 ∷ []))) 2 (word_of_number 1)) (gate Two) (opening Two)

-- what the power line answers after power-ups that leave these words in the failing word
unfoldable pub answer_after : ℕ → List (List ℕ) → LineResult
unfolding targets_1 targets_2 pairs blocks_from apps_of layout bad_block bad_record power_writes
answer_after p xs = let m = after_powers p xs pending in answer_by (stops_at p m) m
