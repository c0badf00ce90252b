-- The deck that 1 generates, in 9 parts, each up to a `power` line that was ready.
use Rattle.std.specs.Prelude.{◌≡◌, ℕ, List, [], ◌∷◌, ◌++◌, take, drop, refl, Some, None, codes}
use Rattle.std.specs.Fmt.{digits}
use Rattle.std.proofs.Common.{◌∙◌}
use Rattle.model_machine.specs.model_device.specs.Device.{blank_words, device_words}
use Rattle.model_machine.specs.model_device.specs.Image.{Two}
use Rattle.model_play.specs.Play.{State, start}
use Rattle.model_play.specs.DeckGrammar.{DeckLine}
use Rattle.model_play.specs.Generator.{deck_of_number, summary}
use Rattle.model_examples.specs.Summed.{Summed, sum_of_counts, summed_text, part, between, generated_play}
use Rattle.model_examples.proofs.SummedLemmas.{leads, ends, summary_of}

-- the lines from each part on
abbrev lines_0 : List (ℕ × DeckLine)
lines_0 = deck_of_number 1

abbrev lines_1 : List (ℕ × DeckLine)
lines_1 = drop 452 lines_0

abbrev lines_2 : List (ℕ × DeckLine)
lines_2 = drop 450 lines_1

abbrev lines_3 : List (ℕ × DeckLine)
lines_3 = drop 455 lines_2

abbrev lines_4 : List (ℕ × DeckLine)
lines_4 = drop 458 lines_3

abbrev lines_5 : List (ℕ × DeckLine)
lines_5 = drop 453 lines_4

abbrev lines_6 : List (ℕ × DeckLine)
lines_6 = drop 480 lines_5

abbrev lines_7 : List (ℕ × DeckLine)
lines_7 = drop 458 lines_6

abbrev lines_8 : List (ℕ × DeckLine)
lines_8 = drop 461 lines_7

-- the state before each part
abbrev state_0 : State
state_0 = start (blank_words device_words)

abbrev state_1 : State
state_1 = between (0 ∷ 103 ∷ []) (Some (0 ∷ 0 ∷ 32 ∷ 179 ∷ 0 ∷ 0 ∷ 0 ∷ 0 ∷ 0 ∷ 2 ∷ [])) Two

abbrev state_2 : State
state_2 = between (0 ∷ 240 ∷ []) None Two

abbrev state_3 : State
state_3 = between (1 ∷ 93 ∷ []) (Some (0 ∷ 0 ∷ 0 ∷ 0 ∷ 0 ∷ 0 ∷ 0 ∷ 0 ∷ 0 ∷ 0 ∷ [])) Two

abbrev state_4 : State
state_4 = between (1 ∷ 177 ∷ []) (Some (0 ∷ 0 ∷ 192 ∷ 30 ∷ 0 ∷ 0 ∷ 0 ∷ 0 ∷ 0 ∷ 0 ∷ [])) Two

abbrev state_5 : State
state_5 = between (2 ∷ 16 ∷ []) (Some (0 ∷ 0 ∷ 85 ∷ 193 ∷ 0 ∷ 0 ∷ 0 ∷ 0 ∷ 0 ∷ 2 ∷ [])) Two

abbrev state_6 : State
state_6 = between (2 ∷ 106 ∷ []) None Two

abbrev state_7 : State
state_7 = between (2 ∷ 239 ∷ []) None Two

abbrev state_8 : State
state_8 = between (3 ∷ 80 ∷ []) (Some (0 ∷ 0 ∷ 98 ∷ 201 ∷ 0 ∷ 0 ∷ 0 ∷ 0 ∷ 0 ∷ 9 ∷ [])) Two

-- part 1
abbrev sum_0 : Summed
sum_0 = record { lines = 424; replies = 338; abends = 0; cuts = 3; offs = 32; readies = 50; dumps = [] }

-- part 2
abbrev sum_1 : Summed
sum_1 = record { lines = 423; replies = 320; abends = 0; cuts = 4; offs = 72; readies = 27; dumps = [] }

-- part 3
abbrev sum_2 : Summed
sum_2 = record { lines = 426; replies = 338; abends = 0; cuts = 3; offs = 40; readies = 45; dumps = [] }

-- part 4
abbrev sum_3 : Summed
sum_3 = record { lines = 435; replies = 329; abends = 0; cuts = 3; offs = 73; readies = 30; dumps = [] }

-- part 5
abbrev sum_4 : Summed
sum_4 = record { lines = 423; replies = 325; abends = 0; cuts = 7; offs = 39; readies = 52; dumps = [] }

-- part 6
abbrev sum_5 : Summed
sum_5 = record { lines = 437; replies = 338; abends = 0; cuts = 5; offs = 47; readies = 47; dumps = [] }

-- part 7
abbrev sum_6 : Summed
sum_6 = record { lines = 422; replies = 333; abends = 0; cuts = 4; offs = 45; readies = 40; dumps = [] }

-- part 8
abbrev sum_7 : Summed
sum_7 = record { lines = 442; replies = 364; abends = 0; cuts = 4; offs = 20; readies = 54; dumps = [] }

-- part 9
abbrev sum_8 : Summed
sum_8 = record { lines = 320; replies = 227; abends = 0; cuts = 6; offs = 52; readies = 32; dumps = codes "static 03A3\nstatic 00000000000000000000\nstatic 05A000000001\n" }

part_0 : part state_0 (take 452 lines_0) ≡ (sum_0, state_1)
unfolding deck_of_number part between
part_0 = refl

part_1 : part state_1 (take 450 lines_1) ≡ (sum_1, state_2)
unfolding deck_of_number part between
part_1 = refl

part_2 : part state_2 (take 455 lines_2) ≡ (sum_2, state_3)
unfolding deck_of_number part between
part_2 = refl

part_3 : part state_3 (take 458 lines_3) ≡ (sum_3, state_4)
unfolding deck_of_number part between
part_3 = refl

part_4 : part state_4 (take 453 lines_4) ≡ (sum_4, state_5)
unfolding deck_of_number part between
part_4 = refl

part_5 : part state_5 (take 480 lines_5) ≡ (sum_5, state_6)
unfolding deck_of_number part between
part_5 = refl

part_6 : part state_6 (take 458 lines_6) ≡ (sum_6, state_7)
unfolding deck_of_number part between
part_6 = refl

part_7 : part state_7 (take 461 lines_7) ≡ (sum_7, state_8)
unfolding deck_of_number part between
part_7 = refl

part_8 : (part state_8 lines_8).0 ≡ sum_8
unfolding deck_of_number part between digits
part_8 = refl

-- the parts together
text : summed_text (sum_of_counts sum_0 (sum_of_counts sum_1 (sum_of_counts sum_2 (sum_of_counts sum_3 (sum_of_counts sum_4 (sum_of_counts sum_5 (sum_of_counts sum_6 (sum_of_counts sum_7 (sum_8))))))))) ≡ codes "lines 3752 replies 2912 abends 0 cuts 39 offs 420 readies 377\n" ++ codes "static 03A3\n" ++ codes "static 00000000000000000000\n" ++ codes "static 05A000000001\n"
unfolding digits
text = refl

pub first_summary : summary (generated_play 1) ≡ codes "lines 3752 replies 2912 abends 0 cuts 39 offs 420 readies 377\n" ++ codes "static 03A3\n" ++ codes "static 00000000000000000000\n" ++ codes "static 05A000000001\n"
unfolding generated_play
first_summary = summary_of state_0 lines_0 (sum_of_counts sum_0 (sum_of_counts sum_1 (sum_of_counts sum_2 (sum_of_counts sum_3 (sum_of_counts sum_4 (sum_of_counts sum_5 (sum_of_counts sum_6 (sum_of_counts sum_7 (sum_8))))))))) (leads state_0 state_1 452 lines_0 sum_0 (sum_of_counts sum_1 (sum_of_counts sum_2 (sum_of_counts sum_3 (sum_of_counts sum_4 (sum_of_counts sum_5 (sum_of_counts sum_6 (sum_of_counts sum_7 (sum_8)))))))) part_0 (leads state_1 state_2 450 lines_1 sum_1 (sum_of_counts sum_2 (sum_of_counts sum_3 (sum_of_counts sum_4 (sum_of_counts sum_5 (sum_of_counts sum_6 (sum_of_counts sum_7 (sum_8))))))) part_1 (leads state_2 state_3 455 lines_2 sum_2 (sum_of_counts sum_3 (sum_of_counts sum_4 (sum_of_counts sum_5 (sum_of_counts sum_6 (sum_of_counts sum_7 (sum_8)))))) part_2 (leads state_3 state_4 458 lines_3 sum_3 (sum_of_counts sum_4 (sum_of_counts sum_5 (sum_of_counts sum_6 (sum_of_counts sum_7 (sum_8))))) part_3 (leads state_4 state_5 453 lines_4 sum_4 (sum_of_counts sum_5 (sum_of_counts sum_6 (sum_of_counts sum_7 (sum_8)))) part_4 (leads state_5 state_6 480 lines_5 sum_5 (sum_of_counts sum_6 (sum_of_counts sum_7 (sum_8))) part_5 (leads state_6 state_7 458 lines_6 sum_6 (sum_of_counts sum_7 (sum_8)) part_6 (leads state_7 state_8 461 lines_7 sum_7 (sum_8) part_7 (ends state_8 lines_8 sum_8 part_8))))))))) ∙ text
