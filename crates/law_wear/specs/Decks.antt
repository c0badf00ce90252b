-- The decks of worked rows: in each the last line writes as much as its row of the table says, or near it.
use Rattle.std.specs.Prelude.{ℕ, zero, suc, ◌+◌, ◌-◌, ◌*◌, List, [], ◌∷◌, ◌++◌, codes, replicate}
use Rattle.law_family.specs.model_device.specs.Image.{One, opening}
use Rattle.law_family.specs.model_device.specs.Stopped.{word_of_number}
use Rattle.law_family.specs.model_device.specs.Card.{heap_start}
use Rattle.law_family.specs.model_device.specs.Layout.{root, hole_header}
use Rattle.law_family.specs.model_play.specs.DeckGrammar.{DeckLine}
use Rattle.law_family.specs.model_play.specs.DeckGrammar as line

-- 64 pairs of journal 1 from pair i on, each with word 200 as its target
abbrev pub sixty_four : ℕ → ℕ → List (ℕ × DeckLine)
sixty_four i zero = []
sixty_four i (suc n) = (1, line.Poke (3 + 2 * i) (word_of_number 200)) ∷ sixty_four (i + 1) n

-- a card of layout 1 with 64 words in its open journal, powered up
abbrev pub longest_power : List (ℕ × DeckLine)
longest_power =
    (1, line.Poke 0 (root 1 1024 heap_start)) ∷ (1, line.Poke heap_start (hole_header (1024 - heap_start) 0))
    ∷ (1, line.Poke 1 (opening One)) ∷ (1, line.Poke 2 (word_of_number 64)) ∷ (sixty_four 0 64 ++ (2, line.Power) ∷ [])

-- a card with an application that clears 255 static bytes twice, which lie in 33 words
abbrev pub clearing : List ℕ
clearing =
    codes "format\npower\napp a A000000001\nCLEARN SB[2],255\nCLEARN SB[2],255\nEXIT\nend\n"

-- its load as the first application, with 4,096 static bytes and no data
abbrev pub first_load : List ℕ
first_load = clearing ++ codes "load a 4096 0\n"

-- a command to it within a budget of two instructions
abbrev pub two_instructions : List ℕ
two_instructions = clearing ++ codes "load a 257 0\nselect A000000001\nbudget 2\napdu 80000000\n"

-- a command to it that ends with its third instruction
abbrev pub three_instructions : List ℕ
three_instructions = clearing ++ codes "load a 257 0\nselect A000000001\napdu 80000000\n"

-- its deletion before another application
abbrev pub deletion : List ℕ
deletion = clearing ++ codes "app b A000000002\nEXIT\nend\nload a 257 0\nload b 0 0\ndelete A000000001\n"

-- a piece of 1,024 bytes at an odd place
abbrev pub odd_piece : List ℕ
odd_piece =
    codes "format\npower\napdu BE1200000C040100000000000000090000\napdu BE2400000100\napdu BE240001000400"
    ++ replicate 2048 48 ++ codes "\n"

-- a creation by hand, with 4,096 static bytes and no data
abbrev pub creation : List ℕ
creation =
    codes "format\npower\napdu BE1200000C000110000000000000090000\napdu BE2400000100\n"
    ++ codes "apdu BE2000000961074F05A000000001\napdu BE160000\n"
