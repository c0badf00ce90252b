-- Decks of worked rows.
use Rattle.std.specs.Prelude.{ℕ, List, ◌++◌, codes}

-- an application of some lines of assembly with two static bytes, loaded and selected, and what follows
abbrev pub deck_of : List ℕ → List ℕ → List ℕ
deck_of code rest = codes "format\npower\napp a A000000001\n" ++ code ++ codes "end\nload a 2 0\nselect A000000001\n" ++ rest

-- one that adds one to them, with some rules
abbrev pub with_rules : List ℕ → List ℕ
with_rules rules = deck_of (codes "INCN SB[0],2\nEXIT\n") rules

-- the same after two commands to it
abbrev pub counting : List ℕ → List ℕ
counting rules = with_rules (codes "apdu 8001000000\napdu 8001000000\n" ++ rules)

-- one of other code, after a command to it
abbrev pub with_code : List ℕ → List ℕ → List ℕ
with_code code rules = deck_of code (codes "apdu 8001000000\n" ++ rules)
