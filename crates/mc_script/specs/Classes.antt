-- The commands of a load that are still to be sent, which are for the card manager.
use Rattle.std.specs.Prelude.{◌≡◌, ℕ, List, [], ◌∷◌}

-- a command of class BE, which the card manager answers
abbrev pub IsManaged : List ℕ → Type 0
IsManaged [] = Unit {0}
IsManaged (cla ∷ b) = cla ≡ 0xBE
