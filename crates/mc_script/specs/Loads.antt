-- The commands of a load that are still to be sent.
use Rattle.std.specs.Prelude.{ℕ, List, [], ◌∷◌, ◌++◌, length, Option, Some, None}
use Rattle.model_play.specs.Play.{piece_commands}
use Rattle.mc_script.specs.declared.loading.LoadCommands.TheInside.{Inside as LoadFields}
use Rattle.mc_script.specs.declared.loading.Section.TheInside.{Inside as SectionFields}

-- the commands of a section that are still to be sent: pieces of what is left of it
abbrev pub pieces_left : SectionFields → List (List ℕ)
pieces_left s = piece_commands (length s.rest.now) s.ins s.at s.rest.now

-- the command that is still to be sent, if it was not sent already
abbrev pub command_left : Option (List ℕ) → List (List ℕ)
command_left None = []
command_left (Some b) = b ∷ []

-- the commands of a load that are still to be sent
abbrev pub commands_left : LoadFields → List (List ℕ)
commands_left c = command_left c.open ++ (c.code ++ c.data ++ c.dir ++ c.fci ++ command_left c.create)
