-- The line of an executed instruction in a trace, and the text of an outcome.
use Rattle.std.specs.Prelude.{ℕ, ◌+◌, Bool, cond, List, [], ◌∷◌, ◌++◌, Option, Some, None, codes}
use Rattle.model_machine.specs.declared.instruction.Ins.{Ins}
use Rattle.model_machine.specs.model_device.specs.Bytes.{bytes2}
use Rattle.model_text.specs.Listing.{text_of, hex_text}
use Rattle.model_machine.specs.Words.{abend_code}
use Rattle.model_machine.specs.Chain.{Turn, Outcome, Reply, Abended}

-- the text of an instruction, or `?`
abbrev pub ins_text : Option Ins → List ℕ
ins_text None = codes "?"
ins_text (Some i) = text_of i

-- a flag as a digit
abbrev pub bit_text : Bool → List ℕ
bit_text b = cond b (codes "1") (codes "0")

-- the line of a turn: `> `, the depth, the place, the instruction or `?`, DT, and the flags C and Z
unfoldable pub turn_line : Turn → List ℕ
turn_line t =
    codes "> " ++ (48 + t.depth) ∷ (codes " " ++ hex_text (bytes2 t.at) ++ codes " " ++ ins_text t.ins ++ codes " " ++ hex_text (bytes2 t.dt)
    ++ codes " " ++ bit_text t.c ++ bit_text t.z ++ codes "\n")

-- the lines of turns
abbrev pub turn_lines : List Turn → List ℕ
turn_lines [] = []
turn_lines (t ∷ ts) = turn_line t ++ turn_lines ts

-- the text of an outcome
abbrev pub outcome_text : Outcome → List ℕ
outcome_text (Reply body sw) = hex_text (body ++ bytes2 sw)
outcome_text (Abended cause) = codes "abend " ++ hex_text (abend_code cause ∷ [])
