-- Instructions that were decoded before.
use Rattle.std.specs.Prelude.{ℕ, ◌<◌, List, Ok}
use Rattle.std.specs.List.{All}
use Rattle.law_machine.specs.model_machine.specs.Code.{DecodesTo}
use Rattle.mc_machine.specs.declared.known.Known.{Known}

-- an entry of a table is an instruction of some code, or the address of its place is no code address
abbrev pub IsKnown : List ℕ → Known → Type 0
IsKnown code k = k.at < 0x10000 → DecodesTo code k.at (Ok (k.ins, k.next))

-- each instruction of a table is that of some code at its address
abbrev pub KnowsCode : List ℕ → List Known → Type 0
KnowsCode code ks = All (IsKnown code) ks
