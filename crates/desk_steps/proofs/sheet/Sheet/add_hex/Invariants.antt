use Rattle.std.proofs.Common.{drop}
use Rattle.mc_text.specs.model_text.specs.Listing.{hex_text}
use Rattle.desk_steps.specs.declared.sheet.Sheet.{Sheet}
use Rattle.desk_steps.specs.Sheets.{Adds}
use Rattle.desk_steps.proofs.sheet.Sheet.add_hex.Given as goal

-- what is added of the bytes that are left, is added of all bytes from the start
abbrev pub invariant-loop-byte : goal.invariant-loop-byte
invariant-loop-byte g l = record { rest : (r : Sheet g.row.T.Denot) → Adds g.T.Sink l.self (hex_text (drop l.byte-index l.bytes)) r → Adds g.T.Sink l.fn.self (hex_text l.bytes) r }
