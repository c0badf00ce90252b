-- Lines and remarks as the code has them.
use Rattle.std.specs.Prelude.{ℕ, List, map, Option, None, Some}
use Rattle.mc_asm.specs.declared.line.NumberedLine.{NumberedLine}
use Rattle.mc_lab.specs.Remarks as model
use Rattle.mc_lab.specs.declared.remark.Remark.{Remark}

-- a numbered line
abbrev pub line_value : NumberedLine → ℕ × List ℕ
line_value l = (l.number, l.text.now)

-- a remark
abbrev pub remark_value : Remark → model.Remark
remark_value r = record { number = r.number; text = r.text.now; above = line_value r.above }

-- a remark, if there is one
abbrev pub some_value : Option Remark → Option model.Remark
some_value None = None
some_value (Some r) = Some (remark_value r)

-- remarks
abbrev pub remark_values : List Remark → List model.Remark
remark_values rs = map remark_value rs

-- the number of a remark's line
abbrev pub remark_number : model.Remark → ℕ
remark_number r = r.number
