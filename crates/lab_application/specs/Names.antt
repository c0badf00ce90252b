-- The names of what is broken, as a text has them.
use Rattle.std.specs.Prelude.{ℕ, ◌+◌, ◌-◌, List, [], ◌++◌, codes, decimal, slice_get, Option, Some, None}
use Rattle.lab_history.specs.declared.standing.Break.{Break}
use Rattle.lab_history.specs.declared.standing.Break.TheVariants as broken
use Rattle.lab_app_rules.specs.declared.rules.Always.{Always}
use Rattle.lab_app_rules.specs.declared.rules.Balance.{Balance}
use Rattle.lab_app_rules.specs.declared.rules.Named.{Named}
use Rattle.lab_app_rules.specs.declared.rules.On.{On}
use Rattle.lab_app_rules.specs.declared.rules.Rules.{Rules}

-- the name of an allowance, if there is one
abbrev pub name_of : Option Named → List ℕ
name_of None = []
name_of (Some a) = a.name.now

-- the name of the allowance of a line, if there is one
abbrev pub name_of_line : List Named → Option On → List ℕ
name_of_line all None = []
name_of_line all (Some o) = name_of (slice_get all o.name)

-- the name of the allowance of the `on` line with a number
abbrev pub allowance_name : Rules → ℕ → List ℕ
allowance_name r i = name_of_line r.allowances.items (slice_get r.ons.items i)

-- the name of the byte of a range
abbrev pub range_text : Always → List ℕ
range_text a = codes "SB[" ++ decimal a.at ++ codes "]"

-- the name of the bytes of a block
abbrev pub block_text : Balance → List ℕ
block_text b = codes "SB[" ++ decimal b.at ++ codes ".." ++ decimal (b.at + b.n - 1) ++ codes "]"

-- the name of a range, if there is one
abbrev pub range_name : Option Always → List ℕ
range_name None = []
range_name (Some a) = range_text a

-- the name of a block, if there is one
abbrev pub block_name : Option Balance → List ℕ
block_name None = []
block_name (Some b) = block_text b

-- the name of what is broken
abbrev pub broken_name : Rules → Break → List ℕ
broken_name r (broken.On i) = allowance_name r i
broken_name r broken.Abend = codes "abend"
broken_name r (broken.Range i) = range_name (slice_get r.always.items i)
broken_name r (broken.Block i) = block_name (slice_get r.balances.items i)
