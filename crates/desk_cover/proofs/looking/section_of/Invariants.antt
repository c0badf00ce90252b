use Rattle.std.proofs.Common.{◌≡◌, drop}
use Rattle.desk_cover.specs.Sections.{index_of}
use Rattle.desk_cover.specs.Watching.{code_on, name_in}
use Rattle.desk_cover.proofs.looking.section_of.Given as goal

-- the first section among those that are left is the first of all
abbrev pub invariant-loop-i : goal.invariant-loop-i
invariant-loop-i g l = index_of l.i (drop l.i l.all) (name_in g.N.Nvm.state l.card l.frame) (code_on g.N.Nvm.state l.card l.frame) ≡ index_of 0 l.all (name_in g.N.Nvm.state l.card l.frame) (code_on g.N.Nvm.state l.card l.frame)
