use Rattle.std.proofs.Common.{◌≡◌, ◌++◌, drop}
use Rattle.std.specs.Prelude.{map}
use Rattle.desk_draft.specs.Sources.{source_value}
use Rattle.desk_cover.proofs.sections.Sections.new.Given as goal

-- the sections that are left, added from here, are all sections
abbrev pub invariant-loop-source : goal.invariant-loop-source
invariant-loop-source l = l.all.items ++ map source_value (drop l.source-index l.sources) ≡ map source_value l.sources
