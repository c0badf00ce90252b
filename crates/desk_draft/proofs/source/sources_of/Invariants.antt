use Rattle.std.proofs.Common.{◌≡◌, ◌++◌, drop}
use Rattle.std.specs.Prelude.{map}
use Rattle.desk_draft.specs.Listings.{source_of}
use Rattle.desk_draft.specs.Sources.{sources_value}
use Rattle.desk_draft.specs.Written.{section_value}
use Rattle.desk_draft.proofs.source.sources_of.Given as goal

-- the sections so far, followed by those that are left, are those of the whole
abbrev pub invariant-loop-section : goal.invariant-loop-section
invariant-loop-section l = sources_value l.sources.items ++ map source_of (map (section_value l.deck) (drop l.section-index l.sections)) ≡ map source_of (map (section_value l.deck) l.sections)
