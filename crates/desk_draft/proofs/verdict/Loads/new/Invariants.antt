use Rattle.std.proofs.Common.{◌≡◌, ◌++◌, List, drop}
use Rattle.desk_draft.specs.Listings.{Source}
use Rattle.desk_draft.specs.Loads.{AreNamed}
use Rattle.desk_draft.specs.Sources.{sources_value}
use Rattle.desk_draft.proofs.verdict.Loads.new.Given as goal

-- the map has some sections by their names, which with those that are left are all
abbrev pub invariant-loop-source : goal.invariant-loop-source
invariant-loop-source l =
    (ss : List Source) × AreNamed l.by_name ss × (ss ++ sources_value (drop l.source-index l.sources) ≡ sources_value l.sources)
