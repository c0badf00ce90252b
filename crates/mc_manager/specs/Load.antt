-- An open load while its sections are received.
use Rattle.std.specs.Prelude.{ℕ, ◌+◌, Bool, ◌&&◌, ◌==◌, List, [], ◌++◌, length}
use Rattle.model_card.specs.declared.card.Part.{Part}
use Rattle.model_card.specs.declared.card.Part.TheVariants.{Code, Data, Dir, Fci}
use Rattle.model_card.specs.Items.{Site}
use Rattle.mc_manager.specs.ManagerState.{Loaded}

-- the load of which no section has received a byte
abbrev pub empty_load : Site → Loaded
empty_load s = record { site = s; code = 0; init = 0; dir = []; fci = 0 }

-- the load after a section received these bytes
abbrev pub with_more : Part → List ℕ → Loaded → Loaded
with_more Code b l = record l { code = l.code + length b }
with_more Data b l = record l { init = l.init + length b }
with_more Dir b l = record l { dir = l.dir ++ b }
with_more Fci b l = record l { fci = l.fci + length b }

-- whether each section has received all its bytes
abbrev pub is_full : Loaded → Bool
is_full l = l.code == l.site.sizes.code && l.init == l.site.sizes.init && length l.dir == l.site.sizes.dir && l.fci == l.site.sizes.fci
