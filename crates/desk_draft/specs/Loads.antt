-- A draft whose deck was read, and the sections that its `load` lines name, as the code keeps them.
use Rattle.std.specs.Prelude.{◌≡◌, ℕ, List, Option, option_map}
use Rattle.std.specs.Ordering.{nat_cmp}
use Rattle.std.specs.Cmp.Lexicographic.{slice_cmp}
use Rattle.std.specs.BTreeMap
use Rattle.std.specs.BTreeMap.{BTreeMap}
use denote.Ref.{Bor}
use Rattle.mc_text.specs.model_text.specs.Text.{lines}
use Rattle.mc_asm.specs.Items.{texts}
use Rattle.desk_draft.specs.declared.desk.Desk.{Desk}
use Rattle.desk_draft.specs.declared.source.CodeLine.{CodeLine}
use Rattle.desk_draft.specs.declared.source.Source.{Source}
use Rattle.desk_draft.specs.declared.verdict.Loads.{Loads}
use Rattle.desk_draft.specs.Listings
use Rattle.desk_draft.specs.Sources.{code_line_value, source_value, sources_value}
use Rattle.desk_draft.specs.Verdicts.{source_named}

-- a draft whose deck was read
abbrev pub desk_value : Desk → Listings.Desk
desk_value d = record { deck = d.text.items; sources = sources_value d.sources.items; lines = d.deck }

-- the section that a map has under a name, if it has one
abbrev pub source_under : BTreeMap (Bor (List ℕ)) (Bor Source) → Bor (List ℕ) → Option Listings.Source
source_under m name = option_map (λ s. source_value s.now) (BTreeMap.get (λ x y. slice_cmp nat_cmp x.now y.now) m name)

-- a map has the first of these sections under each name
abbrev pub AreNamed : BTreeMap (Bor (List ℕ)) (Bor Source) → List Listings.Source → Type 0
AreNamed m ss = (name : Bor (List ℕ)) → source_under m name ≡ source_named ss name.now

-- these are the lines of a deck with this text, and these sections by their names
pub record AreLoads (l : Loads) (deck : List ℕ) (ss : List Listings.Source) : Type 0 where
  pub lines : texts l.lines.items ≡ lines deck
  pub sources : AreNamed l.sources ss

-- a line of the code's, if it is one, is this line, whatever code it is of
abbrev pub IsLine : Option CodeLine → Option Listings.CodeLine → Type 0
IsLine l o = (code : List ℕ) × (option_map (code_line_value code) l ≡ o)
