-- The sections of a draft as the code keeps them: the text of each line in the deck is between two places of the deck.
use Rattle.std.specs.Prelude.{◌≡◌, ℕ, ◌+◌, ◌-◌, List, [], ◌∷◌, ◌++◌, map, length, take, drop, Option, Some, None, ⊤}
use Rattle.desk_draft.specs.declared.draft.SourceLine.{SourceLine}
use Rattle.desk_draft.specs.declared.draft.Section.{Section}
use Rattle.desk_draft.specs.declared.draft.OpenSection.{OpenSection}
use Rattle.desk_draft.specs.declared.draft.Draft.{Draft}
use Rattle.desk_draft.specs.Drafts
use Rattle.desk_draft.specs.Views.{loadable_of}

-- ---- values

-- a line of a section, whose text in the deck is between two places
abbrev pub line_value : List ℕ → SourceLine → Drafts.SourceLine
line_value deck l = record { number = l.number; draft = l.draft.now; deck = take (l.end - l.start) (drop l.start deck) }

-- a section of a draft with this deck
abbrev pub section_value : List ℕ → Section → Drafts.Section
section_value deck s =
    record { name = s.name.now; sizes = loadable_of s.sizes; lines = map (line_value deck) s.lines.items }

-- a draft that was read
abbrev pub draft_value : Draft → Drafts.Draft
draft_value d = record { deck = d.deck.items; sections = map (section_value d.deck.items) d.sections.items }

-- ---- while the deck grows

-- each of some values is that of the other list at its place
abbrev pub Each : {A B : Type 0} → (A → B → Type 0) → List A → List B → Type 0
Each R [] [] = ⊤
Each R [] (b ∷ ys) = ⊥
Each R (a ∷ xs) [] = ⊥
Each R (a ∷ xs) (b ∷ ys) = R a b × Each R xs ys

-- a deck has a text from one place to another
pub record HasText (deck : List ℕ) (from to : ℕ) (text : List ℕ) : Type 0 where
  pub before : List ℕ
  pub after : List ℕ
  pub parts : deck ≡ before ++ (text ++ after)
  pub begins : from ≡ length before
  pub ends : to ≡ length before + length text

-- a line of a section has this number and these texts
pub record IsSourceLine (deck : List ℕ) (l : SourceLine) (t : Drafts.SourceLine) : Type 0 where
  pub number : l.number ≡ t.number
  pub draft : l.draft.now ≡ t.draft
  pub text : HasText deck l.start l.end t.deck

-- a section has this name, these sizes and these lines
pub record IsSection (deck : List ℕ) (s : Section) (t : Drafts.Section) : Type 0 where
  pub name : s.name.now ≡ t.name
  pub sizes : loadable_of s.sizes ≡ t.sizes
  pub lines : Each (IsSourceLine deck) s.lines.items t.lines

-- the section that is open, if one is, has these lines so far
abbrev pub HasLines : List ℕ → Option OpenSection → Drafts.Mode → Type 0
HasLines deck None Drafts.Between = ⊤
HasLines deck None (Drafts.Within t) = ⊥
HasLines deck (Some s) Drafts.Between = ⊥
HasLines deck (Some s) (Drafts.Within t) = Each (IsSourceLine deck) s.lines.items t.lines

-- the sections that have ended, and the lines of the open one, are those before a line
pub record KeepsSections (deck : List ℕ) (ss : List Section) (s : Option OpenSection) (b : Drafts.Before) : Type 0 where
  pub ended : Each (IsSection deck) ss b.sections
  pub lines : HasLines deck s b.mode
