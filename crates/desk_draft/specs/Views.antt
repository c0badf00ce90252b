-- What the code has of a draft, and what it stands for in the definitions.
use Rattle.std.specs.Prelude.{◌≡◌, ℕ, Bool, true, false, cond, List, [], ◌∷◌, ◌++◌, map, codes, decimal, is_none, nat_le, ◌==◌, option_map, Option, Some, None, Result, Ok, Err, ⊤}
use Rattle.std.specs.Ordering.{nat_cmp}
use Rattle.std.specs.Cmp.Lexicographic.{slice_cmp}
use Rattle.std.specs.BTreeMap
use Rattle.std.specs.BTreeMap.{BTreeMap}
use denote.Ref.{Bor}
use Rattle.mc_text.specs.model_device.specs.Bytes.{lookup, or_else, zeros}
use Rattle.mc_text.specs.model_text.specs.Text.{ok_as, only_if, hex_value, is_empty}
use Rattle.mc_text.specs.model_text.specs.Listing.{address_text, hex_text}
use Rattle.mc_deck.specs.model_play.specs.declared.deck.DeckCause.{DeckCause}
use Rattle.mc_deck.specs.model_play.specs.declared.deck.DeckCause.TheVariants.{BadLine, BadNumber, OutOfRange, NameTwice}
use Rattle.mc_deck.specs.declared.refusal.Fault.{Fault}
use Rattle.mc_deck.specs.declared.refusal.Fault.TheVariants as fault
use Rattle.mc_deck.specs.declared.refusal.DeckRefusal.{DeckRefusal}
use Rattle.mc_deck.specs.declared.refusal.DeckRefusal.TheVariants as refusal
use Rattle.mc_deck.specs.Refused.{Faulty}
use Rattle.desk_draft.specs.declared.meaning.Register.{Register}
use Rattle.desk_draft.specs.declared.meaning.Register.TheVariants as register
use Rattle.desk_draft.specs.declared.meaning.Meaning.{Meaning}
use Rattle.desk_draft.specs.declared.meaning.Meaning.TheVariants as meaning
use Rattle.desk_draft.specs.declared.operand.Operand.{Operand}
use Rattle.desk_draft.specs.declared.operand.Operand.TheVariants as operand
use Rattle.desk_draft.specs.declared.part.Part.{Part}
use Rattle.desk_draft.specs.declared.line.EndedLine.{EndedLine}
use Rattle.desk_draft.specs.declared.declaration.DeclarationWord.{DeclarationWord}
use Rattle.desk_draft.specs.declared.declaration.DeclarationWord.TheVariants as word
use Rattle.desk_draft.specs.declared.declaration.Declaration.{Declaration}
use Rattle.desk_draft.specs.declared.declaration.Declaration.TheVariants as declaration
use Rattle.desk_draft.specs.declared.scope.Scope.{Scope}
use Rattle.desk_draft.specs.declared.known.Known.{Known}
use Rattle.desk_draft.specs.declared.draft.OpenSection.{OpenSection}
use Rattle.desk_draft.specs.declared.statement.Sizes.{Sizes}
use Rattle.desk_draft.specs.Statements.{Loadable, command_field}
use Rattle.desk_draft.specs.Drafts
use Rattle.desk_draft.specs.Parts
use Rattle.desk_draft.specs.Declarations
use Rattle.desk_draft.specs.Declarations.{header_names, scope_after, static_scope, session_scope, public_scope, const_scope, declaration_text, gives, gives_later}

-- a part with what stands around it
abbrev pub part_value : Part → Parts.Part
part_value f = record { before = f.before.now; core = f.core.now; after = f.after.now }

-- ---- names

-- the tag of a register
abbrev pub register_tag : Register → ℕ
register_tag register.Sb = 1
register_tag register.Db = 3
register_tag register.Pb = 6
register_tag register.Pt = 7

-- what a name stands for
abbrev pub meaning_of : Meaning → Declarations.NameMeaning
meaning_of (meaning.Bytes r at size) = Declarations.Bytes (register_tag r) at size
meaning_of (meaning.Number text) = Declarations.Number text.now

-- the map has the names of a section but those of the command's header
abbrev pub AreNames : BTreeMap (Bor (List ℕ)) Meaning → List (List ℕ × Declarations.NameMeaning) → Type 0
AreNames m l =
    (q : Bor (List ℕ))
    → or_else (option_map meaning_of (BTreeMap.get (λ x y. slice_cmp nat_cmp x.now y.now) m q))
    (lookup header_names q.now) ≡ lookup l q.now

-- ---- lines

-- a line with what ends it
abbrev pub ended_line_of : EndedLine → Parts.EndedLine
ended_line_of l = record { text = l.text.now; ending = l.ending.now }

-- the line that a piece of a text is, by what follows its line feed
abbrev pub piece_line : List ℕ → Option (List ℕ) → Parts.EndedLine
piece_line p None = record { text = p; ending = [] }
piece_line p (Some rest) = Parts.fed_line p

-- the texts of lines
abbrev pub line_texts : List EndedLine → List (List ℕ)
line_texts ls = map (λ l. l.text.now) ls

-- whether a STATIC line after each of these lines gives bytes, up to the section's end
abbrev pub gives_later_each : List (List ℕ) → List Bool
gives_later_each [] = []
gives_later_each (l ∷ ls) = gives_later ls ∷ gives_later_each ls

-- ---- declarations

-- the word of a declaration
abbrev pub word_of : DeclarationWord → Declarations.DeclarationWord
word_of word.Static = Declarations.StaticWord
word_of word.Session = Declarations.SessionWord
word_of word.Public = Declarations.PublicWord
word_of word.Const = Declarations.ConstWord

-- a section after a declaration
abbrev pub scope_by : Declarations.Scope → Declaration → Result Declarations.Scope DeckCause
scope_by d (declaration.Static name size hex) = static_scope d name.now size.now (option_map (λ t. t.now) hex)
scope_by d (declaration.Session name size) = session_scope d name.now size.now
scope_by d (declaration.Public name at size) = public_scope d name.now at.now size.now
scope_by d (declaration.Const name number) = const_scope d name.now number.now
scope_by d declaration.Malformed = Err BadLine

-- the deck's line of n static bytes, which gives them or not; `later` is whether a STATIC line after it gives bytes
abbrev pub static_line : Bool → ℕ → Option (List ℕ) → List ℕ
static_line later n (Some hex) = codes "DATA " ++ hex
static_line later n None = cond later (codes "DATA " ++ hex_text (zeros n)) []

-- the deck's line of a declaration that adds n static bytes
abbrev pub text_by : Bool → ℕ → Declaration → List ℕ
text_by later n (declaration.Static name size hex) = static_line later n (option_map (λ t. t.now) hex)
text_by later n d = []

-- whether a declaration is a STATIC line that gives bytes
abbrev pub gives_by : Declaration → Bool
gives_by (declaration.Static name size (Some hex)) = true
gives_by d = false

-- the declaration is that of a word and the fields after it
pub record Declares (d : Declaration) (w : Declarations.DeclarationWord) (fs : List (List ℕ)) : Type 0 where
  pub scope : (s : Declarations.Scope) → scope_by s d ≡ scope_after s w fs
  pub text : (later : Bool) (n : ℕ) → text_by later n d ≡ declaration_text later n w fs
  pub gives : gives_by d ≡ gives (Some (w, fs))

-- the declaration of a line, if it is one
abbrev pub DeclaresMaybe : Option Declaration → Option (Declarations.DeclarationWord × List (List ℕ)) → Type 0
DeclaresMaybe None None = ⊤
DeclaresMaybe None (Some p) = ⊥
DeclaresMaybe (Some d) None = ⊥
DeclaresMaybe (Some d) (Some p) = Declares d p.0 p.1

-- what a section declares, with these names
abbrev pub scope_of : Scope → List (List ℕ × Declarations.NameMeaning) → Declarations.Scope
scope_of s l = record { names = l; fixed = s.fixed; session = s.session; data_bytes = s.data_bytes }

-- whether a number of bytes, if there is one, is a size
abbrev pub is_count_of : ℕ → Option ℕ → Bool
is_count_of size None = true
is_count_of size (Some n) = n == size

-- a number that is not above a highest one
abbrev pub only_within : ℕ → Option ℕ → Result (Unit {0}) DeckCause
only_within high None = Err BadNumber
only_within high (Some n) = only_if (nat_le n high) OutOfRange tt

-- a name was given its meaning, or the section has it
abbrev pub NamesOne :
    BTreeMap (Bor (List ℕ)) Meaning → List (List ℕ × Declarations.NameMeaning) → List ℕ → Declarations.NameMeaning
    → Result (Unit {0}) Fault → Type 0
NamesOne m l n x (Ok u) = (is_none (lookup l n) ≡ true) × AreNames m ((n, x) ∷ l)
NamesOne m l n x (Err e) = Faulty (only_if (is_none (lookup l n)) NameTwice n) e

-- a section took a line, or the line was refused
abbrev pub TakesScope : Scope → Result (Unit {0}) Fault → Result Declarations.Scope DeckCause → Type 0
TakesScope s (Ok u) r = (l : List (List ℕ × Declarations.NameMeaning)) × AreNames s.names l × (r ≡ Ok (scope_of s l))
TakesScope s (Err e) r = Faulty r e

-- the section took a line, whose text in the deck is added, or the line was refused
abbrev pub ScopeTurned : List ℕ → List ℕ → Scope → Result (Unit {0}) Fault → Result Drafts.ScopeTurn DeckCause → Type 0
ScopeTurned old new s (Ok u) r =
    (t : List ℕ) × (l : List (List ℕ × Declarations.NameMeaning)) × AreNames s.names l
    × (r ≡ Ok (record { text = t; scope = scope_of s l })) × (new ≡ old ++ t)
ScopeTurned old new s (Err e) r = Faulty r e

-- ---- operands

-- the text of an operand
abbrev pub text_of_operand : Operand → List ℕ
text_of_operand (operand.Text t) = t.now
text_of_operand (operand.Place r at) = address_text (register_tag r) at
text_of_operand (operand.Sized r at size) = address_text (register_tag r) at ++ codes "," ++ decimal size
text_of_operand (operand.Size size) = decimal size

-- ---- a deck that grows

-- a deck grew by a text, or the text was refused
abbrev pub Pushes : List ℕ → Result (List ℕ) DeckCause → Result (Unit {0}) Fault → List ℕ → Type 0
Pushes old text (Ok u) new = ok_as (λ t. old ++ t) text ≡ Ok new
Pushes old text (Err e) new = Faulty text e

-- ---- hexadecimal digits

-- whether there is a value
abbrev pub is_there : Option ℕ → Bool
is_there None = false
is_there (Some n) = true

-- a hexadecimal digit
abbrev pub is_hex : ℕ → Bool
is_hex c = is_there (hex_value c)

-- ---- statements

-- what a statement needs of a section
abbrev pub loadable_of : Sizes → Loadable
loadable_of s = record { aid = s.aid.now; fixed = s.fixed; session = s.session }

-- the map has the sections by their names
abbrev pub AreSections : BTreeMap (Bor (List ℕ)) Sizes → List (List ℕ × Loadable) → Type 0
AreSections m l =
    (q : Bor (List ℕ))
    → option_map loadable_of (BTreeMap.get (λ x y. slice_cmp nat_cmp x.now y.now) m q) ≡ lookup l q.now

-- the names that a section declares, if there is one
abbrev pub AreNamesMaybe :
    Option (BTreeMap (Bor (List ℕ)) Meaning) → Option (List (List ℕ × Declarations.NameMeaning)) → Type 0
AreNamesMaybe None None = ⊤
AreNamesMaybe None (Some l) = ⊥
AreNamesMaybe (Some m) None = ⊥
AreNamesMaybe (Some m) (Some l) = AreNames m l

-- the map has what sections declare, by their names
abbrev pub AreScopes :
    BTreeMap (Bor (List ℕ)) (BTreeMap (Bor (List ℕ)) Meaning) → List (List ℕ × List (List ℕ × Declarations.NameMeaning))
    → Type 0
AreScopes m l =
    (q : Bor (List ℕ))
    → AreNamesMaybe (BTreeMap.get (λ x y. slice_cmp nat_cmp x.now y.now) m q) (lookup l q.now)

-- the sections that have ended, and what rules may name
pub record Knows (k : Known) (ss : List Drafts.Section) (r : Drafts.Rules) : Type 0 where
  pub sections : AreSections k.sections (Drafts.by_name ss)
  pub scopes : AreScopes k.scopes r.scopes
  pub app : k.app.now ≡ r.app
  pub is_draft : k.is_draft ≡ r.is_draft

-- an open section is that of the definition, but for its lines
pub record StandsSection (s : OpenSection) (t : Drafts.OpenSection) : Type 0 where
  pub names : AreNames s.scope.names t.scope.names
  pub name : s.name.now ≡ t.name
  pub aid : s.aid.now ≡ t.aid
  pub scope : scope_of s.scope t.scope.names ≡ t.scope

-- the section that a line opens, if it opens one
abbrev pub OpensSection : Option OpenSection → Option Drafts.OpenSection → Type 0
OpensSection None None = ⊤
OpensSection None (Some t) = ⊥
OpensSection (Some s) None = ⊥
OpensSection (Some s) (Some t) = StandsSection s t

-- the section that is open, if one is
abbrev pub StandsMode : Option OpenSection → Drafts.Mode → Type 0
StandsMode None Drafts.Between = ⊤
StandsMode None (Drafts.Within t) = ⊥
StandsMode (Some s) Drafts.Between = ⊥
StandsMode (Some s) (Drafts.Within t) = StandsSection s t

-- what is known of the sections that have ended, and the open one, are those before a line
pub record Stands (m : Known) (s : Option OpenSection) (b : Drafts.Before) : Type 0 where
  pub knows : Knows m b.sections b.rules
  pub mode : StandsMode s b.mode

-- a line was taken: its text was added, and what stands before the next line is there
pub record LineTurned (old new : List ℕ) (m : Known) (s : Option OpenSection)
    (r : Result Drafts.DraftTurn DeckCause) : Type 0 where
  pub turn : Drafts.DraftTurn
  pub is : r ≡ Ok turn
  pub text : new ≡ old ++ turn.text
  pub stands : Stands m s turn.before

-- a line was taken, with what ends it
pub record EndedLineTurned (old new ending : List ℕ) (m : Known) (s : Option OpenSection)
    (r : Result Drafts.DraftTurn DeckCause) : Type 0 where
  pub turn : Drafts.DraftTurn
  pub is : r ≡ Ok turn
  pub text : new ≡ old ++ turn.text ++ ending
  pub stands : Stands m s turn.before

-- what a part of a command between blanks becomes: nothing where it is empty
abbrev pub part_text : List ℕ → Result (List ℕ) DeckCause
part_text t = cond (is_empty t) (Ok []) (command_field t)

-- ---- refusals

-- the refusal of the line with a number
abbrev pub refusal_at : ℕ → Fault → DeckRefusal
refusal_at n (fault.Cause c) = refusal.At n c
refusal_at n fault.NoMemory = refusal.NoMemory
