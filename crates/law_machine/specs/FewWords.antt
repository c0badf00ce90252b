-- The number of words of static bytes that one instruction changes, and the number of device writes that this takes.
use Rattle.std.specs.Prelude.{◌≡◌, ℕ, ◌≤◌, List, length, IfSome, Option, Some, None, ⊤}
use Rattle.model_card.specs.model_machine.specs.declared.instruction.Ins.{Ins}
use Rattle.model_card.specs.model_machine.specs.declared.instruction.Ins.TheVariants as ins
use Rattle.model_card.specs.model_device.specs.Image.{One, Two}
use Rattle.model_card.specs.model_device.specs.Stopped.{cost}
use Rattle.model_card.specs.model_machine.specs.Code.{Shaped}
use Rattle.model_card.specs.model_device.specs.Pieces.{touched_words}
use Rattle.model_card.specs.model_machine.specs.Frame.{Frame}
use Rattle.model_card.specs.model_machine.specs.Primitives.{Around, Exits, Done, Primitive, SetProtection, primitive}
use Rattle.model_card.specs.model_machine.specs.Row.{RowEnd, Abends, Does, row}
use Rattle.model_card.specs.model_device.specs.Limits.{most_static}
use Rattle.law_rows.specs.Keeping.{PiecesWithin}

-- a frame within the limits: its pending pieces lie in its static bytes and touch at most 64 words
pub record HoldsFew (f : Frame) : Type 0 where
  pub fixed : length f.fixed ≤ most_static
  pub inside : PiecesWithin (length f.fixed) f.pieces
  pub few : length (touched_words f.pieces) ≤ 64

-- the number of words that a change touches
abbrev pub words_in : Option (List (ℕ × List ℕ)) → ℕ
words_in None = 0
words_in (Some ps) = length (touched_words ps)

-- the greatest number of words that a primitive changes: a commit of the pending pieces 64, any other 33
abbrev pub most_of : Option Primitive → ℕ
most_of (Some SetProtection) = 64
most_of _ = 33

-- the greatest number of words that an instruction changes
abbrev pub most_words : Ins → ℕ
most_words (ins.Prim set number args) = most_of (primitive set number)
most_words _ = 33

-- an instruction that is done changes at most `most` words, leaves a frame within the limits, and changes none if the
-- frame exits
pub record DoesFew (most : ℕ) (d : Done) : Type 0 where
  pub words : words_in d.effect.changes ≤ most
  pub frame : HoldsFew d.effect.frame
  pub exit : d.next ≡ Exits → d.effect.changes ≡ None

-- a row that is done changes at most `most` words
abbrev pub EndsWithin : ℕ → RowEnd → Type 0
EndsWithin most (Abends a) = ⊤
EndsWithin most (Does d) = words_in d.effect.changes ≤ most

-- the name that an instruction may write has at most 16 bytes: a primitive may write that of the delegator
abbrev pub IsReportedName : Ins → Option (List ℕ) → Type 0
IsReportedName (ins.Prim set number args) delegator = IfSome delegator (λ n. length n ≤ 16)
IsReportedName _ delegator = ⊤

-- a row that is done changes few words and leaves a frame within the limits
abbrev pub EndsFew : ℕ → RowEnd → Type 0
EndsFew most (Abends a) = ⊤
EndsFew most (Does d) = DoesFew most d

-- the row of each instruction that bytes spell changes few words, in a frame within the limits whose delegator has a
-- name of at most 16 bytes
abbrev pub FewWordsLaw : Type 0
FewWordsLaw =
    (i : Ins) (f : Frame) (public : List ℕ) (x : Around)
    → Shaped i → IfSome x.delegator (λ n. length n ≤ 16) → HoldsFew f → EndsFew (most_words i) (row i f public x)

-- an atomic write of w words makes at most `now` device writes in journal 2, and at most `before` in journal 1
pub record CostsAtMost (w now before : ℕ) : Type 0 where
  pub two : cost Two w ≤ now
  pub one : cost One w ≤ before

-- 33 words cost at most 78 device writes, 102 in journal 1; 64 words cost at most 147, 195 in journal 1
abbrev pub FewWritesLaw : Type 0
FewWritesLaw = (w : ℕ) → (w ≤ 33 → CostsAtMost w 78 102) × (w ≤ 64 → CostsAtMost w 147 195)
