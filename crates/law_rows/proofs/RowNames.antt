-- A row leaves the name of its frame as it was.
use Rattle.std.specs.Prelude.{◌≡◌, ℕ, List, ⊤}
use Rattle.model_machine.specs.declared.instruction.Ins.{Ins}
use Rattle.model_machine.specs.Frame.{Frame}
use Rattle.model_machine.specs.Primitives.{Around}
use Rattle.model_machine.specs.Row.{RowEnd, Abends, Does, row}
use Rattle.law_rows.specs.Keeping.{Keeps, OnDone}
use Rattle.law_rows.proofs.Keeping.{row_keeps}

-- if a row is done, its frame has this name
abbrev pub RowKeepsName : List ℕ → RowEnd → Type 0
RowKeepsName n (Abends c) = ⊤
RowKeepsName n (Does d) = d.effect.frame.name ≡ n

done_name : (r : RowEnd) (f : Frame) (public : List ℕ) → OnDone r (λ d. Keeps f public d.effect) → RowKeepsName f.name r
done_name (Abends c) f public h = tt
done_name (Does d) f public h = h.name

-- a row leaves the name of its frame
pub row_name : (i : Ins) (f : Frame) (public : List ℕ) (x : Around) → RowKeepsName f.name (row i f public x)
row_name i f public x = done_name (row i f public x) f public (row_keeps i f public x)
