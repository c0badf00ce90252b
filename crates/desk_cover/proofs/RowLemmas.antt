-- A row that has an operand goes on.
use Rattle.std.specs.Prelude.{◌≡◌, ℕ, List, Option, Some, None, ⊤}
use Rattle.std.proofs.Common.{refl, sym, subst}
use Rattle.mc_arith.specs.model_machine.specs.declared.instruction.Ins.{Ins}
use Rattle.mc_arith.specs.model_machine.specs.declared.instruction.Ins.TheVariants as ins
use Rattle.mc_arith.specs.model_machine.specs.Frame.{Frame}
use Rattle.mc_arith.specs.model_machine.specs.Primitives.{Around, Done, Goes}
use Rattle.mc_arith.specs.model_machine.specs.Row.{causes, effect, first_cause, row}
use Rattle.mc_text.specs.model_machine.specs.Shapes.{shape}
use Rattle.mc_deck.specs.law_rows.specs.Keeping.{OnDone}
use Rattle.mc_deck.specs.law_rows.proofs.RowShapes.{shapes}
use Rattle.mc_deck.specs.law_rows.proofs.Keeping.{on_done}
use Rattle.desk_draft.specs.FullTurns.{Span, span_of}

-- if there is an operand
abbrev pub OnSpan : Option Span → Type 0 → Type 0
OnSpan None P = ⊤
OnSpan (Some s) P = P

on_span : (P : Type 0) (s : Option Span) → P → OnSpan s P
on_span P None p = tt
on_span P (Some s) p = p

-- what comes after an instruction that has an operand
abbrev pub SpanGoes : Ins → Done → Type 0
SpanGoes i d = OnSpan (span_of i) (d.next ≡ Goes)

shape_goes : (i : Ins) (f : Frame) (public : List ℕ) (x : Around) → OnSpan (span_of i) ((shape i f public x).next ≡ Goes)
unfolding shape
shape_goes ins.Exit f public x = tt
shape_goes (ins.Exitsw sw) f public x = tt
shape_goes (ins.Exitla la) f public x = tt
shape_goes (ins.Exitswla sw la) f public x = tt
shape_goes (ins.Prim set number args) f public x = tt
shape_goes i f public x = on_span ((shape i f public x).next ≡ Goes) (span_of i) refl

-- a row that has an operand goes on
pub row_goes : (i : Ins) (f : Frame) (public : List ℕ) (x : Around) → OnDone (row i f public x) (λ d. SpanGoes i d)
unfolding row
row_goes i f public x =
    on_done (λ d. SpanGoes i d) (first_cause (causes i f public x)) (effect i f public x)
    (subst (λ (d : Done). SpanGoes i d) (sym (shapes i f public x)) (shape_goes i f public x))
