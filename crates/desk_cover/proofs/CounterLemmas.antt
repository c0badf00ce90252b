-- A counter counts the full turn of a chain.
use Rattle.std.proofs.Common.{◌≡◌, ℕ, List, [], ◌∷◌, Option, sym, ap, ◌∙◌}
use Rattle.mc_arith.specs.model_machine.specs.Chain.{Chain, Turn as ModelTurn, turn_of}
use Rattle.desk_draft.specs.FullTurns.{running_code}
use Rattle.mc_machine.specs.declared.outcome.BriefTurn.{BriefTurn}
use Rattle.mc_machine.specs.declared.outcome.Outcome.{Outcome}
use Rattle.mc_machine.specs.Turns.{full_turn, turn_value}
use Rattle.desk_cover.specs.declared.covering.Counter.{Counter}
use Rattle.desk_cover.specs.Counting.{Counted, lines_by}
use Rattle.desk_cover.specs.Sections.{index_of}
use Rattle.desk_cover.specs.Watching.{full_turn_of}
use Rattle.desk_cover.proofs.CountLemmas.{counted_turn}
use Rattle.desk_cover.proofs.FullTurnLemmas.{code_is, frame_name, turn_is, turn_registers}

-- a counter that counts a turn counts the full turn of its chain
pub counted_full : (q r : Counter) (o : Option ℕ) (turn : BriefTurn) (outcome : Outcome) (n : ℕ) (ch : Chain) → (turn_of n ch).turn ≡ turn_value (full_turn turn outcome) (turn_of n ch).turn.wrote → r.sections.now ≡ q.sections.now → o ≡ index_of 0 q.sections.now ch.frame.name (running_code ch) → r.lines.items ≡ lines_by o turn q.lines.items
    → Counted q (full_turn_of n ch ∷ []) r
counted_full q r o turn outcome n ch turned same index by =
    let t = full_turn_of n ch in
    let is : t.turn ≡ turn_value (full_turn turn outcome) (turn_of n ch).turn.wrote = turn_is n ch ∙ turned in
    let registers = turn_registers n ch in
    counted_turn q r o turn t
    (record {
      ins = sym (ap (λ (u : ModelTurn). u.ins) is);
      at = sym (ap (λ (u : ModelTurn). u.at) is);
      c = sym (registers.c ∙ ap (λ (u : ModelTurn). u.c) turned);
      z = sym (registers.z ∙ ap (λ (u : ModelTurn). u.z) turned);
    }) same
    (index ∙ ap (λ (m : List ℕ). index_of 0 q.sections.now m (running_code ch)) (sym (frame_name n ch)) ∙ ap (λ (k : List ℕ). index_of 0 q.sections.now t.frame.name k) (sym (code_is n ch))) by
