use Rattle.std.proofs.Common.{◌≡◌, ℕ, ◌-◌, ◌++◌, List, codes, decimal, length, take, ap, subst, ◌∙◌}
use Rattle.mc_isa.specs.model_text.specs.TurnText.{turn_line}
use Rattle.mc_machine.specs.Turns.{full_turn, turn_value}
use Rattle.desk_cover.specs.Tracing.{Adds, adds_on, state_part_of}
use Rattle.desk_cover.proofs.TraceLemmas.{line_parts}
use Rattle.desk_cover.proofs.tracing.Tracer.put_turn.Goals as goal

pub returns : goal.returns
returns g c outcome wrote =
    let sink = g.T.Sink in
    let q = c.args.self.now in
    let front = c.gather_front.new.text.items in
    let text = c.args.line.now.text.now in
    let behind = c.gather_state.new.text.items in
    let v = c.write_gathered-2.new.self in
    let one : Adds sink q front c.write_gathered.new.self = let h = c.write_gathered.ensures.adds in record { adds = h.adds; sections = h.sections; same = h.same } in
    let three : Adds sink c.write.new.self behind v = let h = c.write_gathered-2.ensures.adds in record { adds = h.adds; sections = h.sections; same = h.same } in
    let all = adds_on sink q c.write.new.self v (front ++ text) behind (adds_on sink q c.write_gathered.new.self c.write.new.self front text one c.write.ensures.adds) three in
    let line : List ℕ = turn_line (turn_value (full_turn c.args.turn.now outcome) wrote) in
    let number : List ℕ = codes " ; " ++ decimal c.args.line.now.number ++ codes " " in
    let state : List ℕ = state_part_of c.args.self.now.after.operand.items c.args.self.now.after.stack.items in
    let operand : c.write.new.self.after.operand.items ≡ q.after.operand.items = c.write.ensures.operand ∙ c.write_gathered.ensures.operand in
    let stack : c.write.new.self.after.stack.items ≡ q.after.stack.items = c.write.ensures.stack ∙ c.write_gathered.ensures.stack in
    let shown : behind ≡ state ++ codes "\n" =
    c.gather_state.ensures ∙ ap (λ (x : List ℕ). state_part_of x c.write.new.self.after.stack.items ++ codes "\n") operand
    ∙ ap (λ (x : List ℕ). state_part_of q.after.operand.items x ++ codes "\n") stack
    in
    subst (λ (x : List ℕ). Adds sink q x v)
    (ap (λ (x : List ℕ). x ++ text ++ behind) (c.gather_front.ensures outcome wrote) ∙ ap (λ (x : List ℕ). take (length line - 1) line ++ number ++ text ++ x) shown ∙ line_parts (take (length line - 1) line) number text state (codes "\n")) all
