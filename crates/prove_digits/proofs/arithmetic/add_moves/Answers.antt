use Rattle.std.proofs.Common.{ap, arith, ◌∙◌}
use Rattle.std.specs.Prelude.{not, nat_lt}
use Rattle.prove_facts.specs.Sets.{set_of}
use Rattle.prove_digits.specs.declared.turns.Turn.{Turn}
use Rattle.prove_digits.specs.Trios.{trio_value, trio_at}
use Rattle.prove_digits.proofs.TurnLemmas.{common_by, moves_grow, parts_true, parts_false}
use Rattle.prove_digits.proofs.arithmetic.add_moves.Goals as goal

pub returns-then-subtracts : goal.returns-then-subtracts
returns-then-subtracts c =
    let old : Turn = c.args.turn.now in
    let new : Turn = record { clear = c.add_part.new.split; set = c.add_part-then-subtracts.new.split } in
    let by = c.moves_of-moves.result.by in
    let split = c.moves_of-moves.result.split in
    moves_grow c.args.subtracts c.args.carry (set_of c.args.xs.now) (set_of c.and-below.result) (set_of c.and-above.result) c.args.y by split
    (λ b z. trio_value (trio_at c.args.turn.now b z)) (λ b z. trio_value (trio_at new b z)) (omega arith) c.moves_of-moves.ensures.split c.moves_of-moves.ensures.by
    (common_by c.and-below.result c.args.xs.now c.below-low.result (λ x. nat_lt x c.moves_of-moves.result.split) c.and-below.ensures.set c.below-low.ensures)
    (common_by c.and-above.result c.args.xs.now c.not.result (λ x. not (nat_lt x c.moves_of-moves.result.split)) c.and-above.ensures.set
    (λ v l. c.not.ensures v l ∙ ap not (c.below-low.ensures v l)))
    (parts_true c.args.subtracts (set_of c.and-below.result) (set_of c.and-above.result) c.args.y by (λ b z. trio_value (trio_at c.args.turn.now b z))
    (λ b z. trio_value (trio_at new b z)) c.if-subtracts.true
    c.add_part.ensures.other c.add_part.ensures.zero c.add_part-then-subtracts.ensures.other c.add_part-then-subtracts.ensures.zero)

pub returns : goal.returns
returns c =
    let old : Turn = c.args.turn.now in
    let new : Turn = record { clear = c.add_part-2.new.split; set = c.add_part-3.new.split } in
    let by = c.moves_of-moves.result.by in
    let split = c.moves_of-moves.result.split in
    moves_grow c.args.subtracts c.args.carry (set_of c.args.xs.now) (set_of c.and-below.result) (set_of c.and-above.result) c.args.y by split
    (λ b z. trio_value (trio_at c.args.turn.now b z)) (λ b z. trio_value (trio_at new b z)) (omega arith) c.moves_of-moves.ensures.split c.moves_of-moves.ensures.by
    (common_by c.and-below.result c.args.xs.now c.below-low.result (λ x. nat_lt x c.moves_of-moves.result.split) c.and-below.ensures.set c.below-low.ensures)
    (common_by c.and-above.result c.args.xs.now c.not.result (λ x. not (nat_lt x c.moves_of-moves.result.split)) c.and-above.ensures.set
    (λ v l. c.not.ensures v l ∙ ap not (c.below-low.ensures v l)))
    (parts_false c.args.subtracts (set_of c.and-below.result) (set_of c.and-above.result) c.args.y by (λ b z. trio_value (trio_at c.args.turn.now b z))
    (λ b z. trio_value (trio_at new b z)) c.if-subtracts.false
    c.add_part-2.ensures.other c.add_part-2.ensures.zero c.add_part-3.ensures.other c.add_part-3.ensures.zero)
