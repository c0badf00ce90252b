use Rattle.std.proofs.Common.{◌+◌, ℕ, List, Bor, arith, ap, sym, subst, ◌∙◌}
use Rattle.std.specs.Prelude.{option_map}
use Rattle.mc_deck.specs.Refused.{DeckRefuses}
use Rattle.lab_rules.proofs.FieldLemmas.{first_line}
use Rattle.lab_rules.proofs.ReadLemmas.{few_step}
use Rattle.lab_deck.specs.Moves.{moves_read}
use Rattle.lab_deck.proofs.MoveLemmas.{moves_done, moves_refuse, moves_start, moves_step}
use Rattle.lab_deck.proofs.moves.read_moves.Goals as goal

pub loop-line-init : goal.loop-line-init
loop-line-init c = record {
  left = moves_start _ c.args.text.now c.new.ensures.items c.new-2.ensures.items c.new-3.ensures.items;
  few = omega (arith, c.requires);
}

pub add_move-requires : goal.add_move-requires
add_move-requires c =
    let next = ap (option_map (λ (l : Bor (List ℕ) × Bor (List ℕ)). (l.0.now, l.1.now))) (sym c.in-Some.is) ∙ c.next_line.ensures.line in
    first_line c.loop-line.rest.now c.in-Some.line.now c.in-Some.behind.now next

pub returns-in-Err-clause-refused : goal.returns-in-Err-clause-refused
returns-in-Err-clause-refused c =
    let next = ap (option_map (λ (l : Bor (List ℕ) × Bor (List ℕ)). (l.0.now, l.1.now))) (sym c.in-Some.is) ∙ c.next_line.ensures.line in
    subst (DeckRefuses (moves_read c.args.text.now)) (sym c.refusal_at.ensures)
    (moves_refuse c.loop-line.rules c.loop-line.inside (c.loop-line.number + 1) c.loop-line.rest.now c.in-Some.line.now c.in-Some.behind.now (moves_read c.args.text.now) c.in-Err.fault next
    c.in-Err.ensures.refused c.loop-line.invariant.left)

pub loop-line-preserved : goal.loop-line-preserved
loop-line-preserved c =
    let next = ap (option_map (λ (l : Bor (List ℕ) × Bor (List ℕ)). (l.0.now, l.1.now))) (sym c.in-Some.is) ∙ c.next_line.ensures.line in
    record {
      left = moves_step c.loop-line.rules c.add_move.new.rules c.loop-line.inside c.stays_inside-inside.result (c.loop-line.number + 1) c.loop-line.rest.now c.in-Some.line.now c.in-Some.behind.now (moves_read c.args.text.now)
          next c.stays_inside-inside.ensures c.in-Ok.ensures.added c.loop-line.invariant.left;
      few = few_step c.loop-line.number c.loop-line.rest.now c.in-Some.line.now c.in-Some.behind.now next c.loop-line.invariant.few;
    }

pub returns-clause-read : goal.returns-clause-read
returns-clause-read c =
    let next = ap (option_map (λ (l : Bor (List ℕ) × Bor (List ℕ)). (l.0.now, l.1.now))) (sym c.in_default.is) ∙ c.next_line.ensures.line in
    moves_done c.loop-line.rules c.loop-line.inside (c.loop-line.number + 1) c.loop-line.rest.now (moves_read c.args.text.now) next c.loop-line.invariant.left
