use Rattle.std.proofs.Common.{◌≡◌, ◌++◌, ℕ, List, Option, Bor, subst, arith}
use Rattle.std.specs.Prelude.{option_map}
use Rattle.model_play.specs.model_text.specs.Text.{fields}
use Rattle.mc_asm.specs.Items.{texts}
use Rattle.mc_asm.proofs.LineLemmas.{operands_full, operands_all}
use Rattle.mc_deck.proofs.FieldLemmas.{fields_left, field_more, field_none, filled_more}
use Rattle.mc_deck.proofs.text.fields.Goals as goal

pub loop-rest-preserved-else-is_full : goal.loop-rest-preserved-else-is_full
loop-rest-preserved-else-is_full c =
    let whole = fields c.args.line.now in
    let so_far = subst (λ (r : Option (Bor (List ℕ))). texts c.loop-rest.parts.items ++ fields_left (option_map (λ t. t.now) r) ≡ whole) c.in-Some.is c.loop-rest.invariant.value in
    record {
      value = rw c.push.ensures.items (field_more c.loop-rest.parts.items c.cut_blank.result.0 c.in-Some.left.now (option_map (λ t. t.now) c.cut_blank.result.1) whole c.cut_blank.ensures.front c.cut_blank.ensures.behind (grind (arith, c.is_empty.ensures)) so_far);
      filled = rw c.push.ensures.items (filled_more c.loop-rest.parts.items c.cut_blank.result.0 (grind (arith, c.is_empty.ensures)) c.loop-rest.invariant.filled);
      room = grind arith;
    }

pub loop-rest-preserved : goal.loop-rest-preserved
loop-rest-preserved c =
    let whole = fields c.args.line.now in
    let so_far = subst (λ (r : Option (Bor (List ℕ))). texts c.loop-rest.parts.items ++ fields_left (option_map (λ t. t.now) r) ≡ whole) c.in-Some.is c.loop-rest.invariant.value in
    record {
      value = field_none c.loop-rest.parts.items c.cut_blank.result.0.now c.in-Some.left.now (option_map (λ t. t.now) c.cut_blank.result.1) whole c.cut_blank.ensures.front c.cut_blank.ensures.behind (grind (arith, c.is_empty.ensures)) so_far;
      filled = c.loop-rest.invariant.filled;
      room = c.loop-rest.invariant.room;
    }

pub returns-then-is_full-clause-value : goal.returns-then-is_full-clause-value
returns-then-is_full-clause-value c = operands_full c.loop-rest.parts.items (fields_left (option_map (λ t. t.now) c.loop-rest.rest)) (fields c.args.line.now) (grind arith) c.loop-rest.invariant.value

pub returns-clause-value : goal.returns-clause-value
returns-clause-value c =
    let whole = fields c.args.line.now in
    operands_all c.loop-rest.parts.items whole c.loop-rest.invariant.room (subst (λ (r : Option (Bor (List ℕ))). texts c.loop-rest.parts.items ++ fields_left (option_map (λ t. t.now) r) ≡ whole) c.in_default.is c.loop-rest.invariant.value)
