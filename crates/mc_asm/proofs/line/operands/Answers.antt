use Rattle.std.proofs.Common.{◌≡◌, ◌++◌, ℕ, List, Option, Bor, subst, arith}
use Rattle.std.specs.Prelude.{option_map}
use Rattle.model_text.specs.Assembly.{operands}
use Rattle.mc_asm.specs.Items.{texts}
use Rattle.mc_asm.proofs.LineLemmas.{operand_more, operands_full, operands_all}
use Rattle.mc_asm.proofs.line.operands.Goals as goal

pub loop-rest-preserved : goal.loop-rest-preserved
loop-rest-preserved c =
    let whole = operands (option_map (λ t. t.now) c.args.text) in
    let so_far = subst (λ (r : Option (Bor (List ℕ))). texts c.loop-rest.parts.items ++ operands (option_map (λ t. t.now) r) ≡ whole) c.in-Some.is c.loop-rest.invariant.value in
    record {
      value = rw c.push.ensures.items (operand_more c.loop-rest.parts.items c.trim.result c.in-Some.left.now c.cut.result.0.now (option_map (λ t. t.now) c.cut.result.1) whole c.trim.ensures c.cut.ensures.front c.cut.ensures.behind so_far);
      room = grind arith;
    }

pub returns-then-is_full : goal.returns-then-is_full
returns-then-is_full c = operands_full c.loop-rest.parts.items (operands (option_map (λ t. t.now) c.loop-rest.rest)) (operands (option_map (λ t. t.now) c.args.text)) (grind arith) c.loop-rest.invariant.value

pub returns : goal.returns
returns c =
    let whole = operands (option_map (λ t. t.now) c.args.text) in
    operands_all c.loop-rest.parts.items whole c.loop-rest.invariant.room (subst (λ (r : Option (Bor (List ℕ))). texts c.loop-rest.parts.items ++ operands (option_map (λ t. t.now) r) ≡ whole) c.in_default.is c.loop-rest.invariant.value)
