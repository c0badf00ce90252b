use Rattle.std.proofs.Common.{List, ℕ, ◌∷◌, ap, subst, sym, ◌∙◌}
use Rattle.std.specs.Prelude.{codes}
use Rattle.std.proofs.lemmas.Result.{on_ok_weaker, IfErr-weaker}
use Rattle.mc_text.specs.model_text.specs.Text.{fields}
use Rattle.model_rule_text.specs.model_play.specs.declared.deck.DeckCause.TheVariants.{BadLine}
use Rattle.model_rule_text.specs.Reading.{always_line}
use Rattle.prove_rules.specs.Partials.{ArePartRead}
use Rattle.prove_rules.specs.Refused.{Faulty}
use Rattle.prove_rules.proofs.AlwaysLemmas.{no_block, other_block, BlockFault, LineFault}
use Rattle.prove_rules.proofs.RefusalLemmas.{deck_faulty}
use Rattle.prove_rules.proofs.always.add_always.Goals as goal

pub returns-in_default-clause-refused : goal.returns-in_default-clause-refused
returns-in_default-clause-refused c = λ a are.
    deck_faulty (always_line a c.args.line (fields c.args.text.now)) c.bad_line.result BadLine c.bad_line.ensures (no_block a c.args.line (fields c.args.text.now) c.in_default.ensures.parts)

pub returns-in_default-static_field-clause-refused : goal.returns-in_default-static_field-clause-refused
returns-in_default-static_field-clause-refused c = λ a are.
    deck_faulty (always_line a c.args.line (fields c.args.text.now)) c.bad_line-in_default-static_field.result BadLine c.bad_line-in_default-static_field.ensures
    (other_block a c.args.line c.in-Some.block.now (fields c.args.text.now) (fields c.in-Some.after.now) c.in-Some.ensures.parts c.in_default-static_field.ensures)

pub returns-in-Some-total_text-clause-added : goal.returns-in-Some-total_text-clause-added
returns-in-Some-total_text-clause-added c =
    on_ok_weaker c.add_total.result (λ h a are.
    subst (λ (fs : List (List ℕ)). ArePartRead (always_line a c.args.line fs) c.add_total.new.rules)
    (sym (c.in-Some.ensures.parts ∙ ap (λ l. c.in-Some.block.now ∷ l) c.in-Some-total_text.ensures)) (h a c.in-Some.block.now are c.in-Some-static_field.ensures)) c.add_total.ensures.added

pub returns-in-Some-total_text-clause-refused : goal.returns-in-Some-total_text-clause-refused
returns-in-Some-total_text-clause-refused c =
    IfErr-weaker c.add_total.result (BlockFault c.args.rules.now c.args.line c.in-Some-static_field.within.now (codes "=" ∷ fields c.in-Some-total_text.rest.now)) (LineFault c.args.rules.now c.args.line (fields c.args.text.now))
    (λ e h a are. subst (λ (fs : List (List ℕ)). Faulty (always_line a c.args.line fs) e) (sym (c.in-Some.ensures.parts ∙ ap (λ l. c.in-Some.block.now ∷ l) c.in-Some-total_text.ensures)) (h a c.in-Some.block.now are c.in-Some-static_field.ensures))
    c.add_total.ensures.refused

pub returns-in-None-clause-added : goal.returns-in-None-clause-added
returns-in-None-clause-added c =
    on_ok_weaker c.add_range.result (λ h a are.
    subst (λ (fs : List (List ℕ)). ArePartRead (always_line a c.args.line fs) c.add_range.new.rules) (sym c.in-Some.ensures.parts) (h a c.in-Some.block.now are c.in-Some-static_field.ensures)) c.add_range.ensures.added

pub returns-in-None-clause-refused : goal.returns-in-None-clause-refused
returns-in-None-clause-refused c =
    IfErr-weaker c.add_range.result (BlockFault c.args.rules.now c.args.line c.in-Some-static_field.within.now (fields c.in-Some.after.now)) (LineFault c.args.rules.now c.args.line (fields c.args.text.now))
    (λ e h a are. subst (λ (fs : List (List ℕ)). Faulty (always_line a c.args.line fs) e) (sym c.in-Some.ensures.parts) (h a c.in-Some.block.now are c.in-Some-static_field.ensures))
    c.add_range.ensures.refused
