use Rattle.std.proofs.Common.{◌≡◌, arith, false, true, Some}
use Rattle.std.specs.Prelude.{bytes_eq, codes, is_none}
use Rattle.std.proofs.lemmas.Result.{err_from_is_err_and}
use Rattle.mc_text.specs.model_text.specs.Text.{fields}
use Rattle.model_rule_text.specs.model_play.specs.declared.deck.DeckCause.TheVariants.{BadLine}
use Rattle.model_rule_text.specs.Reading.{app_rule, NeverLine}
use Rattle.prove_rules.proofs.AppLemmas.{never_added, never_new, never_there, never_unnamed, no_abend, other_never}
use Rattle.prove_rules.proofs.RefusalLemmas.{deck_faulty}
use Rattle.prove_rules.proofs.app.add_never.Goals as goal

pub returns-then-is_none-clause-added : goal.returns-then-is_none-clause-added
returns-then-is_none-clause-added c =
    let word : bytes_eq c.in-Some.word.now (codes "abend") ≡ true = grind (arith, c.as_slice.ensures, c.ne.ensures, c.if-ne.false, c.if-ne.ensures) in
    let held : is_none c.args.rules.now.never ≡ true = grind (arith, c.is_none.ensures, c.if-is_none.true, c.if-is_none.ensures) in
    λ loads a are.
    never_added loads a c.args.rules.now c.args.line (fields c.args.text.now) c.in-Some.word.now (record { aid = c.in_ok-_load.ensures.load.0; load = c.in_ok-_load._load }) (Some c.args.line) are c.in-Some.ensures word c.in_ok-_load.ensures.load.1 (never_new c.args.rules.now.never c.args.line held)

pub returns-else-is_none-clause-added : goal.returns-else-is_none-clause-added
returns-else-is_none-clause-added c =
    let word : bytes_eq c.in-Some.word.now (codes "abend") ≡ true = grind (arith, c.as_slice.ensures, c.ne.ensures, c.if-ne.false, c.if-ne.ensures) in
    let held : is_none c.args.rules.now.never ≡ false = grind (arith, c.is_none.ensures, c.if-is_none.false, c.if-is_none.ensures) in
    λ loads a are.
    never_added loads a c.args.rules.now c.args.line (fields c.args.text.now) c.in-Some.word.now (record { aid = c.in_ok-_load.ensures.load.0; load = c.in_ok-_load._load }) c.args.rules.now.never are c.in-Some.ensures word c.in_ok-_load.ensures.load.1 (never_there c.args.rules.now.never c.args.line held)

pub returns-in_default-clause-refused : goal.returns-in_default-clause-refused
returns-in_default-clause-refused c = λ loads a are.
    deck_faulty (app_rule loads a c.args.line NeverLine (fields c.args.text.now)) c.bad_line.result BadLine c.bad_line.ensures (no_abend loads a c.args.line (fields c.args.text.now) c.in_default.ensures)

pub returns-then-ne-clause-refused : goal.returns-then-ne-clause-refused
returns-then-ne-clause-refused c =
    let word : bytes_eq c.in-Some.word.now (codes "abend") ≡ false = grind (arith, c.as_slice.ensures, c.ne.ensures, c.if-ne.true, c.if-ne.ensures) in
    λ loads a are.
    deck_faulty (app_rule loads a c.args.line NeverLine (fields c.args.text.now)) c.bad_line-then-ne.result BadLine c.bad_line-then-ne.ensures
    (other_never loads a c.args.line (fields c.args.text.now) c.in-Some.word.now c.in-Some.ensures word)

pub returns-in_err-_load-clause-refused : goal.returns-in_err-_load-clause-refused
returns-in_err-_load-clause-refused c =
    let word : bytes_eq c.in-Some.word.now (codes "abend") ≡ true = grind (arith, c.as_slice.ensures, c.ne.ensures, c.if-ne.false, c.if-ne.ensures) in
    let p = err_from_is_err_and c.from_residual.result c.from_residual.ensures.1 in
    rw (p.1, p.2, c.in_err-_load.ensures.refused.0) (λ loads a are. never_unnamed loads a c.args.rules.now c.args.line (fields c.args.text.now) c.in-Some.word.now are c.in-Some.ensures word c.in_err-_load.ensures.refused.1)
