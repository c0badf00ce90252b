use Rattle.std.proofs.Common.{◌∙◌, ℕ, List, Bor, arith, ap, sym, length}
use Rattle.std.proofs.lemmas.Result.{err_from_is_err_and}
use Rattle.std.specs.Prelude.{option_map}
use Rattle.mc_text.specs.model_text.specs.Text.{lines, with_numbers}
use Rattle.melcard.specs.Judging.{text_digits}
use Rattle.melcard.proofs.CodeLemmas.{line_counted, lines_counted, line_taken, line_refused, lines_taken, line_within}
use Rattle.melcard.proofs.code.digits_of.Goals as goal

pub loop-line-preserved : goal.loop-line-preserved
loop-line-preserved c =
    let next = ap (option_map (λ (l : Bor (List ℕ) × Bor (List ℕ)). (l.0.now, l.1.now))) (sym c.in-Some.is) ∙ c.next_line.ensures.line in
    let whole = text_digits (with_numbers 1 (lines c.args.text.now)) in
    let bound = c.loop-line.invariant.bound in
    let shorter = c.in-Some.ensures.shorter in
    let parts = line_within c.loop-line.rest.now c.in-Some.line.now c.in-Some.behind.now next in
    record {
      leads = line_taken c.loop-line.count c.loop-line.rest.now c.loop-line.digits.items whole c.loop-line.invariant.leads c.in-Some.line.now c.in-Some.behind.now c.push_line.new.digits.items next c.in_ok-push_line.ensures.ok;
      count = line_counted c.loop-line.count (length (lines c.args.text.now)) c.loop-line.rest.now c.in-Some.line.now c.in-Some.behind.now next c.loop-line.invariant.count;
      bound = omega (arith, bound, shorter);
      len = omega (arith, c.loop-line.invariant.len, parts, c.push_line.ensures.len);
      room = omega (arith, c.loop-line.invariant.room, c.push_line.ensures.room);
    }

pub returns-in_err-push_line-clause-refused : goal.returns-in_err-push_line-clause-refused
returns-in_err-push_line-clause-refused c =
    let next = ap (option_map (λ (l : Bor (List ℕ) × Bor (List ℕ)). (l.0.now, l.1.now))) (sym c.in-Some.is) ∙ c.next_line.ensures.line in
    let p = err_from_is_err_and c.from_residual.result c.from_residual.ensures.1 in
    rw (p.1, p.2) (line_refused c.loop-line.count c.loop-line.rest.now c.loop-line.digits.items (text_digits (with_numbers 1 (lines c.args.text.now))) c.loop-line.invariant.leads c.in-Some.line.now c.in-Some.behind.now c.in_err-push_line.field-0.0 next c.in_err-push_line.ensures.refused)

pub returns-clause-digits : goal.returns-clause-digits
returns-clause-digits c =
    let next = ap (option_map (λ (l : Bor (List ℕ) × Bor (List ℕ)). (l.0.now, l.1.now))) (sym c.in_default.is) ∙ c.next_line.ensures.line in
    lines_taken c.loop-line.count c.loop-line.rest.now c.loop-line.digits.items (text_digits (with_numbers 1 (lines c.args.text.now))) c.loop-line.invariant.leads next

pub returns-clause-lines : goal.returns-clause-lines
returns-clause-lines c =
    let next = ap (option_map (λ (l : Bor (List ℕ) × Bor (List ℕ)). (l.0.now, l.1.now))) (sym c.in_default.is) ∙ c.next_line.ensures.line in
    lines_counted c.loop-line.count (length (lines c.args.text.now)) c.loop-line.rest.now next c.loop-line.invariant.count

pub push_line-requires : goal.push_line-requires
push_line-requires c =
    let next = ap (option_map (λ (l : Bor (List ℕ) × Bor (List ℕ)). (l.0.now, l.1.now))) (sym c.in-Some.is) ∙ c.next_line.ensures.line in
    let parts = line_within c.loop-line.rest.now c.in-Some.line.now c.in-Some.behind.now next in
    omega (arith, parts, c.loop-line.invariant.len, c.loop-line.invariant.room, c.requires.room)
