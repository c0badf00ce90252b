use Rattle.std.proofs.Common.{◌≡◌, ◌<◌, List, ℕ, Bor, Ok, arith, ap, sym, subst, length, ◌∙◌}
use Rattle.std.specs.Prelude.{option_map}
use Rattle.law_explore.specs.model_text.specs.Text.{is_blank, pieces}
use Rattle.mc_text.specs.Texts.{Sunk, Fails, sunk_in}
use Rattle.mc_text.proofs.TextLemmas.{puts_as, puts_failed, puts_then, fails_then, fails_before, writes_then}
use Rattle.mc_lab.specs.Expectations.{after_blank, laid_by}
use Rattle.mc_lab.proofs.LayingLemmas.{laid_blank, laid_end, laid_none, laid_on}
use Rattle.mc_lab.proofs.laying.put_by_words.Goals as goal

pub returns-in_default : goal.returns-in_default
returns-in_default g c =
    let a : Sunk = sunk_in g.T.Sink.taken g.T.Sink.faults c.loop-behind.out in
    let b : Sunk = sunk_in g.T.Sink.taken g.T.Sink.faults c.put.new.out in
    let last = ap (option_map (λ (r : Bor (List ℕ)). r.now)) (sym c.in_default.is) ∙ c.cut_blank.ensures.behind in
    let e = laid_end c.loop-behind.signs.now c.cut_blank.result.0.now c.loop-behind.rest.now c.cut_blank.ensures.front last in
    c.loop-behind.invariant.reported c.put.result b (puts_as a b c.put.result e c.put.ensures)

pub returns-in_err-put : goal.returns-in_err-put
returns-in_err-put g c =
    let signs = c.loop-behind.signs.now in
    let t = c.loop-behind.rest.now in
    let w = c.cut_blank.result.0.now in
    let behind = c.in-Some.behind.now in
    let next = ap (option_map (λ (r : Bor (List ℕ)). r.now)) (sym c.in-Some.is) ∙ c.cut_blank.ensures.behind in
    let front = c.split_at.result.0.now in
    let left = c.split_at.result.1.now in
    let a : Sunk = sunk_in g.T.Sink.taken g.T.Sink.faults c.loop-behind.out in
    let b : Sunk = sunk_in g.T.Sink.taken g.T.Sink.faults c.put-in-loop-behind.new.out in
    let e = laid_on signs w behind t front left c.min.result c.cut_blank.ensures.front next c.min.ensures c.split_at.ensures.front c.split_at.ensures.back in
    let r = c.from_residual in
    c.loop-behind.invariant.reported r.result b (puts_failed r.result r.ensures.0 (subst (λ (x : List ℕ). Fails a x b) e (fails_before (after_blank (laid_by (pieces is_blank behind)) left) c.in_err-put.ensures)))

pub returns-then-is_empty : goal.returns-then-is_empty
returns-then-is_empty g c =
    let signs = c.loop-behind.signs.now in
    let t = c.loop-behind.rest.now in
    let w = c.cut_blank.result.0.now in
    let behind = c.in-Some.behind.now in
    let next = ap (option_map (λ (r : Bor (List ℕ)). r.now)) (sym c.in-Some.is) ∙ c.cut_blank.ensures.behind in
    let front = c.split_at.result.0.now in
    let left = c.split_at.result.1.now in
    let a : Sunk = sunk_in g.T.Sink.taken g.T.Sink.faults c.loop-behind.out in
    let b : Sunk = sunk_in g.T.Sink.taken g.T.Sink.faults c.put-in-loop-behind.new.out in
    let none : length left ≡ 0 = grind (arith, c.if-is_empty.ensures) in
    let e = laid_none signs w behind t front left c.min.result c.cut_blank.ensures.front next c.min.ensures c.split_at.ensures.front c.split_at.ensures.back none in
    c.loop-behind.invariant.reported (Ok tt) b (puts_as a b (Ok tt) e c.in_ok-put.ensures)

pub returns-in_err-put-2 : goal.returns-in_err-put-2
returns-in_err-put-2 g c =
    let signs = c.loop-behind.signs.now in
    let t = c.loop-behind.rest.now in
    let w = c.cut_blank.result.0.now in
    let behind = c.in-Some.behind.now in
    let next = ap (option_map (λ (r : Bor (List ℕ)). r.now)) (sym c.in-Some.is) ∙ c.cut_blank.ensures.behind in
    let front = c.split_at.result.0.now in
    let left = c.split_at.result.1.now in
    let a : Sunk = sunk_in g.T.Sink.taken g.T.Sink.faults c.loop-behind.out in
    let b : Sunk = sunk_in g.T.Sink.taken g.T.Sink.faults c.put-in-loop-behind-2.new.out in
    let some : 0 < length left = grind (arith, c.if-is_empty.ensures) in
    let e = laid_blank signs w behind t front left c.min.result c.cut_blank.ensures.front next c.min.ensures c.split_at.ensures.front c.split_at.ensures.back some in
    let r = c.from_residual-in_err-put-2 in
    c.loop-behind.invariant.reported r.result b (puts_failed r.result r.ensures.0 (subst (λ (x : List ℕ). Fails a x b) e (fails_before (laid_by (pieces is_blank behind) left) (fails_then c.in_ok-put.ensures c.in_err-put-2.ensures))))

pub loop-behind-preserved : goal.loop-behind-preserved
loop-behind-preserved g c =
    let signs = c.loop-behind.signs.now in
    let t = c.loop-behind.rest.now in
    let w = c.cut_blank.result.0.now in
    let behind = c.in-Some.behind.now in
    let next = ap (option_map (λ (r : Bor (List ℕ)). r.now)) (sym c.in-Some.is) ∙ c.cut_blank.ensures.behind in
    let front = c.split_at.result.0.now in
    let left = c.split_at.result.1.now in
    let a : Sunk = sunk_in g.T.Sink.taken g.T.Sink.faults c.loop-behind.out in
    let some : 0 < length left = grind (arith, c.if-is_empty.ensures) in
    let e = laid_blank signs w behind t front left c.min.result c.cut_blank.ensures.front next c.min.ensures c.split_at.ensures.front c.split_at.ensures.back some in
    record {
      reported = λ r b p. c.loop-behind.invariant.reported r b (puts_as a b r e (puts_then b (laid_by (pieces is_blank behind) left) r (writes_then c.in_ok-put.ensures c.in_ok-put-2.ensures) p));
    }
