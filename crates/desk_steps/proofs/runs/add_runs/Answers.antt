use Rattle.std.proofs.Common.{◌≡◌, ◌<◌, ℕ, ◌+◌, ◌++◌, ◌==◌, not, Bool, List, [], drop, length, get_or, rules, arith, ap, sym, ◌∙◌}
use Rattle.std.specs.Prelude.{min}
use Rattle.std.proofs.lemmas.List.{drop_more}
use Rattle.std.proofs.Math.ListN.{drop_of_length-le}
use Rattle.desk_steps.specs.Json.{any_run}
use Rattle.law_steps.specs.Runs.{changes}
use Rattle.desk_steps.specs.Runs.{any_after, byte_text, rest_text}
use Rattle.desk_steps.specs.Sheets.{adds_as, adds_on}
use Rattle.desk_steps.proofs.RunLemmas.{next_any, next_one, next_one_any, next_two, no_old, no_old_any, whole_text}
use Rattle.desk_steps.proofs.runs.add_runs.Goals as goal

pub loop-i-preserved : goal.loop-i-preserved
loop-i-preserved g c =
    let i = c.loop-i.i in
    let old = c.args.old.now in
    let new = c.args.new.now in
    let o = get_or old i 0 in
    let b = get_or new i 0 in
    let any = c.loop-i.runs.any in
    let going = c.loop-i.runs.is_open in
    let a : ℕ = c.args.base + i in
    let within : i < length old = search rules in
    let without : i < length new = search rules in
    let first = drop_more old i 0 within in
    let second = drop_more new i 0 without in
    let os = drop (i + 1) old in
    let bs = drop (i + 1) new in
    let place : a + 1 ≡ c.args.base + (i + 1) = omega arith in
    record {
      rest = λ r last.
          c.loop-i.invariant.rest r
          (adds_as g.T.Sink c.loop-i.sheet r _ _
          (ap (λ (n : ℕ). byte_text (b == o) any going a b ++ rest_text (any_after (b == o) any) (not (b == o)) n os bs) (sym place) ∙ next_two any going a o b (drop i old) (drop i new) os bs first second)
          (adds_on g.T.Sink c.loop-i.sheet c.add_byte.new.sheet r (byte_text (b == o) any going a b) (rest_text (any_after (b == o) any) (not (b == o)) (c.args.base + (i + 1)) os bs) c.add_byte.ensures
          (adds_as g.T.Sink c.add_byte.new.sheet r _ _ (ap (λ (x : Bool). rest_text x c.runs_after-runs.result.is_open (c.args.base + (i + 1)) os bs) c.runs_after-runs.ensures.any ∙ ap (λ (x : Bool). rest_text (any_after (b == o) any) x (c.args.base + (i + 1)) os bs) c.runs_after-runs.ensures.is_open) last)));
      any =
          ap (λ (x : Bool). any_run x (changes (c.args.base + (i + 1)) os bs)) c.runs_after-runs.ensures.any
          ∙ ap (λ (n : ℕ). any_run (any_after (b == o) any) (changes n os bs)) (sym place)
          ∙ next_any any a o b (drop i old) (drop i new) os bs first second
          ∙ c.loop-i.invariant.any;
    }

pub loop-k-init : goal.loop-k-init
loop-k-init g c =
    let old = c.args.old.now in
    let new = c.args.new.now in
    let both = c.min-both.result in
    let least : both ≡ min (length old) (length new) = search rules in
    let here : c.loop-i.i ≡ both = search rules in
    let any = c.loop-i.runs.any in
    let going = c.loop-i.runs.is_open in
    let text : rest_text any going (c.args.base + c.loop-i.i) (drop c.loop-i.i old) (drop c.loop-i.i new) ≡ rest_text any going (c.args.base + both) [] (drop both new) =
    ap (λ (n : ℕ). rest_text any going (c.args.base + n) (drop n old) (drop n new)) here ∙ no_old any going (c.args.base + both) both old new least
    in
    let some : any_run any (changes (c.args.base + c.loop-i.i) (drop c.loop-i.i old) (drop c.loop-i.i new)) ≡ any_run any (changes (c.args.base + both) [] (drop both new)) =
    ap (λ (n : ℕ). any_run any (changes (c.args.base + n) (drop n old) (drop n new))) here ∙ no_old_any any (c.args.base + both) both old new least
    in
    record {
      rest = λ r last. c.loop-i.invariant.rest r (adds_as g.T.Sink c.loop-i.sheet r _ _ (sym text) last);
      any = sym some ∙ c.loop-i.invariant.any;
    }

pub loop-k-preserved : goal.loop-k-preserved
loop-k-preserved g c =
    let k = c.loop-k.k in
    let new = c.args.new.now in
    let b = get_or new k 0 in
    let any = c.loop-k.runs.any in
    let going = c.loop-k.runs.is_open in
    let a : ℕ = c.args.base + k in
    let more = drop_more new k 0 c.loop-k-test.true in
    let bs = drop (k + 1) new in
    let place : a + 1 ≡ c.args.base + (k + 1) = omega arith in
    let did = c.runs_after-runs-in-loop-k.ensures in
    record {
      rest = λ r last.
          c.loop-k.invariant.rest r
          (adds_as g.T.Sink c.loop-k.sheet r _ _
          (ap (λ (n : ℕ). byte_text (b == 0) any going a b ++ rest_text (any_after (b == 0) any) (not (b == 0)) n [] bs) (sym place) ∙ next_one any going a b (drop k new) bs more)
          (adds_on g.T.Sink c.loop-k.sheet c.add_byte-in-loop-k.new.sheet r (byte_text (b == 0) any going a b) (rest_text (any_after (b == 0) any) (not (b == 0)) (c.args.base + (k + 1)) [] bs) c.add_byte-in-loop-k.ensures
          (adds_as g.T.Sink c.add_byte-in-loop-k.new.sheet r _ _ (ap (λ (x : Bool). rest_text x c.runs_after-runs-in-loop-k.result.is_open (c.args.base + (k + 1)) [] bs) did.any ∙ ap (λ (x : Bool). rest_text (any_after (b == 0) any) x (c.args.base + (k + 1)) [] bs) did.is_open) last)));
      any =
          ap (λ (x : Bool). any_run x (changes (c.args.base + (k + 1)) [] bs)) did.any
          ∙ ap (λ (n : ℕ). any_run (any_after (b == 0) any) (changes n [] bs)) (sym place)
          ∙ next_one_any any a b (drop k new) bs more
          ∙ c.loop-k.invariant.any;
    }

pub returns-clause-adds : goal.returns-clause-adds
returns-clause-adds g c =
    let none = drop_of_length-le c.args.new.now c.loop-k-test.false in
    let runs = c.loop-k.runs in
    adds_as g.T.Sink c.args.sheet.now c.end.new.sheet _ _ (whole_text c.args.any c.args.base c.args.old.now c.args.new.now)
    (c.loop-k.invariant.rest c.end.new.sheet (adds_as g.T.Sink c.loop-k.sheet c.end.new.sheet _ _ (ap (λ (t : List ℕ). rest_text runs.any runs.is_open (c.args.base + c.loop-k.k) [] t) (sym none)) c.end.ensures))
