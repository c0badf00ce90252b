use Rattle.std.proofs.Common.{length, ◌≡◌, ℕ, ◌<◌, List, arith, sym, take}
use Rattle.std.proofs.lemmas.List.{length-take-le}
use Rattle.prove_search.proofs.subject.code_of.Goals as goal

-- the front of a list that is longer has this length
front : (code : List ℕ) → 8192 < length code → length (take 8192 code) ≡ 8192
front code more = length-take-le 8192 code (omega (arith, more))

pub slice_bounds-result-end : goal.slice_bounds-result-end
slice_bounds-result-end c = let more = c.if-load-gt8192.true in sym (front c.args.load.now.code.now (omega (arith, more)))

pub returns-then-load-gt8192 : goal.returns-then-load-gt8192
returns-then-load-gt8192 c =
    let more = c.if-load-gt8192.true in
    let same = front c.args.load.now.code.now (omega (arith, more)) in
    omega (arith, same)
