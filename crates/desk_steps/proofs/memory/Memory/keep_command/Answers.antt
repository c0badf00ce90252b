use Rattle.std.proofs.Common.{◌≡◌, ℕ, ◌≤◌, ◌++◌, List, [], Result, Ok, Err, IsOk, OnOk, length, take, rules, arith, ap, ◌∙◌}
use Rattle.std.specs.Prelude.{min}
use Rattle.std.proofs.lemmas.List.{length-take, take_min}
use Rattle.desk_steps.proofs.memory.Memory.keep_command.Goals as goal

from_ok : {A E : Type 0} (r : Result A E) (P : Type 0) → IsOk r → OnOk r P → P
from_ok (Ok x) P i h = h
from_ok (Err e) P i h = absurd (cc i)

pub returns : goal.returns
returns c =
    let bytes = c.args.bytes.now in
    let n : ℕ = c.min.result in
    let least : n ≡ min 1040 (length bytes) = search rules in
    let size : length (take n bytes) ≤ 1040 = let e = length-take n bytes in omega (arith, e, least) in
    let added = c.try_extend_from_slice.ensures in
    let ok : IsOk c.try_extend_from_slice.result = search (rules, size) in
    let none : c.clear.new.self.items ≡ [] = search rules in
    from_ok c.try_extend_from_slice.result (c.try_extend_from_slice.new.self.items ≡ c.clear.new.self.items ++ take n bytes) ok added.ok ∙ ap (λ (l : List ℕ). l ++ take n bytes) none ∙ ap (λ (k : ℕ). take k bytes) least ∙ take_min 1040 bytes
