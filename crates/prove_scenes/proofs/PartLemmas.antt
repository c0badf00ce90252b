-- Parts of lists, cut where a list ends.
use Rattle.std.proofs.Common.{◌≡◌, ℕ, ◌-◌, List, length, take, drop, min, sym, ap, ◌∙◌}
use Rattle.std.proofs.lemmas.List.{drop_min, take_min, length-drop}

-- what is cut at the end of a list is what is taken
pub part_is : (l : List ℕ) (from count : ℕ) → take (min count (length l - min from (length l))) (drop (min from (length l)) l) ≡ take count (drop from l)
part_is l from count =
    ap (λ (n : ℕ). take (min count n) (drop (min from (length l)) l)) (sym (length-drop (min from (length l)) l))
    ∙ take_min count (drop (min from (length l)) l)
    ∙ ap (take count) (drop_min from l)
