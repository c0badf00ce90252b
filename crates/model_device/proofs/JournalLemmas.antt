-- Lemmas for the code of a journal: targets that are read word by word, and pairs in order.
use Rattle.std.proofs.Common.{◌≡◌, ℕ, ◌+◌, ◌<◌, List, [], ◌∷◌, ◌++◌, length, drop, get_or, Result, Ok, Err, refl, sym, ◌∙◌, ap, drop-cons, add-one, append_assoc}
use Rattle.std.proofs.lemmas.List.{append-nil}
use Rattle.model_device.specs.Image.{before}

-- targets put in front of targets
before_before : (a b : List ℕ) (r : Result (List ℕ) ℕ) → before a (before b r) ≡ before (a ++ b) r
before_before a b (Ok ts) = ap (λ (l : List ℕ). Ok l) (sym (append_assoc a b ts))
before_before a b (Err p) = refl

-- one target word more was read, whose targets are now
pub read_on : (items now found : List ℕ) (left rest whole : Result (List ℕ) ℕ) → whole ≡ before items left → left ≡ before now rest → found ≡ items ++ now → whole ≡ before found rest
read_on items now found left rest whole h e f =
    h ∙ ap (λ (r : Result (List ℕ) ℕ). before items r) e ∙ before_before items now rest ∙ ap (λ (l : List ℕ). before l rest) (sym f)

-- the next target word is bad
pub read_bad : (items : List ℕ) (place : ℕ) (left whole : Result (List ℕ) ℕ) → whole ≡ before items left → left ≡ Err place → whole ≡ Err place
read_bad items place left whole h e = h ∙ ap (λ (r : Result (List ℕ) ℕ). before items r) e

-- all target words were read
pub read_all : (items : List ℕ) (left whole : Result (List ℕ) ℕ) → whole ≡ before items left → left ≡ Ok [] → whole ≡ Ok items
read_all items left whole h e = h ∙ ap (λ (r : Result (List ℕ) ℕ). before items r) e ∙ ap (λ (l : List ℕ). Ok l) (append-nil items)

-- the pairs from place i on are the pair at i and those after it
pub pair_step : (list : List (ℕ × List ℕ)) (i : ℕ) → i < length list → drop i list ≡ ((get_or list i (0, [])).0, (get_or list i (0, [])).1) ∷ drop (i + 1) list
pair_step list i lt = rw (add-one) (drop-cons list i (0, []) lt)
