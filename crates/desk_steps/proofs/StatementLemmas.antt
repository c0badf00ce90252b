-- A text after some of its lines, and after some more.
use Rattle.std.proofs.Common.{◌≡◌, ℕ, zero, suc, ◌+◌, ◌-◌, ◌<◌, ◌≤◌, List, sym, ap, ◌∙◌, arith}
use Rattle.desk_steps.specs.Statements.{after_line, rest_after}

rest_more : (m n : ℕ) (t : List ℕ) → rest_after n (rest_after m t) ≡ rest_after (m + n) t
rest_more zero n t = let same : n ≡ zero + n = omega arith in ap (λ (k : ℕ). rest_after k t) same
rest_more (suc m) n t = let same : suc (m + n) ≡ suc m + n = omega arith in rest_more m n (after_line t) ∙ ap (λ (k : ℕ). rest_after k t) same

-- after more lines
pub rest_on : (m n : ℕ) (text rest left : List ℕ) → m ≤ n → rest ≡ rest_after m text → left ≡ rest_after (n - m) rest → left ≡ rest_after n text
rest_on m n text rest left less at is =
    let same : m + (n - m) ≡ n = omega (arith, less) in
    is ∙ ap (λ (t : List ℕ). rest_after (n - m) t) at ∙ rest_more m (n - m) text ∙ ap (λ (k : ℕ). rest_after k text) same

-- one line of those that are left
pub rest_next : (i n : ℕ) (rest left : List ℕ) → i < n → left ≡ after_line rest → rest_after (n - (i + 1)) left ≡ rest_after (n - i) rest
rest_next i n rest left less is =
    let count : n - i ≡ suc (n - (i + 1)) = omega (arith, less) in
    ap (λ (t : List ℕ). rest_after (n - (i + 1)) t) is ∙ sym (ap (λ (k : ℕ). rest_after k rest) count)

-- all lines from the first on
pub rest_begin : (n : ℕ) (t : List ℕ) → rest_after (n - 0) t ≡ rest_after n t
rest_begin n t = let same : n - 0 ≡ n = omega arith in ap (λ (k : ℕ). rest_after k t) same

-- none is left
pub rest_done : (i n : ℕ) (rest all : List ℕ) → n ≤ i → rest_after (n - i) rest ≡ all → rest ≡ all
rest_done i n rest all most is =
    let count : n - i ≡ zero = omega (arith, most) in
    sym (ap (λ (k : ℕ). rest_after k rest) count) ∙ is
