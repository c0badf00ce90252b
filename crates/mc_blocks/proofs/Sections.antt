-- The bytes of sections in words: their lengths, and where they are the same.
use Rattle.std.proofs.Common.{◌≡◌, ℕ, zero, suc, ◌+◌, ◌-◌, ◌*◌, ◌<◌, ◌≤◌, min, List, [], ◌++◌, length, take, drop, refl, sym, ◌∙◌, ap, arith, length-append, length-take, append_assoc}
use Rattle.std.specs.List.{concat}
use Rattle.std.proofs.lemmas.List.{drop_more, take-append-drop, take-append-le, take-take}
use Rattle.mc_words.specs.model_device.specs.Bytes.{up}
use Rattle.mc_words.specs.model_device.specs.Device.{IsSized}
use Rattle.mc_words.specs.model_device.specs.Card.{word, cells, section}

pub cells_more : (m : List (List ℕ)) (p k : ℕ) → p < length m → cells m p (suc k) ≡ word m p ++ cells m (p + 1) k
cells_more m p k h = ap (λ (l : List (List ℕ)). concat (take (suc k) l)) (drop_more m p [] h)

pub length_cells : (m : List (List ℕ)) (k p : ℕ) → IsSized m → p + k ≤ length m → length (cells m p k) ≡ 8 * k
length_cells m zero p image h = refl
length_cells m (suc k) p image h =
    let eight : length (word m p) ≡ 8 = image.words p (omega arith) in
    let rest : length (cells m (p + 1) k) ≡ 8 * k = length_cells m k (p + 1) image (omega arith) in
    let all : length (cells m p (suc k)) ≡ length (word m p) + length (cells m (p + 1) k) = ap length (cells_more m p k (omega arith)) ∙ length-append (word m p) (cells m (p + 1) k) in
    omega (arith, eight, rest, all)

-- a section has its length
pub length_section : (m : List (List ℕ)) (p n : ℕ) → IsSized m → p + up n 8 ≤ length m → length (section m p n) ≡ n
length_section m p n image h =
    let whole : length (cells m p (up n 8)) ≡ 8 * up n 8 = length_cells m (up n 8) p image h in
    let enough : n ≤ 8 * up n 8 = omega arith in
    let part : length (section m p n) ≡ min n (length (cells m p (up n 8))) = length-take n (cells m p (up n 8)) in
    omega (arith, whole, enough, part)

pub cells_append : (m : List (List ℕ)) (a b p : ℕ) → p + a + b ≤ length m → cells m p (a + b) ≡ cells m p a ++ cells m (p + a) b
cells_append m zero b p h = ap (λ (k : ℕ). cells m p k) (let e : 0 + b ≡ b = omega arith in e) ∙ ap (λ (q : ℕ). cells m q b) (let e : p ≡ p + 0 = omega arith in e)
cells_append m (suc a) b p h =
    let lt : p < length m = omega arith in
    ap (λ (k : ℕ). cells m p k) (let e : suc a + b ≡ suc (a + b) = omega arith in e)
    ∙ cells_more m p (a + b) lt
    ∙ ap (λ (l : List ℕ). word m p ++ l) (cells_append m a b (p + 1) (omega arith))
    ∙ sym (append_assoc (word m p) (cells m (p + 1) a) (cells m (p + 1 + a) b))
    ∙ ap (λ (q : ℕ). (word m p ++ cells m (p + 1) a) ++ cells m q b) (let e : p + 1 + a ≡ p + suc a = omega arith in e)
    ∙ ap (λ (l : List ℕ). l ++ cells m (p + suc a) b) (sym (cells_more m p a lt))

-- the front of a section
pub section_front : (m : List (List ℕ)) (p i n : ℕ) → IsSized m → i ≤ n → p + up n 8 ≤ length m → take i (section m p n) ≡ section m p i
section_front m p i n image few h =
    let less : up i 8 ≤ up n 8 = omega arith in
    let k = up n 8 - up i 8 in
    let parts : up n 8 ≡ up i 8 + k = omega arith in
    let whole : length (cells m p (up i 8)) ≡ 8 * up i 8 = length_cells m (up i 8) p image (omega arith) in
    let enough : i ≤ 8 * up i 8 = omega arith in
    take-take i n (cells m p (up n 8)) few
    ∙ ap (λ (l : List ℕ). take i l) (ap (λ (x : ℕ). cells m p x) parts ∙ cells_append m (up i 8) k p (omega arith))
    ∙ take-append-le i (cells m p (up i 8)) (cells m (p + up i 8) k) (omega (arith, whole, enough))

pub section_split : (m : List (List ℕ)) (p i n : ℕ) → IsSized m → i ≤ n → p + up n 8 ≤ length m → section m p n ≡ section m p i ++ drop i (section m p n)
section_split m p i n image few h = sym (take-append-drop i (section m p n)) ∙ ap (λ (l : List ℕ). l ++ drop i (section m p n)) (section_front m p i n image few h)

-- ---- the same words

pub same_cells : (m n : List (List ℕ)) (k p : ℕ) → length n ≡ length m → p + k ≤ length m → ((i : ℕ) → p ≤ i → i < p + k → word n i ≡ word m i) → cells n p k ≡ cells m p k
same_cells m n zero p size h same = refl
same_cells m n (suc k) p size h same =
    let lt : p < length m = omega arith in
    let also : p < length n = omega (arith, size) in
    cells_more n p k also
    ∙ ap (λ (w : List ℕ). w ++ cells n (p + 1) k) (same p (omega arith) (omega arith))
    ∙ ap (λ (l : List ℕ). word m p ++ l) (same_cells m n k (p + 1) size (omega arith) (λ i low high. same i (omega arith) (omega arith)))
    ∙ sym (cells_more m p k lt)

pub same_section : (m n : List (List ℕ)) (p x : ℕ) → length n ≡ length m → p + up x 8 ≤ length m → ((i : ℕ) → p ≤ i → i < p + up x 8 → word n i ≡ word m i) → section n p x ≡ section m p x
same_section m n p x size h same = ap (λ (l : List ℕ). take x l) (same_cells m n (up x 8) p size h same)
