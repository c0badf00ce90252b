-- Words in the public segment, and successive writes into zeros.
use Rattle.std.proofs.Common.{◌≡◌, ℕ, ◌+◌, ◌-◌, ◌≤◌, List, [], ◌∷◌, ◌++◌, length, take, drop, arith, sym, ◌∙◌, ap, append_assoc, length-append}
use Rattle.std.proofs.lemmas.List.{append-nil, take-replicate, drop-replicate, length-replicate}
use Rattle.std.proofs.Math.Seq.{take-append-add, drop-append-add}
use Rattle.mc_words.specs.model_device.specs.Bytes.{zeros, splice, bytes2}
use Rattle.mc_segs.proofs.FrameLemmas.{padded_is}

-- a word written at a place, by its two bytes
pub spliced_word : (into inside bytes word : List ℕ) (at n : ℕ) → into ≡ splice inside at word → word ≡ bytes2 n → inside ≡ bytes → into ≡ splice bytes at (bytes2 n)
spliced_word into inside bytes word at n written is same = written ∙ ap (λ (w : List ℕ). splice inside at w) is ∙ ap (λ (b : List ℕ). splice b at (bytes2 n)) same

-- a write k places after the bytes that precede m zeros
pub write_behind : (l b : List ℕ) (k m at : ℕ) → at ≡ length l + k → k ≤ m → splice (l ++ zeros m) at b ≡ (l ++ (zeros k ++ b)) ++ zeros (m - (k + length b))
write_behind l b k m at e h =
    let front : take at (l ++ zeros m) ≡ l ++ zeros k =
    ap (λ (i : ℕ). take i (l ++ zeros m)) e ∙ take-append-add l (zeros m) k ∙ ap (λ (t : List ℕ). l ++ t) (take-replicate k m 0 h) in
    let place : at + length b ≡ length l + (k + length b) = omega arith in
    let back : drop (at + length b) (l ++ zeros m) ≡ zeros (m - (k + length b)) =
    ap (λ (i : ℕ). drop i (l ++ zeros m)) place ∙ drop-append-add l (zeros m) (k + length b) ∙ drop-replicate (k + length b) m 0 in
    ap (λ (t : List ℕ). t ++ b ++ drop (at + length b) (l ++ zeros m)) front
    ∙ ap (λ (t : List ℕ). (l ++ zeros k) ++ b ++ t) back
    ∙ grind (arith, append_assoc)

-- the successive writes of a new public segment
pub new_public_is : (a b c d body lengths status : List ℕ) (cla ins p1 p2 p3 lc le : ℕ) → length body ≤ 1024
    → a ≡ splice (zeros 1041) 0 body
    → b ≡ splice a 1028 (cla ∷ ins ∷ p1 ∷ p2 ∷ p3 ∷ [])
    → c ≡ splice b 1033 lengths
    → lengths ≡ bytes2 lc ++ bytes2 le
    → d ≡ splice c 1039 status
    → status ≡ bytes2 36864
    → d ≡ body ++ zeros (1028 - length body) ++ cla ∷ ins ∷ p1 ∷ p2 ∷ p3 ∷ (bytes2 lc ++ bytes2 le ++ 0 ∷ 0 ∷ 0x90 ∷ 0 ∷ [])
new_public_is a b c d body lengths status cla ins p1 p2 p3 lc le most wa wb wc il wd is =
    let head : List ℕ = cla ∷ ins ∷ p1 ∷ p2 ∷ p3 ∷ [] in
    let both : List ℕ = bytes2 lc ++ bytes2 le in
    let k : ℕ = 1028 - length body in
    let front : List ℕ = body ++ (zeros k ++ head) in
    let middle : length (zeros k ++ head) ≡ k + 5 = length-append (zeros k) head ∙ ap (λ (n : ℕ). n + 5) (length-replicate k 0) in
    let at : 1033 ≡ length front + 0 = sym (ap (λ (n : ℕ). n + 0) (length-append body (zeros k ++ head) ∙ ap (λ (n : ℕ). length body + n) middle) ∙ omega arith) in
    let size : 1039 ≡ length (front ++ both) + 2 = sym (ap (λ (n : ℕ). n + 2) (length-append front both) ∙ omega (arith, at)) in
    let left : 1041 - length body - (k + 5) ≡ 8 = omega arith in
    let first : a ≡ body ++ zeros (1041 - length body) = padded_is 1041 a body wa in
    let second : b ≡ front ++ zeros 8 =
    wb ∙ ap (λ (t : List ℕ). splice t 1028 head) first
    ∙ write_behind body head k (1041 - length body) 1028 (omega arith) (omega arith)
    ∙ ap (λ (n : ℕ). front ++ zeros n) left in
    let third : c ≡ (front ++ both) ++ zeros 4 =
    wc ∙ ap (λ (t : List ℕ). splice b 1033 t) il ∙ ap (λ (t : List ℕ). splice t 1033 both) second ∙ write_behind front both 0 8 1033 at (omega arith) in
    let fourth : d ≡ ((front ++ both) ++ 0 ∷ 0 ∷ 0x90 ∷ 0 ∷ []) ++ [] =
    wd ∙ ap (λ (t : List ℕ). splice c 1039 t) is
    ∙ ap (λ (t : List ℕ). splice t 1039 (bytes2 36864)) third
    ∙ write_behind (front ++ both) (bytes2 36864) 2 4 1039 size (omega arith) in
    let rest : List ℕ = both ++ 0 ∷ 0 ∷ 0x90 ∷ 0 ∷ [] in
    fourth
    ∙ append-nil ((front ++ both) ++ 0 ∷ 0 ∷ 0x90 ∷ 0 ∷ [])
    ∙ append_assoc front both (0 ∷ 0 ∷ 0x90 ∷ 0 ∷ [])
    ∙ append_assoc body (zeros k ++ head) rest
    ∙ ap (λ (t : List ℕ). body ++ t) (append_assoc (zeros k) head rest)
    ∙ sym (append_assoc body (zeros k) (head ++ rest))
