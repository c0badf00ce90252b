-- Blocks of static bytes, and what terms move in them.
use Rattle.std.proofs.Common.{◌≡◌, ℕ, zero, suc, ◌+◌, ◌-◌, ◌*◌, ◌%◌, ◌^◌, ◌<◌, ◌≤◌, Bool, true, false, cond, List, [], ◌∷◌, ◌++◌, drop, take, length, get_or, refl, sym, ◌∙◌, ap, subst, arith, append_assoc, drop-cons}
use Rattle.std.specs.Prelude.{min, not, ◌≢◌, ◌&&◌, ◌==◌}
use Rattle.std.proofs.Math.Bool.{beq}
use Rattle.std.proofs.Math.Nat.{mod-add-mod}
use Rattle.std.proofs.lemmas.Bool.{eq-eqb, ne_eqb}
use Rattle.std.proofs.lemmas.List.{append-nil, drop_all, drop_at, drop_min, length-replicate, take_at, take_min}
use Rattle.std.proofs.lemmas.List.{drop-drop, length-append, length-drop, length-take, take-append-drop}
use Rattle.std.proofs.lemmas.Slice.{drop-put_mid, take-put_mid}
use borrow.Rule.Slice.PartMut.{put_mid}
use Rattle.model_device.specs.Bytes.{num, zeros}
use Rattle.lab_app_rules.specs.declared.rules.Balance.{Balance}
use Rattle.lab_app_rules.specs.declared.rules.Named.{Named}
use Rattle.lab_app_rules.specs.declared.rules.SignedSum.{SignedSum}
use Rattle.lab_history.specs.Blocks.{added_by, count_of_added, count_of_taken, first_amount, is_same, taken_by}
use Rattle.lab_history.specs.Moves.{AreMoved, IsMoved}
use Rattle.lab_history.specs.Standings.{AreFirst, IsFirst}

-- numbers that are the same modulo p stay so if a number is added to both
pub same_with : (p x y r : ℕ) → x % p ≡ y % p → (x + r) % p ≡ (y + r) % p
same_with p x y r h = sym (mod-add-mod x p r) ∙ ap (λ v. (v + r) % p) h ∙ mod-add-mod y p r

-- a block up to the end of the bytes is the block
pub block_is : (l : List ℕ) (at n : ℕ) → take (min n (length (drop (min at (length l)) l))) (drop (min at (length l)) l) ≡ take n (drop at l)
block_is l at n = take_min n (drop (min at (length l)) l) ∙ ap (take n) (drop_min at l)

-- one block more
pub first_with : (sums : List Named) (b : Balance) (bs : List Balance) (block rest : List ℕ) → length block ≡ b.n → IsFirst sums b block → AreFirst sums bs rest → AreFirst sums (b ∷ bs) (block ++ rest)
first_with sums b bs block rest e f r = (subst (IsFirst sums b) (sym (take_at block rest b.n e)) f, subst (AreFirst sums bs) (sym (drop_at block rest b.n e)) r)

-- ---- terms one by one

-- where a sum is moved, what one more term adds
pub added_more : (ts : List SignedSum) (i sum : ℕ) (takes : Bool) (t : SignedSum) → i < length ts → count_of_added (take (suc i) ts) sum takes ≡ count_of_added (take i ts) sum takes + cond ((get_or ts i t).sum == sum && is_same (get_or ts i t).minus takes) 1 0
added_more [] i sum takes t h = absurd (omega (arith, h))
added_more (u ∷ ts) zero sum takes t h = omega arith
added_more (u ∷ ts) (suc i) sum takes t h =
    let r = added_more ts i sum takes t (omega (arith, h)) in
    omega (arith, r)

-- and what it takes
pub taken_more : (ts : List SignedSum) (i sum : ℕ) (takes : Bool) (t : SignedSum) → i < length ts → count_of_taken (take (suc i) ts) sum takes ≡ count_of_taken (take i ts) sum takes + cond ((get_or ts i t).sum == sum && not (is_same (get_or ts i t).minus takes)) 1 0
taken_more [] i sum takes t h = absurd (omega (arith, h))
taken_more (u ∷ ts) zero sum takes t h = omega arith
taken_more (u ∷ ts) (suc i) sum takes t h =
    let r = taken_more ts i sum takes t (omega (arith, h)) in
    omega (arith, r)

-- a term that adds, or takes: k is the number that is moved, a and t are how many added and took before
moved_up : (p o b c k a t : ℕ) → (b + k * t) % p ≡ (o + k * a) % p → (c + 0) % p ≡ (b + k) % p → (c + k * (t + 0)) % p ≡ (o + k * (a + 1)) % p
moved_up p o b c k a t h e =
    let r = same_with p (c + 0) (b + k) (k * t) e in
    let s = same_with p (b + k * t) (o + k * a) k h in
    let w : c + k * (t + 0) ≡ c + 0 + k * t = omega arith in
    let x : b + k + k * t ≡ b + k * t + k = omega arith in
    let y : o + k * a + k ≡ o + k * (a + 1) = omega arith in
    ap (λ v. v % p) w ∙ r ∙ ap (λ v. v % p) x ∙ s ∙ ap (λ v. v % p) y

moved_down : (p o b c k a t : ℕ) → (b + k * t) % p ≡ (o + k * a) % p → (c + k) % p ≡ (b + 0) % p → (c + k * (t + 1)) % p ≡ (o + k * (a + 0)) % p
moved_down p o b c k a t h e =
    let r = same_with p (c + k) (b + 0) (k * t) e in
    let w : c + k * (t + 1) ≡ c + k + k * t = omega arith in
    let x : b + 0 + k * t ≡ b + k * t = omega arith in
    let y : o + k * a ≡ o + k * (a + 0) = omega arith in
    ap (λ v. v % p) w ∙ r ∙ ap (λ v. v % p) x ∙ h ∙ ap (λ v. v % p) y

-- s is whether the term is of the sum, m whether it is taken away
moves : (s m takes : Bool) (p o b c k a t : ℕ) → s ≡ true → (b + k * t) % p ≡ (o + k * a) % p → (c + cond (not (beq m takes)) k 0) % p ≡ (b + cond (not (beq m takes)) 0 k) % p
    → (c + k * (t + cond (s && not (is_same m takes)) 1 0)) % p ≡ (o + k * (a + cond (s && is_same m takes) 1 0)) % p
moves true true true p o b c k a t i h e = moved_up p o b c k a t h e
moves true true false p o b c k a t i h e = moved_down p o b c k a t h e
moves true false true p o b c k a t i h e = moved_down p o b c k a t h e
moves true false false p o b c k a t i h e = moved_up p o b c k a t h e
moves false m takes p o b c k a t i h e = absurd (cc i)

skips : (s m n : Bool) (p o b k a t : ℕ) → s ≡ false → (b + k * t) % p ≡ (o + k * a) % p → (b + k * (t + cond (s && m) 1 0)) % p ≡ (o + k * (a + cond (s && n) 1 0)) % p
skips true m n p o b k a t i h = absurd (cc i)
skips false m n p o b k a t i h =
    let x : b + k * (t + 0) ≡ b + k * t = omega arith in
    let y : o + k * a ≡ o + k * (a + 0) = omega arith in
    ap (λ v. v % p) x ∙ h ∙ ap (λ v. v % p) y

-- one more term, of the sum that is moved
pub move_step : (p q o b c k : ℕ) (ts : List SignedSum) (i j sum : ℕ) (takes : Bool) (t : SignedSum) → q ≡ p → j ≡ suc i → i < length ts → (get_or ts i t).sum ≡ sum
    → (b + k * count_of_taken (take i ts) sum takes) % p ≡ (o + k * count_of_added (take i ts) sum takes) % p
    → (c + cond (not (beq (get_or ts i t).minus takes)) k 0) % q ≡ (b + cond (not (beq (get_or ts i t).minus takes)) 0 k) % q
    → (c + k * count_of_taken (take j ts) sum takes) % p ≡ (o + k * count_of_added (take j ts) sum takes) % p
move_step p q o b c k ts i j sum takes t size e h same before moved =
    let m = (get_or ts i t).minus in
    let now = subst (λ (n : ℕ). (c + cond (not (beq m takes)) k 0) % n ≡ (b + cond (not (beq m takes)) 0 k) % n) size moved in
    rw (e, taken_more ts i sum takes t h, added_more ts i sum takes t h)
    (moves ((get_or ts i t).sum == sum) m takes p o b c k (count_of_added (take i ts) sum takes) (count_of_taken (take i ts) sum takes) (eq-eqb (get_or ts i t).sum sum same) before now)

-- one more term, of another sum
pub skip_step : (p o b k : ℕ) (ts : List SignedSum) (i j sum : ℕ) (takes : Bool) (t : SignedSum) → j ≡ suc i → i < length ts → (get_or ts i t).sum ≢ sum
    → (b + k * count_of_taken (take i ts) sum takes) % p ≡ (o + k * count_of_added (take i ts) sum takes) % p
    → (b + k * count_of_taken (take j ts) sum takes) % p ≡ (o + k * count_of_added (take j ts) sum takes) % p
skip_step p o b k ts i j sum takes t e h other before =
    let m = (get_or ts i t).minus in
    rw (e, taken_more ts i sum takes t h, added_more ts i sum takes t h)
    (skips ((get_or ts i t).sum == sum) (not (is_same m takes)) (is_same m takes) p o b k (count_of_added (take i ts) sum takes) (count_of_taken (take i ts) sum takes) (ne_eqb (get_or ts i t).sum sum other) before)

-- as the application is created: what one more term adds and takes
pub first_added_more : (sums : List Named) (ts : List SignedSum) (i : ℕ) (t : SignedSum) → i < length ts → added_by sums (take (suc i) ts) ≡ added_by sums (take i ts) + cond (get_or ts i t).minus 0 (first_amount sums (get_or ts i t).sum)
first_added_more sums [] i t h = absurd (omega (arith, h))
first_added_more sums (u ∷ ts) zero t h = omega arith
first_added_more sums (u ∷ ts) (suc i) t h =
    let r = first_added_more sums ts i t (omega (arith, h)) in
    omega (arith, r)

pub first_taken_more : (sums : List Named) (ts : List SignedSum) (i : ℕ) (t : SignedSum) → i < length ts → taken_by sums (take (suc i) ts) ≡ taken_by sums (take i ts) + cond (get_or ts i t).minus (first_amount sums (get_or ts i t).sum) 0
first_taken_more sums [] i t h = absurd (omega (arith, h))
first_taken_more sums (u ∷ ts) zero t h = omega arith
first_taken_more sums (u ∷ ts) (suc i) t h =
    let r = first_taken_more sums ts i t (omega (arith, h)) in
    omega (arith, r)

-- a term that adds x and takes y
pub moved_by : (p o b c x y a t : ℕ) → (b + t) % p ≡ (o + a) % p → (c + y) % p ≡ (b + x) % p → (c + (t + y)) % p ≡ (o + (a + x)) % p
moved_by p o b c x y a t h e =
    let r = same_with p (c + y) (b + x) t e in
    let s = same_with p (b + t) (o + a) x h in
    let u : c + (t + y) ≡ c + y + t = omega arith in
    let v : b + x + t ≡ b + t + x = omega arith in
    let w : o + a + x ≡ o + (a + x) = omega arith in
    ap (λ n. n % p) u ∙ r ∙ ap (λ n. n % p) v ∙ s ∙ ap (λ n. n % p) w

-- one more term, as the application is created
pub first_step : (p q o b c n : ℕ) (sums : List Named) (ts : List SignedSum) (i j : ℕ) (t : SignedSum) → q ≡ p → j ≡ suc i → i < length ts → n ≡ first_amount sums (get_or ts i t).sum
    → (b + taken_by sums (take i ts)) % p ≡ (o + added_by sums (take i ts)) % p
    → (c + cond (get_or ts i t).minus n 0) % q ≡ (b + cond (get_or ts i t).minus 0 n) % q
    → (c + taken_by sums (take j ts)) % p ≡ (o + added_by sums (take j ts)) % p
first_step p q o b c n sums ts i j t size e h amount before moved =
    let m = (get_or ts i t).minus in
    let k = first_amount sums (get_or ts i t).sum in
    let now = subst (λ (r : ℕ). (c + cond m n 0) % r ≡ (b + cond m 0 n) % r) size moved in
    let meant = subst (λ (x : ℕ). (c + cond m x 0) % p ≡ (b + cond m 0 x) % p) amount now in
    rw (e, first_taken_more sums ts i t h, first_added_more sums ts i t h)
    (moved_by p o b c (cond m 0 k) (cond m k 0) (added_by sums (take i ts)) (taken_by sums (take i ts)) before meant)

zeros_count : (n : ℕ) → num (zeros n) ≡ 0
zeros_count zero = refl
zeros_count (suc n) = grind (arith, zeros_count n)

-- a block of zeros, first, to which a constant k is added, and to what that leaves, second, what terms add and take
pub block_made : (n len k added taken : ℕ) (items first s second a : List ℕ) → items ≡ zeros n → first ≡ items → length first ≡ len → length s ≡ length first
    → second ≡ take len (s ++ drop (length s) items) → length a ≡ length second
    → (num s + 0) % 256 ^ length first ≡ (num first + k) % 256 ^ length first
    → (num a + taken) % 256 ^ length second ≡ (num second + added) % 256 ^ length second
    → (num (take len (a ++ drop (length a) (take len (s ++ drop (length s) items)))) + taken) % 256 ^ n ≡ (k + added) % 256 ^ n
block_made n len k added taken items first s second a blank same long ls next la start moved =
    let rest = drop (length s) items in
    let size : length first ≡ n = ap length (same ∙ blank) ∙ length-replicate n 0 in
    let inner : take len (s ++ rest) ≡ s = take_at s rest len (ls ∙ long) in
    let is : second ≡ s = next ∙ inner in
    let span : length second ≡ n = ap length is ∙ ls ∙ size in
    let outer = take_at a (drop (length a) (take len (s ++ rest))) len (la ∙ ap length is ∙ ls ∙ long) in
    let none : num first ≡ 0 = ap num (same ∙ blank) ∙ zeros_count n in
    let begun = subst (λ (m : ℕ). (num s + 0) % 256 ^ m ≡ (num first + k) % 256 ^ m) size start in
    let plain : num s ≡ num s + 0 = omega arith in
    let alone : num first + k ≡ k = omega (arith, none) in
    let constant : num s % 256 ^ n ≡ k % 256 ^ n = ap (λ v. v % 256 ^ n) plain ∙ begun ∙ ap (λ v. v % 256 ^ n) alone in
    let all = subst (λ (m : ℕ). (num a + taken) % 256 ^ m ≡ (num second + added) % 256 ^ m) span moved in
    ap (λ l. (num l + taken) % 256 ^ n) outer ∙ all ∙ ap (λ l. (num l + added) % 256 ^ n) is ∙ same_with (256 ^ n) (num s) k added constant

-- ---- all blocks

-- if the blocks so far, followed by first blocks of the lines from i on, are first blocks of all, so are they with the
-- block of line i, followed by those of the lines from j on, the next
pub first_more : (sums : List Named) (whole bs : List Balance) (i j : ℕ) (b : Balance) (made block : List ℕ) → j ≡ suc i → i < length bs → b ≡ get_or bs i b → length block ≡ b.n → IsFirst sums b block
    → ((rest : List ℕ) → AreFirst sums (drop i bs) rest → AreFirst sums whole (made ++ rest)) → (rest : List ℕ) → AreFirst sums (drop j bs) rest → AreFirst sums whole ((made ++ block) ++ rest)
first_more sums whole bs i j b made block e h is size first before rest r =
    let at : drop i bs ≡ b ∷ drop (suc i) bs = drop-cons bs i b h ∙ ap (λ (x : Balance). x ∷ drop (suc i) bs) (sym is) in
    let tail = subst (λ (k : ℕ). AreFirst sums (drop k bs) rest) e r in
    rw append_assoc (before (block ++ rest) (subst (λ (l : List Balance). AreFirst sums l (block ++ rest)) (sym at) (first_with sums b (drop (suc i) bs) block rest size first tail)))

-- after the last line
pub first_all : (sums : List Named) (whole bs : List Balance) (i : ℕ) (made : List ℕ) → length bs ≤ i → ((rest : List ℕ) → AreFirst sums (drop i bs) rest → AreFirst sums whole (made ++ rest)) → AreFirst sums whole made
first_all sums whole bs i made h all =
    subst (AreFirst sums whole) (append-nil made) (all [] (subst (λ (l : List Balance). AreFirst sums l []) (sym (drop_all i bs h)) refl))

-- ---- a sum that is moved in all blocks

-- if moved blocks of the lines from i on, after the blocks so far, are moved blocks of all, so are they with the block of
-- line i, followed by those of the lines from j on, the next
pub moved_more : (whole bs : List Balance) (start blocks m : List ℕ) (sum k i j from to size : ℕ) (takes : Bool) (b : Balance) → j ≡ suc i → i < length bs → b ≡ get_or bs i b → from ≤ length blocks
    → to ≡ min (length blocks) (from + b.n) → size ≡ to - from → IsMoved b.sums.items sum takes k (take size (drop from blocks)) m
    → ((new : List ℕ) → AreMoved (drop i bs) sum takes k (drop from blocks) new → AreMoved whole sum takes k start (take from blocks ++ new))
    → (new : List ℕ) → AreMoved (drop j bs) sum takes k (drop to (put_mid from size blocks m)) new → AreMoved whole sum takes k start (take to (put_mid from size blocks m) ++ new)
moved_more whole bs start blocks m sum k i j from to size takes b e h is within ends span moved before new r =
    let s = drop from blocks in
    let long : length s ≡ length blocks - from = length-drop from blocks in
    let least : size ≡ min b.n (length s) = omega (arith, long) in
    let part : take size s ≡ take b.n s = ap (λ n. take n s) least ∙ take_min b.n s in
    let up : from + size ≡ to = omega arith in
    let after : drop to blocks ≡ drop b.n s = ap (λ n. drop n blocks) (sym up) ∙ sym (drop-drop size from blocks) ∙ ap (λ n. drop n s) least ∙ drop_min b.n s in
    let wide : length m ≡ size = moved.size ∙ length-take size s ∙ omega (arith, long) in
    let front = take-put_mid from size blocks m to (omega (arith, wide)) within in
    let back = drop-put_mid from size blocks m to (omega arith) within wide ∙ after in
    let tail = subst (λ (l : List ℕ). AreMoved (drop (suc i) bs) sum takes k l new) back (subst (λ (n : ℕ). AreMoved (drop n bs) sum takes k (drop to (put_mid from size blocks m)) new) e r) in
    let at : drop i bs ≡ b ∷ drop (suc i) bs = drop-cons bs i b h ∙ ap (λ (x : Balance). x ∷ drop (suc i) bs) (sym is) in
    let here = subst (λ (l : List ℕ). IsMoved b.sums.items sum takes k l m) part moved in
    let all = subst (λ (l : List Balance). AreMoved l sum takes k s (m ++ new)) (sym at) (m, new, refl, here, tail) in
    subst (λ (l : List ℕ). AreMoved whole sum takes k start (l ++ new)) (sym front) (subst (AreMoved whole sum takes k start) (sym (append_assoc (take from blocks) m new)) (before (m ++ new) all))

-- the next block begins within the bytes
pub moved_within : (blocks m : List ℕ) (from to size : ℕ) → from ≤ length blocks → to ≡ from + size → to ≤ length blocks → length m ≡ length (take size (drop from blocks)) → to ≤ length (put_mid from size blocks m)
moved_within blocks m from to size within ends high same =
    let wide : length m ≡ size = same ∙ length-take size (drop from blocks) ∙ omega (arith, length-drop from blocks) in
    let front : take to (put_mid from size blocks m) ≡ take from blocks ++ m = take-put_mid from size blocks m to (omega (arith, wide)) within in
    let long : length (take to (put_mid from size blocks m)) ≡ length (take from blocks) + length m = ap length front ∙ length-append (take from blocks) m in
    omega (arith, long, length-take to (put_mid from size blocks m), length-take from blocks, wide)

-- after the last line
pub moved_all : (whole bs : List Balance) (start blocks : List ℕ) (sum k i from : ℕ) (takes : Bool) → length bs ≤ i
    → ((new : List ℕ) → AreMoved (drop i bs) sum takes k (drop from blocks) new → AreMoved whole sum takes k start (take from blocks ++ new)) → AreMoved whole sum takes k start blocks
moved_all whole bs start blocks sum k i from takes h all =
    subst (AreMoved whole sum takes k start) (take-append-drop from blocks) (all (drop from blocks) (subst (λ (l : List Balance). AreMoved l sum takes k (drop from blocks) (drop from blocks)) (sym (drop_all i bs h)) refl))
