-- The first bad header, one step of a walk at a time.
use Rattle.std.proofs.Common.{◌≡◌, ◌≢◌, ℕ, zero, suc, ◌+◌, ◌-◌, ◌<◌, ◌≤◌, Bool, true, false, ◌&&◌, ◌||◌, List, length, Option, Some, None, refl, sym, ◌∙◌, ap, subst, arith, cond, not}
use Rattle.std.specs.Prelude.{nat_le, nat_lt, ◌==◌}
use Rattle.std.proofs.lemmas.Bool.{eq-eqb, ne_eqb, le-ltb, lt-ltb, leb-false, ltb-false, or_parts, or_right}
use Rattle.mc_words.specs.model_device.specs.Card.{Block, word, header}
use Rattle.mc_words.specs.model_device.specs.Layout.{bad_header, next_block, is_hole, bad_block}
use Rattle.mc_blocks.specs.Blocks.{block_within, bad_from, FollowsBlock}
use Rattle.mc_blocks.proofs.Steps.{HeaderIs, header_is, BlockFits, fits}

-- ---- a header that was read

unfit_some : (size : ℕ) (after_hole : Bool) (b : Block) (t : Bool) → nat_le (b.place + b.words) size ≡ t → None ≡ cond t (Some b) None → bad_header size after_hole (Some b) ≡ true
unfit_some size after_hole b true h e = absurd (cc e)
unfit_some size after_hole b false h e = ap (λ (t : Bool). t || (after_hole && not b.used)) (lt-ltb size (b.place + b.words) (leb-false (b.place + b.words) size h))

-- a header whose block does not end within the device is bad
pub unfit_is_bad : (size : ℕ) (after_hole : Bool) (o : Option Block) → None ≡ block_within size o → bad_header size after_hole o ≡ true
unfit_is_bad size after_hole None h = refl
unfit_is_bad size after_hole (Some b) h = unfit_some size after_hole b (nat_le (b.place + b.words) size) refl h

-- a hole after a hole is bad
pub second_is_bad : (size p : ℕ) (x : List ℕ) (b : Block) → Some b ≡ block_within size (header p x) → b.used ≡ false → bad_header size true (header p x) ≡ true
second_is_bad size p x b h hole = grind (arith, fits, or_right)

-- a header whose block ends within the device, and that is no hole after a hole, is good
pub next_is_good : (size p : ℕ) (x : List ℕ) (after_hole : Bool) (b : Block) → Some b ≡ block_within size (header p x) → (after_hole && not b.used) ≡ false → FollowsBlock size after_hole (header p x) b
next_is_good size p x after_hole b h other = grind (arith, BlockFits, fits, le-ltb)

-- ---- a walk

-- a good block ends within the device
good_ends : (size : ℕ) (after_hole : Bool) (b : Block) → bad_header size after_hole (Some b) ≡ false → b.place + b.words ≤ size
good_ends size after_hole b h = ltb-false size (b.place + b.words) (or_parts (nat_lt size (b.place + b.words)) (after_hole && not b.used) h).0

choice : (p : ℕ) (t s : Bool) (x y : Option ℕ) → (t ≡ false → s ≡ false → x ≡ y) → cond t None (cond s (Some p) x) ≡ cond t None (cond s (Some p) y)
choice p t s x y h = grind arith

same_rest : (m : List (List ℕ)) (p : ℕ) (after_hole : Bool) (o : Option Block) (f g : ℕ → Bool → Option ℕ) → header p (word m p) ≡ o → bad_header (length m) after_hole o ≡ false
    → ((b : Block) → HeaderIs p (word m p) b → b.place + b.words ≤ length m → f (b.place + b.words) (not b.used) ≡ g (b.place + b.words) (not b.used))
    → f (next_block (length m) o) (is_hole o) ≡ g (next_block (length m) o) (is_hole o)
same_rest m p after_hole None f g e good same = absurd (cc good)
same_rest m p after_hole (Some b) f g e good same = same b (header_is p (word m p) b e) (good_ends (length m) after_hole b good)

end : (m : List (List ℕ)) (p : ℕ) (rest : Option ℕ) → p ≡ length m → cond (p == length m) None rest ≡ None
end m p rest h = ap (λ (t : Bool). cond t None rest) (eq-eqb p (length m) h)

same_fuel : (n k : ℕ) (m : List (List ℕ)) (p : ℕ) (after_hole : Bool) → p ≤ length m → length m - p ≤ n → length m - p ≤ k → bad_block n m p after_hole ≡ bad_block k m p after_hole
unfolding bad_block
same_fuel zero zero m p after_hole h a b = refl
same_fuel zero (suc k) m p after_hole h a b = sym (end m p _ (omega arith))
same_fuel (suc n) zero m p after_hole h a b = end m p _ (omega arith)
same_fuel (suc n) (suc k) m p after_hole h a b =
    let o = header p (word m p) in
    choice p (p == length m) (bad_header (length m) after_hole o) (bad_block n m (next_block (length m) o) (is_hole o)) (bad_block k m (next_block (length m) o) (is_hole o))
    (λ _ good. same_rest m p after_hole o (λ q c. bad_block n m q c) (λ q c. bad_block k m q c) refl good
    (λ c is ends. let place : c.place ≡ p = is.place in let low : 1 ≤ c.words = is.low in same_fuel n k m (c.place + c.words) (not c.used) ends (omega arith) (omega arith)))

pub bad_all : (m : List (List ℕ)) → 131 ≤ length m → bad_block (length m) m 131 false ≡ bad_from m 131 false
bad_all m h = same_fuel (length m) (length m - 131) m 131 false h (omega arith) (omega arith)

bad_suc : (n : ℕ) (m : List (List ℕ)) (p : ℕ) (after_hole : Bool) (rest : Option ℕ) → p < length m
    → bad_block (suc n) m p after_hole ≡ cond (bad_header (length m) after_hole (header p (word m p))) (Some p) (bad_block n m (next_block (length m) (header p (word m p))) (is_hole (header p (word m p))))
unfolding bad_block
bad_suc n m p after_hole rest h =
    let apart : p ≢ length m = λ e. absurd (omega (arith, e)) in
    ap (λ (t : Bool). cond t None (cond (bad_header (length m) after_hole (header p (word m p))) (Some p) (bad_block n m (next_block (length m) (header p (word m p))) (is_hole (header p (word m p)))))) (ne_eqb p (length m) apart)

bad_fuel : (n k : ℕ) (m : List (List ℕ)) (p : ℕ) (after_hole : Bool) → n ≡ suc k → bad_block n m p after_hole ≡ bad_block (suc k) m p after_hole
bad_fuel n k m p after_hole e = ap (λ (t : ℕ). bad_block t m p after_hole) e

-- the first bad header from a place on is the one there if that is bad
pub bad_here : (m : List (List ℕ)) (p : ℕ) (after_hole : Bool) → p < length m → bad_header (length m) after_hole (header p (word m p)) ≡ true → bad_from m p after_hole ≡ Some p
bad_here m p after_hole lt h =
    bad_fuel (length m - p) (length m - p - 1) m p after_hole (omega arith)
    ∙ bad_suc (length m - p - 1) m p after_hole None lt
    ∙ ap (λ (t : Bool). cond t (Some p) (bad_block (length m - p - 1) m (next_block (length m) (header p (word m p))) (is_hole (header p (word m p))))) h

-- the first bad header from a good one on is the first after it
pub bad_behind : (m : List (List ℕ)) (p : ℕ) (after_hole : Bool) (b : Block) → p < length m → FollowsBlock (length m) after_hole (header p (word m p)) b
    → bad_from m p after_hole ≡ bad_from m (b.place + b.words) (not b.used)
bad_behind m p after_hole b lt h =
    let ends : b.place + b.words ≤ length m = good_ends (length m) after_hole b (subst (λ (o : Option Block). bad_header (length m) after_hole o ≡ false) h.0 h.1) in
    let is : HeaderIs p (word m p) b = header_is p (word m p) b h.0 in
    let place : b.place ≡ p = is.place in
    let low : 1 ≤ b.words = is.low in
    let n = length m - p - 1 in
    bad_fuel (length m - p) n m p after_hole (omega arith)
    ∙ bad_suc n m p after_hole None lt
    ∙ ap (λ (t : Bool). cond t (Some p) (bad_block n m (next_block (length m) (header p (word m p))) (is_hole (header p (word m p))))) h.1
    ∙ ap (λ (o : Option Block). bad_block n m (next_block (length m) o) (is_hole o)) h.0
    ∙ same_fuel n (length m - (b.place + b.words)) m (b.place + b.words) (not b.used) ends (omega arith) (omega arith)

pub good_end : (m : List (List ℕ)) (p : ℕ) (after_hole : Bool) (b : Block) → FollowsBlock (length m) after_hole (header p (word m p)) b → (b.place + b.words ≤ length m) × (p < b.place + b.words)
good_end m p after_hole b h = grind (arith, good_ends, HeaderIs, header_is)

bad_zero : (m : List (List ℕ)) (p : ℕ) (after_hole : Bool) → bad_block zero m p after_hole ≡ None
unfolding bad_block
bad_zero m p after_hole = refl

-- from the end on no header is bad
pub bad_end : (m : List (List ℕ)) (p : ℕ) (after_hole : Bool) → length m ≤ p → bad_from m p after_hole ≡ None
bad_end m p after_hole h = ap (λ (t : ℕ). bad_block t m p after_hole) (let z : length m - p ≡ 0 = omega arith in z) ∙ bad_zero m p after_hole
