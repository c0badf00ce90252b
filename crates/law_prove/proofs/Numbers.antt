-- The rows that compare, test and compute: each is one of the operations on digits.
use native.Mathlib.Nat.{mod-eq_of_lt}
use Rattle.std.proofs.Common.{◌≡◌, ℕ, zero, suc, ◌+◌, ◌-◌, ◌*◌, ◌%◌, ◌^◌, ◌<◌, ◌≤◌, Bool, true, false, List, [], ◌∷◌, length, replicate, ℤ, refl, sym, ap, ◌∙◌, arith}
use Rattle.std.specs.Prelude.{not, ◌&&◌, ◌==◌, bit_and, bit_or, bit_xor}
use Rattle.std.proofs.lemmas.Bool.{and_parts, eqb-true, eqb-false}
use Rattle.std.proofs.lemmas.List.{length-replicate}
use Rattle.model_prove.specs.model_device.specs.Bytes.{AreBytes, num, bytes, bytes2, zeros}
use Rattle.model_prove.specs.model_device.proofs.ListLemmas.{pair_bytes, length_bytes}
use Rattle.model_prove.specs.model_machine.specs.declared.instruction.Ins.TheVariants as ins
use Rattle.model_prove.specs.model_machine.specs.declared.instruction.Ins.{Ins}
use Rattle.model_prove.specs.model_machine.specs.declared.machine.Abend.TheVariants.{A06}
use Rattle.model_prove.specs.model_machine.specs.declared.machine.Abend.{Abend}
use Rattle.model_prove.specs.model_machine.specs.Blocks.{Worked, add_blocks, sub_blocks, inc_block, dec_block, is_zero, and_blocks, or_blocks, xor_blocks, not_block}
use Rattle.model_prove.specs.model_machine.specs.Primitives.{in_range}
use Rattle.model_prove.specs.model_machine.specs.Row.{causes}
use Rattle.model_prove.specs.model_machine.specs.Shapes.{shape}
use Rattle.law_rules.specs.law_bytes.specs.law_rows.specs.Carry.{carry_of}
use Rattle.law_rules.specs.law_bytes.specs.law_rows.proofs.BlockLemmas.{pow_more, pow_positive, num_bytes}
use Rattle.law_rules.specs.law_bytes.specs.law_rows.proofs.ResultLemmas.{sum_is, difference_is, inc_is, dec_is}
use Rattle.law_rules.specs.law_bytes.proofs.ByteLists.{zero_bytes, number_bytes}
use Rattle.model_prove.specs.Digits.{Operation, Plus, Minus, And, Or, Xor, carried}
use Rattle.law_prove.specs.Laws.{CompareLaw, SumLaw, BitLaw}
use Rattle.law_prove.proofs.Turns.{NoCause}
use Rattle.law_prove.proofs.Single.{RowCase, law_of}
use Rattle.law_prove.proofs.Worked.{carries_of, worked, worked_length, worked_zero, worked_bytes, worked_sum, worked_difference, worked_and, worked_or, worked_xor, not_zero}
use Rattle.law_prove.proofs.Arith.{RunsAs, ordered, ResultRow, PairResultRow, compare_case, result_case, pair_compare_case, pair_result_case}

-- ---- the machine's numbers

-- the carry of the machine is that of the digits
pub carry_same : (c : Bool) → carry_of c ≡ carried c
carry_same true = refl
carry_same false = refl

-- what an operation leaves
abbrev left_by : Operation → List ℕ → List ℕ → Worked
left_by op xs ys = let r = worked op xs ys in record { value = r.0; c = (r.1).c; z = (r.1).z }

sum_left : (xs ys : List ℕ) → length xs ≡ length ys → AreBytes xs → AreBytes ys → add_blocks xs ys ≡ left_by Plus xs ys
sum_left xs ys l h k =
    let r = worked Plus xs ys in
    sym (sum_is xs ys r.0 (r.1).c (r.1).z (worked_length Plus xs ys l) (worked_bytes Plus xs ys l h k)
    (ap (λ (n : ℕ). num r.0 + n * 256 ^ length xs) (carry_same (r.1).c) ∙ worked_sum xs ys l h k) (worked_zero Plus xs ys l))

difference_left : (xs ys : List ℕ) → length xs ≡ length ys → AreBytes xs → AreBytes ys → sub_blocks xs ys ≡ left_by Minus xs ys
difference_left xs ys l h k =
    let r = worked Minus xs ys in
    sym (difference_is xs ys r.0 (r.1).c (r.1).z (worked_length Minus xs ys l) (worked_bytes Minus xs ys l h k)
    (worked_difference xs ys l h k ∙ ap (λ (n : ℕ). num xs + n * 256 ^ length xs) (sym (carry_same (r.1).c))) (worked_zero Minus xs ys l))

runs_plus : (written : Bool) (n : ℕ) (xs ys : List ℕ) → length xs ≡ n → length ys ≡ n → AreBytes xs → AreBytes ys → RunsAs Plus written n xs ys
runs_plus written n xs ys a b h k e = rw (← a) (worked_sum xs ys (a ∙ sym b) h k)

runs_minus : (written : Bool) (n : ℕ) (xs ys : List ℕ) → length xs ≡ n → length ys ≡ n → AreBytes xs → AreBytes ys → RunsAs Minus written n xs ys
runs_minus written n xs ys a b h k e = rw (← a) (worked_difference xs ys (a ∙ sym b) h k)

-- the flags of a result
abbrev both_flags : Worked → Bool × Bool
both_flags w = (w.c, w.z)

-- ---- comparisons

cmpb_case : (tag : ℕ) (off : ℤ) (v : ℕ) → RowCase (ins.Cmpb tag off v)
unfolding causes shape
cmpb_case tag off v s u t g loadable leads turn includes =
    let b = v ∷ [] in
    let are : AreBytes b = (turn.shaped.1, tt) in
    compare_case (ins.Cmpb tag off v) tag off 1 Minus b refl are (omega arith) [] (λ none. refl) (λ f xs. both_flags (sub_blocks xs b))
    (record {
      cause = λ f public x. refl;
      form = λ f public x. refl;
      task = λ f public. refl;
      flags = λ f xs size bytes. ap both_flags (difference_left xs b size bytes are);
      runs = λ xs size bytes. runs_minus false 1 xs b size refl bytes are;
    }) s u t g loadable leads turn includes

cmpw_case : (tag : ℕ) (off : ℤ) (v : ℕ) → RowCase (ins.Cmpw tag off v)
unfolding causes shape
cmpw_case tag off v s u t g loadable leads turn includes =
    let b = bytes2 v in
    let are : AreBytes b = pair_bytes v in
    compare_case (ins.Cmpw tag off v) tag off 2 Minus b refl are (omega arith) [] (λ none. refl) (λ f xs. both_flags (sub_blocks xs b))
    (record {
      cause = λ f public x. refl;
      form = λ f public x. refl;
      task = λ f public. refl;
      flags = λ f xs size bytes. ap both_flags (difference_left xs b size bytes are);
      runs = λ xs size bytes. runs_minus false 2 xs b size refl bytes are;
    }) s u t g loadable leads turn includes

cmpn_case : (tag : ℕ) (off : ℤ) (n : ℕ) → RowCase (ins.Cmpn tag off n)
unfolding causes shape
cmpn_case tag off n s u t g loadable leads turn includes =
    let byte : n < 256 = turn.shaped.1 in
    pair_compare_case (ins.Cmpn tag off n) tag off n Minus (omega (arith, byte)) (A06, n == 0) (λ none. none) (λ f xs ys. both_flags (sub_blocks xs ys))
    (record {
      cause = λ f public x. refl;
      form = λ f public x. refl;
      task = λ f public. refl;
      flags = λ f xs ys a b h k. ap both_flags (difference_left xs ys (a ∙ sym b) h k);
    }) s u t g loadable leads turn includes

-- the flags of a result of bits
pub bit_flags : (op : Operation) (c : Bool) (v xs ys : List ℕ) → length xs ≡ length ys → v ≡ (worked op xs ys).0 → ◌≡◌ {A = Bool × Bool} (c, is_zero v) (c, ((worked op xs ys).1).z)
bit_flags op c v xs ys l is = ap (λ (b : Bool). (c, b)) (ap is_zero is ∙ sym (worked_zero op xs ys l))

-- ---- sums and differences

module _ (i : Ins) (tag : ℕ) (off : ℤ) (n : ℕ) (op : Operation) (b : List ℕ) (size : length b ≡ n) (are : AreBytes b) (few : n ≤ 256) (pre : List (Abend × Bool)) (some : NoCause pre → (n == 0) ≡ false) where
  -- with an immediate
  sum_case : (by : List ℕ → Worked) → ((n == 0) ≡ false → (xs : List ℕ) → length xs ≡ n → AreBytes xs → by xs ≡ left_by op xs b) → carries_of op ≡ true
      → ((xs : List ℕ) → length xs ≡ n → AreBytes xs → RunsAs op true n xs b) → ResultRow i tag off n op b size are few pre some (λ xs. (by xs).value) (λ f xs. both_flags (by xs)) → RowCase i
  sum_case by left both runs row =
      result_case i tag off n op b size are few pre some (λ xs. (by xs).value) (λ f xs. both_flags (by xs))
      (record {
        row = row;
        value = λ some xs long bytes. ap (λ (w : Worked). w.value) (left some xs long bytes);
        flags = λ some f xs long bytes. rw both (ap both_flags (left some xs long bytes));
        runs = runs;
      })

  -- the bits of a block and of an immediate
  bits_case : (val : List ℕ → List ℕ) → ((xs : List ℕ) → length xs ≡ n → AreBytes xs → val xs ≡ (worked op xs b).0) → carries_of op ≡ false → ordered op true ≡ false
      → ResultRow i tag off n op b size are few pre some val (λ f xs. (f.c, is_zero (val xs))) → RowCase i
  bits_case val left none plain row =
      result_case i tag off n op b size are few pre some val (λ f xs. (f.c, is_zero (val xs)))
      (record {
        row = row;
        value = λ some xs long bytes. left xs long bytes;
        flags = λ some f xs long bytes. rw none (bit_flags op f.c (val xs) xs b (long ∙ sym size) (left xs long bytes));
        runs = λ xs long bytes e. absurd (cc (e, plain));
      })

module _ (i : Ins) (tag : ℕ) (off : ℤ) (n : ℕ) (op : Operation) (few : n ≤ 256) (pre : Abend × Bool) (some : pre.1 ≡ false → (n == 0) ≡ false) where
  -- of a block and the top of the stack
  pair_sum_case : (by : List ℕ → List ℕ → Worked) → ((xs ys : List ℕ) → length xs ≡ length ys → AreBytes xs → AreBytes ys → by xs ys ≡ left_by op xs ys) → carries_of op ≡ true
      → ((xs ys : List ℕ) → length xs ≡ n → length ys ≡ n → AreBytes xs → AreBytes ys → RunsAs op true n xs ys) → PairResultRow i tag off n op few pre some (λ xs ys. (by xs ys).value) (λ f xs ys. both_flags (by xs ys)) → RowCase i
  pair_sum_case by left both runs row =
      pair_result_case i tag off n op few pre some (λ xs ys. (by xs ys).value) (λ f xs ys. both_flags (by xs ys))
      (record {
        row = row;
        value = λ xs ys a b h k. ap (λ (w : Worked). w.value) (left xs ys (a ∙ sym b) h k);
        flags = λ f xs ys a b h k. rw both (ap both_flags (left xs ys (a ∙ sym b) h k));
        runs = runs;
      })

  -- the bits of a block and of the top of the stack
  pair_bits_case : (val : List ℕ → List ℕ → List ℕ) → ((xs ys : List ℕ) → (worked op xs ys).0 ≡ val xs ys) → carries_of op ≡ false → ordered op true ≡ false
      → PairResultRow i tag off n op few pre some val (λ f xs ys. (f.c, is_zero (val xs ys))) → RowCase i
  pair_bits_case val left none plain row =
      pair_result_case i tag off n op few pre some val (λ f xs ys. (f.c, is_zero (val xs ys)))
      (record {
        row = row;
        value = λ xs ys a b h k. sym (left xs ys);
        flags = λ f xs ys a b h k. rw none (bit_flags op f.c (val xs ys) xs ys (a ∙ sym b) (sym (left xs ys)));
        runs = λ xs ys a b h k e. absurd (cc (e, plain));
      })

-- ---- sums and differences with an immediate

addb_case : (tag : ℕ) (off : ℤ) (v : ℕ) → RowCase (ins.Addb tag off v)
unfolding causes shape
addb_case tag off v s u t g loadable leads turn includes =
    let b = v ∷ [] in
    let are : AreBytes b = (turn.shaped.1, tt) in
    sum_case (ins.Addb tag off v) tag off 1 Plus b refl are (omega arith) [] (λ none. refl) (λ xs. add_blocks xs b) (λ some xs long bytes. sum_left xs b long bytes are) refl
    (λ xs long bytes. runs_plus true 1 xs b long refl bytes are) (record { cause = λ f public x. refl; form = λ f public x. refl; task = λ f public. refl }) s u t g loadable leads turn includes

addw_case : (tag : ℕ) (off : ℤ) (v : ℕ) → RowCase (ins.Addw tag off v)
unfolding causes shape
addw_case tag off v s u t g loadable leads turn includes =
    let b = bytes2 v in
    let are : AreBytes b = pair_bytes v in
    sum_case (ins.Addw tag off v) tag off 2 Plus b refl are (omega arith) [] (λ none. refl) (λ xs. add_blocks xs b) (λ some xs long bytes. sum_left xs b long bytes are) refl
    (λ xs long bytes. runs_plus true 2 xs b long refl bytes are) (record { cause = λ f public x. refl; form = λ f public x. refl; task = λ f public. refl }) s u t g loadable leads turn includes

subb_case : (tag : ℕ) (off : ℤ) (v : ℕ) → RowCase (ins.Subb tag off v)
unfolding causes shape
subb_case tag off v s u t g loadable leads turn includes =
    let b = v ∷ [] in
    let are : AreBytes b = (turn.shaped.1, tt) in
    sum_case (ins.Subb tag off v) tag off 1 Minus b refl are (omega arith) [] (λ none. refl) (λ xs. sub_blocks xs b) (λ some xs long bytes. difference_left xs b long bytes are) refl
    (λ xs long bytes. runs_minus true 1 xs b long refl bytes are) (record { cause = λ f public x. refl; form = λ f public x. refl; task = λ f public. refl }) s u t g loadable leads turn includes

subw_case : (tag : ℕ) (off : ℤ) (v : ℕ) → RowCase (ins.Subw tag off v)
unfolding causes shape
subw_case tag off v s u t g loadable leads turn includes =
    let b = bytes2 v in
    let are : AreBytes b = pair_bytes v in
    sum_case (ins.Subw tag off v) tag off 2 Minus b refl are (omega arith) [] (λ none. refl) (λ xs. sub_blocks xs b) (λ some xs long bytes. difference_left xs b long bytes are) refl
    (λ xs long bytes. runs_minus true 2 xs b long refl bytes are) (record { cause = λ f public x. refl; form = λ f public x. refl; task = λ f public. refl }) s u t g loadable leads turn includes

-- ---- INCN and DECN

-- a number of bytes from 1 to 16 is not 0
ranged : (n : ℕ) → (not (in_range 1 16 n)) ≡ false → (n == 0) ≡ false
ranged zero e = absurd (cc e)
ranged (suc n) e = not_zero (suc n) (omega arith)

one_mod : (p : ℕ) → 0 < p → 1 % (256 * p) ≡ 1
one_mod p h = mod-eq_of_lt (omega (arith, h))

one_of : (n : ℕ) → (n == 0) ≡ false → num (bytes n 1) ≡ 1
one_of zero e = absurd (cc e)
one_of (suc n) e = num_bytes (suc n) 1 ∙ (ap (λ (p : ℕ). 1 % p) (pow_more n) ∙ one_mod (256 ^ n) (pow_positive n))

inc_left : (n : ℕ) (xs : List ℕ) → (n == 0) ≡ false → length xs ≡ n → AreBytes xs → inc_block xs ≡ left_by Plus xs (bytes n 1)
inc_left n xs some a h =
    let ys = bytes n 1 in
    let l : length xs ≡ length ys = a ∙ sym (length_bytes n 1) in
    let r = worked Plus xs ys in
    sym (inc_is xs r.0 (r.1).c (r.1).z (worked_length Plus xs ys l) h (worked_bytes Plus xs ys l h (number_bytes n 1))
    (ap (λ (n : ℕ). num r.0 + n * 256 ^ length xs) (carry_same (r.1).c) ∙ (worked_sum xs ys l h (number_bytes n 1) ∙ ap (λ (v : ℕ). num xs + v) (one_of n some))) (worked_zero Plus xs ys l))

dec_left : (n : ℕ) (xs : List ℕ) → (n == 0) ≡ false → length xs ≡ n → AreBytes xs → dec_block xs ≡ left_by Minus xs (bytes n 1)
dec_left n xs some a h =
    let ys = bytes n 1 in
    let l : length xs ≡ length ys = a ∙ sym (length_bytes n 1) in
    let r = worked Minus xs ys in
    sym (dec_is xs r.0 (r.1).c (r.1).z (worked_length Minus xs ys l) (worked_bytes Minus xs ys l h (number_bytes n 1))
    (ap (λ (v : ℕ). num r.0 + v) (sym (one_of n some)) ∙ (worked_difference xs ys l h (number_bytes n 1) ∙ ap (λ (n : ℕ). num xs + n * 256 ^ length xs) (sym (carry_same (r.1).c)))) (worked_zero Minus xs ys l))

-- ---- bits

abbrev all_below : ℕ → (ℕ → Bool) → Bool
all_below zero test = true
all_below (suc n) test = test n && all_below n test

passes_by : (b : Bool) (test : ℕ → Bool) (n x : ℕ) → (x == n) ≡ b → test n ≡ true → x < suc n → (x < n → test x ≡ true) → test x ≡ true
passes_by true test n x is e h rest = rw (eqb-true x n is) e
passes_by false test n x is e h rest = let other = eqb-false x n is in rest (omega (arith, h, other))

below_passes : (n : ℕ) (test : ℕ → Bool) → all_below n test ≡ true → (x : ℕ) → x < n → test x ≡ true
below_passes zero test e x h = absurd (omega (arith, h))
below_passes (suc n) test e x h =
    let p = and_parts (test n) (all_below n test) e in
    passes_by (x == n) test n x refl p.0 h (λ less. below_passes n test p.1 x less)

inverted_byte : (x : ℕ) → x < 256 → bit_xor x 255 ≡ 255 - x
inverted_byte x h = eqb-true (bit_xor x 255) (255 - x) (below_passes 256 (λ x. bit_xor x 255 == 255 - x) refl x h)

inverted_block : (xs : List ℕ) → AreBytes xs → not_block xs ≡ xor_blocks xs (replicate (length xs) 255)
inverted_block [] h = refl
inverted_block (x ∷ xs) h = ap (λ (v : ℕ). v ∷ not_block xs) (sym (inverted_byte x h.0)) ∙ ap (λ (l : List ℕ). bit_xor x 255 ∷ l) (inverted_block xs h.1)

cleared_byte : (x : ℕ) → x < 256 → bit_and x 0 ≡ 0
cleared_byte x h = eqb-true (bit_and x 0) 0 (below_passes 256 (λ x. bit_and x 0 == 0) refl x h)

cleared_block : (xs : List ℕ) → AreBytes xs → and_blocks xs (zeros (length xs)) ≡ zeros (length xs)
cleared_block [] h = refl
cleared_block (x ∷ xs) h = ap (λ (v : ℕ). v ∷ and_blocks xs (zeros (length xs))) (cleared_byte x h.0) ∙ ap (λ (l : List ℕ). 0 ∷ l) (cleared_block xs h.1)

same_byte : (x : ℕ) → x < 256 → bit_or x 0 ≡ x
same_byte x h = eqb-true (bit_or x 0) x (below_passes 256 (λ x. bit_or x 0 == x) refl x h)

same_block : (xs : List ℕ) → AreBytes xs → or_blocks xs (zeros (length xs)) ≡ xs
same_block [] h = refl
same_block (x ∷ xs) h = ap (λ (v : ℕ). v ∷ or_blocks xs (zeros (length xs))) (same_byte x h.0) ∙ ap (λ (l : List ℕ). x ∷ l) (same_block xs h.1)

all_ones : (n : ℕ) → AreBytes (replicate n 255)
all_ones zero = tt
all_ones (suc n) = (omega arith, all_ones n)

cleared : (n : ℕ) (xs : List ℕ) → length xs ≡ n → AreBytes xs → zeros n ≡ and_blocks xs (zeros n)
cleared n xs long h = rw (← long) (sym (cleared_block xs h))

inverted : (n : ℕ) (xs : List ℕ) → length xs ≡ n → AreBytes xs → not_block xs ≡ xor_blocks xs (replicate n 255)
inverted n xs long h = rw (← long) (inverted_block xs h)

kept_block : (n : ℕ) (xs : List ℕ) → length xs ≡ n → AreBytes xs → xs ≡ or_blocks xs (zeros n)
kept_block n xs long h = rw (← long) (sym (same_block xs h))

clearn_case : (tag : ℕ) (off : ℤ) (n : ℕ) → RowCase (ins.Clearn tag off n)
unfolding causes shape
clearn_case tag off n s u t g loadable leads turn includes =
    let byte : n < 256 = turn.shaped.1 in
    bits_case (ins.Clearn tag off n) tag off n And (zeros n) (length-replicate {A = ℕ} n 0) (zero_bytes n) (omega (arith, byte)) ((A06, n == 0) ∷ []) (λ none. none.0) (λ xs. zeros n)
    (λ xs long bytes. cleared n xs long bytes ∙ sym (worked_and xs (zeros n))) refl refl (record { cause = λ f public x. refl; form = λ f public x. refl; task = λ f public. refl }) s u t g loadable leads turn includes

notn_case : (tag : ℕ) (off : ℤ) (n : ℕ) → RowCase (ins.Notn tag off n)
unfolding causes shape
notn_case tag off n s u t g loadable leads turn includes =
    let byte : n < 256 = turn.shaped.1 in
    bits_case (ins.Notn tag off n) tag off n Xor (replicate n 255) (length-replicate {A = ℕ} n 255) (all_ones n) (omega (arith, byte)) ((A06, n == 0) ∷ []) (λ none. none.0) not_block
    (λ xs long bytes. inverted n xs long bytes ∙ sym (worked_xor xs (replicate n 255))) refl refl (record { cause = λ f public x. refl; form = λ f public x. refl; task = λ f public. refl }) s u t g loadable leads turn includes

testn_case : (tag : ℕ) (off : ℤ) (n : ℕ) → RowCase (ins.Testn tag off n)
unfolding causes shape
testn_case tag off n s u t g loadable leads turn includes =
    let byte : n < 256 = turn.shaped.1 in
    let b = zeros n in
    let size : length b ≡ n = length-replicate {A = ℕ} n 0 in
    let are : AreBytes b = zero_bytes n in
    compare_case (ins.Testn tag off n) tag off n Or b size are (omega (arith, byte)) ((A06, n == 0) ∷ []) (λ none. none.0) (λ f xs. (f.c, is_zero xs))
    (record {
      cause = λ f public x. refl;
      form = λ f public x. refl;
      task = λ f public. refl;
      flags = λ f xs long bytes. bit_flags Or f.c xs xs b (long ∙ sym size) (kept_block n xs long bytes ∙ sym (worked_or xs b));
      runs = λ xs long bytes e. ap num (worked_or xs b ∙ sym (kept_block n xs long bytes));
    }) s u t g loadable leads turn includes

-- ---- INCN and DECN: of no bytes they abend

incn_case : (tag : ℕ) (off : ℤ) (n : ℕ) → RowCase (ins.Incn tag off n)
unfolding causes shape
incn_case tag off n s u t g loadable leads turn includes =
    let byte : n < 256 = turn.shaped.1 in
    let are : AreBytes (bytes n 1) = number_bytes n 1 in
    sum_case (ins.Incn tag off n) tag off n Plus (bytes n 1) (length_bytes n 1) are (omega (arith, byte)) ((A06, not (in_range 1 16 n)) ∷ []) (λ none. ranged n none.0) inc_block (λ some xs. inc_left n xs some) refl
    (λ xs long all. runs_plus true n xs (bytes n 1) long (length_bytes n 1) all are) (record { cause = λ f public x. refl; form = λ f public x. refl; task = λ f public. refl }) s u t g loadable leads turn includes

decn_case : (tag : ℕ) (off : ℤ) (n : ℕ) → RowCase (ins.Decn tag off n)
unfolding causes shape
decn_case tag off n s u t g loadable leads turn includes =
    let byte : n < 256 = turn.shaped.1 in
    let are : AreBytes (bytes n 1) = number_bytes n 1 in
    sum_case (ins.Decn tag off n) tag off n Minus (bytes n 1) (length_bytes n 1) are (omega (arith, byte)) ((A06, not (in_range 1 16 n)) ∷ []) (λ none. ranged n none.0) dec_block (λ some xs. dec_left n xs some) refl
    (λ xs long all. runs_minus true n xs (bytes n 1) long (length_bytes n 1) all are) (record { cause = λ f public x. refl; form = λ f public x. refl; task = λ f public. refl }) s u t g loadable leads turn includes

-- ---- blocks against the top of the stack

addn_case : (tag : ℕ) (off : ℤ) (n : ℕ) → RowCase (ins.Addn tag off n)
unfolding causes shape
addn_case tag off n s u t g loadable leads turn includes =
    let byte : n < 256 = turn.shaped.1 in
    pair_sum_case (ins.Addn tag off n) tag off n Plus (omega (arith, byte)) (A06, not (in_range 1 16 n)) (λ none. ranged n none) add_blocks sum_left refl (runs_plus true n)
    (record { cause = λ f public x. refl; form = λ f public x. refl; task = λ f public. refl }) s u t g loadable leads turn includes

subn_case : (tag : ℕ) (off : ℤ) (n : ℕ) → RowCase (ins.Subn tag off n)
unfolding causes shape
subn_case tag off n s u t g loadable leads turn includes =
    let byte : n < 256 = turn.shaped.1 in
    pair_sum_case (ins.Subn tag off n) tag off n Minus (omega (arith, byte)) (A06, not (in_range 1 16 n)) (λ none. ranged n none) sub_blocks difference_left refl (runs_minus true n)
    (record { cause = λ f public x. refl; form = λ f public x. refl; task = λ f public. refl }) s u t g loadable leads turn includes

andn_case : (tag : ℕ) (off : ℤ) (n : ℕ) → RowCase (ins.Andn tag off n)
unfolding causes shape
andn_case tag off n s u t g loadable leads turn includes =
    let byte : n < 256 = turn.shaped.1 in
    pair_bits_case (ins.Andn tag off n) tag off n And (omega (arith, byte)) (A06, n == 0) (λ none. none) and_blocks worked_and refl refl (record { cause = λ f public x. refl; form = λ f public x. refl; task = λ f public. refl }) s u t g loadable leads turn includes

orn_case : (tag : ℕ) (off : ℤ) (n : ℕ) → RowCase (ins.Orn tag off n)
unfolding causes shape
orn_case tag off n s u t g loadable leads turn includes =
    let byte : n < 256 = turn.shaped.1 in
    pair_bits_case (ins.Orn tag off n) tag off n Or (omega (arith, byte)) (A06, n == 0) (λ none. none) or_blocks worked_or refl refl (record { cause = λ f public x. refl; form = λ f public x. refl; task = λ f public. refl }) s u t g loadable leads turn includes

xorn_case : (tag : ℕ) (off : ℤ) (n : ℕ) → RowCase (ins.Xorn tag off n)
unfolding causes shape
xorn_case tag off n s u t g loadable leads turn includes =
    let byte : n < 256 = turn.shaped.1 in
    pair_bits_case (ins.Xorn tag off n) tag off n Xor (omega (arith, byte)) (A06, n == 0) (λ none. none) xor_blocks worked_xor refl refl (record { cause = λ f public x. refl; form = λ f public x. refl; task = λ f public. refl }) s u t g loadable leads turn includes

-- ---- the laws

-- the rows that compare are covered
pub compare_laws : CompareLaw
compare_laws = (
  λ tag off b. law_of (ins.Cmpb tag off b) (λ s u t g loadable leads turn e. e) (cmpb_case tag off b),
  λ tag off w. law_of (ins.Cmpw tag off w) (λ s u t g loadable leads turn e. e) (cmpw_case tag off w),
  λ tag off n. law_of (ins.Cmpn tag off n) (λ s u t g loadable leads turn e. e) (cmpn_case tag off n),
  λ tag off n. law_of (ins.Testn tag off n) (λ s u t g loadable leads turn e. e) (testn_case tag off n),
)

-- the rows that add and subtract are covered
pub sum_laws : SumLaw
sum_laws = (
  λ tag off b. law_of (ins.Addb tag off b) (λ s u t g loadable leads turn e. e) (addb_case tag off b),
  λ tag off b. law_of (ins.Subb tag off b) (λ s u t g loadable leads turn e. e) (subb_case tag off b),
  λ tag off w. law_of (ins.Addw tag off w) (λ s u t g loadable leads turn e. e) (addw_case tag off w),
  λ tag off w. law_of (ins.Subw tag off w) (λ s u t g loadable leads turn e. e) (subw_case tag off w),
  λ tag off n. law_of (ins.Incn tag off n) (λ s u t g loadable leads turn e. e) (incn_case tag off n),
  λ tag off n. law_of (ins.Decn tag off n) (λ s u t g loadable leads turn e. e) (decn_case tag off n),
  λ tag off n. law_of (ins.Addn tag off n) (λ s u t g loadable leads turn e. e) (addn_case tag off n),
  λ tag off n. law_of (ins.Subn tag off n) (λ s u t g loadable leads turn e. e) (subn_case tag off n),
)

-- the rows that work on bits are covered
pub bit_laws : BitLaw
bit_laws = (
  λ tag off n. law_of (ins.Clearn tag off n) (λ s u t g loadable leads turn e. e) (clearn_case tag off n),
  λ tag off n. law_of (ins.Notn tag off n) (λ s u t g loadable leads turn e. e) (notn_case tag off n),
  λ tag off n. law_of (ins.Andn tag off n) (λ s u t g loadable leads turn e. e) (andn_case tag off n),
  λ tag off n. law_of (ins.Orn tag off n) (λ s u t g loadable leads turn e. e) (orn_case tag off n),
  λ tag off n. law_of (ins.Xorn tag off n) (λ s u t g loadable leads turn e. e) (xorn_case tag off n),
)
