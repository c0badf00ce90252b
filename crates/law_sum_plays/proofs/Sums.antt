-- Additions, subtractions, operations on bits and comparisons, one by one.
use Rattle.std.proofs.Common.{◌≡◌, ℕ, ◌+◌, ◌-◌, ◌*◌, ◌%◌, ◌^◌, ◌<◌, ◌≤◌, Bool, true, false, cond, List, [], ◌∷◌, length, ℤ, Option, Some, None, refl, sym, ap, subst, ◌∙◌, arith}
use Rattle.std.specs.Prelude.{◌==◌, replicate, bit_and, bit_or, bit_xor}
use Rattle.std.proofs.lemmas.List.{length-replicate}
use Rattle.law_sums.specs.model_device.specs.Bytes.{AreBytes, num, bytes, bytes2, zeros}
use Rattle.law_sums.specs.model_device.proofs.ListLemmas.{length_bytes, pair_bytes}
use Rattle.law_sums.specs.model_machine.specs.declared.instruction.Ins.{Ins}
use Rattle.law_sums.specs.model_machine.specs.declared.instruction.Ins.TheVariants as ins
use Rattle.law_sums.specs.model_machine.specs.Blocks.{Worked, add_blocks, sub_blocks, inc_block, dec_block, and_blocks, or_blocks, xor_blocks, not_block, is_zero}
use Rattle.law_sums.specs.model_machine.specs.Frame.{Frame, top, dynamic_base, is_under}
use Rattle.law_sums.specs.model_machine.specs.Primitives.{Around, Goes, Primitive}
use Rattle.law_sums.specs.model_machine.specs.Row.{causes, place_of, value_of, first_of}
use Rattle.law_sums.specs.model_machine.specs.Shapes.{Stays, Shape, shape}
use Rattle.law_sums.specs.law_machine.proofs.BlockLengths.{each_short, map_short}
use Rattle.law_sums.specs.law_bytes.proofs.ByteLists.{number_bytes}
use Rattle.law_sums.specs.model_rules.specs.Keeping.{mode_of}
use Rattle.law_sums.specs.model_prove.specs.Facts.{Memory}
use Rattle.law_sums.specs.model_prove.specs.Compares.{bytes_from}
use Rattle.law_sums.specs.model_prove.specs.Digits.{Plus, Minus, And, Or, Xor}
use Rattle.law_sums.specs.model_prove.specs.Keys.{Tables}
use Rattle.law_sums.specs.model_prove.specs.Laws.{Among}
use Rattle.law_sums.specs.model_prove.specs.Splits.{deciders}
use Rattle.law_sums.specs.model_prove.specs.Reach.{takes_target}
use Rattle.law_sums.specs.model_prove.specs.Work.{These, Digitwise, Work, Works, at_top, work}
use Rattle.law_sums.specs.model_prove.specs.Arrivals.{Setting}
use Rattle.law_sums.specs.model_prove.specs.Steps.{arounds, primitive_of}
use Rattle.law_prove_closed.specs.law_prove.proofs.Alike.{from_length, top_is}
use Rattle.law_prove_closed.specs.law_prove.proofs.Moves.{above_by}
use Rattle.law_prove_closed.specs.law_prove.proofs.Turns.{nobody}
use Rattle.law_prove_closed.specs.law_prove.proofs.ReachScenes.{scene_of}
use Rattle.law_prove_closed.specs.law_prove.proofs.Accesses.{bytes_of}
use Rattle.law_sums.specs.model_sums.specs.Sums.{SumsTable}
use Rattle.law_sums.specs.CopyLaws.{operand_bytes}
use Rattle.law_sums.specs.TurnLaws.{row_sums}
use Rattle.law_sum_plays.proofs.Moved.{shape_of, SameIf}
use Rattle.law_sum_plays.proofs.Scenes.{Step, fetched, memory, sized, nobody_among}
use Rattle.law_sum_plays.proofs.Rows.{unprotected, IsWork, StepCase}
use Rattle.law_sum_plays.proofs.Plain.{one_row, dt_low, dt_high}
use Rattle.law_sum_plays.proofs.Operated.{plus_result, minus_result, one_is, ranged, operation_case}

-- flags of a result
abbrev both : Worked → Option (Bool × Bool)
both w = Some (w.c, w.z)

result_short : (n v : ℕ) (xs : List ℕ) → length xs ≡ n → length (bytes (length xs) v) ≤ n
result_short n v xs long = let size = length_bytes (length xs) v in omega (arith, size, long)

-- ---- a byte or a word

-- what is known for sums holds after ADDB
pub addb_case : (tag : ℕ) (off : ℤ) (v : ℕ) → StepCase (ins.Addb tag off v)
unfolding causes shape
addb_case tag off v =
    let b = v ∷ [] in
    operation_case (ins.Addb tag off v) tag off 1 1 Plus (λ f. These b) true (λ xs zs. (add_blocks xs zs).value) (λ f. b) (λ f public. both (add_blocks (value_of f public tag off 1) b))
    (record { form = λ f public x. refl; task = λ f public. refl; steady = λ f fixed dyn. refl; takes = refl; none = λ f. refl; prim = refl; mode = refl })
    (λ f public x none. refl) (λ f public x none. none.1.0) (λ xs zs long. result_short 1 (num xs + num zs) xs long)
    (λ s t u step free xs long r is. plus_result 1 xs b r long (is (length_bytes (length xs) (num xs + num b) ∙ long)))

-- what is known for sums holds after SUBB
pub subb_case : (tag : ℕ) (off : ℤ) (v : ℕ) → StepCase (ins.Subb tag off v)
unfolding causes shape
subb_case tag off v =
    let b = v ∷ [] in
    operation_case (ins.Subb tag off v) tag off 1 1 Minus (λ f. These b) true (λ xs zs. (sub_blocks xs zs).value) (λ f. b) (λ f public. both (sub_blocks (value_of f public tag off 1) b))
    (record { form = λ f public x. refl; task = λ f public. refl; steady = λ f fixed dyn. refl; takes = refl; none = λ f. refl; prim = refl; mode = refl })
    (λ f public x none. refl) (λ f public x none. none.1.0) (λ xs zs long. result_short 1 (256 ^ length xs + num xs - num zs) xs long)
    (λ s t u step free xs long r is.
    let byte : v < 256 = step.shaped.1 in
    minus_result 1 xs b r long refl (byte, tt) (is (length_bytes (length xs) (256 ^ length xs + num xs - num b) ∙ long)))

-- what is known for sums holds after ADDW
pub addw_case : (tag : ℕ) (off : ℤ) (v : ℕ) → StepCase (ins.Addw tag off v)
unfolding causes shape
addw_case tag off v =
    let b = bytes2 v in
    operation_case (ins.Addw tag off v) tag off 2 2 Plus (λ f. These b) true (λ xs zs. (add_blocks xs zs).value) (λ f. b) (λ f public. both (add_blocks (value_of f public tag off 2) b))
    (record { form = λ f public x. refl; task = λ f public. refl; steady = λ f fixed dyn. refl; takes = refl; none = λ f. refl; prim = refl; mode = refl })
    (λ f public x none. refl) (λ f public x none. none.1.0) (λ xs zs long. result_short 2 (num xs + num zs) xs long)
    (λ s t u step free xs long r is. plus_result 2 xs b r long (is (length_bytes (length xs) (num xs + num b) ∙ long)))

-- what is known for sums holds after SUBW
pub subw_case : (tag : ℕ) (off : ℤ) (v : ℕ) → StepCase (ins.Subw tag off v)
unfolding causes shape
subw_case tag off v =
    let b = bytes2 v in
    operation_case (ins.Subw tag off v) tag off 2 2 Minus (λ f. These b) true (λ xs zs. (sub_blocks xs zs).value) (λ f. b) (λ f public. both (sub_blocks (value_of f public tag off 2) b))
    (record { form = λ f public x. refl; task = λ f public. refl; steady = λ f fixed dyn. refl; takes = refl; none = λ f. refl; prim = refl; mode = refl })
    (λ f public x none. refl) (λ f public x none. none.1.0) (λ xs zs long. result_short 2 (256 ^ length xs + num xs - num zs) xs long)
    (λ s t u step free xs long r is. minus_result 2 xs b r long refl (pair_bytes v) (is (length_bytes (length xs) (256 ^ length xs + num xs - num b) ∙ long)))

-- ---- one more and one less

-- what is known for sums holds after INCN
pub incn_case : (tag : ℕ) (off : ℤ) (n : ℕ) → StepCase (ins.Incn tag off n)
unfolding causes shape
incn_case tag off n =
    let b = bytes n 1 in
    operation_case (ins.Incn tag off n) tag off n n Plus (λ f. These b) true (λ xs zs. (inc_block xs).value) (λ f. b) (λ f public. both (inc_block (value_of f public tag off n)))
    (record { form = λ f public x. refl; task = λ f public. refl; steady = λ f fixed dyn. refl; takes = refl; none = λ f. refl; prim = refl; mode = refl })
    (λ f public x none. ranged n none.0) (λ f public x none. none.1.1.0) (λ xs zs long. result_short n (num xs + 1) xs long)
    (λ s t u step free xs long r is.
    let one : num b ≡ 1 = one_is n (ranged n free.0) in
    plus_result n xs b r long (is (length_bytes (length xs) (num xs + 1) ∙ long) ∙ ap (λ (v : ℕ). num (bytes (length xs) (num xs + v))) (sym one)))

-- what is known for sums holds after DECN
pub decn_case : (tag : ℕ) (off : ℤ) (n : ℕ) → StepCase (ins.Decn tag off n)
unfolding causes shape
decn_case tag off n =
    let b = bytes n 1 in
    operation_case (ins.Decn tag off n) tag off n n Minus (λ f. These b) true (λ xs zs. (dec_block xs).value) (λ f. b) (λ f public. both (dec_block (value_of f public tag off n)))
    (record { form = λ f public x. refl; task = λ f public. refl; steady = λ f fixed dyn. refl; takes = refl; none = λ f. refl; prim = refl; mode = refl })
    (λ f public x none. ranged n none.0) (λ f public x none. none.1.1.0) (λ xs zs long. result_short n (256 ^ length xs + num xs - 1) xs long)
    (λ s t u step free xs long r is.
    let one : num b ≡ 1 = one_is n (ranged n free.0) in
    minus_result n xs b r long (length_bytes n 1) (number_bytes n 1) (is (length_bytes (length xs) (256 ^ length xs + num xs - 1) ∙ long) ∙ ap (λ (v : ℕ). num (bytes (length xs) (256 ^ length xs + num xs - v))) (sym one)))

-- ---- the top of the stack

-- the second operand is the top of the stack
top_number : (s : Setting) (t : Tables) (u : SumsTable) (i : Ins) (step : Step s t u i) (n : ℕ) → dynamic_base + n ≤ step.frame.dt → top (fetched s t u i step) n ≡ operand_bytes (memory s t u i step) n (at_top (fetched s t u i step) n)
top_number s t u i step n over = top_is (fetched s t u i step) step.public n (sized s t u i step) over

low_enough : (f : Frame) (b : Bool) (n : ℕ) → is_under f (cond b (2 * n) n) ≡ false → dynamic_base + n ≤ f.dt
low_enough f b n e = let h = above_by f b n e in omega (arith, h)

-- what is known for sums holds after ADDN
pub addn_case : (tag : ℕ) (off : ℤ) (n : ℕ) → StepCase (ins.Addn tag off n)
unfolding causes shape
addn_case tag off n =
    operation_case (ins.Addn tag off n) tag off (2 * n) n Plus (λ f. at_top f n) true (λ xs zs. (add_blocks xs zs).value) (λ f. top f n) (λ f public. both (add_blocks (first_of f public tag off n) (top f n)))
    (record { form = λ f public x. refl; task = λ f public. refl; steady = λ f fixed dyn. refl; takes = refl; none = λ f. refl; prim = refl; mode = refl })
    (λ f public x none. ranged n none.0) (λ f public x none. none.1.1.0) (λ xs zs long. result_short n (num xs + num zs) xs long)
    (λ s t u step free xs long r is.
    let i : Ins = ins.Addn tag off n in
    let f : Frame = fetched s t u i step in
    let b = top f n in
    let same : b ≡ operand_bytes (memory s t u i step) n (at_top f n) = top_number s t u i step n (low_enough f (tag == 0) n free.1.0) in
    subst (λ (zs : List ℕ). r % 256 ^ n ≡ (num xs + num zs) % 256 ^ n) same (plus_result n xs b r long (is (length_bytes (length xs) (num xs + num b) ∙ long))))

-- what is known for sums holds after SUBN
pub subn_case : (tag : ℕ) (off : ℤ) (n : ℕ) → StepCase (ins.Subn tag off n)
unfolding causes shape
subn_case tag off n =
    operation_case (ins.Subn tag off n) tag off (2 * n) n Minus (λ f. at_top f n) true (λ xs zs. (sub_blocks xs zs).value) (λ f. top f n) (λ f public. both (sub_blocks (first_of f public tag off n) (top f n)))
    (record { form = λ f public x. refl; task = λ f public. refl; steady = λ f fixed dyn. refl; takes = refl; none = λ f. refl; prim = refl; mode = refl })
    (λ f public x none. ranged n none.0) (λ f public x none. none.1.1.0) (λ xs zs long. result_short n (256 ^ length xs + num xs - num zs) xs long)
    (λ s t u step free xs long r is.
    let i : Ins = ins.Subn tag off n in
    let f : Frame = fetched s t u i step in
    let m : Memory = memory s t u i step in
    let b = top f n in
    let same : b ≡ bytes_from m (step.frame.dt - n) n = top_number s t u i step n (low_enough f (tag == 0) n free.1.0) in
    let are : AreBytes b = subst (λ (l : List ℕ). AreBytes l) (sym same) (bytes_of m (step.frame.dt - n) n step.place.bytes) in
    let count : length b ≡ n = ap (λ (l : List ℕ). length l) same ∙ from_length m (step.frame.dt - n) n in
    subst (λ (zs : List ℕ). (r + num zs) % 256 ^ n ≡ num xs % 256 ^ n) same (minus_result n xs b r long count are (is (length_bytes (length xs) (256 ^ length xs + num xs - num b) ∙ long))))

-- ---- bits

-- what is known for sums holds after CLEARN
pub clearn_case : (tag : ℕ) (off : ℤ) (n : ℕ) → StepCase (ins.Clearn tag off n)
unfolding causes shape
clearn_case tag off n =
    operation_case (ins.Clearn tag off n) tag off n n And (λ f. These (zeros n)) false (λ xs zs. zeros n) (λ f. zeros n) (λ f public. Some (f.c, is_zero (zeros n)))
    (record { form = λ f public x. refl; task = λ f public. refl; steady = λ f fixed dyn. refl; takes = refl; none = λ f. refl; prim = refl; mode = refl })
    (λ f public x none. none.0) (λ f public x none. none.1.1.0) (λ xs zs long. let size = length-replicate {A = ℕ} n 0 in omega (arith, size))
    (λ s t u step free xs long r is. tt)

-- what is known for sums holds after NOTN
pub notn_case : (tag : ℕ) (off : ℤ) (n : ℕ) → StepCase (ins.Notn tag off n)
unfolding causes shape
notn_case tag off n =
    operation_case (ins.Notn tag off n) tag off n n Xor (λ f. These (replicate n 255)) false (λ xs zs. not_block xs) (λ f. replicate n 255) (λ f public. Some (f.c, is_zero (not_block (value_of f public tag off n))))
    (record { form = λ f public x. refl; task = λ f public. refl; steady = λ f fixed dyn. refl; takes = refl; none = λ f. refl; prim = refl; mode = refl })
    (λ f public x none. none.0) (λ f public x none. none.1.1.0) (λ xs zs long. map_short (λ x. 255 - x) xs n (omega (arith, long)))
    (λ s t u step free xs long r is. tt)

-- what is known for sums holds after ANDN
pub andn_case : (tag : ℕ) (off : ℤ) (n : ℕ) → StepCase (ins.Andn tag off n)
unfolding causes shape
andn_case tag off n =
    operation_case (ins.Andn tag off n) tag off (2 * n) n And (λ f. at_top f n) false (λ xs zs. and_blocks xs zs) (λ f. top f n) (λ f public. Some (f.c, is_zero (and_blocks (first_of f public tag off n) (top f n))))
    (record { form = λ f public x. refl; task = λ f public. refl; steady = λ f fixed dyn. refl; takes = refl; none = λ f. refl; prim = refl; mode = refl })
    (λ f public x none. none.0) (λ f public x none. none.1.1.0) (λ xs zs long. each_short bit_and xs zs n (omega (arith, long)))
    (λ s t u step free xs long r is. tt)

-- what is known for sums holds after ORN
pub orn_case : (tag : ℕ) (off : ℤ) (n : ℕ) → StepCase (ins.Orn tag off n)
unfolding causes shape
orn_case tag off n =
    operation_case (ins.Orn tag off n) tag off (2 * n) n Or (λ f. at_top f n) false (λ xs zs. or_blocks xs zs) (λ f. top f n) (λ f public. Some (f.c, is_zero (or_blocks (first_of f public tag off n) (top f n))))
    (record { form = λ f public x. refl; task = λ f public. refl; steady = λ f fixed dyn. refl; takes = refl; none = λ f. refl; prim = refl; mode = refl })
    (λ f public x none. none.0) (λ f public x none. none.1.1.0) (λ xs zs long. each_short bit_or xs zs n (omega (arith, long)))
    (λ s t u step free xs long r is. tt)

-- what is known for sums holds after XORN
pub xorn_case : (tag : ℕ) (off : ℤ) (n : ℕ) → StepCase (ins.Xorn tag off n)
unfolding causes shape
xorn_case tag off n =
    operation_case (ins.Xorn tag off n) tag off (2 * n) n Xor (λ f. at_top f n) false (λ xs zs. xor_blocks xs zs) (λ f. top f n) (λ f public. Some (f.c, is_zero (xor_blocks (first_of f public tag off n) (top f n))))
    (record { form = λ f public x. refl; task = λ f public. refl; steady = λ f fixed dyn. refl; takes = refl; none = λ f. refl; prim = refl; mode = refl })
    (λ f public x none. none.0) (λ f public x none. none.1.1.0) (λ xs zs long. each_short bit_xor xs zs n (omega (arith, long)))
    (λ s t u step free xs long r is. tt)

-- ---- comparisons

-- a row that sets flags alone
compare_row : (i : Ins) (g : Frame → Digitwise) (flags : Frame → List ℕ → Option (Bool × Bool)) → ((f : Frame) → (g f).written ≡ false) → ((f : Frame) (public : List ℕ) (x : Around) → shape i f public x ≡ shape_of f.dt Stays (flags f public) Goes)
    → ((f : Frame) (public : List ℕ) → work i f public ≡ Works (g f)) → takes_target i ≡ false → ((f : Frame) → deciders i f ≡ []) → primitive_of i ≡ None → mode_of i ≡ None → StepCase i
compare_row i g flags unwritten form task takes none prim mode s t u step static =
    let f : Frame = fetched s t u i step in
    one_row i s t u step static step.frame.dt Stays (flags f step.public) Goes takes none (λ st. subst (λ (o : Option Primitive). Among nobody (arounds st o)) (sym prim) (nobody_among st)) (form f step.public step.around)
    (sym (ap (λ (m : Option ℕ). row_sums step.frame.protected m step.place.standing) mode ∙ unprotected step.frame.protected step.place.standing)) (λ free fixed dyn public fits.
    let z = scene_of f fixed dyn public in
    record {
      bytes = [];
      to = 0;
      flags = flags z.frame z.public;
      later = Goes;
      stands = form z.frame z.public nobody;
      same = subst (λ (w : Work). SameIf w i Stays []) (sym (task z.frame z.public)) tt;
      low = dt_low s t u step;
      high = dt_high s t u step;
      fits = subst (λ (w : Work). IsWork s t u i step static step.frame.dt w Stays) (sym (task z.frame z.public)) (record { on = λ on. absurd (cc (sym (unwritten z.frame) ∙ on)); off = λ no x. refl; reads = refl });
      next = ap (λ (h : Shape). h.next) (form z.frame z.public nobody);
    })

-- what is known for sums holds after CMPB
pub cmpb_case : (tag : ℕ) (off : ℤ) (v : ℕ) → StepCase (ins.Cmpb tag off v)
unfolding causes shape
cmpb_case tag off v =
    compare_row (ins.Cmpb tag off v) (λ f. record { op = Minus; at = place_of f tag off 1; n = 1; operand = These (v ∷ []); written = false; carries = true }) (λ f public. both (sub_blocks (value_of f public tag off 1) (v ∷ [])))
    (λ f. refl) (λ f public x. refl) (λ f public. refl) refl (λ f. refl) refl refl

-- what is known for sums holds after CMPW
pub cmpw_case : (tag : ℕ) (off : ℤ) (v : ℕ) → StepCase (ins.Cmpw tag off v)
unfolding causes shape
cmpw_case tag off v =
    compare_row (ins.Cmpw tag off v) (λ f. record { op = Minus; at = place_of f tag off 2; n = 2; operand = These (bytes2 v); written = false; carries = true }) (λ f public. both (sub_blocks (value_of f public tag off 2) (bytes2 v)))
    (λ f. refl) (λ f public x. refl) (λ f public. refl) refl (λ f. refl) refl refl

-- what is known for sums holds after CMPN
pub cmpn_case : (tag : ℕ) (off : ℤ) (n : ℕ) → StepCase (ins.Cmpn tag off n)
unfolding causes shape
cmpn_case tag off n =
    compare_row (ins.Cmpn tag off n) (λ f. record { op = Minus; at = place_of f tag off (2 * n); n = n; operand = at_top f n; written = false; carries = true }) (λ f public. both (sub_blocks (first_of f public tag off n) (top f n)))
    (λ f. refl) (λ f public x. refl) (λ f public. refl) refl (λ f. refl) refl refl

-- what is known for sums holds after TESTN
pub testn_case : (tag : ℕ) (off : ℤ) (n : ℕ) → StepCase (ins.Testn tag off n)
unfolding causes shape
testn_case tag off n =
    compare_row (ins.Testn tag off n) (λ f. record { op = Or; at = place_of f tag off n; n = n; operand = These (zeros n); written = false; carries = false }) (λ f public. Some (f.c, is_zero (value_of f public tag off n)))
    (λ f. refl) (λ f public x. refl) (λ f public. refl) refl (λ f. refl) refl refl
