-- Rows that work on blocks, by their kind: against an immediate or the top of the stack, compared or written.
use Rattle.std.proofs.Common.{◌≡◌, ℕ, zero, suc, ◌+◌, ◌-◌, ◌*◌, ◌^◌, ◌<◌, ◌≤◌, Bool, true, false, cond, List, [], ◌∷◌, ◌++◌, length, ℤ, Option, Some, refl, sym, ap, subst, ◌∙◌, arith}
use Rattle.std.specs.Prelude.{not, ◌&&◌, ◌||◌, ◌==◌, nat_le, is_none}
use Rattle.std.proofs.lemmas.Bool.{and_from, le-leb}
use Rattle.std.proofs.lemmas.List.{append_assoc}
use Rattle.model_prove.specs.model_device.specs.Bytes.{AreBytes, num}
use Rattle.model_prove.specs.model_machine.specs.declared.instruction.Ins.{Ins}
use Rattle.model_prove.specs.model_machine.specs.declared.machine.Abend.{Abend}
use Rattle.model_prove.specs.model_machine.specs.declared.machine.Abend.TheVariants.{A03, A04, A08}
use Rattle.model_prove.specs.model_machine.specs.Frame.{Frame, where_is, dynamic_base, is_under, bytes_at, top, no_access, too_many}
use Rattle.model_prove.specs.model_machine.specs.Primitives.{Around}
use Rattle.model_prove.specs.model_machine.specs.Row.{causes, operand, address_or_zero, on_stack}
use Rattle.model_prove.specs.model_machine.specs.Chain.{frame_at}
use Rattle.model_prove.specs.model_machine.specs.Shapes.{Stays, Writes, shape}
use Rattle.law_rules.specs.law_bytes.specs.law_rows.proofs.BlockLemmas.{num_below}
use Rattle.model_prove.specs.Facts.{Memory}
use Rattle.model_prove.specs.Compares.{Compare, bytes_from, has_order, IsSo, orders_of}
use Rattle.model_prove.specs.Digits.{Operation, Minus, carried}
use Rattle.model_prove.specs.Laws.{HoldsBytes}
use Rattle.model_prove.specs.Work.{AtAddress, These, Digitwise, Works, work}
use Rattle.model_prove.specs.Splits.{stand_in_stack}
use Rattle.model_prove.specs.Steps.{span_of, is_or, allows, compare_after}
use Rattle.law_prove.specs.Coverings.{frame_memory}
use Rattle.law_prove.proofs.Turns.{like, blank, nobody, NoCause}
use Rattle.law_prove.proofs.Alike.{Sized, same_operand, same_access, few_wait, many_wait, from_length, read_is, top_is}
use Rattle.law_prove.proofs.Single.{going, RowCase}
use Rattle.law_prove.proofs.Moves.{inside_of, positive, above_by, turn_sized}
use Rattle.law_prove.proofs.Worked.{worked, worked_length, worked_zero, worked_bytes, worked_difference, carries_of}
use Rattle.law_prove.proofs.Narrowed.{InSpan, IsRun, Speaks, span_is, span_allowed, order_is, orders_allowed}
use Rattle.law_prove.proofs.Blocks.{set_flags, outcome_row, outcome_limited, compared_outcome, written_outcome}

-- ---- flags and the last compare

speaks : (op : Operation) (written : Bool) → (carries_of op || (not written && is_or op)) ≡ true → Speaks op
speaks op written e = grind arith

-- whether the last compare speaks of an operation
abbrev pub ordered : Operation → Bool → Bool
ordered op written = carries_of op || (not written && is_or op)

-- what the digits say, if the last compare speaks of the operation
abbrev pub RunsAs : Operation → Bool → ℕ → List ℕ → List ℕ → Type 0
RunsAs op written n xs ys = ordered op written ≡ true → IsRun op n (num xs) (num ys) (num (worked op xs ys).0) (worked op xs ys).1

below : (n : ℕ) (l : List ℕ) → AreBytes l → length l ≡ n → num l < 256 ^ n
below n l h is = rw (← is) (num_below l h)

-- the first operand is in the span of the flags
in_span : (op : Operation) (written : Bool) (n : ℕ) (xs ys : List ℕ) → ordered op written ≡ true → length xs ≡ n → length ys ≡ n → AreBytes xs → AreBytes ys → RunsAs op written n xs ys → InSpan (num xs) (span_of op n (num ys) (worked op xs ys).1)
in_span op written n xs ys e a b h k runs = grind (arith, span_is, worked, speaks, below, worked_bytes, worked_length, worked_zero)

unless_by : (o b : Bool) → (o ≡ true → b ≡ true) → (not o || b) ≡ true
unless_by true b h = h refl
unless_by false b h = refl

so_by : (o : Bool) (c d : Compare) (m : Memory) → (o ≡ true → IsSo c m) → IsSo d m → IsSo (cond o c d) m
so_by true c d m h k = h refl
so_by false c d m h k = k

-- an operation with an immediate
abbrev pub immediate : Operation → ℕ → ℕ → List ℕ → Bool → Digitwise
immediate op at n b written = record { op = op; at = at; n = n; operand = These b; written = written; carries = carries_of op }

-- the last compare allows the flags of an operation with an immediate
pub immediate_allowed : (op : Operation) (written : Bool) (at n : ℕ) (b : List ℕ) (c : Compare) (m : Memory) → IsSo c m → length b ≡ n → AreBytes (bytes_from m at n) → AreBytes b → RunsAs op written n (bytes_from m at n) b
    → allows c (immediate op at n b written) (These b) (worked op (bytes_from m at n) b).1 ≡ true
immediate_allowed op written at n b c m so size h k runs =
    unless_by (ordered op written) _ (λ e. span_allowed c m at n (span_of op n (num b) (worked op (bytes_from m at n) b).1) so (in_span op written n (bytes_from m at n) b e (from_length m at n) size h k runs))

-- what the flags of a comparison with an immediate leave known is so
pub immediate_so : (op : Operation) (at n : ℕ) (b : List ℕ) (c : Compare) (m : Memory) → IsSo c m → length b ≡ n → AreBytes (bytes_from m at n) → AreBytes b → RunsAs op false n (bytes_from m at n) b
    → IsSo (compare_after (immediate op at n b false) (worked op (bytes_from m at n) b).1 c) m
immediate_so op at n b c m so size h k runs =
    so_by (ordered op false) _ c m (λ e.
    let x = num (bytes_from m at n) in
    let span = span_of op n (num b) (worked op (bytes_from m at n) b).1 in
    let p = in_span op false n (bytes_from m at n) b e (from_length m at n) size h k runs in
    and_from (nat_le span.0 x) (nat_le x span.1) (le-leb span.0 x p.0) (le-leb x span.1 p.1)) so

-- the machine's order of two blocks
order_left : (n : ℕ) (xs ys : List ℕ) → length xs ≡ n → length ys ≡ n → AreBytes xs → AreBytes ys → RunsAs Minus true n xs ys → has_order (orders_of ((worked Minus xs ys).1).c ((worked Minus xs ys).1).z) (num xs) (num ys) ≡ true
order_left n xs ys a b h k runs = grind (arith, order_is, worked, below, worked_bytes, worked_length, worked_zero)

-- an operation with bytes at an address
abbrev pub with_bytes : Operation → ℕ → ℕ → ℕ → Bool → Digitwise
with_bytes op at n other written = record { op = op; at = at; n = n; operand = AtAddress other; written = written; carries = carries_of op }

-- the last compare allows the flags of an operation on bytes at two addresses
pub bytes_allowed : (op : Operation) (written : Bool) (at n other : ℕ) (c : Compare) (m : Memory) → IsSo c m → AreBytes (bytes_from m at n) → AreBytes (bytes_from m other n) → RunsAs op true n (bytes_from m at n) (bytes_from m other n)
    → allows c (with_bytes op at n other written) (AtAddress other) (worked op (bytes_from m at n) (bytes_from m other n)).1 ≡ true
bytes_allowed op written at n other c m so h k runs = grind (arith, orders_allowed, worked, order_left, from_length)

-- ---- bytes of a memory

-- the bytes from an address of a memory are bytes
pub memory_bytes_from : (m : Memory) (a n : ℕ) → HoldsBytes m → AreBytes (bytes_from m a n)
memory_bytes_from m a zero h = tt
memory_bytes_from m a (suc n) h = (h a, memory_bytes_from m (suc a) n h)

-- ---- rows against an immediate

module _ (i : Ins) (tag : ℕ) (off : ℤ) (n : ℕ) (op : Operation) (b : List ℕ) (size : length b ≡ n) (are : AreBytes b) (few : n ≤ 256) (pre : List (Abend × Bool)) (some : NoCause pre → (n == 0) ≡ false) where
  -- the row compares
  pub record Compares (fl : Frame → List ℕ → Bool × Bool) : Type 0 where
    pub cause : (f : Frame) (public : List ℕ) (x : Around) → causes i f public x ≡ pre ++ (A04, tag == 0 && is_under f n) ∷ (A03, no_access f (operand f tag off n) n) ∷ []
    pub form : (f : Frame) (public : List ℕ) (x : Around) → shape i f public x ≡ going f.dt Stays (Some (fl f (bytes_at f public (address_or_zero (operand f tag off n)) n)))
    pub task : (f : Frame) (public : List ℕ) → work i f public ≡ Works (immediate op (address_or_zero (operand f tag off n)) n b false)
    pub flags : (f : Frame) (xs : List ℕ) → length xs ≡ n → AreBytes xs → fl f xs ≡ set_flags (carries_of op) (worked op xs b).1 f
    pub runs : (xs : List ℕ) → length xs ≡ n → AreBytes xs → RunsAs op false n xs b

  none_before : (cs : List (Abend × Bool)) → NoCause (pre ++ cs) → NoCause pre × NoCause cs
  none_before cs none = split pre none
    where
      split : (ps : List (Abend × Bool)) → NoCause (ps ++ cs) → NoCause ps × NoCause cs
      split [] h = (tt, h)
      split (p ∷ ps) h = let q = split ps h.1 in ((h.0, q.0), q.1)

  -- a row that compares with an immediate is covered
  pub compare_case : (fl : Frame → List ℕ → Bool × Bool) → Compares fl → RowCase i
  compare_case fl is s u t g loadable leads turn includes =
      let f : Frame = frame_at turn.frame turn.next in
      let dyn = stand_in_stack turn.place.calls in
      let l : Frame = like f dyn in
      let o = operand f tag off n in
      let a = address_or_zero o in
      let m : Memory = frame_memory turn.frame turn.public in
      let xs = bytes_from m a n in
      let bytes : AreBytes xs = memory_bytes_from m a n turn.place.bytes in
      let same : operand l tag off n ≡ o = same_operand f dyn tag off n in
      let later : List (Abend × Bool) = (A04, tag == 0 && is_under f n) ∷ (A03, no_access f o n) ∷ [] in
      let cs : List (Abend × Bool) = pre ++ later in
      let sized : Sized f turn.public = turn_sized s u loadable i turn in
      let f0 = fl l (bytes_at l blank a n) in
      outcome_row s u t g loadable leads i turn cs turn.frame.dt Stays Stays (Some f0) (Some (set_flags (carries_of op) (worked op xs b).1 turn.frame)) (Works (immediate op a n b false)) includes
      (is.cause l blank nobody
      ∙ ap (λ (z : Bool). pre ++ (A04, tag == 0 && is_under f n) ∷ (A03, z) ∷ []) (ap (λ (z : Option ℕ). no_access l z n) same ∙ same_access f dyn o n))
      (is.cause f turn.public turn.around)
      (is.form l blank nobody ∙ ap (λ (z : Option ℕ). going f.dt Stays (Some (fl l (bytes_at l blank (address_or_zero z) n)))) same)
      (λ none.
      let parts = none_before later none in
      let within : is_none (where_is f a n) ≡ false = inside_of f o n (some parts.0) parts.1.1.0 in
      let read : bytes_at f turn.public a n ≡ xs = read_is f turn.public a n sized (some parts.0) within in
      is.form f turn.public turn.around ∙ ap (λ (z : Bool × Bool). going f.dt Stays (Some z)) (ap (λ (l : List ℕ). fl f l) read ∙ is.flags f xs (from_length m a n) bytes))
      (is.task l blank ∙ ap (λ (z : Option ℕ). Works (immediate op (address_or_zero z) n b false)) same) refl
      (λ none all.
      compared_outcome s u t g loadable leads i turn op a n (These b) b (refl, size) size (carries_of op) refl (Some f0)
      (immediate_allowed op false a n b turn.place.known.compare m turn.place.compares size bytes are (is.runs xs (from_length m a n) bytes))
      (immediate_so op a n b turn.place.known.compare m turn.place.compares size bytes are (is.runs xs (from_length m a n) bytes)) all)

  -- the row writes its result
  pub record ResultRow (val : List ℕ → List ℕ) (fl : Frame → List ℕ → Bool × Bool) : Type 0 where
    pub cause : (f : Frame) (public : List ℕ) (x : Around) → causes i f public x ≡ pre ++ (A04, tag == 0 && is_under f n) ∷ (A03, no_access f (operand f tag off n) n) ∷ (A08, too_many f (address_or_zero (operand f tag off n)) n) ∷ []
    pub form : (f : Frame) (public : List ℕ) (x : Around)
        → shape i f public x ≡ (let v = bytes_at f public (address_or_zero (operand f tag off n)) n in going f.dt (Writes (address_or_zero (operand f tag off n)) n (val v)) (Some (fl f v)))
    pub task : (f : Frame) (public : List ℕ) → work i f public ≡ Works (immediate op (address_or_zero (operand f tag off n)) n b true)

  -- and that is the result of the operation
  pub record Results (val : List ℕ → List ℕ) (fl : Frame → List ℕ → Bool × Bool) : Type 0 where
    pub row : ResultRow val fl
    pub value : (n == 0) ≡ false → (xs : List ℕ) → length xs ≡ n → AreBytes xs → val xs ≡ (worked op xs b).0
    pub flags : (n == 0) ≡ false → (f : Frame) (xs : List ℕ) → length xs ≡ n → AreBytes xs → fl f xs ≡ set_flags (carries_of op) (worked op xs b).1 f
    pub runs : (xs : List ℕ) → length xs ≡ n → AreBytes xs → RunsAs op true n xs b

  -- a row that writes its result with an immediate is covered
  pub result_case : (val : List ℕ → List ℕ) (fl : Frame → List ℕ → Bool × Bool) → Results val fl → RowCase i
  result_case val fl is s u t g loadable leads turn includes =
      let f : Frame = frame_at turn.frame turn.next in
      let dyn = stand_in_stack turn.place.calls in
      let l : Frame = like f dyn in
      let o = operand f tag off n in
      let a = address_or_zero o in
      let m : Memory = frame_memory turn.frame turn.public in
      let xs = bytes_from m a n in
      let bytes : AreBytes xs = memory_bytes_from m a n turn.place.bytes in
      let same : operand l tag off n ≡ o = same_operand f dyn tag off n in
      let later : List (Abend × Bool) = (A04, tag == 0 && is_under f n) ∷ (A03, no_access f o n) ∷ [] in
      let cs : List (Abend × Bool) = pre ++ later in
      let was = too_many l a n in
      let unmet : was ≡ false = few_wait f dyn a n few in
      let sized : Sized f turn.public = turn_sized s u loadable i turn in
      let v0 = bytes_at l blank a n in
      let r = worked op xs b in
      outcome_limited s u t g loadable leads i turn cs was (too_many f a n) turn.frame.dt (Writes a n (val v0)) (Writes a n r.0) (Some (fl l v0)) (Some (set_flags (carries_of op) r.1 turn.frame)) (Works (immediate op a n b true)) includes
      (is.row.cause l blank nobody
      ∙ (ap (λ (z : Option ℕ). pre ++ (A04, tag == 0 && is_under f n) ∷ (A03, no_access l z n) ∷ (A08, too_many l (address_or_zero z) n) ∷ []) same
      ∙ (ap (λ (z : Bool). pre ++ (A04, tag == 0 && is_under f n) ∷ (A03, z) ∷ (A08, was) ∷ []) (same_access f dyn o n) ∙ sym (append_assoc pre later ((A08, was) ∷ [])))))
      (is.row.cause f turn.public turn.around ∙ sym (append_assoc pre later ((A08, too_many f a n) ∷ [])))
      (is.row.form l blank nobody ∙ ap (λ (z : Option ℕ). let v = bytes_at l blank (address_or_zero z) n in going f.dt (Writes (address_or_zero z) n (val v)) (Some (fl l v))) same)
      (λ none.
      let parts = none_before later none in
      let within : is_none (where_is f a n) ≡ false = inside_of f o n (some parts.0) parts.1.1.0 in
      let read : bytes_at f turn.public a n ≡ xs = read_is f turn.public a n sized (some parts.0) within in
      is.row.form f turn.public turn.around
      ∙ (ap (λ (v : List ℕ). going f.dt (Writes a n (val v)) (Some (fl f v))) read
      ∙ (ap (λ (v : List ℕ). going f.dt (Writes a n v) (Some (fl f xs))) (is.value (some parts.0) xs (from_length m a n) bytes)
      ∙ ap (λ (z : Bool × Bool). going f.dt (Writes a n r.0) (Some z)) (is.flags (some parts.0) f xs (from_length m a n) bytes))))
      (is.row.task l blank ∙ ap (λ (z : Option ℕ). Works (immediate op (address_or_zero z) n b true)) same) refl
      (λ none many less. many_wait s f a n n (val v0) (positive n (some (none_before later none).0)) turn.place.frame.size turn.place.frame.inside many)
      (λ none many. absurd (cc (sym unmet ∙ many)))
      (λ none all.
      let parts = none_before later none in
      let within : is_none (where_is f a n) ≡ false = inside_of f o n (some parts.0) parts.1.1.0 in
      written_outcome s u t g loadable leads i turn op a n (These b) b (refl, size) size (carries_of op) refl n (val v0) (Some (fl l v0))
      (immediate_allowed op true a n b turn.place.known.compare m turn.place.compares size bytes are (is.runs xs (from_length m a n) bytes)) within (positive n (some parts.0)) all)

-- ---- rows against the top of the stack

module _ (i : Ins) (tag : ℕ) (off : ℤ) (n : ℕ) (op : Operation) (few : n ≤ 256) (pre : Abend × Bool) (some : pre.1 ≡ false → (n == 0) ≡ false) where
  -- the row compares
  pub record PairCompares (fl : Frame → List ℕ → List ℕ → Bool × Bool) : Type 0 where
    pub cause : (f : Frame) (public : List ℕ) (x : Around) → causes i f public x ≡ pre ∷ (A04, is_under f (on_stack tag (2 * n) n)) ∷ (A03, no_access f (operand f tag off (2 * n)) n) ∷ []
    pub form : (f : Frame) (public : List ℕ) (x : Around) → shape i f public x ≡ going f.dt Stays (Some (fl f (bytes_at f public (address_or_zero (operand f tag off (2 * n))) n) (top f n)))
    pub task : (f : Frame) (public : List ℕ) → work i f public ≡ Works (with_bytes Minus (address_or_zero (operand f tag off (2 * n))) n (f.dt - n) false)
    pub flags : (f : Frame) (xs ys : List ℕ) → length xs ≡ n → length ys ≡ n → AreBytes xs → AreBytes ys → fl f xs ys ≡ set_flags true (worked Minus xs ys).1 f

  -- a row that compares with the top of the stack is covered
  pub pair_compare_case : (fl : Frame → List ℕ → List ℕ → Bool × Bool) → PairCompares fl → RowCase i
  pair_compare_case fl is s u t g loadable leads turn includes =
      let f : Frame = frame_at turn.frame turn.next in
      let dyn = stand_in_stack turn.place.calls in
      let l : Frame = like f dyn in
      let o = operand f tag off (2 * n) in
      let a = address_or_zero o in
      let d = turn.frame.dt in
      let m : Memory = frame_memory turn.frame turn.public in
      let xs = bytes_from m a n in
      let ys = bytes_from m (d - n) n in
      let first : AreBytes xs = memory_bytes_from m a n turn.place.bytes in
      let second : AreBytes ys = memory_bytes_from m (d - n) n turn.place.bytes in
      let same : operand l tag off (2 * n) ≡ o = same_operand f dyn tag off (2 * n) in
      let cs : List (Abend × Bool) = pre ∷ (A04, is_under f (on_stack tag (2 * n) n)) ∷ (A03, no_access f o n) ∷ [] in
      let sized : Sized f turn.public = turn_sized s u loadable i turn in
      let runs : RunsAs Minus true n xs ys = λ e. subst (λ (k : ℕ). num (worked Minus xs ys).0 + num ys ≡ num xs + carried ((worked Minus xs ys).1).c * 256 ^ k) (from_length m a n) (worked_difference xs ys (from_length m a n ∙ sym (from_length m (d - n) n)) first second) in
      let f0 = fl l (bytes_at l blank a n) (top l n) in
      outcome_row s u t g loadable leads i turn cs d Stays Stays (Some f0) (Some (set_flags true (worked Minus xs ys).1 turn.frame)) (Works (with_bytes Minus a n (d - n) false)) includes
      (is.cause l blank nobody
      ∙ ap (λ (z : Bool). pre ∷ (A04, is_under f (on_stack tag (2 * n) n)) ∷ (A03, z) ∷ []) (ap (λ (z : Option ℕ). no_access l z n) same ∙ same_access f dyn o n))
      (is.cause f turn.public turn.around)
      (is.form l blank nobody ∙ ap (λ (z : Option ℕ). going f.dt Stays (Some (fl l (bytes_at l blank (address_or_zero z) n) (top l n)))) same)
      (λ none.
      let within : is_none (where_is f a n) ≡ false = inside_of f o n (some none.0) none.1.1.0 in
      let over : dynamic_base + turn.frame.session + n ≤ d = above_by f (tag == 0) n none.1.0 in
      let read : bytes_at f turn.public a n ≡ xs = read_is f turn.public a n sized (some none.0) within in
      let tops : top f n ≡ ys = top_is f turn.public n sized (omega (arith, over)) in
      is.form f turn.public turn.around
      ∙ (ap (λ (v : List ℕ). going f.dt Stays (Some (fl f v (top f n)))) read
      ∙ (ap (λ (v : List ℕ). going f.dt Stays (Some (fl f xs v))) tops ∙ ap (λ (z : Bool × Bool). going f.dt Stays (Some z)) (is.flags f xs ys (from_length m a n) (from_length m (d - n) n) first second))))
      (is.task l blank ∙ ap (λ (z : Option ℕ). Works (with_bytes Minus (address_or_zero z) n (d - n) false)) same) refl
      (λ none all.
      compared_outcome s u t g loadable leads i turn Minus a n (AtAddress (d - n)) ys refl (from_length m (d - n) n) true refl (Some f0)
      (bytes_allowed Minus false a n (d - n) turn.place.known.compare m turn.place.compares first second runs)
      (order_left n xs ys (from_length m a n) (from_length m (d - n) n) first second runs) all)

  -- the row writes its result
  pub record PairResultRow (val : List ℕ → List ℕ → List ℕ) (fl : Frame → List ℕ → List ℕ → Bool × Bool) : Type 0 where
    pub cause : (f : Frame) (public : List ℕ) (x : Around) → causes i f public x ≡ pre ∷ (A04, is_under f (on_stack tag (2 * n) n)) ∷ (A03, no_access f (operand f tag off (2 * n)) n) ∷ (A08, too_many f (address_or_zero (operand f tag off (2 * n))) n) ∷ []
    pub form : (f : Frame) (public : List ℕ) (x : Around)
        → shape i f public x ≡ (let v = bytes_at f public (address_or_zero (operand f tag off (2 * n))) n in going f.dt (Writes (address_or_zero (operand f tag off (2 * n))) n (val v (top f n))) (Some (fl f v (top f n))))
    pub task : (f : Frame) (public : List ℕ) → work i f public ≡ Works (with_bytes op (address_or_zero (operand f tag off (2 * n))) n (f.dt - n) true)

  -- and that is the result of the operation
  pub record PairResults (val : List ℕ → List ℕ → List ℕ) (fl : Frame → List ℕ → List ℕ → Bool × Bool) : Type 0 where
    pub row : PairResultRow val fl
    pub value : (xs ys : List ℕ) → length xs ≡ n → length ys ≡ n → AreBytes xs → AreBytes ys → val xs ys ≡ (worked op xs ys).0
    pub flags : (f : Frame) (xs ys : List ℕ) → length xs ≡ n → length ys ≡ n → AreBytes xs → AreBytes ys → fl f xs ys ≡ set_flags (carries_of op) (worked op xs ys).1 f
    pub runs : (xs ys : List ℕ) → length xs ≡ n → length ys ≡ n → AreBytes xs → AreBytes ys → RunsAs op true n xs ys

  -- a row that writes its result with the top of the stack is covered
  pub pair_result_case : (val : List ℕ → List ℕ → List ℕ) (fl : Frame → List ℕ → List ℕ → Bool × Bool) → PairResults val fl → RowCase i
  pair_result_case val fl is s u t g loadable leads turn includes =
      let f : Frame = frame_at turn.frame turn.next in
      let dyn = stand_in_stack turn.place.calls in
      let l : Frame = like f dyn in
      let o = operand f tag off (2 * n) in
      let a = address_or_zero o in
      let d = turn.frame.dt in
      let m : Memory = frame_memory turn.frame turn.public in
      let xs = bytes_from m a n in
      let ys = bytes_from m (d - n) n in
      let first : AreBytes xs = memory_bytes_from m a n turn.place.bytes in
      let second : AreBytes ys = memory_bytes_from m (d - n) n turn.place.bytes in
      let same : operand l tag off (2 * n) ≡ o = same_operand f dyn tag off (2 * n) in
      let cs : List (Abend × Bool) = pre ∷ (A04, is_under f (on_stack tag (2 * n) n)) ∷ (A03, no_access f o n) ∷ [] in
      let was = too_many l a n in
      let unmet : was ≡ false = few_wait f dyn a n few in
      let sized : Sized f turn.public = turn_sized s u loadable i turn in
      let v0 = bytes_at l blank a n in
      let w0 = top l n in
      let r = worked op xs ys in
      outcome_limited s u t g loadable leads i turn cs was (too_many f a n) d (Writes a n (val v0 w0)) (Writes a n r.0) (Some (fl l v0 w0)) (Some (set_flags (carries_of op) r.1 turn.frame)) (Works (with_bytes op a n (d - n) true)) includes
      (is.row.cause l blank nobody
      ∙ (ap (λ (z : Option ℕ). pre ∷ (A04, is_under f (on_stack tag (2 * n) n)) ∷ (A03, no_access l z n) ∷ (A08, too_many l (address_or_zero z) n) ∷ []) same
      ∙ ap (λ (z : Bool). pre ∷ (A04, is_under f (on_stack tag (2 * n) n)) ∷ (A03, z) ∷ (A08, was) ∷ []) (same_access f dyn o n)))
      (is.row.cause f turn.public turn.around)
      (is.row.form l blank nobody ∙ ap (λ (z : Option ℕ). let v = bytes_at l blank (address_or_zero z) n in going f.dt (Writes (address_or_zero z) n (val v w0)) (Some (fl l v w0))) same)
      (λ none.
      let within : is_none (where_is f a n) ≡ false = inside_of f o n (some none.0) none.1.1.0 in
      let over : dynamic_base + turn.frame.session + n ≤ d = above_by f (tag == 0) n none.1.0 in
      let read : bytes_at f turn.public a n ≡ xs = read_is f turn.public a n sized (some none.0) within in
      let tops : top f n ≡ ys = top_is f turn.public n sized (omega (arith, over)) in
      is.row.form f turn.public turn.around
      ∙ (ap (λ (v : List ℕ). going f.dt (Writes a n (val v (top f n))) (Some (fl f v (top f n)))) read
      ∙ (ap (λ (v : List ℕ). going f.dt (Writes a n (val xs v)) (Some (fl f xs v))) tops
      ∙ (ap (λ (v : List ℕ). going f.dt (Writes a n v) (Some (fl f xs ys))) (is.value xs ys (from_length m a n) (from_length m (d - n) n) first second)
      ∙ ap (λ (z : Bool × Bool). going f.dt (Writes a n r.0) (Some z)) (is.flags f xs ys (from_length m a n) (from_length m (d - n) n) first second)))))
      (is.row.task l blank ∙ ap (λ (z : Option ℕ). Works (with_bytes op (address_or_zero z) n (d - n) true)) same) refl
      (λ none many less. many_wait s f a n n (val v0 w0) (positive n (some none.0)) turn.place.frame.size turn.place.frame.inside many)
      (λ none many. absurd (cc (sym unmet ∙ many)))
      (λ none all.
      let within : is_none (where_is f a n) ≡ false = inside_of f o n (some none.0) none.1.1.0 in
      written_outcome s u t g loadable leads i turn op a n (AtAddress (d - n)) ys refl (from_length m (d - n) n) (carries_of op) refl n (val v0 w0) (Some (fl l v0 w0))
      (bytes_allowed op true a n (d - n) turn.place.known.compare m turn.place.compares first second (is.runs xs ys (from_length m a n) (from_length m (d - n) n) first second)) within (positive n (some none.0)) all)
