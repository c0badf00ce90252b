-- Rows that work on blocks: an addition or a subtraction moves its operand, other operations end what they touch, and
-- comparisons change no byte.
use Rattle.std.proofs.Common.{◌≡◌, inl, inr, ℕ, zero, suc, ◌+◌, ◌-◌, ◌*◌, ◌%◌, ◌^◌, ◌<◌, ◌≤◌, Bool, true, false, List, [], length, ℤ, Option, None, refl, sym, ap, subst, ◌∙◌, arith}
use Rattle.std.specs.Prelude.{◌==◌, not, is_none}
use Rattle.std.proofs.Math.Nat.{mod-eq_of_lt}
use Rattle.law_sums.specs.model_device.specs.Bytes.{AreBytes, num, bytes}
use Rattle.law_sums.specs.law_rows.proofs.BlockLemmas.{pow_positive, pow_more, num_below, num_bytes}
use Rattle.law_sums.specs.model_machine.specs.declared.instruction.Ins.{Ins}
use Rattle.law_sums.specs.model_machine.specs.Blocks.{add_blocks, sub_blocks}
use Rattle.law_sums.specs.model_machine.specs.Frame.{Frame, where_is, bytes_at, no_access}
use Rattle.law_sums.specs.model_machine.specs.Primitives.{Around, Goes, Primitive, in_range}
use Rattle.law_sums.specs.model_machine.specs.Row.{causes, operand, address_or_zero, place_of}
use Rattle.law_sums.specs.model_machine.specs.Shapes.{Act, Writes, Shape, shape}
use Rattle.law_sums.specs.model_rules.specs.Keeping.{mode_of}
use Rattle.law_sums.specs.model_prove.specs.Facts.{Memory}
use Rattle.law_sums.specs.model_prove.specs.Compares.{bytes_from}
use Rattle.law_sums.specs.model_prove.specs.Digits.{Operation}
use Rattle.law_sums.specs.model_prove.specs.Keys.{Tables}
use Rattle.law_sums.specs.model_prove.specs.Laws.{Among}
use Rattle.law_sums.specs.model_prove.specs.Splits.{deciders}
use Rattle.law_sums.specs.model_prove.specs.Reach.{takes_target}
use Rattle.law_sums.specs.model_prove.specs.Work.{Operand, Digitwise, Work, Works, works, work}
use Rattle.law_sums.specs.model_prove.specs.Arrivals.{Setting}
use Rattle.law_sums.specs.model_prove.specs.Steps.{arounds, primitive_of}
use Rattle.law_prove_closed.specs.law_prove.proofs.Alike.{from_length, read_is}
use Rattle.law_prove_closed.specs.law_prove.proofs.Moves.{inside_of}
use Rattle.law_prove_closed.specs.law_prove.proofs.Turns.{NoCause, nobody}
use Rattle.law_prove_closed.specs.law_prove.proofs.ReachScenes.{with_bytes, same_operand, part_inside}
use Rattle.law_prove_closed.specs.law_prove.proofs.Accesses.{not_zero}
use Rattle.law_sums.specs.model_sums.specs.Sums.{SumsTable}
use Rattle.law_sums.specs.model_sums.specs.Says.{number_at}
use Rattle.law_sums.specs.CopyLaws.{operand_bytes, IsResult}
use Rattle.law_sums.specs.TurnLaws.{row_sums}
use Rattle.law_sums.proofs.Modulo.{add_same, add_whole}
use Rattle.law_sum_plays.proofs.Memories.{Changed, Whole, write_changed}
use Rattle.law_sum_plays.proofs.Moved.{shape_of, SameIf}
use Rattle.law_sum_plays.proofs.Scenes.{Step, fetched, memory, sized, nobody_among}
use Rattle.law_sum_plays.proofs.Rows.{unprotected, low, left, whole_at, IsWork, StepCase}
use Rattle.law_sum_plays.proofs.Plain.{one_row, dt_low, dt_high}

-- ---- numbers

mod_mod : (n v : ℕ) → v % 256 ^ n % 256 ^ n ≡ v % 256 ^ n
mod_mod n v = let pos = pow_positive n in mod-eq_of_lt (omega (arith, pos))

-- the number of a sum
pub plus_result : (n : ℕ) (xs ys : List ℕ) (r : ℕ) → length xs ≡ n → r ≡ num (add_blocks xs ys).value → r % 256 ^ n ≡ (num xs + num ys) % 256 ^ n
plus_result n xs ys r long is = grind (arith, num_bytes, mod_mod)

-- the number of a difference
pub minus_result : (n : ℕ) (xs ys : List ℕ) (r : ℕ) → length xs ≡ n → length ys ≡ n → AreBytes ys → r ≡ num (sub_blocks xs ys).value → (r + num ys) % 256 ^ n ≡ num xs % 256 ^ n
minus_result n xs ys r long other are is =
    let m = 256 ^ n in
    let x = num xs in
    let y = num ys in
    let below : y < m = subst (λ (k : ℕ). y < 256 ^ k) other (num_below ys are) in
    let w = m + x - y in
    let same : num (sub_blocks xs ys).value ≡ w % m = num_bytes (length xs) (256 ^ length xs + x - y) ∙ ap (λ (k : ℕ). (256 ^ k + x - y) % 256 ^ k) long in
    let whole : r ≡ w % m = is ∙ same in
    let sum : w + y ≡ x + 1 * m = omega (arith, below) in
    ap (λ (z : ℕ). (z + y) % m) whole ∙ (add_same m (w % m) w y y (mod_mod n w) refl ∙ (ap (λ (z : ℕ). z % m) sum ∙ add_whole m x 1))

-- one as a number of n bytes is one
pub one_is : (n : ℕ) → (n == 0) ≡ false → num (bytes n 1) ≡ 1
one_is zero e = absurd (cc e)
one_is (suc n) e =
    let pos = pow_positive n in
    num_bytes (suc n) 1 ∙ (ap (λ (p : ℕ). 1 % p) (pow_more n) ∙ mod-eq_of_lt (omega (arith, pos)))

-- a count from 1 to 16 is not zero
pub ranged : (n : ℕ) → not (in_range 1 16 n) ≡ false → (n == 0) ≡ false
ranged zero e = absurd (cc e)
ranged (suc n) e = not_zero (suc n) (omega arith)

-- ---- an operation whose result is written

-- What a row works on and writes: n bytes at an operand that begins k bytes below the top if it lies there, and a second
-- one; its value by both.
pub record IsOperation (i : Ins) (tag : ℕ) (off : ℤ) (k n : ℕ) (op : Operation) (second : Frame → Operand) (carries : Bool) (value : List ℕ → List ℕ → List ℕ) (ys : Frame → List ℕ) (flags : Frame → List ℕ → Option (Bool × Bool)) : Type 0 where
  pub form : (f : Frame) (public : List ℕ) (x : Around) → shape i f public x ≡ shape_of f.dt (Writes (place_of f tag off k) n (value (bytes_at f public (place_of f tag off k) n) (ys f))) (flags f public) Goes
  pub task : (f : Frame) (public : List ℕ) → work i f public ≡ works op (place_of f tag off k) n (second f) true carries
  pub steady : (f : Frame) (fixed dyn : List ℕ) → second (with_bytes f fixed dyn) ≡ second f
  pub takes : takes_target i ≡ false
  pub none : (f : Frame) → deciders i f ≡ []
  pub prim : primitive_of i ≡ None
  pub mode : mode_of i ≡ None

module _ (i : Ins) (tag : ℕ) (off : ℤ) (k n : ℕ) (op : Operation) (second : Frame → Operand) (carries : Bool) (value : List ℕ → List ℕ → List ℕ) (ys : Frame → List ℕ) (flags : Frame → List ℕ → Option (Bool × Bool))
    (is : IsOperation i tag off k n op second carries value ys flags) (some_bytes : (f : Frame) (public : List ℕ) (x : Around) → NoCause (causes i f public x) → (n == 0) ≡ false) (access : (f : Frame) (public : List ℕ) (x : Around) → NoCause (causes i f public x) → no_access f (operand f tag off k) n ≡ false)
    (no_more : (xs zs : List ℕ) → length xs ≡ n → length (value xs zs) ≤ n) where
  -- its row moves its first operand, if the result is that of the operation
  pub operation_case : ((s : Setting) (t : Tables) (u : SumsTable) (step : Step s t u i) → NoCause (causes i (fetched s t u i step) step.public step.around) → (xs : List ℕ) → length xs ≡ n → (r : ℕ) → (length (value xs (ys (fetched s t u i step))) ≡ n → r ≡ num (value xs (ys (fetched s t u i step))))
      → IsResult op n (num xs) (num (operand_bytes (memory s t u i step) n (second (fetched s t u i step)))) r) → StepCase i
  operation_case result s t u step static =
      let f : Frame = fetched s t u i step in
      let m : Memory = memory s t u i step in
      let d = step.frame.dt in
      let o = operand f tag off k in
      let at = address_or_zero o in
      let g : Digitwise = record { op = op; at = at; n = n; operand = second f; written = true; carries = carries } in
      let xs = bytes_at f step.public at n in
      let b = value xs (ys f) in
      let a : Act = Writes at n b in
      one_row i s t u step static d a (flags f step.public) Goes is.takes is.none (λ st. subst (λ (o : Option Primitive). Among nobody (arounds st o)) (sym is.prim) (nobody_among st)) (is.form f step.public step.around)
      (sym (ap (λ (m : Option ℕ). row_sums step.frame.protected m step.place.standing) is.mode ∙ unprotected step.frame.protected step.place.standing)) (λ free fixed dyn public fits.
      let e : Frame = with_bytes f fixed dyn in
      let b0 = value (bytes_at e public at n) (ys e) in
      let same : operand e tag off k ≡ o = same_operand f fixed dyn tag off k fits.size in
      let some : (n == 0) ≡ false = some_bytes f step.public step.around free in
      let within : is_none (where_is f at n) ≡ false = inside_of f o n some (access f step.public step.around free) in
      let read : xs ≡ bytes_from m at n = read_is f step.public at n (sized s t u i step) some within in
      let long : length xs ≡ n = ap (λ (l : List ℕ). length l) read ∙ from_length m at n in
      let short : length b ≤ n = no_more xs (ys f) long in
      let inside : is_none (where_is f at (length b)) ≡ false = part_inside f at n at (length b) within (omega arith) (omega (arith, short)) in
      let w : Whole (low s t u i step static d) step.public = whole_at s t u i step static d (dt_low s t u step) (dt_high s t u step) in
      let c : Changed m (left s t u i step static d a) at b = write_changed (low s t u i step static d) step.public b at inside w in
      let number : length b ≡ n → number_at (left s t u i step static d a) at n ≡ num b = λ full. ap (λ (j : ℕ). num (bytes_from (left s t u i step static d a) at j)) (sym full) ∙ ap num c.there in
      let stands : shape i e public nobody ≡ shape_of d (Writes at n b0) (flags e public) Goes = grind (arith, nobody, shape_of) in
      let task : work i e public ≡ Works g =
      is.task e public ∙ (ap (λ (z : Option ℕ). works op (address_or_zero z) n (second e) true carries) same ∙ ap (λ (y : Operand). works op at n y true carries) (is.steady f fixed dyn))
      in
      record {
        bytes = b0;
        to = 0;
        flags = flags e public;
        later = Goes;
        stands = stands;
        same = subst (λ (w : Work). SameIf w i a b0) (sym task) tt;
        low = dt_low s t u step;
        high = dt_high s t u step;
        fits = subst (λ (w : Work). IsWork s t u i step static d w a) (sym task) (record {
          on = λ on. (
            λ x beside. c.stays x (elim beside [ inl below ↦ inl below | inr above ↦ inr (omega (arith, above, short)) ]),
            subst (λ (v : ℕ). IsResult op n v (num (operand_bytes m n (second f))) (number_at (left s t u i step static d a) at n)) (ap num read) (result s t u step free xs long (number_at (left s t u i step static d a) at n) number),
          );
          off = λ no. absurd (cc no);
          reads = refl;
        });
        next = ap (λ (h : Shape). h.next) stands;
      })
