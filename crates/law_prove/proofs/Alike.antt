-- What the frame that stands for a place has in common with the frame: registers, places of operands, what lies in its
-- segments; and how bytes that are read are those of its memory.
use Rattle.std.proofs.Common.{◌≡◌, ℕ, zero, suc, ◌+◌, ◌-◌, ◌<◌, ◌≤◌, Bool, true, false, cond, List, [], ◌∷◌, ◌++◌, length, ℤ, Option, Some, None, refl, sym, ap, ◌∙◌, arith}
use Rattle.std.specs.Prelude.{not, ◌==◌, ◌&&◌, nat_lt, is_none, slice_index}
use Rattle.std.proofs.lemmas.Bool.{ltb-true, ltb-false, lt-ltb, false_from_ne_true, and_from}
use Rattle.std.proofs.lemmas.List.{length-replicate}
use Rattle.model_prove.specs.model_device.specs.Bytes.{bytes2, zeros}
use Rattle.model_prove.specs.model_device.specs.Pieces.{touched_words}
use Rattle.model_prove.specs.model_device.proofs.ListLemmas.{length_splice}
use Rattle.model_prove.specs.model_device.proofs.ImageLemmas.{all_append}
use Rattle.model_prove.specs.model_machine.specs.Frame.{Frame, Place, Static, Dynamic, Public, where_is, register, moved_address, dynamic_base, dynamic_end, public_base, public_end, static_bytes, bytes_in, bytes_at, no_access, too_many, passes_limit, top}
use Rattle.model_prove.specs.model_machine.specs.Row.{operand}
use Rattle.law_rules.specs.law_bytes.specs.law_rows.specs.Keeping.{PiecesWithin}
use Rattle.model_prove.specs.model_machine.specs.Shapes.{Writes}
use Rattle.law_rules.specs.law_bytes.specs.law_rows.proofs.Keeping.{length_laid}
use Rattle.law_rules.specs.law_machine.proofs.TouchedWords.{one_piece}
use Rattle.model_prove.specs.Facts.{Memory}
use Rattle.model_prove.specs.Compares.{bytes_from}
use Rattle.model_prove.specs.Keys.{Call}
use Rattle.model_prove.specs.Splits.{stand_in_stack}
use Rattle.model_prove.specs.Arrivals.{Setting, static_size}
use Rattle.model_prove.specs.Steps.{may_wait_too_long}
use Rattle.law_prove.specs.Coverings.{frame_memory, AreOpen}
use Rattle.law_prove.proofs.Windows.{window, taken_is}
use Rattle.law_prove.proofs.Parts.{memory_static, memory_dynamic, memory_public}
use Rattle.law_prove.proofs.Acts.{LiesIn, lies_in}
use Rattle.law_prove.proofs.Turns.{like, blank}
use Rattle.law_prove.proofs.Touched.{few_touched}

-- ---- registers and places

same_size : (f : Frame) → length (zeros (length f.fixed)) ≡ length f.fixed
same_size f = length-replicate {A = ℕ} (length f.fixed) 0

same_register : (f : Frame) (dyn : List ℕ) (tag : ℕ) → register (like f dyn) tag ≡ register f tag
same_register f dyn tag =
    ap (λ (n : ℕ). cond (tag == 1) 0 (cond (tag == 2) n (cond (tag == 3) dynamic_base (cond (tag == 4) f.lb (cond (tag == 5) f.dt (cond (tag == 6) public_base public_end)))))) (same_size f)

-- the place of an operand
pub same_operand : (f : Frame) (dyn : List ℕ) (tag : ℕ) (off : ℤ) (k : ℕ) → operand (like f dyn) tag off k ≡ operand f tag off k
same_operand f dyn tag off k = ap (λ (r : ℕ). cond (tag == 0) (Some (f.dt - k)) (moved_address r off)) (same_register f dyn tag)

-- an address lies in the same segment
pub same_where : (f : Frame) (dyn : List ℕ) (a n : ℕ) → where_is (like f dyn) a n ≡ where_is f a n
same_where f dyn a n = grind (arith, same_size)

-- whether an access is outside of the segments
pub same_access : (f : Frame) (dyn : List ℕ) (o : Option ℕ) (n : ℕ) → no_access (like f dyn) o n ≡ no_access f o n
same_access f dyn None n = refl
same_access f dyn (Some a) n = ap (λ (p : Option Place). not (n == 0) && is_none p) (same_where f dyn a n)

-- ---- the limit of words that wait

few_by : (b : Bool) (f : Frame) (dyn : List ℕ) (o : Option Place) (n : ℕ) → n ≤ 256 → passes_limit b (like f dyn) o n ≡ false
few_by false f dyn o n h = refl
few_by true f dyn None n h = refl
few_by true f dyn (Some (Dynamic i)) n h = refl
few_by true f dyn (Some (Public i)) n h = refl
few_by true f dyn (Some (Static i)) n h = grind (arith, length-replicate, one_piece, false_from_ne_true, ltb-true)

-- of a frame where nothing waits no write passes it
pub few_wait : (f : Frame) (dyn : List ℕ) (a n : ℕ) → n ≤ 256 → too_many (like f dyn) a n ≡ false
unfolding too_many
few_wait f dyn a n h = few_by f.protected f dyn (where_is (like f dyn) a n) n h

many_by : (b : Bool) (s : Setting) (f : Frame) (a n k : ℕ) (bytes : List ℕ) (o : Option Place) → f.protected ≡ b → where_is f a n ≡ o → 0 < n → length f.fixed ≡ static_size s → PiecesWithin (length f.fixed) f.pieces → passes_limit b f o n ≡ true
    → may_wait_too_long s b (Writes a k bytes) ≡ true
many_by false s f a n k bytes o e is some size inside h = absurd (cc h)
many_by true s f a n k bytes None e is some size inside h = absurd (cc h)
many_by true s f a n k bytes (Some (Dynamic i)) e is some size inside h = absurd (cc h)
many_by true s f a n k bytes (Some (Public i)) e is some size inside h = absurd (cc h)
many_by true s f a n k bytes (Some (Static i)) e is some size inside h =
    let lies : LiesIn f a n (Static i) = lies_in f a n (Static i) is in
    let same : a ≡ i = lies.0 in
    let fits : a + n ≤ length f.fixed = lies.1 in
    let count : length (zeros n) ≡ n = length-replicate {A = ℕ} n 0 in
    let ps = f.pieces ++ (i, zeros n) ∷ [] in
    let many = ltb-true 64 (length (touched_words ps)) h in
    let all : PiecesWithin (length f.fixed) ps = all_append (λ p. p.0 + length p.1 ≤ length f.fixed) f.pieces ((i, zeros n) ∷ []) inside (omega (arith, same, fits, count), tt) in
    let large : 512 < static_size s = over 512 (static_size s) (λ low. let few : length (touched_words ps) ≤ 64 = few_touched (length f.fixed) ps (omega (arith, size, low)) all in omega (arith, many, few)) in
    and_from (nat_lt a (static_size s)) (nat_lt 512 (static_size s)) (lt-ltb a (static_size s) (omega (arith, fits, some, size))) (lt-ltb 512 (static_size s) large)
  where
    over_by : (b : Bool) (m n : ℕ) → nat_lt m n ≡ b → (n ≤ m → ⊥) → m < n
    over_by true m n e h = ltb-true m n e
    over_by false m n e h = absurd (h (ltb-false m n e))

    over : (m n : ℕ) → (n ≤ m → ⊥) → m < n
    over m n h = over_by (nat_lt m n) m n refl h

-- a write that passes it is one of more than 512 static bytes
pub many_wait : (s : Setting) (f : Frame) (a n k : ℕ) (bytes : List ℕ) → 0 < n → length f.fixed ≡ static_size s → PiecesWithin (length f.fixed) f.pieces → too_many f a n ≡ true → may_wait_too_long s f.protected (Writes a k bytes) ≡ true
unfolding too_many
many_wait s f a n k bytes some size inside h = many_by f.protected s f a n k bytes (where_is f a n) refl refl some size inside h

-- ---- what is read

-- bytes of a memory that are those of a list are its window
pub bytes_window : (m : Memory) (l : List ℕ) (a i n : ℕ) → ((k : ℕ) → k < n → m (a + k) ≡ slice_index l (i + k)) → bytes_from m a n ≡ window l i n
bytes_window m l a i zero same = refl
bytes_window m l a i (suc n) same =
    let x : a ≡ a + 0 = omega arith in
    let y : i + 0 ≡ i = omega arith in
    let first : m a ≡ slice_index l i = ap m x ∙ (same 0 (omega arith) ∙ ap (λ (j : ℕ). slice_index l j) y) in
    let rest : bytes_from m (suc a) n ≡ window l (suc i) n =
    bytes_window m l (suc a) (suc i) n (λ k low.
    let u : suc a + k ≡ a + suc k = omega arith in
    let v : i + suc k ≡ suc i + k = omega arith in
    ap m u ∙ (same (suc k) (omega (arith, low)) ∙ ap (λ (j : ℕ). slice_index l j) v))
    in
    ap (λ (b : ℕ). b ∷ bytes_from m (suc a) n) first ∙ ap (λ (t : List ℕ). slice_index l i ∷ t) rest

-- the bytes from an address are as many as were read
pub from_length : (m : Memory) (a n : ℕ) → length (bytes_from m a n) ≡ n
from_length m a zero = refl
from_length m a (suc n) = ap suc (from_length m (suc a) n)

-- a frame whose segments have their lengths
pub record Sized (f : Frame) (public : List ℕ) : Type 0 where
  pub small : length f.fixed ≤ dynamic_base
  pub room : length f.dyn ≡ 512
  pub high : f.dt ≤ dynamic_end
  pub inside : PiecesWithin (length f.fixed) f.pieces
  pub whole : 1041 ≤ length public

read_in : (f : Frame) (public : List ℕ) (a n : ℕ) (o : Option Place) → Sized f public → where_is f a n ≡ o → is_none o ≡ false → bytes_in f public n o ≡ bytes_from (frame_memory f public) a n
read_in f public a n None z is there = absurd (cc there)
read_in f public a n (Some (Static i)) z is there =
    let lies : LiesIn f a n (Static i) = lies_in f a n (Static i) is in
    let same : a ≡ i = lies.0 in
    let fits : a + n ≤ length f.fixed = lies.1 in
    let size : length (static_bytes f) ≡ length f.fixed = length_laid f.pieces f.fixed z.inside in
    taken_is (static_bytes f) i n (omega (arith, same, fits, size))
    ∙ sym (bytes_window (frame_memory f public) (static_bytes f) a i n (λ k low. memory_static (length f.fixed) (static_bytes f) f.dyn public (a + k) (omega (arith, fits, low)) ∙ ap (λ (j : ℕ). slice_index (static_bytes f) (j + k)) same))
read_in f public a n (Some (Dynamic i)) z is there =
    let lies : LiesIn f a n (Dynamic i) = lies_in f a n (Dynamic i) is in
    let same : a ≡ dynamic_base + i = lies.0 in
    let fits : a + n ≤ f.dt = lies.1 in
    let small : length f.fixed ≤ dynamic_base = z.small in
    let room : length f.dyn ≡ 512 = z.room in
    let high : f.dt ≤ dynamic_end = z.high in
    taken_is f.dyn i n (omega (arith, same, fits, room, high))
    ∙ sym (bytes_window (frame_memory f public) f.dyn a i n (λ k low.
    let place : a + k - dynamic_base ≡ i + k = omega (arith, same) in
    memory_dynamic (length f.fixed) (static_bytes f) f.dyn public (a + k) small (omega (arith, same)) (omega (arith, fits, low, high)) ∙ ap (λ (j : ℕ). slice_index f.dyn j) place))
read_in f public a n (Some (Public i)) z is there =
    let lies : LiesIn f a n (Public i) = lies_in f a n (Public i) is in
    let same : a ≡ public_base + i = lies.0 in
    let fits : a + n ≤ public_end = lies.1 in
    let small : length f.fixed ≤ dynamic_base = z.small in
    let whole : 1041 ≤ length public = z.whole in
    taken_is public i n (omega (arith, same, fits, whole))
    ∙ sym (bytes_window (frame_memory f public) public a i n (λ k low.
    let place : a + k - public_base ≡ i + k = omega (arith, same) in
    memory_public (length f.fixed) (static_bytes f) f.dyn public (a + k) small (omega (arith, same)) ∙ ap (λ (j : ℕ). slice_index public j) place))

-- the bytes at an address in a segment are those of the memory
pub read_is : (f : Frame) (public : List ℕ) (a n : ℕ) → Sized f public → (n == 0) ≡ false → is_none (where_is f a n) ≡ false → bytes_at f public a n ≡ bytes_from (frame_memory f public) a n
unfolding bytes_at
read_is f public a n z some there =
    ap (λ (b : Bool). cond b [] (bytes_in f public n (where_is f a n))) some ∙ read_in f public a n (where_is f a n) z refl there

-- so are the top bytes of the stack
pub top_is : (f : Frame) (public : List ℕ) (n : ℕ) → Sized f public → dynamic_base + n ≤ f.dt → top f n ≡ bytes_from (frame_memory f public) (f.dt - n) n
top_is f public n z over =
    let small : length f.fixed ≤ dynamic_base = z.small in
    let room : length f.dyn ≡ 512 = z.room in
    let high : f.dt ≤ dynamic_end = z.high in
    let i = f.dt - n - dynamic_base in
    taken_is f.dyn i n (omega (arith, over, room, high))
    ∙ sym (bytes_window (frame_memory f public) f.dyn (f.dt - n) i n (λ k low.
    let place : f.dt - n + k - dynamic_base ≡ i + k = omega (arith, over) in
    memory_dynamic (length f.fixed) (static_bytes f) f.dyn public (f.dt - n + k) small (omega (arith, over)) (omega (arith, over, low, high)) ∙ ap (λ (j : ℕ). slice_index f.dyn j) place))

-- ---- the frame that stands for a place

-- the stack of a scene with these open calls has 512 bytes
pub stack_length : (floor top lb : ℕ) (dyn : List ℕ) (calls : List Call) → dynamic_base ≤ floor → top ≤ dynamic_end → AreOpen floor top lb dyn calls → length (stand_in_stack calls) ≡ 512
stack_length floor top lb dyn [] low high o = length-replicate {A = ℕ} 512 0
stack_length floor top lb dyn (c ∷ cs) low high o =
    let under : c.dt ≤ top = o.0 in
    let over : floor + 4 ≤ c.dt = o.1 in
    let room : length (zeros 512) ≡ 512 = length-replicate {A = ℕ} 512 0 in
    length_splice (zeros 512) (c.dt - 4 - dynamic_base) (bytes2 c.lb ++ bytes2 c.at) (omega (arith, under, over, low, high, room)) ∙ room

-- its segments have their lengths
pub like_sized : (f : Frame) (public : List ℕ) (calls : List Call) → Sized f public → AreOpen (dynamic_base + f.session) f.dt f.lb f.dyn calls → Sized (like f (stand_in_stack calls)) blank
like_sized f public calls z o =
    let small : length f.fixed ≤ dynamic_base = z.small in
    let size : length (zeros (length f.fixed)) ≡ length f.fixed = same_size f in
    let count : length (zeros (public_end - public_base)) ≡ public_end - public_base = length-replicate {A = ℕ} (public_end - public_base) 0 in
    record {
      small = omega (arith, small, size);
      room = stack_length (dynamic_base + f.session) f.dt f.lb f.dyn calls (omega arith) z.high o;
      high = z.high;
      inside = tt;
      whole = omega (arith, count);
    }
