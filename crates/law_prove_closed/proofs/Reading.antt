-- What a scene reads is what the frame reads, where it has the bytes of its memory.
use Rattle.std.proofs.Common.{◌≡◌, ℕ, zero, suc, ◌+◌, ◌-◌, ◌<◌, ◌≤◌, Bool, true, false, cond, List, [], ◌∷◌, length, ℤ, Option, Some, None, refl, sym, ap, subst, ◌∙◌, arith}
use Rattle.std.specs.Prelude.{not, ◌==◌, ◌&&◌, is_none}
use Rattle.std.proofs.lemmas.Bool.{le-leb, and_from, eqb-true}
use Rattle.law_prove.specs.model_device.specs.Bytes.{num}
use Rattle.law_prove.specs.model_machine.specs.declared.machine.Abend.{Abend}
use Rattle.law_prove.specs.model_machine.specs.Frame.{Frame, Place, where_is, is_outside, moved_address, resolve, dynamic_base, public_base, public_end, stack_bytes, bytes_in, bytes_at}
use Rattle.law_prove.specs.model_machine.specs.Primitives.{number_below_top}
use Rattle.law_prove.specs.model_machine.specs.Row.{operand, first_cause}
use Rattle.law_prove.specs.model_prove.specs.Sets.{numbers_from}
use Rattle.law_prove.specs.model_prove.specs.Facts.{Memory}
use Rattle.law_prove.specs.model_prove.specs.Compares.{bytes_from}
use Rattle.law_prove.specs.model_prove.specs.Laws.{Among}
use Rattle.law_prove.specs.model_prove.specs.Splits.{Scene}
use Rattle.law_prove.specs.Coverings.{frame_memory}
use Rattle.law_prove.proofs.Acts.{LiesIn, lies_in}
use Rattle.law_prove.proofs.Alike.{Sized, read_is}
use Rattle.law_prove.proofs.Worked.{not_zero}
use Rattle.law_prove_closed.proofs.Scenes.{drawn, scene_of, scene_memory, drawn_outside, among_numbers, from_same, stack_is}

-- ---- parts of accesses

in_first : (x y z : Bool) (p q r : Place) → x ≡ true → is_none (cond x (Some p) (cond y (Some q) (cond z (Some r) None))) ≡ false
in_first true y z p q r e = refl
in_first false y z p q r e = absurd (cc e)

in_second : (x y z : Bool) (p q r : Place) → y ≡ true → is_none (cond x (Some p) (cond y (Some q) (cond z (Some r) None))) ≡ false
in_second x y z p q r e = grind arith

in_third : (x y z : Bool) (p q r : Place) → z ≡ true → is_none (cond x (Some p) (cond y (Some q) (cond z (Some r) None))) ≡ false
in_third x y z p q r e = grind arith

part_in : (f : Frame) (a n j : ℕ) (p : Place) → LiesIn f a n p → j < n → is_none (where_is f (a + j) 1) ≡ false
part_in f a n j p lies less = grind (arith, in_first, le-leb, in_second, and_from, in_third)

part_by : (f : Frame) (a n j : ℕ) (o : Option Place) → where_is f a n ≡ o → is_none o ≡ false → j < n → is_none (where_is f (a + j) 1) ≡ false
part_by f a n j None is there less = absurd (cc there)
part_by f a n j (Some p) is there less = part_in f a n j p (lies_in f a n p is) less

one_inside : (f : Frame) (a : ℕ) → is_none (where_is f a 1) ≡ false → is_outside f a 1 ≡ false
one_inside f a e = e

some_inside : (b c : Bool) → b ≡ false → (not b && c) ≡ false → c ≡ false
some_inside true c e h = absurd (cc e)
some_inside false c e h = h

-- an access of some bytes in a segment lies there
pub lies_there : (f : Frame) (a n : ℕ) → (n == 0) ≡ false → is_outside f a n ≡ false → is_none (where_is f a n) ≡ false
lies_there f a n some e = some_inside (n == 0) (is_none (where_is f a n)) some e

not_none : (n j : ℕ) → j < n → (n == 0) ≡ false
not_none zero j h = absurd (omega (arith, h))
not_none (suc n) j h = not_zero (suc n) (omega arith)

-- each byte of an access in a segment is in it
pub part_inside : (f : Frame) (a n j : ℕ) → is_outside f a n ≡ false → j < n → is_outside f (a + j) 1 ≡ false
part_inside f a n j there less = one_inside f (a + j) (part_by f a n j (where_is f a n) refl (lies_there f a n (not_none n j less) there) less)

-- bytes of the stack above its base are in it
pub stack_inside : (f : Frame) (a : ℕ) → dynamic_base ≤ a → a < f.dt → is_outside f a 1 ≡ false
stack_inside f a low high = grind (arith, in_second, and_from, le-leb)

-- what lies in a segment of a frame with fewer bytes of the stack lies in one of the frame
deeper_in : (f : Frame) (d a n : ℕ) (p : Place) → d ≤ f.dt → LiesIn (record f { dt = d }) a n p → is_none (where_is f a n) ≡ false
deeper_in f d a n p low lies = grind (arith, in_first, le-leb, in_second, and_from, in_third)

deeper_by : (f : Frame) (d a n : ℕ) (o : Option Place) → d ≤ f.dt → where_is (record f { dt = d }) a n ≡ o → is_none o ≡ false → is_none (where_is f a n) ≡ false
deeper_by f d a n None low is there = absurd (cc there)
deeper_by f d a n (Some p) low is there = deeper_in f d a n p low (lies_in (record f { dt = d }) a n p is)

-- a byte inside the segments with a lower DT is inside them
pub deeper_inside : (f : Frame) (d a : ℕ) → d ≤ f.dt → is_outside (record f { dt = d }) a 1 ≡ false → is_outside f a 1 ≡ false
deeper_inside f d a low there = one_inside f a (deeper_by f d a 1 (where_is (record f { dt = d }) a 1) low refl there)

-- bytes at an address in a segment are those of the memory, also if they are none
any_by : (b : Bool) (f : Frame) (public : List ℕ) (a n : ℕ) → Sized f public → (n == 0) ≡ b → is_outside f a n ≡ false → bytes_at f public a n ≡ bytes_from (frame_memory f public) a n
unfolding bytes_at
any_by true f public a n sized e there =
    ap (λ (b : Bool). cond b [] (bytes_in f public n (where_is f a n))) e ∙ sym (ap (λ (k : ℕ). bytes_from (frame_memory f public) a k) (eqb-true n 0 e))
any_by false f public a n sized e there = read_is f public a n sized e (lies_there f a n e there)

-- bytes inside the segments are those of the memory, also if there are none
pub read_any : (f : Frame) (public : List ℕ) (a n : ℕ) → Sized f public → is_outside f a n ≡ false → bytes_at f public a n ≡ bytes_from (frame_memory f public) a n
read_any f public a n sized there = any_by (n == 0) f public a n sized refl there

-- ---- a scene and its frame

-- n bytes of a scene from an address on are those of the frame
abbrev pub Alike : Scene → Memory → ℕ → ℕ → Type 0
Alike z m a n = (j : ℕ) → j < n → scene_memory z (a + j) ≡ m (a + j)

-- a place beside a register
pub drawn_resolve : (f : Frame) (fixed dyn : List ℕ) (tag : ℕ) (off : ℤ) → length fixed ≡ length f.fixed → resolve (drawn f fixed dyn) tag off ≡ resolve f tag off
drawn_resolve f fixed dyn tag off size =
    ap (λ (n : ℕ). moved_address (cond (tag == 1) 0 (cond (tag == 2) n (cond (tag == 3) dynamic_base (cond (tag == 4) f.lb (cond (tag == 5) f.dt (cond (tag == 6) public_base public_end)))))) off) size

-- the place of an operand
pub drawn_operand : (f : Frame) (fixed dyn : List ℕ) (tag : ℕ) (off : ℤ) (k : ℕ) → length fixed ≡ length f.fixed → operand (drawn f fixed dyn) tag off k ≡ operand f tag off k
drawn_operand f fixed dyn tag off k size = ap (λ (o : Option ℕ). cond (tag == 0) (Some (f.dt - k)) o) (drawn_resolve f fixed dyn tag off size)

module _ (f : Frame) (public fixed dyn segment : List ℕ) (sized : Sized f public) (size : length fixed ≡ length f.fixed) (room : length dyn ≡ 512) (whole : length segment ≡ 1041) where
  -- the frame with the bytes of a scene
  abbrev pub other : Frame
  other = drawn f fixed dyn

  -- its segments have their lengths
  pub scene_sized : Sized other segment
  scene_sized = grind arith

  -- bytes at an address in a segment
  pub read_alike : (a n : ℕ) → is_outside f a n ≡ false → Alike (scene_of f fixed dyn segment) (frame_memory f public) a n → bytes_at other segment a n ≡ bytes_at f public a n
  read_alike a n there alike =
      read_any other segment a n scene_sized (drawn_outside f fixed dyn a n size ∙ there) ∙ (from_same (frame_memory other segment) (frame_memory f public) a n alike ∙ sym (read_any f public a n sized there))

  -- bytes of the stack
  pub stack_alike : (k n : ℕ) → dynamic_base + k ≤ f.dt → n ≤ k → Alike (scene_of f fixed dyn segment) (frame_memory f public) (f.dt - k) n → stack_bytes other k n ≡ stack_bytes f k n
  stack_alike k n over less alike =
      stack_is other segment k n scene_sized over less ∙ (from_same (frame_memory other segment) (frame_memory f public) (f.dt - k) n alike ∙ sym (stack_is f public k n sized over less))

  -- a number below the top
  pub number_alike : (k : ℕ) → dynamic_base + k ≤ f.dt → 2 ≤ k → Alike (scene_of f fixed dyn segment) (frame_memory f public) (f.dt - k) 2 → number_below_top other k ≡ number_below_top f k
  number_alike k over less alike = ap num (stack_alike k 2 over less alike)

-- the top n bytes of the stack are known if they were followed
pub top_alike : (z : Scene) (m : Memory) (f : Frame) (n : ℕ) → dynamic_base + n ≤ f.dt → ((a : ℕ) → is_outside f a 1 ≡ false → Among a (numbers_from (f.dt - n) n) → scene_memory z a ≡ m a) → Alike z m (f.dt - n) n
top_alike z m f n enough agrees j less =
    agrees (f.dt - n + j) (stack_inside f (f.dt - n + j) (omega (arith, enough)) (omega (arith, enough, less))) (among_numbers (f.dt - n) n j less)

-- so are those between
pub part_alike : (z : Scene) (m : Memory) (d n k w : ℕ) → n ≤ d → w ≤ k → k ≤ n → Alike z m (d - n) n → Alike z m (d - k) w
part_alike z m d n k w low less in_it alike j under =
    subst (λ (a : ℕ). scene_memory z a ≡ m a) (omega (arith, low, in_it)) (alike (n - k + j) (omega (arith, in_it, less, under)))

-- ---- causes

-- causes after one that holds do not matter
pub first_same : (a : Abend) (b : Bool) (cs ds : List (Abend × Bool)) → (b ≡ false → first_cause cs ≡ first_cause ds) → first_cause ((a, b) ∷ cs) ≡ first_cause ((a, b) ∷ ds)
first_same a true cs ds h = refl
first_same a false cs ds h = h refl
