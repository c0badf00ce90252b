-- Scenes with the values of a choice: its registers stay, and each byte of the choice that lies in a segment is the one
-- that it has in the memory.
use Rattle.std.proofs.Common.{◌≡◌, ◌⊎◌, inl, inr, ℕ, suc, ◌+◌, ◌-◌, ◌*◌, ◌<◌, ◌≤◌, Bool, true, false, cond, List, [], ◌∷◌, length, ℤ, Option, Some, None, refl, sym, ap, ◌∙◌, arith}
use Rattle.std.specs.Prelude.{◌&&◌, ◌==◌, not, is_none, nat_lt, nat_le, filter, slice_index}
use Rattle.std.specs.List.{AllByRecursion}
use Rattle.std.proofs.lemmas.Bool.{and_from, eqb-true, eqb-false, le-leb, lt-ltb, ltb-true, ltb-false, false_from_ne_true}
use Rattle.std.proofs.lemmas.List.{length-replicate}
use Rattle.law_prove.specs.model_device.specs.Bytes.{num, zeros, splice}
use Rattle.law_prove.specs.model_device.specs.Pieces.{touched_words}
use Rattle.law_prove.specs.model_device.proofs.ListLemmas.{length_splice}
use Rattle.law_prove.specs.model_machine.specs.Frame.{Frame, Place, Static, Dynamic, Public, where_is, is_outside, no_access, register, moved_address, dynamic_base, dynamic_end, public_base, public_end, static_bytes, address_at, too_many, passes_limit}
use Rattle.law_prove.specs.model_machine.specs.Primitives.{number_below_top}
use Rattle.law_prove.specs.model_machine.specs.Row.{operand}
use Rattle.law_prove.specs.law_machine.proofs.TouchedWords.{one_piece}
use Rattle.law_prove.specs.model_prove.specs.Facts.{Memory}
use Rattle.law_prove.specs.model_prove.specs.Compares.{bytes_from}
use Rattle.law_prove.specs.model_prove.specs.Laws.{Among, values_in}
use Rattle.law_prove.specs.model_prove.specs.Splits.{Scene, with_byte, with_values}
use Rattle.law_prove.specs.Coverings.{parts_memory, frame_memory}
use Rattle.law_prove.proofs.Windows.{taken_is}
use Rattle.law_prove.proofs.Parts.{not_lt, memory_dynamic, static_same, dynamic_same, public_same, static_new, dynamic_new, public_new}
use Rattle.law_prove.proofs.Acts.{LiesIn, lies_in}
use Rattle.law_prove.proofs.Alike.{Sized, read_is}

-- ---- frames with other bytes

-- a frame with other bytes, of which none wait
abbrev pub with_bytes : Frame → List ℕ → List ℕ → Frame
with_bytes f fixed dyn = record f { name = []; fixed = fixed; pieces = []; dyn = dyn }

-- a scene of a frame with other bytes
abbrev pub scene_of : Frame → List ℕ → List ℕ → List ℕ → Scene
scene_of f fixed dyn public = record { frame = with_bytes f fixed dyn; public = public }

-- bytes for the segments of a frame
pub record Fits (f : Frame) (fixed dyn public : List ℕ) : Type 0 where
  pub small : length f.fixed ≤ dynamic_base
  pub size : length fixed ≡ length f.fixed
  pub room : length dyn ≡ 512
  pub high : f.dt ≤ dynamic_end
  pub whole : 1041 ≤ length public

-- they are those of a frame with the lengths of its segments
pub fits_sized : (f : Frame) (fixed dyn public : List ℕ) → Fits f fixed dyn public → Sized (with_bytes f fixed dyn) public
fits_sized f fixed dyn public fits =
    let small : length f.fixed ≤ dynamic_base = fits.small in
    let size : length fixed ≡ length f.fixed = fits.size in
    record { small = omega (arith, small, size); room = fits.room; high = fits.high; inside = tt; whole = fits.whole }

same_register : (f : Frame) (fixed dyn : List ℕ) (tag : ℕ) → length fixed ≡ length f.fixed → register (with_bytes f fixed dyn) tag ≡ register f tag
same_register f fixed dyn tag size =
    ap (λ (n : ℕ). cond (tag == 1) 0 (cond (tag == 2) n (cond (tag == 3) dynamic_base (cond (tag == 4) f.lb (cond (tag == 5) f.dt (cond (tag == 6) public_base public_end)))))) size

-- the place of an operand is the same
pub same_operand : (f : Frame) (fixed dyn : List ℕ) (tag : ℕ) (off : ℤ) (k : ℕ) → length fixed ≡ length f.fixed → operand (with_bytes f fixed dyn) tag off k ≡ operand f tag off k
same_operand f fixed dyn tag off k size = ap (λ (r : ℕ). cond (tag == 0) (Some (f.dt - k)) (moved_address r off)) (same_register f fixed dyn tag size)

-- so is the place of an access
pub same_where : (f : Frame) (fixed dyn : List ℕ) (a n : ℕ) → length fixed ≡ length f.fixed → where_is (with_bytes f fixed dyn) a n ≡ where_is f a n
same_where f fixed dyn a n size = grind arith

-- whether an access is outside of the segments
pub same_outside : (f : Frame) (fixed dyn : List ℕ) (a n : ℕ) → length fixed ≡ length f.fixed → is_outside (with_bytes f fixed dyn) a n ≡ is_outside f a n
same_outside f fixed dyn a n size = ap (λ (p : Option Place). not (n == 0) && is_none p) (same_where f fixed dyn a n size)

-- so is it of an operand
pub same_access : (f : Frame) (fixed dyn : List ℕ) (o : Option ℕ) (n : ℕ) → length fixed ≡ length f.fixed → no_access (with_bytes f fixed dyn) o n ≡ no_access f o n
same_access f fixed dyn None n size = refl
same_access f fixed dyn (Some a) n size = same_outside f fixed dyn a n size

few_by : (b : Bool) (f : Frame) (fixed dyn : List ℕ) (o : Option Place) (n : ℕ) → n ≤ 256 → passes_limit b (with_bytes f fixed dyn) o n ≡ false
few_by false f fixed dyn o n h = refl
few_by true f fixed dyn None n h = refl
few_by true f fixed dyn (Some (Dynamic i)) n h = refl
few_by true f fixed dyn (Some (Public i)) n h = refl
few_by true f fixed dyn (Some (Static i)) n h =
    let size : length (zeros n) ≡ n = length-replicate {A = ℕ} n 0 in
    let few : length (touched_words ((i, zeros n) ∷ [])) ≤ 33 = one_piece i (zeros n) (omega (arith, size, h)) in
    false_from_ne_true (nat_lt 64 (length (touched_words ((i, zeros n) ∷ [])))) (λ is. let many = ltb-true 64 (length (touched_words ((i, zeros n) ∷ []))) is in omega (arith, many, few))

-- where nothing waits no write passes the limit of words that wait
pub few_wait : (f : Frame) (fixed dyn : List ℕ) (a n : ℕ) → n ≤ 256 → too_many (with_bytes f fixed dyn) a n ≡ false
unfolding too_many
few_wait f fixed dyn a n h = few_by f.protected f fixed dyn (where_is (with_bytes f fixed dyn) a n) n h

-- ---- one byte

-- bytes of which one has a value, and the others are as they were
record OneByte (f : Frame) (z : Scene) (a v : ℕ) (old : Memory) : Type 0 where
  fixed : List ℕ
  dyn : List ℕ
  public : List ℕ
  is : z ≡ scene_of f fixed dyn public
  fits : Fits f fixed dyn public
  there : parts_memory (length f.fixed) fixed dyn public a ≡ v
  others : (b : ℕ) → (b ≡ a → ⊥) → parts_memory (length f.fixed) fixed dyn public b ≡ old b

beside_by : (p : Bool) (b a : ℕ) → nat_lt b a ≡ p → (b ≡ a → ⊥) → (b < a) ⊎ (a + 1 ≤ b)
beside_by true b a e other = inl (ltb-true b a e)
beside_by false b a e other = let more = ltb-false b a e in inr (omega (arith, more, other))

beside : (b a : ℕ) → (b ≡ a → ⊥) → (b < a) ⊎ (a + 1 ≤ b)
beside b a other = beside_by (nat_lt b a) b a refl other

byte_at : (f : Frame) (fixed dyn public : List ℕ) (a v : ℕ) (p : Place) → LiesIn f a 1 p → Fits f fixed dyn public → OneByte f (with_byte (scene_of f fixed dyn public) (a, v)) a v (parts_memory (length f.fixed) fixed dyn public)
byte_at f fixed dyn public a v (Static i) lies fits =
    let n = length f.fixed in
    let b = v ∷ [] in
    let size : length fixed ≡ n = fits.size in
    let low : a + 1 ≤ n = lies.1 in
    let there : a ≤ length fixed = omega (arith, size, low) in
    let here : a ≡ a + 0 = omega arith in
    let one : Scene = scene_of f (splice fixed a b) dyn public in
    let rest : Scene = cond (nat_lt a public_base) (scene_of f fixed (splice dyn (a - dynamic_base) b) public) (scene_of f fixed dyn (splice public (a - public_base) b)) in
    record {
      fixed = splice fixed a b;
      dyn = dyn;
      public = public;
      is = ap (λ (x : Bool). cond {A = Scene} x one rest) (lt-ltb a (length fixed) (omega (arith, size, low)));
      fits = record { small = fits.small; size = length_splice fixed a b (omega (arith, size, low)) ∙ size; room = fits.room; high = fits.high; whole = fits.whole };
      there = ap (parts_memory n (splice fixed a b) dyn public) here ∙ static_new n fixed dyn public b a 0 there low (omega arith);
      others = λ x other. sym (static_same n fixed dyn public b a there x (beside x a other));
    }
byte_at f fixed dyn public a v (Dynamic i) lies fits =
    let n = length f.fixed in
    let b = v ∷ [] in
    let j = a - dynamic_base in
    let size : length fixed ≡ n = fits.size in
    let small : n ≤ dynamic_base = fits.small in
    let room : length dyn ≡ 512 = fits.room in
    let top : f.dt ≤ dynamic_end = fits.high in
    let place : a ≡ dynamic_base + i = lies.0 in
    let high : a + 1 ≤ f.dt = lies.1 in
    let at : a ≡ dynamic_base + j = omega (arith, place) in
    let there : j ≤ length dyn = omega (arith, place, high, top, room) in
    let here : a ≡ a + 0 = omega arith in
    let one : Scene = scene_of f (splice fixed a b) dyn public in
    let two : Scene = scene_of f fixed (splice dyn j b) public in
    let three : Scene = scene_of f fixed dyn (splice public (a - public_base) b) in
    record {
      fixed = fixed;
      dyn = splice dyn j b;
      public = public;
      is = ap (λ (x : Bool). cond {A = Scene} x one (cond {A = Scene} (nat_lt a public_base) two three)) (not_lt a (length fixed) (omega (arith, size, small, place)))
          ∙ ap (λ (x : Bool). cond {A = Scene} x two three) (lt-ltb a public_base (omega (arith, high, top)));
      fits = record { small = small; size = size; room = length_splice dyn j b (omega (arith, place, high, top, room)) ∙ room; high = top; whole = fits.whole };
      there = ap (parts_memory n fixed (splice dyn j b) public) here ∙ dynamic_new n fixed dyn public b a j 0 at small there (omega (arith, place, high, top)) (omega arith);
      others = λ x other. sym (dynamic_same n fixed dyn public b a j at there x (beside x a other));
    }
byte_at f fixed dyn public a v (Public i) lies fits =
    let n = length f.fixed in
    let b = v ∷ [] in
    let j = a - public_base in
    let size : length fixed ≡ n = fits.size in
    let small : n ≤ dynamic_base = fits.small in
    let whole : 1041 ≤ length public = fits.whole in
    let place : a ≡ public_base + i = lies.0 in
    let high : a + 1 ≤ public_end = lies.1 in
    let at : a ≡ public_base + j = omega (arith, place) in
    let there : j ≤ length public = omega (arith, place, high, whole) in
    let here : a ≡ a + 0 = omega arith in
    let count : length (splice public j b) ≡ length public = length_splice public j b (omega (arith, place, high, whole)) in
    let one : Scene = scene_of f (splice fixed a b) dyn public in
    let two : Scene = scene_of f fixed (splice dyn (a - dynamic_base) b) public in
    let three : Scene = scene_of f fixed dyn (splice public j b) in
    record {
      fixed = fixed;
      dyn = dyn;
      public = splice public j b;
      is = ap (λ (x : Bool). cond {A = Scene} x one (cond {A = Scene} (nat_lt a public_base) two three)) (not_lt a (length fixed) (omega (arith, size, small, place)))
          ∙ ap (λ (x : Bool). cond {A = Scene} x two three) (not_lt a public_base (omega (arith, place)));
      fits = record { small = small; size = size; room = fits.room; high = fits.high; whole = omega (arith, whole, count) };
      there = ap (parts_memory n fixed dyn (splice public j b)) here ∙ public_new n fixed dyn public b a j 0 at small there (omega arith);
      others = λ x other. sym (public_same n fixed dyn public b a j at there x (beside x a other));
    }

byte_by : (f : Frame) (fixed dyn public : List ℕ) (a v : ℕ) (o : Option Place) → where_is f a 1 ≡ o → is_none o ≡ false → Fits f fixed dyn public → OneByte f (with_byte (scene_of f fixed dyn public) (a, v)) a v (parts_memory (length f.fixed) fixed dyn public)
byte_by f fixed dyn public a v None e some fits = absurd (cc some)
byte_by f fixed dyn public a v (Some p) e some fits = byte_at f fixed dyn public a v p (lies_in f a 1 p e) fits

-- ---- all bytes of a choice

-- a scene whose bytes are those of a memory at some places, and where they already were
pub record Standing (f : Frame) (z : Scene) (m old : Memory) (places : List ℕ) : Type 0 where
  pub fixed : List ℕ
  pub dyn : List ℕ
  pub public : List ℕ
  pub is : z ≡ scene_of f fixed dyn public
  pub fits : Fits f fixed dyn public
  pub agrees : (b : ℕ) → (old b ≡ m b) ⊎ Among b places → parts_memory (length f.fixed) fixed dyn public b ≡ m b

kept_by : (p : Bool) (new old m : Memory) (a b : ℕ) → (b == a) ≡ p → new a ≡ m a → ((c : ℕ) → (c ≡ a → ⊥) → new c ≡ old c) → old b ≡ m b → new b ≡ m b
kept_by true new old m a b e there others is = let same : a ≡ b = sym (eqb-true b a e) in rw (← same) there
kept_by false new old m a b e there others is = others b (eqb-false b a e) ∙ is

one_less : (new old m : Memory) (a b : ℕ) (places : List ℕ) → new a ≡ m a → ((c : ℕ) → (c ≡ a → ⊥) → new c ≡ old c) → (old b ≡ m b) ⊎ Among b (a ∷ places) → (new b ≡ m b) ⊎ Among b places
one_less new old m a b places there others o =
    elim o [
      | inl is ↦ inl (kept_by (b == a) new old m a b refl there others is)
      | inr among ↦
          elim among [
            | inl same ↦ inl (rw (← same) there)
            | inr more ↦ inr more
          ]
    ]

-- after the values of a choice, each of which lies in a segment, the scene has them
pub values_stand : (f : Frame) (m : Memory) (places fixed dyn public : List ℕ) → Fits f fixed dyn public → AllByRecursion (λ a. is_outside f a 1 ≡ false) places
    → Standing f (with_values (scene_of f fixed dyn public) (values_in m places)) m (parts_memory (length f.fixed) fixed dyn public) places
values_stand f m [] fixed dyn public fits all =
    record { fixed = fixed; dyn = dyn; public = public; is = refl; fits = fits; agrees = λ b o. elim o [ inl is ↦ is | inr none ↦ absurd none ] }
values_stand f m (a ∷ places) fixed dyn public fits all =
    let old : Memory = parts_memory (length f.fixed) fixed dyn public in
    let one : OneByte f (with_byte (scene_of f fixed dyn public) (a, m a)) a (m a) old = byte_by f fixed dyn public a (m a) (where_is f a 1) refl all.0 fits in
    let new : Memory = parts_memory (length f.fixed) one.fixed one.dyn one.public in
    let rest : Standing f (with_values (scene_of f one.fixed one.dyn one.public) (values_in m places)) m new places = values_stand f m places one.fixed one.dyn one.public one.fits all.1 in
    record {
      fixed = rest.fixed;
      dyn = rest.dyn;
      public = rest.public;
      is = ap (λ (z : Scene). with_values z (values_in m places)) one.is ∙ rest.is;
      fits = rest.fits;
      agrees = λ b o. rest.agrees b (one_less new old m a b places one.there one.others o);
    }

-- ---- places in a segment

kept_inside : (b : Bool) (test : ℕ → Bool) (a : ℕ) (rest : List ℕ) → test a ≡ b → AllByRecursion (λ a. test a ≡ false) rest → AllByRecursion (λ a. test a ≡ false) (cond (not b) (a ∷ rest) rest)
kept_inside true test a rest e all = all
kept_inside false test a rest e all = (e, all)

-- the places that are kept are in a segment
pub all_inside : (test : ℕ → Bool) (places : List ℕ) → AllByRecursion (λ a. test a ≡ false) (filter (λ a. not (test a)) places)
all_inside test [] = tt
all_inside test (a ∷ places) = kept_inside (test a) test a (filter (λ a. not (test a)) places) refl (all_inside test places)

all_other : (test other : ℕ → Bool) (places : List ℕ) → ((a : ℕ) → test a ≡ other a) → AllByRecursion (λ a. test a ≡ false) places → AllByRecursion (λ a. other a ≡ false) places
all_other test other [] same all = tt
all_other test other (a ∷ places) same all = (sym (same a) ∙ all.0, all_other test other places same all.1)

-- so they are in the frame's
pub all_inside_of : (test other : ℕ → Bool) (places : List ℕ) → ((a : ℕ) → test a ≡ other a) → AllByRecursion (λ a. other a ≡ false) (filter (λ a. not (test a)) places)
all_inside_of test other places same = all_other test other (filter (λ a. not (test a)) places) same (all_inside test places)

among_if : (x : Bool) (a b : ℕ) (rest : List ℕ) → x ≡ false → (a ≡ b) ⊎ Among b rest → Among b (cond (not x) (a ∷ rest) rest)
among_if true a b rest e o = absurd (cc e)
among_if false a b rest e o = o

among_rest : (x : Bool) (a b : ℕ) (rest : List ℕ) → Among b rest → Among b (cond (not x) (a ∷ rest) rest)
among_rest true a b rest h = h
among_rest false a b rest h = inr h

-- a place in a segment is kept
pub among_inside : (test : ℕ → Bool) (b : ℕ) (places : List ℕ) → Among b places → test b ≡ false → Among b (filter (λ a. not (test a)) places)
among_inside test b [] h e = absurd h
among_inside test b (a ∷ places) h e =
    elim h [
      | inl is ↦ among_if (test a) a b (filter (λ a. not (test a)) places) (ap test is ∙ e) (inl is)
      | inr more ↦ among_rest (test a) a b (filter (λ a. not (test a)) places) (among_inside test b places more e)
    ]

-- ---- numbers of two bytes

-- the number of two bytes of a memory
abbrev pub pair_in : Memory → ℕ → ℕ
pair_in m a = num (bytes_from m a 2)

-- it is its first byte times 256, and its second
pub pair_is : (m : Memory) (a : ℕ) → pair_in m a ≡ m a * 256 + m (suc a)
pair_is m a = grind arith

-- two memories with the same two bytes
pub same_pair : (m k : Memory) (a : ℕ) → m a ≡ k a → m (suc a) ≡ k (suc a) → pair_in m a ≡ pair_in k a
same_pair m k a first second = ap (λ (x : ℕ). num (x ∷ m (suc a) ∷ [])) first ∙ ap (λ (y : ℕ). num (k a ∷ y ∷ [])) second

-- the address at a place in a segment
pub address_is : (f : Frame) (public : List ℕ) (a : ℕ) → Sized f public → is_outside f a 2 ≡ false → address_at f public a ≡ pair_in (frame_memory f public) a
address_is f public a sized there = ap num (read_is f public a 2 sized refl there)

-- the number of two bytes of the stack
pub below_is : (f : Frame) (public : List ℕ) (k : ℕ) → Sized f public → dynamic_base + k ≤ f.dt → 2 ≤ k → number_below_top f k ≡ pair_in (frame_memory f public) (f.dt - k)
below_is f public k sized over some =
    let small : length f.fixed ≤ dynamic_base = sized.small in
    let room : length f.dyn ≡ 512 = sized.room in
    let high : f.dt ≤ dynamic_end = sized.high in
    let a = f.dt - k in
    let i = a - dynamic_base in
    let m : Memory = frame_memory f public in
    let next : suc a - dynamic_base ≡ suc i = omega (arith, over) in
    let byte : (b : ℕ) → dynamic_base ≤ b → b < public_base → m b ≡ slice_index f.dyn (b - dynamic_base) = λ b low less. memory_dynamic (length f.fixed) (static_bytes f) f.dyn public b small low less in
    let first : m a ≡ slice_index f.dyn i = byte a (omega (arith, over)) (omega (arith, over, high)) in
    let second : m (suc a) ≡ slice_index f.dyn (suc i) = byte (suc a) (omega (arith, over)) (omega (arith, over, high, some)) ∙ ap (λ (j : ℕ). slice_index f.dyn j) next in
    ap num (taken_is f.dyn i 2 (omega (arith, over, room, high, some)))
    ∙ (ap (λ (x : ℕ). num (x ∷ slice_index f.dyn (suc i) ∷ [])) (sym first) ∙ ap (λ (y : ℕ). num (m a ∷ y ∷ [])) (sym second))

-- ---- parts of an access

some_first : (x y z : Bool) (p q r : Place) → x ≡ true → is_none (cond x (Some p) (cond y (Some q) (cond z (Some r) None))) ≡ false
some_first true y z p q r e = refl
some_first false y z p q r e = absurd (cc e)

some_second : (x y z : Bool) (p q r : Place) → y ≡ true → is_none (cond x (Some p) (cond y (Some q) (cond z (Some r) None))) ≡ false
some_second x y z p q r e = grind arith

some_third : (x y z : Bool) (p q r : Place) → z ≡ true → is_none (cond x (Some p) (cond y (Some q) (cond z (Some r) None))) ≡ false
some_third x y z p q r e = grind arith

part_at : (f : Frame) (a n x k : ℕ) (p : Place) → LiesIn f a n p → a ≤ x → x + k ≤ a + n → is_none (where_is f x k) ≡ false
part_at f a n x k (Static i) lies low high =
    let fits : a + n ≤ length f.fixed = lies.1 in
    some_first (nat_le (x + k) (length f.fixed)) (nat_le dynamic_base x && nat_le (x + k) f.dt) (nat_le public_base x && nat_le (x + k) public_end) (Static x) (Dynamic (x - dynamic_base)) (Public (x - public_base))
    (le-leb (x + k) (length f.fixed) (omega (arith, fits, high)))
part_at f a n x k (Dynamic i) lies low high =
    let at : a ≡ dynamic_base + i = lies.0 in
    let fits : a + n ≤ f.dt = lies.1 in
    some_second (nat_le (x + k) (length f.fixed)) (nat_le dynamic_base x && nat_le (x + k) f.dt) (nat_le public_base x && nat_le (x + k) public_end) (Static x) (Dynamic (x - dynamic_base)) (Public (x - public_base))
    (and_from (nat_le dynamic_base x) (nat_le (x + k) f.dt) (le-leb dynamic_base x (omega (arith, at, low))) (le-leb (x + k) f.dt (omega (arith, fits, high))))
part_at f a n x k (Public i) lies low high =
    let at : a ≡ public_base + i = lies.0 in
    let fits : a + n ≤ public_end = lies.1 in
    some_third (nat_le (x + k) (length f.fixed)) (nat_le dynamic_base x && nat_le (x + k) f.dt) (nat_le public_base x && nat_le (x + k) public_end) (Static x) (Dynamic (x - dynamic_base)) (Public (x - public_base))
    (and_from (nat_le public_base x) (nat_le (x + k) public_end) (le-leb public_base x (omega (arith, at, low))) (le-leb (x + k) public_end (omega (arith, fits, high))))

part_by : (f : Frame) (a n x k : ℕ) (o : Option Place) → where_is f a n ≡ o → is_none o ≡ false → a ≤ x → x + k ≤ a + n → is_none (where_is f x k) ≡ false
part_by f a n x k None is some low high = absurd (cc some)
part_by f a n x k (Some p) is some low high = part_at f a n x k p (lies_in f a n p is) low high

-- bytes of an access in a segment are in it
pub part_inside : (f : Frame) (a n x k : ℕ) → is_none (where_is f a n) ≡ false → a ≤ x → x + k ≤ a + n → is_none (where_is f x k) ≡ false
part_inside f a n x k some low high = part_by f a n x k (where_is f a n) refl some low high

-- bytes of the stack below DT are in a segment
pub stack_inside : (f : Frame) (a : ℕ) → dynamic_base ≤ a → a < f.dt → is_outside f a 1 ≡ false
stack_inside f a low high = grind (arith, part_at)
