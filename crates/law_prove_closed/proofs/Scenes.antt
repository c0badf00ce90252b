-- Scenes: the frame that stands for a place, with bytes of the memory put in, has these bytes and the registers.
use Rattle.std.proofs.Common.{◌≡◌, ◌⊎◌, inl, inr, ℕ, zero, suc, ◌+◌, ◌-◌, ◌<◌, ◌≤◌, Bool, true, false, cond, List, [], ◌∷◌, ◌++◌, length, Option, Some, None, refl, sym, ap, subst, ◌∙◌, arith}
use Rattle.std.specs.Prelude.{not, ◌==◌, ◌&&◌, nat_lt, is_none, slice_index}
use Rattle.std.specs.List.{AllByRecursion}
use Rattle.std.proofs.lemmas.Bool.{lt-ltb}
use Rattle.law_prove.specs.model_device.specs.Bytes.{splice}
use Rattle.law_prove.specs.model_device.proofs.ListLemmas.{length_splice}
use Rattle.law_prove.specs.model_machine.specs.Frame.{Frame, Place, Static, Dynamic, Public, where_is, is_outside, dynamic_base, dynamic_end, public_base, public_end, static_bytes, stack_bytes}
use Rattle.law_prove.specs.model_prove.specs.Sets.{numbers_from}
use Rattle.law_prove.specs.model_prove.specs.Facts.{Facts, Memory, Holds, know}
use Rattle.law_prove.specs.model_prove.specs.Compares.{bytes_from}
use Rattle.law_prove.specs.model_prove.specs.Laws.{Among, values_in}
use Rattle.law_prove.specs.model_prove.specs.Splits.{Scene, Choice, with_byte, with_values}
use Rattle.law_prove.specs.model_prove.specs.Steps.{Spot, with_facts, inside, chosen}
use Rattle.law_prove.specs.model_prove.proofs.ChangeLemmas.{written_holds}
use Rattle.law_prove.specs.model_prove.proofs.SetLemmas.{is_first}
use Rattle.law_prove.specs.Coverings.{parts_memory, frame_memory}
use Rattle.law_prove.proofs.Parts.{not_lt, memory_dynamic, static_same, static_new, dynamic_same, dynamic_new, public_same, public_new}
use Rattle.law_prove.proofs.Windows.{taken_is}
use Rattle.law_prove.proofs.Acts.{LiesIn, lies_in}
use Rattle.law_prove.proofs.Alike.{Sized, bytes_window}

-- a frame with these segments, where nothing waits
abbrev pub drawn : Frame → List ℕ → List ℕ → Frame
drawn f fixed dyn = record f { name = []; fixed = fixed; pieces = []; dyn = dyn }

-- a scene of a frame, with these segments
abbrev pub scene_of : Frame → List ℕ → List ℕ → List ℕ → Scene
scene_of f fixed dyn public = record { frame = drawn f fixed dyn; public = public }

-- the bytes of a scene
abbrev pub scene_memory : Scene → Memory
scene_memory z = frame_memory z.frame z.public

-- A scene of a frame: its registers, and segments of the same lengths.
pub record IsScene (f : Frame) (z : Scene) : Type 0 where
  pub fixed : List ℕ
  pub dyn : List ℕ
  pub is : z ≡ scene_of f fixed dyn z.public
  pub size : length fixed ≡ length f.fixed
  pub room : length dyn ≡ 512
  pub whole : length z.public ≡ 1041

-- ---- a byte is put in

-- A scene in which a byte at an address has a value, and all others are those of another scene.
pub record Redrawn (f : Frame) (z w : Scene) (a v : ℕ) : Type 0 where
  pub scene : IsScene f w
  pub new : scene_memory w a ≡ v
  pub same : (b : ℕ) → (b < a) ⊎ (a + 1 ≤ b) → scene_memory z b ≡ scene_memory w b

module _ (f : Frame) (fixed dyn public : List ℕ) (small : length f.fixed ≤ dynamic_base) (high : f.dt ≤ dynamic_end) (size : length fixed ≡ length f.fixed) (room : length dyn ≡ 512) (whole : length public ≡ 1041) (a v : ℕ) where
  abbrev old : Scene
  old = scene_of f fixed dyn public

  abbrev one : Scene
  one = scene_of f (splice fixed a (v ∷ [])) dyn public

  abbrev two : Scene
  two = scene_of f fixed (splice dyn (a - dynamic_base) (v ∷ [])) public

  abbrev three : Scene
  three = scene_of f fixed dyn (splice public (a - public_base) (v ∷ []))

  here : a + 0 ≡ a
  here = omega arith

  redrawn_static : a + 1 ≤ length f.fixed → Redrawn f old one a v
  redrawn_static fits =
      let b = v ∷ [] in
      let longer : length (splice fixed a b) ≡ length fixed = length_splice fixed a b (omega (arith, fits, size)) in
      let memory : Memory = scene_memory one in
      record {
        scene = record { fixed = splice fixed a b; dyn = dyn; is = refl; size = longer ∙ size; room = room; whole = whole };
        new = ap memory (sym here) ∙ static_new (length (splice fixed a b)) fixed dyn public b a 0 (omega (arith, fits, size)) (omega (arith, fits, size, longer)) (omega arith);
        same = λ x o. static_same (length fixed) fixed dyn public b a (omega (arith, fits, size)) x o ∙ ap (λ (n : ℕ). parts_memory n (splice fixed a b) dyn public x) (sym longer);
      }

  redrawn_dynamic : dynamic_base ≤ a → a + 1 ≤ f.dt → Redrawn f old two a v
  redrawn_dynamic low fits =
      let b = v ∷ [] in
      let j = a - dynamic_base in
      let at : a ≡ dynamic_base + j = omega (arith, low) in
      let less : j + 1 ≤ 512 = omega (arith, low, fits, high) in
      let longer : length (splice dyn j b) ≡ length dyn = length_splice dyn j b (omega (arith, less, room)) in
      record {
        scene = record { fixed = fixed; dyn = splice dyn j b; is = refl; size = size; room = longer ∙ room; whole = whole };
        new = ap (scene_memory two) (sym here) ∙ dynamic_new (length fixed) fixed dyn public b a j 0 at (omega (arith, small, size)) (omega (arith, less, room)) less (omega arith);
        same = λ x o. dynamic_same (length fixed) fixed dyn public b a j at (omega (arith, less, room)) x o;
      }

  redrawn_public : public_base ≤ a → a + 1 ≤ public_end → Redrawn f old three a v
  redrawn_public low fits =
      let b = v ∷ [] in
      let j = a - public_base in
      let at : a ≡ public_base + j = omega (arith, low) in
      let longer : length (splice public j b) ≡ length public = length_splice public j b (omega (arith, low, fits, whole)) in
      record {
        scene = record { fixed = fixed; dyn = dyn; is = refl; size = size; room = room; whole = longer ∙ whole };
        new = ap (scene_memory three) (sym here) ∙ public_new (length fixed) fixed dyn public b a j 0 at (omega (arith, small, size)) (omega (arith, low, fits, whole)) (omega arith);
        same = λ x o. public_same (length fixed) fixed dyn public b a j at (omega (arith, low, fits, whole)) x o;
      }

  -- whichever segment has it
  redrawn_in : (p : Place) → LiesIn f a 1 p → Redrawn f old (with_byte old (a, v)) a v
  redrawn_in (Static i) lies =
      let fits : a + 1 ≤ length f.fixed = lies.1 in
      let is : nat_lt a (length fixed) ≡ true = lt-ltb a (length fixed) (omega (arith, fits, size)) in
      subst (λ (b : Bool). Redrawn f old (cond {A = Scene} b one (cond {A = Scene} (nat_lt a public_base) two three)) a v) (sym is) (redrawn_static fits)
  redrawn_in (Dynamic i) lies = grind (arith, fixed, not_lt, size, lt-ltb, redrawn_dynamic)
  redrawn_in (Public i) lies = grind (arith, fixed, not_lt, size, redrawn_public)

  redrawn_by : (o : Option Place) → where_is f a 1 ≡ o → (not (1 == 0) && is_none o) ≡ false → Redrawn f old (with_byte old (a, v)) a v
  redrawn_by None is there = absurd (cc there)
  redrawn_by (Some p) is there = redrawn_in p (lies_in f a 1 p is)

-- a byte that lies in a segment is put in
pub redraw : (f : Frame) (z : Scene) (a v : ℕ) → length f.fixed ≤ dynamic_base → f.dt ≤ dynamic_end → is_outside f a 1 ≡ false → IsScene f z → Redrawn f z (with_byte z (a, v)) a v
redraw f z a v small high there scene =
    subst (λ (w : Scene). Redrawn f w (with_byte w (a, v)) a v) (sym scene.is)
    (redrawn_by f scene.fixed scene.dyn z.public small high scene.size scene.room scene.whole a v (where_is f a 1) refl there)

-- ---- bytes of the memory are put in

-- all of some bytes lie in segments
abbrev pub AllInside : Frame → List ℕ → Type 0
AllInside f places = AllByRecursion (λ a. is_outside f a 1 ≡ false) places

-- A scene that has some bytes of the memory, and those that another has of it.
pub record Agrees (f : Frame) (z w : Scene) (m : Memory) (places : List ℕ) : Type 0 where
  pub scene : IsScene f w
  pub kept : (b : ℕ) → scene_memory z b ≡ m b → scene_memory w b ≡ m b
  pub there : (b : ℕ) → Among b places → scene_memory w b ≡ m b

same_or_apart : (b a : ℕ) → (b ≡ a) ⊎ ((b < a) ⊎ (a + 1 ≤ b))
same_or_apart b a = grind arith

kept_one : (f : Frame) (z w : Scene) (m : Memory) (a b : ℕ) → Redrawn f z w a (m a) → scene_memory z b ≡ m b → scene_memory w b ≡ m b
kept_one f z w m a b one h = grind (arith, same_or_apart)

-- the values that some bytes have
pub agreeing : (f : Frame) (m : Memory) (places : List ℕ) (z : Scene) → length f.fixed ≤ dynamic_base → f.dt ≤ dynamic_end → AllInside f places → IsScene f z → Agrees f z (with_values z (values_in m places)) m places
agreeing f m [] z small high all scene = record { scene = scene; kept = λ b e. e; there = λ b h. absurd h }
agreeing f m (a ∷ places) z small high all scene =
    let w : Scene = with_byte z (a, m a) in
    let one : Redrawn f z w a (m a) = redraw f z a (m a) small high all.0 scene in
    let rest : Agrees f w (with_values w (values_in m places)) m places = agreeing f m places w small high all.1 one.scene in
    record {
      scene = rest.scene;
      kept = λ b e. rest.kept b (kept_one f z w m a b one e);
      there = grind arith;
    }

-- what is outside of the segments of a scene is outside of the frame's
pub drawn_where : (f : Frame) (fixed dyn : List ℕ) (a n : ℕ) → length fixed ≡ length f.fixed → where_is (drawn f fixed dyn) a n ≡ where_is f a n
drawn_where f fixed dyn a n size = grind arith

-- a frame with other bytes has the same addresses outside of its segments
pub drawn_outside : (f : Frame) (fixed dyn : List ℕ) (a n : ℕ) → length fixed ≡ length f.fixed → is_outside (drawn f fixed dyn) a n ≡ is_outside f a n
drawn_outside f fixed dyn a n size = ap (λ (o : Option Place). not (n == 0) && is_none o) (drawn_where f fixed dyn a n size)

-- a scene of a frame has the same addresses outside of its segments
pub scene_outside : (f : Frame) (z : Scene) (a n : ℕ) → IsScene f z → is_outside z.frame a n ≡ is_outside f a n
scene_outside f z a n scene = ap (λ (w : Scene). is_outside w.frame a n) scene.is ∙ drawn_outside f scene.fixed scene.dyn a n scene.size

inside_by : (b : Bool) (f : Frame) (a : ℕ) (places : List ℕ) → is_outside f a 1 ≡ b → AllInside f places → AllInside f (cond (not b) (a ∷ places) places)
inside_by true f a places e h = h
inside_by false f a places e h = (e, h)

-- the bytes of a list that lie in a segment of a scene lie in one of the frame
pub all_inside : (f : Frame) (z : Scene) (places : List ℕ) → IsScene f z → AllInside f (inside z places)
all_inside f z [] scene = tt
all_inside f z (a ∷ places) scene = inside_by (is_outside z.frame a 1) f a (inside z places) (sym (scene_outside f z a 1 scene)) (all_inside f z places scene)

kept_by : (b : Bool) (x a : ℕ) (places rest : List ℕ) → (a ≡ x → b ≡ false) → (a ≡ x) ⊎ Among x places → (Among x places → Among x rest) → Among x (cond (not b) (a ∷ rest) rest)
kept_by true x a places rest e h more =
    elim h [
      | inl is ↦ absurd (cc (e is))
      | inr h ↦ more h
    ]
kept_by false x a places rest e h more =
    elim h [
      | inl is ↦ inl is
      | inr h ↦ inr (more h)
    ]

-- a byte of the list that lies in a segment is among them
pub among_inside : (f : Frame) (z : Scene) (x : ℕ) (places : List ℕ) → IsScene f z → is_outside f x 1 ≡ false → Among x places → Among x (inside z places)
among_inside f z x [] scene there h = absurd h
among_inside f z x (a ∷ places) scene there h =
    kept_by (is_outside z.frame a 1) x a places (inside z places) (λ is. scene_outside f z a 1 scene ∙ (ap (λ (b : ℕ). is_outside f b 1) is ∙ there)) h (among_inside f z x places scene there)

-- a number of a run is among its numbers
pub among_numbers : (a n j : ℕ) → j < n → Among (a + j) (numbers_from a n)
among_numbers a zero j h = absurd (omega (arith, h))
among_numbers a (suc n) zero h = inl (omega arith)
among_numbers a (suc n) (suc j) h =
    inr (subst (λ (x : ℕ). Among x (numbers_from (suc a) n)) (omega arith) (among_numbers (suc a) n j (omega (arith, h))))

-- two lists of places inside the segments are so together
pub all_both : (f : Frame) (xs ys : List ℕ) → AllInside f xs → AllInside f ys → AllInside f (xs ++ ys)
all_both f [] ys h k = k
all_both f (x ∷ xs) ys h k = (h.0, all_both f xs ys h.1 k)

-- the values at two lists of places are those at both together
pub values_both : (m : Memory) (xs ys : List ℕ) → values_in m xs ++ values_in m ys ≡ values_in m (xs ++ ys)
values_both m [] ys = refl
values_both m (x ∷ xs) ys = ap (λ (c : Choice). (x, m x) ∷ c) (values_both m xs ys)

-- ---- what is known

-- What is known after a choice of the values that some bytes have.
pub record Choosing (m : Memory) (places : List ℕ) (p : Spot) : Type 0 where
  pub facts : Facts
  pub is : chosen (values_in m places) p ≡ with_facts p facts
  pub holds : Holds facts m

-- the facts of a place with the values of a memory at some places hold of that memory
pub choosing : (m : Memory) (places : List ℕ) (p : Spot) → Holds p.known.bytes m → Choosing m places p
choosing m [] p h = record { facts = p.known.bytes; is = refl; holds = h }
choosing m (a ∷ places) p h =
    grind (arith, with_facts p (know a (m a ∷ []) p.known.bytes), choosing m places (with_facts p (know a (m a ∷ []) p.known.bytes)) (written_holds a ((m a ∷ []) ∷ []) p.known.bytes m m (λ b o. refl) (is_first (m a) [], tt) h))

-- ---- what is read

-- bytes that are the same one by one
pub from_same : (m k : Memory) (a n : ℕ) → ((j : ℕ) → j < n → m (a + j) ≡ k (a + j)) → bytes_from m a n ≡ bytes_from k a n
from_same m k a zero same = refl
from_same m k a (suc n) same =
    let first : a ≡ a + 0 = omega arith in
    let is : m a ≡ k a = ap m first ∙ (same 0 (omega arith) ∙ ap k (sym first)) in
    let rest : bytes_from m (suc a) n ≡ bytes_from k (suc a) n = from_same m k (suc a) n (λ j low.
    let next : suc a + j ≡ a + suc j = omega arith in
    ap m next ∙ (same (suc j) (omega (arith, low)) ∙ ap k (sym next)))
    in
    ap (λ (b : ℕ). b ∷ bytes_from m (suc a) n) is ∙ ap (λ (l : List ℕ). k a ∷ l) rest

-- bytes of the stack are those of the memory
pub stack_is : (f : Frame) (public : List ℕ) (k n : ℕ) → Sized f public → dynamic_base + k ≤ f.dt → n ≤ k → stack_bytes f k n ≡ bytes_from (frame_memory f public) (f.dt - k) n
stack_is f public k n z over less =
    let small : length f.fixed ≤ dynamic_base = z.small in
    let room : length f.dyn ≡ 512 = z.room in
    let high : f.dt ≤ dynamic_end = z.high in
    let i = f.dt - k - dynamic_base in
    taken_is f.dyn i n (omega (arith, over, room, high, less))
    ∙ sym (bytes_window (frame_memory f public) f.dyn (f.dt - k) i n (λ j low.
    let place : f.dt - k + j - dynamic_base ≡ i + j = omega (arith, over) in
    memory_dynamic (length f.fixed) (static_bytes f) f.dyn public (f.dt - k + j) small (omega (arith, over)) (omega (arith, over, low, less, high)) ∙ ap (λ (x : ℕ). slice_index f.dyn x) place))
