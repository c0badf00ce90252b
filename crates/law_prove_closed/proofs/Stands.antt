-- Scenes that stand for a frame: their registers are its own, and once the values of some bytes were set they have them.
use Rattle.std.proofs.Common.{◌≡◌, ◌⊎◌, inl, inr, ℕ, ◌+◌, ◌-◌, ◌<◌, ◌≤◌, Bool, true, false, cond, List, [], ◌∷◌, ◌++◌, length, Option, Some, None, refl, sym, ap, subst, ◌∙◌, arith}
use Rattle.std.specs.Prelude.{◌==◌, ◌&&◌, not, nat_lt, nat_le, is_none, filter}
use Rattle.std.specs.List.{AllByRecursion}
use Rattle.std.proofs.lemmas.Bool.{lt-ltb, ltb-true, ltb-false}
use Rattle.law_prove.specs.model_device.specs.Bytes.{splice}
use Rattle.law_prove.specs.model_device.specs.Pieces.{laid_pieces}
use Rattle.law_prove.specs.model_device.proofs.ListLemmas.{length_splice, splice_longer}
use Rattle.law_prove.specs.model_machine.specs.Frame.{Frame, Place, Static, Dynamic, Public, where_is, is_outside, dynamic_base, dynamic_end, public_base, public_end}
use Rattle.law_prove.specs.law_rows.specs.Keeping.{PiecesWithin}
use Rattle.law_prove.specs.model_prove.specs.Facts.{Facts, Memory, Holds, know}
use Rattle.law_prove.specs.model_prove.specs.Laws.{Among, values_in}
use Rattle.law_prove.specs.model_prove.specs.Splits.{Scene, Choice, with_byte, with_values}
use Rattle.law_prove.specs.model_prove.specs.Steps.{Spot, with_facts, chosen}
use Rattle.law_prove.specs.model_prove.proofs.ChangeLemmas.{written_holds}
use Rattle.law_prove.specs.model_prove.proofs.SetLemmas.{is_first}
use Rattle.law_prove.specs.Coverings.{parts_memory, frame_memory}
use Rattle.law_prove.proofs.Parts.{not_lt, static_same, dynamic_same, public_same, static_new, dynamic_new, public_new}
use Rattle.law_prove.proofs.Acts.{LiesIn, lies_in}
use Rattle.law_prove.proofs.Alike.{Sized}

-- ---- a scene for a frame

-- A scene has the registers of a frame and as many bytes in each segment, and nothing waits in it.
pub record Stands (z : Scene) (f : Frame) : Type 0 where
  pub dt : z.frame.dt ≡ f.dt
  pub session : z.frame.session ≡ f.session
  pub deny : z.frame.deny ≡ f.deny
  pub size : length z.frame.fixed ≡ length f.fixed
  pub pieces : z.frame.pieces ≡ []
  pub room : length z.frame.dyn ≡ 512
  pub whole : 1041 ≤ length z.public

-- the place of n bytes at an address, by the number of static bytes and DT
abbrev pub place_in : ℕ → ℕ → ℕ → ℕ → Option Place
place_in size dt a n =
    cond (nat_le (a + n) size) (Some (Static a)) (
    cond (nat_le dynamic_base a && nat_le (a + n) dt) (Some (Dynamic (a - dynamic_base))) (
    cond (nat_le public_base a && nat_le (a + n) public_end) (Some (Public (a - public_base))) None
    )
    )

-- an address lies in the same segment of a scene that stands for a frame
pub same_where : (z : Scene) (f : Frame) (a n : ℕ) → Stands z f → where_is z.frame a n ≡ where_is f a n
same_where z f a n stands = ap (λ (k : ℕ). place_in k z.frame.dt a n) stands.size ∙ ap (λ (k : ℕ). place_in (length f.fixed) k a n) stands.dt

-- the same addresses are outside of its segments
pub same_outside : (z : Scene) (f : Frame) (a n : ℕ) → Stands z f → is_outside z.frame a n ≡ is_outside f a n
same_outside z f a n stands = ap (λ (o : Option Place). not (n == 0) && is_none o) (same_where z f a n stands)

-- its segments have their lengths
pub stands_sized : (z : Scene) (f : Frame) → length f.fixed ≤ dynamic_base → f.dt ≤ dynamic_end → Stands z f → Sized z.frame z.public
stands_sized z f small high stands =
    let size : length z.frame.fixed ≡ length f.fixed = stands.size in
    let dt : z.frame.dt ≡ f.dt = stands.dt in
    record {
      small = omega (arith, small, size);
      room = stands.room;
      high = omega (arith, high, dt);
      inside = subst (λ (ps : List (ℕ × List ℕ)). PiecesWithin (length z.frame.fixed) ps) (sym stands.pieces) tt;
      whole = stands.whole;
    }

-- ---- its memory

-- its bytes, where nothing waits
abbrev pub scene_memory : Scene → Memory
scene_memory z = parts_memory (length z.frame.fixed) z.frame.fixed z.frame.dyn z.public

-- the memory of such a scene is that of its bytes, since nothing waits
pub memory_is : (z : Scene) (f : Frame) (a : ℕ) → Stands z f → frame_memory z.frame z.public a ≡ scene_memory z a
memory_is z f a stands = ap (λ (ps : List (ℕ × List ℕ)). parts_memory (length z.frame.fixed) (laid_pieces z.frame.fixed ps) z.frame.dyn z.public a) stands.pieces

-- ---- one byte

-- a scene after one of its bytes was set
record IsSet (z y : Scene) (f : Frame) (a v : ℕ) : Type 0 where
  stands : Stands y f
  there : scene_memory y a ≡ v
  others : (b : ℕ) → (b < a) ⊎ (a + 1 ≤ b) → scene_memory z b ≡ scene_memory y b

static_set : (z : Scene) (f : Frame) (a v : ℕ) → Stands z f → a < length f.fixed → IsSet z (record z { frame = record z.frame { fixed = splice z.frame.fixed a (v ∷ []) } }) f a v
static_set z f a v stands low =
    let fixed : List ℕ = z.frame.fixed in
    let dyn : List ℕ = z.frame.dyn in
    let size : length fixed ≡ length f.fixed = stands.size in
    let same : length (splice fixed a (v ∷ [])) ≡ length fixed = length_splice fixed a (v ∷ []) (omega (arith, low, size)) in
    let here : a ≡ a + 0 = omega arith in
    record {
      stands = record { dt = stands.dt; session = stands.session; deny = stands.deny; size = same ∙ size; pieces = stands.pieces; room = stands.room; whole = stands.whole };
      there = ap (λ (n : ℕ). parts_memory n (splice fixed a (v ∷ [])) dyn z.public a) same
          ∙ (ap (λ (b : ℕ). parts_memory (length fixed) (splice fixed a (v ∷ [])) dyn z.public b) here
          ∙ static_new (length fixed) fixed dyn z.public (v ∷ []) a 0 (omega (arith, low, size)) (omega (arith, low, size)) (omega arith));
      others = λ b o. static_same (length fixed) fixed dyn z.public (v ∷ []) a (omega (arith, low, size)) b o
          ∙ ap (λ (n : ℕ). parts_memory n (splice fixed a (v ∷ [])) dyn z.public b) (sym same);
    }

dynamic_set : (z : Scene) (f : Frame) (a v : ℕ) → Stands z f → length f.fixed ≤ dynamic_base → dynamic_base ≤ a → a < dynamic_end → IsSet z (record z { frame = record z.frame { dyn = splice z.frame.dyn (a - dynamic_base) (v ∷ []) } }) f a v
dynamic_set z f a v stands small low high =
    let fixed : List ℕ = z.frame.fixed in
    let dyn : List ℕ = z.frame.dyn in
    let j = a - dynamic_base in
    let size : length fixed ≡ length f.fixed = stands.size in
    let room : length dyn ≡ 512 = stands.room in
    let at : a ≡ dynamic_base + j = omega (arith, low) in
    let here : a ≡ a + 0 = omega arith in
    record {
      stands = record { dt = stands.dt; session = stands.session; deny = stands.deny; size = size; pieces = stands.pieces; room = length_splice dyn j (v ∷ []) (omega (arith, room, low, high)) ∙ room; whole = stands.whole };
      there = ap (λ (b : ℕ). parts_memory (length fixed) fixed (splice dyn j (v ∷ [])) z.public b) here
          ∙ dynamic_new (length fixed) fixed dyn z.public (v ∷ []) a j 0 at (omega (arith, small, size)) (omega (arith, room, low, high)) (omega (arith, low, high)) (omega arith);
      others = λ b o. dynamic_same (length fixed) fixed dyn z.public (v ∷ []) a j at (omega (arith, room, low, high)) b o;
    }

public_set : (z : Scene) (f : Frame) (a v : ℕ) → Stands z f → length f.fixed ≤ dynamic_base → public_base ≤ a → a < public_end → IsSet z (record z { public = splice z.public (a - public_base) (v ∷ []) }) f a v
public_set z f a v stands small low high =
    let fixed : List ℕ = z.frame.fixed in
    let j = a - public_base in
    let size : length fixed ≡ length f.fixed = stands.size in
    let whole : 1041 ≤ length z.public = stands.whole in
    let longer : length z.public ≤ length (splice z.public j (v ∷ [])) = splice_longer z.public j (v ∷ []) in
    let at : a ≡ public_base + j = omega (arith, low) in
    let here : a ≡ a + 0 = omega arith in
    record {
      stands = record { dt = stands.dt; session = stands.session; deny = stands.deny; size = size; pieces = stands.pieces; room = stands.room; whole = omega (arith, whole, longer) };
      there = ap (λ (b : ℕ). parts_memory (length fixed) fixed z.frame.dyn (splice z.public j (v ∷ [])) b) here
          ∙ public_new (length fixed) fixed z.frame.dyn z.public (v ∷ []) a j 0 at (omega (arith, small, size)) (omega (arith, whole, low, high)) (omega arith);
      others = λ b o. public_same (length fixed) fixed z.frame.dyn z.public (v ∷ []) a j at (omega (arith, whole, low, high)) b o;
    }

module _ (f : Frame) (small : length f.fixed ≤ dynamic_base) (high : f.dt ≤ dynamic_end) where
  set_by : (z : Scene) (a v : ℕ) (o : Option Place) → Stands z f → where_is f a 1 ≡ o → is_none o ≡ false → IsSet z (with_byte z (a, v)) f a v
  set_by z a v None stands is there = absurd (cc there)
  set_by z a v (Some (Static i)) stands is there =
      let lies : LiesIn f a 1 (Static i) = lies_in f a 1 (Static i) is in
      let low : a + 1 ≤ length f.fixed = lies.1 in
      let size : length z.frame.fixed ≡ length f.fixed = stands.size in
      let one : Scene = record z { frame = record z.frame { fixed = splice z.frame.fixed a (v ∷ []) } } in
      let two : Scene = record z { frame = record z.frame { dyn = splice z.frame.dyn (a - dynamic_base) (v ∷ []) } } in
      let three : Scene = record z { public = splice z.public (a - public_base) (v ∷ []) } in
      subst (λ (b : Bool). IsSet z (cond {A = Scene} b one (cond {A = Scene} (nat_lt a public_base) two three)) f a v) (sym (lt-ltb a (length z.frame.fixed) (omega (arith, low, size))))
      (static_set z f a v stands (omega (arith, low)))
  set_by z a v (Some (Dynamic i)) stands is there =
      let lies : LiesIn f a 1 (Dynamic i) = lies_in f a 1 (Dynamic i) is in
      let at : a ≡ dynamic_base + i = lies.0 in
      let under : a + 1 ≤ f.dt = lies.1 in
      let size : length z.frame.fixed ≡ length f.fixed = stands.size in
      let one : Scene = record z { frame = record z.frame { fixed = splice z.frame.fixed a (v ∷ []) } } in
      let two : Scene = record z { frame = record z.frame { dyn = splice z.frame.dyn (a - dynamic_base) (v ∷ []) } } in
      let three : Scene = record z { public = splice z.public (a - public_base) (v ∷ []) } in
      subst (λ (b : Bool). IsSet z (cond {A = Scene} b one (cond {A = Scene} (nat_lt a public_base) two three)) f a v) (sym (not_lt a (length z.frame.fixed) (omega (arith, small, size, at))))
      (subst (λ (b : Bool). IsSet z (cond {A = Scene} b two three) f a v) (sym (lt-ltb a public_base (omega (arith, under, high))))
      (dynamic_set z f a v stands small (omega (arith, at)) (omega (arith, under, high))))
  set_by z a v (Some (Public i)) stands is there =
      let lies : LiesIn f a 1 (Public i) = lies_in f a 1 (Public i) is in
      let at : a ≡ public_base + i = lies.0 in
      let under : a + 1 ≤ public_end = lies.1 in
      let size : length z.frame.fixed ≡ length f.fixed = stands.size in
      let one : Scene = record z { frame = record z.frame { fixed = splice z.frame.fixed a (v ∷ []) } } in
      let two : Scene = record z { frame = record z.frame { dyn = splice z.frame.dyn (a - dynamic_base) (v ∷ []) } } in
      let three : Scene = record z { public = splice z.public (a - public_base) (v ∷ []) } in
      subst (λ (b : Bool). IsSet z (cond {A = Scene} b one (cond {A = Scene} (nat_lt a public_base) two three)) f a v) (sym (not_lt a (length z.frame.fixed) (omega (arith, small, size, at))))
      (subst (λ (b : Bool). IsSet z (cond {A = Scene} b two three) f a v) (sym (not_lt a public_base (omega (arith, at))))
      (public_set z f a v stands small (omega (arith, at)) (omega (arith, under))))

  -- a byte that lies in a segment is set
  is_set : (z : Scene) (a v : ℕ) → Stands z f → is_outside f a 1 ≡ false → IsSet z (with_byte z (a, v)) f a v
  is_set z a v stands inside = set_by z a v (where_is f a 1) stands refl inside

  -- ---- some bytes

  kept_by : (p q : Bool) (z y : Scene) (m : Memory) (a b : ℕ) → nat_lt b a ≡ p → nat_lt a b ≡ q → IsSet z y f a (m a) → scene_memory z b ≡ m b → scene_memory y b ≡ m b
  kept_by true q z y m a b less more set is = sym (set.others b (inl (ltb-true b a less))) ∙ is
  kept_by false true z y m a b less more set is = let low = ltb-true a b more in sym (set.others b (inr (omega (arith, low)))) ∙ is
  kept_by false false z y m a b less more set is =
      let low = ltb-false b a less in
      let over = ltb-false a b more in
      let same : b ≡ a = omega (arith, low, over) in
      ap (λ (c : ℕ). scene_memory y c) same ∙ (set.there ∙ sym (ap m same))

  -- a scene with the values that a memory has at some places
  pub record HasValues (z y : Scene) (m : Memory) (l : List ℕ) : Type 0 where
    pub stands : Stands y f
    pub keeps : (b : ℕ) → scene_memory z b ≡ m b → scene_memory y b ≡ m b
    pub has : (b : ℕ) → Among b l → scene_memory y b ≡ m b

  -- a scene has the values that were set, and still stands for the frame
  pub values_set : (m : Memory) (l : List ℕ) (z : Scene) → Stands z f → AllByRecursion {X = ℕ} (λ a. is_outside f a 1 ≡ false) l → HasValues z (with_values z (values_in m l)) m l
  values_set m [] z stands inside = record { stands = stands; keeps = λ b is. is; has = λ b none. absurd none }
  values_set m (a ∷ l) z stands inside =
      let one : IsSet z (with_byte z (a, m a)) f a (m a) = is_set z a (m a) stands inside.0 in
      let more : HasValues (with_byte z (a, m a)) (with_values (with_byte z (a, m a)) (values_in m l)) m l = values_set m l (with_byte z (a, m a)) one.stands inside.1 in
      record {
        stands = more.stands;
        keeps = λ b is. more.keeps b (kept_by (nat_lt b a) (nat_lt a b) z (with_byte z (a, m a)) m a b refl refl one is);
        has = λ b among.
            elim among [
              | inl e ↦ more.keeps b (subst (λ (c : ℕ). scene_memory (with_byte z (a, m a)) c ≡ m c) e one.there)
              | inr rest ↦ more.has b rest
            ];
      }

-- ---- lists of places

-- two lists of places inside the segments are so together
pub all_inside : (f : Frame) (l k : List ℕ) → AllByRecursion {X = ℕ} (λ a. is_outside f a 1 ≡ false) l → AllByRecursion {X = ℕ} (λ a. is_outside f a 1 ≡ false) k → AllByRecursion {X = ℕ} (λ a. is_outside f a 1 ≡ false) (l ++ k)
all_inside f [] k x y = y
all_inside f (a ∷ l) k x y = (x.0, all_inside f l k x.1 y)

filtered_by : (b : Bool) (f : Frame) (a : ℕ) (rest : List ℕ) → is_outside f a 1 ≡ b → AllByRecursion {X = ℕ} (λ a. is_outside f a 1 ≡ false) rest → AllByRecursion {X = ℕ} (λ a. is_outside f a 1 ≡ false) (cond (not b) (a ∷ rest) rest)
filtered_by true f a rest e h = h
filtered_by false f a rest e h = (e, h)

-- those that lie in a segment of the scene lie in one of the frame
pub filtered_inside : (z : Scene) (f : Frame) (l : List ℕ) → Stands z f → AllByRecursion {X = ℕ} (λ a. is_outside f a 1 ≡ false) (filter (λ a. not (is_outside z.frame a 1)) l)
filtered_inside z f [] stands = tt
filtered_inside z f (a ∷ l) stands =
    let rest : List ℕ = filter (λ a. not (is_outside z.frame a 1)) l in
    subst (λ (b : Bool). AllByRecursion {X = ℕ} (λ a. is_outside f a 1 ≡ false) (cond (not b) (a ∷ rest) rest)) (sym (same_outside z f a 1 stands))
    (filtered_by (is_outside f a 1) f a rest refl (filtered_inside z f l stands))

-- ---- what is then known

-- the facts with the values of a choice
abbrev pub chosen_facts : Choice → Facts → Facts
chosen_facts [] f = f
chosen_facts (e ∷ es) f = chosen_facts es (know e.0 (e.1 ∷ []) f)

-- they hold of the memory that the values are from
pub chosen_holds : (m : Memory) (l : List ℕ) (f : Facts) → Holds f m → Holds (chosen_facts (values_in m l) f) m
chosen_holds m [] f h = h
chosen_holds m (a ∷ l) f h = chosen_holds m l (know a (m a ∷ []) f) (written_holds a ((m a ∷ []) ∷ []) f m m (λ b outside. refl) (is_first (m a) [], tt) h)
