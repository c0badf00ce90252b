-- What the bytes in memory are after some were written: those are there, and all others stay.
use Rattle.std.proofs.Common.{◌≡◌, ℕ, suc, ◌+◌, ◌<◌, ◌≤◌, ◌⊎◌, Bool, true, false, List, [], ◌∷◌, ◌++◌, length, Option, Some, None, refl, sym, ap, subst, ◌∙◌, arith}
use Rattle.std.specs.Prelude.{slice_index, is_none}
use Rattle.std.specs.List.{AllByRecursion}
use Rattle.law_sums.specs.model_device.specs.Bytes.{num, splice}
use Rattle.law_sums.specs.model_device.specs.Pieces.{laid_pieces}
use Rattle.law_sums.specs.model_device.proofs.ListLemmas.{length_splice}
use Rattle.law_sums.specs.model_machine.specs.Frame.{Frame, Place, Static, Dynamic, Public, where_is, dynamic_base, dynamic_end, public_base, public_end, static_bytes, static_written, write_effect_at, write_effect}
use Rattle.law_sums.specs.law_rows.proofs.Keeping.{length_laid}
use Rattle.law_sums.specs.model_rules.specs.Rules.{Total}
use Rattle.law_sums.specs.model_rules.specs.Keeping.{Sum}
use Rattle.law_sums.specs.model_prove.specs.Facts.{Memory}
use Rattle.law_sums.specs.model_prove.specs.Compares.{bytes_from}
use Rattle.law_prove_closed.specs.law_prove.specs.Coverings.{parts_memory, frame_memory}
use Rattle.law_prove_closed.specs.law_prove.proofs.Parts.{static_same, dynamic_same, public_same, static_new, dynamic_new, public_new}
use Rattle.law_prove_closed.specs.law_prove.proofs.Seen.{laid_more}
use Rattle.law_prove_closed.specs.law_prove.proofs.Acts.{LiesIn, lies_in}
use Rattle.law_prove_closed.specs.law_prove.proofs.Alike.{Sized}
use Rattle.law_sums.specs.model_sums.specs.Forms.{Form}
use Rattle.law_sums.specs.model_sums.specs.Origins.{origin_at}
use Rattle.law_sums.specs.model_sums.specs.Sums.{More, Sums}
use Rattle.law_sums.specs.model_sums.specs.Says.{IsFrom, MoreHolds, OffsHold, Holds}
use Rattle.law_sums.proofs.Bytes.{same_bytes}
use Rattle.law_sums.proofs.MoveLemmas.{off_same, more_same}

-- bytes were written at an address, and all others stay
pub record Changed (m k : Memory) (a : ℕ) (b : List ℕ) : Type 0 where
  pub stays : (x : ℕ) → (x < a) ⊎ (a + length b ≤ x) → m x ≡ k x
  pub there : bytes_from k a (length b) ≡ b

-- bytes that are those of a list one by one
pub bytes_list : (k : Memory) (b : List ℕ) (a : ℕ) → ((i : ℕ) → i < length b → k (a + i) ≡ slice_index b i) → bytes_from k a (length b) ≡ b
bytes_list k [] a h = refl
bytes_list k (x ∷ b) a h =
    let here : a ≡ a + 0 = omega arith in
    let first : k a ≡ x = ap k here ∙ h 0 (omega arith) in
    let rest : bytes_from k (suc a) (length b) ≡ b =
    bytes_list k b (suc a) (λ i less. let place : suc a + i ≡ a + suc i = omega arith in ap k place ∙ h (suc i) (omega (arith, less)))
    in
    ap (λ (y : ℕ). y ∷ bytes_from k (suc a) (length b)) first ∙ ap (λ (l : List ℕ). x ∷ l) rest

-- ---- what a splice changes

-- a splice into the dynamic bytes changes its own bytes alone
pub dynamic_changed : (size : ℕ) (st dyn public b : List ℕ) (a j : ℕ) → a ≡ dynamic_base + j → size ≤ dynamic_base → length dyn ≡ 512 → j + length b ≤ 512
    → Changed (parts_memory size st dyn public) (parts_memory size st (splice dyn j b) public) a b
dynamic_changed size st dyn public b a j at small room fits =
    let there : j ≤ length dyn = omega (arith, room, fits) in
    record {
      stays = λ x o. dynamic_same size st dyn public b a j at there x o;
      there = bytes_list (parts_memory size st (splice dyn j b) public) b a (λ i less. dynamic_new size st dyn public b a j i at small there fits less);
    }

-- a splice into the public segment changes its own bytes alone
pub public_changed : (size : ℕ) (st dyn public b : List ℕ) (a j : ℕ) → a ≡ public_base + j → size ≤ dynamic_base → j ≤ length public
    → Changed (parts_memory size st dyn public) (parts_memory size st dyn (splice public j b)) a b
public_changed size st dyn public b a j at small there =
    record {
      stays = λ x o. public_same size st dyn public b a j at there x o;
      there = bytes_list (parts_memory size st dyn (splice public j b)) b a (λ i less. public_new size st dyn public b a j i at small there less);
    }

-- a splice into the static bytes of a frame changes its own bytes alone
pub static_changed : (f : Frame) (fixed : List ℕ) (pieces : List (ℕ × List ℕ)) (public b : List ℕ) (a : ℕ) → length fixed ≡ length f.fixed → laid_pieces fixed pieces ≡ splice (static_bytes f) a b
    → length (static_bytes f) ≡ length f.fixed → a + length b ≤ length f.fixed
    → Changed (frame_memory f public) (frame_memory (record f { fixed = fixed; pieces = pieces }) public) a b
static_changed f fixed pieces public b a size is whole fits =
    let g : Frame = record f { fixed = fixed; pieces = pieces } in
    let there : a ≤ length (static_bytes f) = omega (arith, whole, fits) in
    let memory : (x : ℕ) → parts_memory (length f.fixed) (splice (static_bytes f) a b) f.dyn public x ≡ frame_memory g public x = grind arith in
    record {
      stays = λ x o. static_same (length f.fixed) (static_bytes f) f.dyn public b a there x o ∙ memory x;
      there = bytes_list (frame_memory g public) b a (λ i less. sym (memory (a + i)) ∙ static_new (length f.fixed) (static_bytes f) f.dyn public b a i there fits less);
    }

-- ---- what a write changes

-- A frame whose segments have their lengths, with DT in the stack; nothing waits without protection.
pub record Whole (f : Frame) (public : List ℕ) : Type 0 where
  pub sized : Sized f public
  pub settled : f.protected ≡ false → f.pieces ≡ []
  pub low : dynamic_base ≤ f.dt

static_by : (p : Bool) (f : Frame) (public b : List ℕ) (a : ℕ) → f.protected ≡ p → a + length b ≤ length f.fixed → Whole f public
    → Changed (frame_memory f public) (frame_memory (static_written p f public a b).frame (static_written p f public a b).public) a b
static_by false f public b a e fits w =
    let none : f.pieces ≡ [] = w.settled e in
    let size : length (splice f.fixed a b) ≡ length f.fixed = length_splice f.fixed a b fits in
    static_changed f (splice f.fixed a b) f.pieces public b a size
    (ap (λ (ps : List (ℕ × List ℕ)). laid_pieces (splice f.fixed a b) ps) none ∙ sym (ap (λ (ps : List (ℕ × List ℕ)). splice (laid_pieces f.fixed ps) a b) none))
    (length_laid f.pieces f.fixed w.sized.inside) fits
static_by true f public b a e fits w =
    static_changed f f.fixed (f.pieces ++ (a, b) ∷ []) public b a refl (laid_more f.fixed f.pieces a b) (length_laid f.pieces f.fixed w.sized.inside) fits

write_by : (f : Frame) (public b : List ℕ) (a : ℕ) (o : Option Place) → where_is f a (length b) ≡ o → is_none o ≡ false → Whole f public
    → Changed (frame_memory f public) (frame_memory (write_effect_at f public b o).frame (write_effect_at f public b o).public) a b
write_by f public b a None is there w = absurd (cc there)
write_by f public b a (Some (Static i)) is there w =
    let lies : LiesIn f a (length b) (Static i) = lies_in f a (length b) (Static i) is in
    subst (λ (x : ℕ). Changed (frame_memory f public) (frame_memory (static_written f.protected f public x b).frame (static_written f.protected f public x b).public) a b) lies.0
    (static_by f.protected f public b a refl lies.1 w)
write_by f public b a (Some (Dynamic i)) is there w =
    let lies : LiesIn f a (length b) (Dynamic i) = lies_in f a (length b) (Dynamic i) is in
    let at : a ≡ dynamic_base + i = lies.0 in
    let under : a + length b ≤ f.dt = lies.1 in
    let high : f.dt ≤ dynamic_end = w.sized.high in
    dynamic_changed (length f.fixed) (static_bytes f) f.dyn public b a i at w.sized.small w.sized.room (omega (arith, at, under, high))
write_by f public b a (Some (Public i)) is there w =
    let lies : LiesIn f a (length b) (Public i) = lies_in f a (length b) (Public i) is in
    let at : a ≡ public_base + i = lies.0 in
    let under : a + length b ≤ public_end = lies.1 in
    let whole : 1041 ≤ length public = w.sized.whole in
    public_changed (length f.fixed) (static_bytes f) f.dyn public b a i at w.sized.small (omega (arith, at, under, whole))

-- a write in a segment changes what it writes
pub write_changed : (f : Frame) (public b : List ℕ) (a : ℕ) → is_none (where_is f a (length b)) ≡ false → Whole f public
    → Changed (frame_memory f public) (frame_memory (write_effect f public a b).frame (write_effect f public a b).public) a b
unfolding write_effect
write_changed f public b a there w = write_by f public b a (where_is f a (length b)) refl there w

-- ---- the same bytes

mores_same : (first : List ℕ) (m k : Memory) (rs : List More) → ((x : ℕ) → m x ≡ k x) → AllByRecursion (MoreHolds first m) rs → AllByRecursion (MoreHolds first k) rs
mores_same first m k [] same h = tt
mores_same first m k (r ∷ rs) same h =
    (more_same first m k r (ap num (same_bytes m k r.at r.n (λ x low high. same x))) (ap num (same_bytes m k r.from r.n (λ x low high. same x))) h.0, mores_same first m k rs same h.1)

offs_same : (first : List ℕ) (m k : Memory) (sums : List Sum) (ts : List Total) (os : List (Option Form)) → ((x : ℕ) → m x ≡ k x) → OffsHold first m sums ts os → OffsHold first k sums ts os
offs_same first m k sums [] os same h = tt
offs_same first m k sums (t ∷ ts) [] same h = tt
offs_same first m k sums (t ∷ ts) (o ∷ os) same h =
    (off_same first m k sums t o (ap num (same_bytes m k t.at t.n (λ x low high. same x))) h.0, offs_same first m k sums ts os same h.1)

-- what is known holds of the same bytes
pub same_holds : (ts : List Total) (u : Sums) (first : List ℕ) (m k : Memory) (sums : List Sum) → ((x : ℕ) → m x ≡ k x) → Holds ts u first m sums → Holds ts u first k sums
same_holds ts u first m k sums same h =
    record {
      origins = λ a. subst (λ (v : ℕ). IsFrom first (origin_at u.origins a) v) (same a) (h.origins a);
      mores = mores_same first m k u.mores same h.mores;
      offs = offs_same first m k sums ts u.offs same h.offs;
    }
