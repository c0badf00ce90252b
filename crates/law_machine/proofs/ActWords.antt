-- The words that an act changes at once, and those that stay pending after it.
use Rattle.std.proofs.Common.{◌≡◌, ℕ, ◌+◌, ◌-◌, ◌≤◌, Bool, true, false, cond, not, List, [], ◌∷◌, ◌++◌, length, Option, Some, None, refl, sym, ap, subst, ◌∙◌, arith}
use Rattle.std.specs.Prelude.{◌==◌, ◌&&◌, ◌||◌, ⊤, nat_le, is_none}
use Rattle.std.proofs.lemmas.Bool.{and_parts, leb-true, ltb-false, eqb-true}
use Rattle.model_card.specs.model_device.specs.Bytes.{zeros}
use Rattle.model_card.specs.model_device.specs.Pieces.{touched_words}
use Rattle.model_card.specs.model_device.proofs.PieceLemmas.{none_touched}
use Rattle.model_card.specs.model_machine.specs.Frame.{Frame, Effect, Place, Static, Dynamic, Public, where_is, dynamic_base, public_base, public_end, static_written, write_effect_at, write_effect, is_outside, passes_limit, too_many, protect, static_bytes, pending_change}
use Rattle.model_card.specs.model_machine.specs.Shapes.{Act, Jumps, Calls, Writes, Protects, Shape, act_effect, with_flags, meaning}
use Rattle.law_machine.specs.FewWords.{words_in}
use Rattle.law_machine.proofs.TouchedWords.{one_piece, shorter_piece, empty_piece}

-- The words that an effect changes, if it has them only from pieces that were pending when they were at most 64; and
-- the words that stay pending after it.
pub record ChangesFew (size : ℕ) (pieces : List (ℕ × List ℕ)) (most : ℕ) (e : Effect) : Type 0 where
  pub words : (most ≡ 64 → length (touched_words pieces) ≤ 64) → words_in e.changes ≤ most
  pub few : size ≤ 4096 → length (touched_words pieces) ≤ 64 → length (touched_words e.frame.pieces) ≤ 64

-- what is known of a write of some bytes, if an access of n bytes was tested
pub record WriteFacts (f : Frame) (a n : ℕ) (b : List ℕ) : Type 0 where
  pub short : length b ≤ n
  pub small : n ≤ 256
  pub there : is_outside f a n ≡ false
  pub room : too_many f a n ≡ false

-- ---- places

abbrev place_by : Bool → Bool → Bool → ℕ → Option Place
place_by s d p a = cond s (Some (Static a)) (cond d (Some (Dynamic (a - dynamic_base))) (cond p (Some (Public (a - public_base))) None))

-- an address of the static segment
static_by : (s d p : Bool) (a i : ℕ) → place_by s d p a ≡ Some (Static i) → (s ≡ true) × (a ≡ i)
static_by true d p a i e = (refl, cc e)
static_by false true p a i e = absurd (cc e)
static_by false false true a i e = absurd (cc e)
static_by false false false a i e = absurd (cc e)

dynamic_by : (s d p : Bool) (a i : ℕ) → place_by s d p a ≡ Some (Dynamic i) → d ≡ true
dynamic_by true d p a i e = absurd (cc e)
dynamic_by false true p a i e = refl
dynamic_by false false true a i e = absurd (cc e)
dynamic_by false false false a i e = absurd (cc e)

public_by : (s d p : Bool) (a i : ℕ) → place_by s d p a ≡ Some (Public i) → p ≡ true
public_by true d p a i e = absurd (cc e)
public_by false true p a i e = absurd (cc e)
public_by false false true a i e = refl
public_by false false false a i e = absurd (cc e)

static_place : (f : Frame) (a n i : ℕ) → where_is f a n ≡ Some (Static i) → (a ≡ i) × (a + n ≤ length f.fixed)
static_place f a n i e =
    let is = static_by (nat_le (a + n) (length f.fixed)) (nat_le dynamic_base a && nat_le (a + n) f.dt) (nat_le public_base a && nat_le (a + n) public_end) a i e in
    (is.1, leb-true (a + n) (length f.fixed) is.0)

dynamic_place : (f : Frame) (a n i : ℕ) → where_is f a n ≡ Some (Dynamic i) → dynamic_base ≤ a
dynamic_place f a n i e =
    let is = dynamic_by (nat_le (a + n) (length f.fixed)) (nat_le dynamic_base a && nat_le (a + n) f.dt) (nat_le public_base a && nat_le (a + n) public_end) a i e in
    leb-true dynamic_base a (and_parts (nat_le dynamic_base a) (nat_le (a + n) f.dt) is).0

public_place : (f : Frame) (a n i : ℕ) → where_is f a n ≡ Some (Public i) → public_base ≤ a
public_place f a n i e =
    let is = public_by (nat_le (a + n) (length f.fixed)) (nat_le dynamic_base a && nat_le (a + n) f.dt) (nat_le public_base a && nat_le (a + n) public_end) a i e in
    leb-true public_base a (and_parts (nat_le public_base a) (nat_le (a + n) public_end) is).0

-- ---- a write under protection

-- by what the tested access is
pending_by : (f : Frame) (a n i : ℕ) (b : List ℕ) (o : Option Place) → where_is f a n ≡ o → length f.fixed ≤ 4096 → a ≡ i → a + length b ≤ length f.fixed → length b ≤ n → is_none o ≡ false → passes_limit true f o n ≡ false
    → length (touched_words (f.pieces ++ (i, b) ∷ [])) ≤ 64
pending_by f a n i b None e small same fits short some room = absurd (cc some)
pending_by f a n i b (Some (Static j)) e small same fits short some room =
    let there = static_place f a n j e in
    let is : j ≡ i = sym there.0 ∙ same in
    let most : length (touched_words (f.pieces ++ (j, zeros n) ∷ [])) ≤ 64 = ltb-false 64 (length (touched_words (f.pieces ++ (j, zeros n) ∷ []))) room in
    let less : length (touched_words (f.pieces ++ (j, b) ∷ [])) ≤ length (touched_words (f.pieces ++ (j, zeros n) ∷ [])) = shorter_piece f.pieces j n b short in
    subst (λ (k : ℕ). length (touched_words (f.pieces ++ (k, b) ∷ [])) ≤ 64) is (omega arith)
pending_by f a n i b (Some (Dynamic j)) e small same fits short some room = let high : 32768 ≤ a = dynamic_place f a n j e in absurd (omega arith)
pending_by f a n i b (Some (Public j)) e small same fits short some room = let high : 49152 ≤ a = public_place f a n j e in absurd (omega arith)

limited_by : (f : Frame) (a n : ℕ) → f.protected ≡ true → too_many f a n ≡ false → passes_limit true f (where_is f a n) n ≡ false
unfolding too_many
limited_by f a n on h = subst (λ (b : Bool). passes_limit b f (where_is f a n) n ≡ false) on h

pending : (f : Frame) (a n i : ℕ) (b : List ℕ) → f.protected ≡ true → where_is f a (length b) ≡ Some (Static i) → length f.fixed ≤ 4096 → length (touched_words f.pieces) ≤ 64 → WriteFacts f a n b → length (touched_words (f.pieces ++ (i, b) ∷ [])) ≤ 64
pending f a n i b on e small few w = by (n == 0) refl
  where
    there : (a ≡ i) × (a + length b ≤ length f.fixed)
    there = static_place f a (length b) i e

    by : (t : Bool) → (n == 0) ≡ t → length (touched_words (f.pieces ++ (i, b) ∷ [])) ≤ 64
    by true is =
        let none : n ≡ 0 = eqb-true n 0 is in
        let empty : length b ≡ 0 = let short : length b ≤ n = w.short in omega arith in
        let same : length (touched_words (f.pieces ++ (i, b) ∷ [])) ≤ length (touched_words f.pieces) = empty_piece f.pieces i b empty in
        omega arith
    by false is =
        let some : is_none (where_is f a n) ≡ false = ap (λ (t : Bool). not t && is_none (where_is f a n)) (sym is) ∙ w.there in
        pending_by f a n i b (where_is f a n) refl small there.0 there.1 w.short some (limited_by f a n on w.room)

-- ---- acts

-- what was tested of an act's write
abbrev pub Tested : Act → Frame → Type 0
Tested (Writes a n b) f = WriteFacts f a n b
Tested _ f = ⊤

-- the greatest number of words that an act changes
abbrev pub act_most : Act → ℕ
act_most (Protects mode) = 64
act_most _ = 33

-- an effect without a change, and with the same pending pieces
quiet : (size : ℕ) (pieces : List (ℕ × List ℕ)) (most : ℕ) (e : Effect) → e.changes ≡ None → e.frame.pieces ≡ pieces → ChangesFew size pieces most e
quiet size pieces most e none same =
    record {
      words = λ few. subst (λ (o : Option (List (ℕ × List ℕ))). words_in o ≤ most) (sym none) (omega arith);
      few = λ small few. subst (λ (ps : List (ℕ × List ℕ)). length (touched_words ps) ≤ 64) (sym same) few;
    }

static_few : (b : Bool) (f : Frame) (a n i : ℕ) (public bytes : List ℕ) → f.protected ≡ b → where_is f a (length bytes) ≡ Some (Static i) → WriteFacts f a n bytes → ChangesFew (length f.fixed) f.pieces 33 (static_written b f public i bytes)
static_few false f a n i public bytes on e w =
    record {
      words = λ few. one_piece i bytes (let short : length bytes ≤ n = w.short in let small : n ≤ 256 = w.small in omega arith);
      few = λ small few. few;
    }
static_few true f a n i public bytes on e w = record { words = λ few. omega arith; few = λ small few. pending f a n i bytes on e small few w }

written_few : (f : Frame) (a n : ℕ) (public bytes : List ℕ) (o : Option Place) → where_is f a (length bytes) ≡ o → WriteFacts f a n bytes → ChangesFew (length f.fixed) f.pieces 33 (write_effect_at f public bytes o)
written_few f a n public bytes None e w = quiet (length f.fixed) f.pieces 33 _ refl refl
written_few f a n public bytes (Some (Static i)) e w = static_few f.protected f a n i public bytes refl e w
written_few f a n public bytes (Some (Dynamic i)) e w = quiet (length f.fixed) f.pieces 33 _ refl refl
written_few f a n public bytes (Some (Public i)) e w = quiet (length f.fixed) f.pieces 33 _ refl refl

write_few : (f : Frame) (public : List ℕ) (a n : ℕ) (bytes : List ℕ) → WriteFacts f a n bytes → ChangesFew (length f.fixed) f.pieces 33 (write_effect f public a bytes)
unfolding write_effect
write_few f public a n bytes w = written_few f a n public bytes (where_is f a (length bytes)) refl w

committed_few : (f : Frame) (ps : List (ℕ × List ℕ)) → length (touched_words ps) ≤ 64 → words_in (pending_change f ps) ≤ 64
committed_few f [] h = omega arith
committed_few f (p ∷ ps) h = h

protect_few : (f : Frame) (public : List ℕ) (mode : ℕ) → ChangesFew (length f.fixed) f.pieces 64 (protect f public mode)
protect_few f public mode = by (mode == 1 || mode == 3)
  where
    by : (b : Bool) → ChangesFew (length f.fixed) f.pieces 64 (cond {A = Effect} b (record { frame = record f { fixed = static_bytes f; pieces = []; protected = nat_le 2 mode }; public = public; changes = pending_change f f.pieces }) (record { frame = record f { pieces = []; protected = nat_le 2 mode }; public = public; changes = None }))
    by true = record { words = λ few. committed_few f f.pieces (few refl); few = λ small few. none_touched }
    by false = record { words = λ few. omega arith; few = λ small few. none_touched }

act_few : (act : Act) (f : Frame) (public : List ℕ) → Tested act f → ChangesFew (length f.fixed) f.pieces (act_most act) (act_effect act f public)
act_few (Writes a n b) f public w = write_few f public a n b w
act_few (Protects mode) f public w = protect_few f public mode
act_few (Jumps true to) f public w = quiet (length f.fixed) f.pieces 33 _ refl refl
act_few (Jumps false to) f public w = quiet (length f.fixed) f.pieces 33 _ refl refl
act_few (Calls true to) f public w = quiet (length f.fixed) f.pieces 33 _ refl refl
act_few (Calls false to) f public w = quiet (length f.fixed) f.pieces 33 _ refl refl
act_few _ f public w = quiet (length f.fixed) f.pieces 33 _ refl refl

flags_few : (size : ℕ) (pieces : List (ℕ × List ℕ)) (most : ℕ) (o : Option (Bool × Bool)) (e : Effect) → ChangesFew size pieces most e → ChangesFew size pieces most (with_flags o e)
flags_few size pieces most None e k = k
flags_few size pieces most (Some cz) e k = record { words = k.words; few = k.few }

-- the words that a shape changes
pub shape_few : (s : Shape) (f : Frame) (public : List ℕ) → Tested s.act (record f { dt = s.dt }) → ChangesFew (length f.fixed) f.pieces (act_most s.act) (meaning s f public).effect
shape_few s f public w = flags_few (length f.fixed) f.pieces (act_most s.act) s.flags (act_effect s.act (record f { dt = s.dt }) public) (act_few s.act (record f { dt = s.dt }) public w)
