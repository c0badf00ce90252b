-- How a row treats the pending pieces of its frame: what it writes at once, and what it commits.
use Rattle.std.specs.Prelude.{ℕ, Bool, true, false, List, [], length, Option, Some, None, ⊤}
use Rattle.std.proofs.Common.{◌≡◌, ◌⊎◌, refl, sym, subst, inl, inr, arith}
use Rattle.law_family.specs.model_machine.specs.declared.instruction.Ins.{Ins}
use Rattle.law_family.specs.model_machine.specs.declared.instruction.Ins.TheVariants as ins
use Rattle.law_family.specs.model_machine.specs.Frame.{Frame, Effect, Place, static_written, write_effect_at, where_is, write_effect, protect}
use Rattle.law_family.specs.model_machine.specs.Primitives.{Around, Done, Primitive, SetProtection, primitive}
use Rattle.law_family.specs.model_machine.specs.Row.{effect}
use Rattle.law_family.specs.law_machine.specs.FewWords.{most_of, most_words}
use Rattle.law_family.specs.model_machine.specs.Shapes.{Act, Writes, Shape, act_effect, with_flags, meaning, prim_shape, pair_shape, shape}
use Rattle.law_family.specs.law_rows.proofs.RowShapes.{shapes}

-- A row leaves the pending pieces, and may write at most 33 words at once; or it writes nothing; or it commits: none
-- are pending after it, and it writes nothing if none were before.
abbrev pub Pays : ℕ → List (ℕ × List ℕ) → Effect → Type 0
Pays most pieces e =
    ((e.frame.pieces ≡ pieces) × (most ≡ 33)) ⊎ ((e.changes ≡ None) ⊎ ((e.frame.pieces ≡ []) × (pieces ≡ [] → e.changes ≡ None)))

-- ---- acts

static_pays : (most : ℕ) → most ≡ 33 → (p : Bool) (f : Frame) (public : List ℕ) (i : ℕ) (b : List ℕ) → Pays most f.pieces (static_written p f public i b)
static_pays most few true f public i b = inr (inl refl)
static_pays most few false f public i b = inl (refl, few)

placed_pays : (most : ℕ) → most ≡ 33 → (f : Frame) (public b : List ℕ) (o : Option Place) → Pays most f.pieces (write_effect_at f public b o)
placed_pays most few f public b o = grind (arith, static_pays)

written_pays : (most : ℕ) → most ≡ 33 → (f : Frame) (public : List ℕ) (a : ℕ) (b : List ℕ) → Pays most f.pieces (write_effect f public a b)
unfolding write_effect
written_pays most few f public a b = placed_pays most few f public b (where_is f a (length b))

protect_pays : (most : ℕ) (f : Frame) (public : List ℕ) (mode : ℕ) → Pays most f.pieces (protect f public mode)
protect_pays most f public mode = grind arith

-- if an act is a write
abbrev OnWrite : Act → Type 0 → Type 0
OnWrite (Writes a n b) P = P
OnWrite _ P = ⊤

on_write : (P : Type 0) (act : Act) → P → OnWrite act P
on_write P (Writes a n b) p = p
on_write P _ p = tt

act_pays : (act : Act) (most : ℕ) → OnWrite act (most ≡ 33) → (f : Frame) (public : List ℕ) → Pays most f.pieces (act_effect act f public)
act_pays act most few f public = grind (arith, written_pays, protect_pays)

-- ---- rows

-- a primitive that writes at an address changes at most 33 words
prim_writes : (p : Primitive) (args : List ℕ) (f : Frame) (public : List ℕ) (x : Around) → OnWrite (prim_shape p args f public x).act (most_of (Some p) ≡ 33)
unfolding prim_shape
prim_writes SetProtection args f public x = tt
prim_writes p args f public x = on_write (most_of (Some p) ≡ 33) (prim_shape p args f public x).act refl

pair_writes : (o : Option Primitive) (args : List ℕ) (f : Frame) (public : List ℕ) (x : Around) → OnWrite (pair_shape o args f public x).act (most_of o ≡ 33)
pair_writes None args f public x = tt
pair_writes (Some p) args f public x = prim_writes p args f public x

-- so does an instruction
row_writes : (i : Ins) (f : Frame) (public : List ℕ) (x : Around) → OnWrite (shape i f public x).act (most_words i ≡ 33)
unfolding shape
row_writes (ins.Prim set number args) f public x = pair_writes (primitive set number) args f public x
row_writes i f public x = on_write (most_words i ≡ 33) (shape i f public x).act refl

-- the flags do not matter
flags_pay : (most : ℕ) (pieces : List (ℕ × List ℕ)) (o : Option (Bool × Bool)) (e : Effect) → Pays most pieces e → Pays most pieces (with_flags o e)
flags_pay most pieces None e h = h
flags_pay most pieces (Some cz) e h = h

shape_pays : (s : Shape) (most : ℕ) → OnWrite s.act (most ≡ 33) → (f : Frame) (public : List ℕ) → Pays most f.pieces (meaning s f public).effect
shape_pays s most few f public =
    flags_pay most f.pieces s.flags (act_effect s.act (record f { dt = s.dt }) public) (act_pays s.act most few (record f { dt = s.dt }) public)

-- a row writes few words, commits, or leaves what waits
pub effect_pays : (i : Ins) (f : Frame) (public : List ℕ) (x : Around) → Pays (most_words i) f.pieces (effect i f public x).effect
effect_pays i f public x =
    subst (λ (d : Done). Pays (most_words i) f.pieces d.effect) (sym (shapes i f public x))
    (shape_pays (shape i f public x) (most_words i) (row_writes i f public x) f public)
