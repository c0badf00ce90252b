-- Frames that differ in the pieces that their pending bytes come from: a row has the same shape, and each act has the
-- same effect on them.
use Rattle.std.proofs.Common.{arith, ◌≡◌, ℕ, Bool, true, false, cond, List, [], ◌∷◌, length, Option, Some, None, refl, ap}
use Rattle.law_machine.specs.model_machine.specs.declared.instruction.Ins.{Ins}
use Rattle.law_machine.specs.model_machine.specs.declared.instruction.Ins.TheVariants as ins
use Rattle.law_machine.specs.model_device.specs.Pieces.{laid_pieces, touched_words}
use Rattle.law_machine.specs.model_machine.specs.Frame.{Frame, Effect, Place, where_is, static_written, write_effect_at, write_effect, pending_change, protect}
use Rattle.law_machine.specs.model_machine.specs.Primitives.{Around, frame_effect, Primitive, DelegatorAid, primitive}
use Rattle.law_machine.specs.model_machine.specs.Row.{effect}
use Rattle.law_machine.specs.model_machine.specs.Shapes.{Act, Shape, act_effect, with_flags, meaning, delegator_shape, prim_shape, pair_shape, shape}
use Rattle.law_machine.specs.law_rows.proofs.RowShapes.{shapes}
use Rattle.mc_segs.specs.HeldFrames.{Seen, frame_reading, no_pieces}
use Rattle.mc_machine.specs.Alike.{seen_change, IsGuarded, SameEffect, SameDone}
use Rattle.mc_machine.proofs.AlikeBytes.{with_pieces, same_pushed, reads_same}
use Rattle.mc_machine.proofs.AlikeCauses.{Pieces, HasSamePieces, Beside, beside}

-- ---- shapes

reported_same : (f : Frame) (qs : Pieces) (o : Option (List ℕ)) → delegator_shape (with_pieces qs f) o ≡ delegator_shape f o
reported_same f qs None = refl
reported_same f qs (Some name) = refl

prim_beside : (p : Primitive) (args : List ℕ) (f : Frame) (qs : Pieces) (public : List ℕ) (x : Around) → HasSamePieces f qs → Beside f qs (prim_shape p args (with_pieces qs f) public x) (prim_shape p args f public x)
unfolding prim_shape
prim_beside DelegatorAid args f qs public x s = rw (s.words, reported_same f qs x.delegator) refl
prim_beside _ args f qs public x s = simp (s.words, reads_same f qs s)

pair_same : (p : Option Primitive) (args : List ℕ) (f : Frame) (qs : Pieces) (public : List ℕ) (x : Around) → HasSamePieces f qs → pair_shape p args (with_pieces qs f) public x ≡ pair_shape p args f public x
pair_same None args f qs public x s = refl
pair_same (Some p) args f qs public x s = beside f qs (prim_beside p args f qs public x s)

shape_beside : (i : Ins) (f : Frame) (qs : Pieces) (public : List ℕ) (x : Around) → HasSamePieces f qs → Beside f qs (shape i (with_pieces qs f) public x) (shape i f public x)
unfolding shape
shape_beside (ins.Prim set number args) f qs public x s = rw (s.words, pair_same (primitive set number) args f qs public x s) refl
shape_beside _ f qs public x s = simp (s.words, reads_same f qs s)

shape_same : (i : Ins) (f : Frame) (qs : Pieces) (public : List ℕ) (x : Around) → HasSamePieces f qs → shape i (with_pieces qs f) public x ≡ shape i f public x
shape_same i f qs public x s = beside f qs (shape_beside i f qs public x s)

-- ---- acts

seen_same : (f : Frame) (qs : Pieces) → HasSamePieces f qs → frame_reading (with_pieces qs f) ≡ frame_reading f
seen_same f qs s = rw (s.laid, s.words, s.none) refl

framed_same : (f : Frame) (qs : Pieces) (public : List ℕ) → HasSamePieces f qs → SameEffect f.fixed (frame_effect (with_pieces qs f) public) (frame_effect f public)
framed_same f qs public s = record { frame = seen_same f qs s; public = refl; changes = refl }

none_is : (ps : Pieces) → no_pieces ps ≡ true → ps ≡ []
none_is [] e = refl
none_is (p ∷ ps) e = absurd (cc e)

static_same : (b : Bool) (f : Frame) (qs : Pieces) (public : List ℕ) (i : ℕ) (bytes : List ℕ) → HasSamePieces f qs → (b ≡ false → no_pieces f.pieces ≡ true) → SameEffect f.fixed (static_written b (with_pieces qs f) public i bytes) (static_written b f public i bytes)
static_same b f qs public i bytes s guard = grind (arith, seen_same, same_pushed, none_is)

written_in_same : (f : Frame) (qs : Pieces) (public bytes : List ℕ) (place : Option Place) → HasSamePieces f qs → IsGuarded f → SameEffect f.fixed (write_effect_at (with_pieces qs f) public bytes place) (write_effect_at f public bytes place)
written_in_same f qs public bytes place s guard = grind (arith, framed_same, static_same)

written_same : (f : Frame) (qs : Pieces) (public : List ℕ) (a : ℕ) (bytes : List ℕ) → HasSamePieces f qs → IsGuarded f → SameEffect f.fixed (write_effect (with_pieces qs f) public a bytes) (write_effect f public a bytes)
unfolding write_effect
written_same f qs public a bytes s guard = written_in_same f qs public bytes (where_is f a (length bytes)) s guard

committed_seen : (f : Frame) (ps : Pieces) → seen_change f.fixed (pending_change f ps) ≡ cond (no_pieces ps) None (Some (laid_pieces f.fixed ps, touched_words ps))
committed_seen f [] = refl
committed_seen f (p ∷ ps) = refl

cond_same : (fixed : List ℕ) (b : Bool) (d e k l : Effect) → SameEffect fixed d e → SameEffect fixed k l → SameEffect fixed (cond b d k) (cond b e l)
cond_same fixed true d e k l s t = s
cond_same fixed false d e k l s t = t

protect_same : (f : Frame) (qs : Pieces) (public : List ℕ) (mode : ℕ) → HasSamePieces f qs → SameEffect f.fixed (protect (with_pieces qs f) public mode) (protect f public mode)
protect_same f qs public mode s = grind (arith, with_pieces, committed_seen, cond_same)

act_same : (act : Act) (f : Frame) (qs : Pieces) (public : List ℕ) → HasSamePieces f qs → IsGuarded f → SameEffect f.fixed (act_effect act (with_pieces qs f) public) (act_effect act f public)
act_same act f qs public s guard = grind (arith, framed_same, written_same, protect_same)

-- ---- rows

flags_same : (fixed : List ℕ) (o : Option (Bool × Bool)) (d e : Effect) → SameEffect fixed d e → SameEffect fixed (with_flags o d) (with_flags o e)
flags_same fixed None d e s = s
flags_same fixed (Some cz) d e s = record { frame = ap (λ (t : Seen). record t { c = cz.0; z = cz.1 }) s.frame; public = s.public; changes = s.changes }

meaning_same : (t : Shape) (f : Frame) (qs : Pieces) (public : List ℕ) → HasSamePieces f qs → IsGuarded f → SameDone f.fixed (meaning t (with_pieces qs f) public) (meaning t f public)
meaning_same t f qs public s guard =
    let g = record f { dt = t.dt } in
    record { effect = flags_same f.fixed t.flags (act_effect t.act (with_pieces qs g) public) (act_effect t.act g public) (act_same t.act g qs public s guard); next = refl }

pub effect_same : (i : Ins) (f : Frame) (qs : Pieces) (public : List ℕ) (x : Around) → HasSamePieces f qs → IsGuarded f → SameDone f.fixed (effect i (with_pieces qs f) public x) (effect i f public x)
effect_same i f qs public x s guard =
    rw (shapes i (with_pieces qs f) public x, shape_same i f qs public x s, shapes i f public x) (meaning_same (shape i f public x) f qs public s guard)
