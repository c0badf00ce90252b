-- Each act keeps the parts of its frame that every row keeps; so does each row.
use Rattle.std.specs.Prelude.{◌≡◌, ℕ, ◌+◌, ◌-◌, ◌≤◌, Bool, true, false, cond, ◌||◌, nat_le, ◌==◌, ◌&&◌, List, [], ◌∷◌, ◌++◌, length, Option, Some, None}
use Rattle.std.proofs.Common.{refl, sym, subst, ap, ◌∙◌, arith}
use Rattle.std.proofs.lemmas.Bool.Decides.{nat_tests}
use Rattle.model_machine.specs.declared.instruction.Ins.{Ins}
use Rattle.model_machine.specs.declared.instruction.Ins.TheVariants as ins
use Rattle.model_machine.specs.declared.machine.Abend.{Abend}
use Rattle.model_machine.specs.model_device.specs.Bytes.{bytes2, splice}
use Rattle.model_machine.specs.model_device.specs.Pieces.{laid_pieces}
use Rattle.model_machine.specs.model_device.proofs.ImageLemmas.{all_append}
use Rattle.model_machine.specs.model_device.proofs.ListLemmas.{length_splice, splice_longer}
use Rattle.model_machine.specs.Frame.{Frame, Effect, Place, Static, Dynamic, Public, where_is, dynamic_base, static_written, write_effect_at, write_effect, top, protect, static_bytes, pending_change}
use Rattle.model_machine.specs.Primitives.{Around, Done, Primitive, DelegateTo, DelegatorAid, primitive, frame_effect}
use Rattle.model_machine.specs.Row.{effect, row_end, causes, first_cause, row, frame_after_call}
use Rattle.model_machine.specs.Shapes.{Act, Stays, Answers, Jumps, Calls, Returns, Pushes, Replaces, Writes, Protects, Shape, with_status, with_length, act_effect, with_flags, meaning, prim_shape, pair_shape, shape, delegator_shape, exits}
use Rattle.law_rows.specs.Keeping.{PiecesWithin, ChangeWithin, after_change, Keeps, Leaves, OnLeave, OnDone, KeepingLaw, LeavingLaw}
use Rattle.law_rows.proofs.RowShapes.{shapes}

-- ---- static bytes

-- pieces that lie inside keep the length
pub length_laid : (ps : List (ℕ × List ℕ)) (l : List ℕ) → PiecesWithin (length l) ps → length (laid_pieces l ps) ≡ length l
length_laid [] l a = refl
length_laid (p ∷ ps) l a =
    let same : length (splice l p.0 p.1) ≡ length l = length_splice l p.0 p.1 a.0 in
    length_laid ps (splice l p.0 p.1) (subst (λ (n : ℕ). PiecesWithin n ps) (sym same) a.1) ∙ same

length_after : (fixed : List ℕ) (o : Option (List (ℕ × List ℕ))) → ChangeWithin (length fixed) o → length (after_change fixed o) ≡ length fixed
length_after fixed None a = refl
length_after fixed (Some ps) a = length_laid ps fixed a

-- pieces make no list shorter
laid_longer : (ps : List (ℕ × List ℕ)) (l : List ℕ) → length l ≤ length (laid_pieces l ps)
laid_longer [] l = omega arith
laid_longer (p ∷ ps) l = omega (arith, splice_longer l p.0 p.1, laid_longer ps (splice l p.0 p.1))

after_longer : (fixed : List ℕ) (o : Option (List (ℕ × List ℕ))) → length fixed ≤ length (after_change fixed o)
after_longer fixed None = omega arith
after_longer fixed (Some ps) = laid_longer ps fixed

committed_after : (f : Frame) (fixed : List ℕ) (ps : List (ℕ × List ℕ)) → laid_pieces fixed ps ≡ after_change fixed (pending_change f ps)
committed_after f fixed [] = refl
committed_after f fixed (p ∷ ps) = refl

committed_within : (f : Frame) (n : ℕ) (ps : List (ℕ × List ℕ)) → PiecesWithin n ps → ChangeWithin n (pending_change f ps)
committed_within f n [] a = tt
committed_within f n (p ∷ ps) a = a

-- ---- acts

-- an effect without a static change
still : (f g : Frame) (public segment : List ℕ) → g.name ≡ f.name → g.deny ≡ f.deny → g.session ≡ f.session → g.fixed ≡ f.fixed → g.pieces ≡ f.pieces
    → length f.dyn ≤ length g.dyn → length public ≤ length segment → Keeps f public (frame_effect g segment)
still f g public segment name deny session fixed pieces dyn longer =
    record {
      name = name;
      deny = deny;
      session = session;
      dyn = dyn;
      public = longer;
      fixed = fixed;
      inside = λ h. subst (λ (ps : List (ℕ × List ℕ)). PiecesWithin (length f.fixed) ps) (sym pieces) h;
      changes = λ h. tt;
    }

-- an address of the static segment
static_place : (s d p : Bool) (a n i len j k : ℕ) → s ≡ nat_le (a + n) len
    → cond s (Some (Static a)) (cond d (Some (Dynamic j)) (cond p (Some (Public k)) None)) ≡ Some (Static i) → i + n ≤ len
static_place true d p a n i len j k test e =
    let place : a ≡ i = cc e in
    grind (arith, nat_tests)
static_place false true p a n i len j k test e = absurd (cc e)
static_place false false true a n i len j k test e = absurd (cc e)
static_place false false false a n i len j k test e = absurd (cc e)

static_keeps : (b : Bool) (f : Frame) (public : List ℕ) (i : ℕ) (bytes : List ℕ) → i + length bytes ≤ length f.fixed → Keeps f public (static_written b f public i bytes)
static_keeps false f public i bytes fits =
    record { name = refl; deny = refl; session = refl; dyn = omega arith; public = omega arith; fixed = refl; inside = λ h. h; changes = λ h. (fits, tt) }
static_keeps true f public i bytes fits =
    record {
      name = refl;
      deny = refl;
      session = refl;
      dyn = omega arith;
      public = omega arith;
      fixed = refl;
      inside = λ h. all_append (λ p. p.0 + length p.1 ≤ length f.fixed) f.pieces ((i, bytes) ∷ []) h (fits, tt);
      changes = λ h. tt;
    }

written_in : (f : Frame) (public : List ℕ) (a : ℕ) (bytes : List ℕ) (o : Option Place) → where_is f a (length bytes) ≡ o → Keeps f public (write_effect_at f public bytes o)
written_in f public a bytes None is = still f f public public refl refl refl refl refl (omega arith) (omega arith)
written_in f public a bytes (Some (Static i)) is = static_keeps f.protected f public i bytes (static_place _ _ _ a (length bytes) i (length f.fixed) _ _ refl is)
written_in f public a bytes (Some (Dynamic i)) is = still f (record f { dyn = splice f.dyn i bytes }) public public refl refl refl refl refl (splice_longer f.dyn i bytes) (omega arith)
written_in f public a bytes (Some (Public i)) is = still f f public (splice public i bytes) refl refl refl refl refl (omega arith) (splice_longer public i bytes)

written_keeps : (f : Frame) (public : List ℕ) (a : ℕ) (bytes : List ℕ) → Keeps f public (write_effect f public a bytes)
unfolding write_effect
written_keeps f public a bytes = written_in f public a bytes (where_is f a (length bytes)) refl

protect_keeps : (f : Frame) (public : List ℕ) (mode : ℕ) → Keeps f public (protect f public mode)
protect_keeps f public mode = by (mode == 1 || mode == 3)
  where
    by : (b : Bool) → Keeps f public (cond {A = Effect} b (record { frame = record f { fixed = static_bytes f; pieces = []; protected = nat_le 2 mode }; public = public; changes = pending_change f f.pieces }) (record { frame = record f { pieces = []; protected = nat_le 2 mode }; public = public; changes = None }))
    by true =
        record {
          name = refl;
          deny = refl;
          session = refl;
          dyn = omega arith;
          public = omega arith;
          fixed = committed_after f f.fixed f.pieces;
          inside = λ h. tt;
          changes = λ h. committed_within f (length f.fixed) f.pieces h;
        }
    by false = record { name = refl; deny = refl; session = refl; dyn = omega arith; public = omega arith; fixed = refl; inside = λ h. tt; changes = λ h. tt }

status_longer : (sw : Option ℕ) (public : List ℕ) → length public ≤ length (with_status sw public)
status_longer None public = omega arith
status_longer (Some sw) public = splice_longer public 1039 (bytes2 sw)

reply_longer : (la : Option ℕ) (public : List ℕ) → length public ≤ length (with_length la public)
reply_longer None public = omega arith
reply_longer (Some la) public = splice_longer public 1037 (bytes2 la)

act_keeps : (act : Act) (f : Frame) (public : List ℕ) → Keeps f public (act_effect act f public)
act_keeps Stays f public = still f f public public refl refl refl refl refl (omega arith) (omega arith)
act_keeps (Answers sw la) f public = still f f public _ refl refl refl refl refl (omega arith) (omega (arith, status_longer sw public, reply_longer la (with_status sw public)))
act_keeps (Jumps true to) f public = still f (record f { at = to }) public public refl refl refl refl refl (omega arith) (omega arith)
act_keeps (Jumps false to) f public = still f f public public refl refl refl refl refl (omega arith) (omega arith)
act_keeps (Calls true to) f public = still f (frame_after_call true f to) public public refl refl refl refl refl (splice_longer f.dyn (f.dt - dynamic_base) (bytes2 f.lb ++ bytes2 f.at)) (omega arith)
act_keeps (Calls false to) f public = still f f public public refl refl refl refl refl (omega arith) (omega arith)
act_keeps (Returns less more) f public = still f _ public public refl refl refl refl refl (splice_longer f.dyn (f.lb - 4 - less - dynamic_base) (top f more)) (omega arith)
act_keeps (Pushes b) f public = still f _ public public refl refl refl refl refl (splice_longer f.dyn (f.dt - dynamic_base) b) (omega arith)
act_keeps (Replaces b) f public = still f _ public public refl refl refl refl refl (splice_longer f.dyn (f.dt - length b - dynamic_base) b) (omega arith)
act_keeps (Writes a n b) f public = written_keeps f public a b
act_keeps (Protects mode) f public = protect_keeps f public mode

-- ---- rows

flags_keep : (f : Frame) (public : List ℕ) (o : Option (Bool × Bool)) (e : Effect) → Keeps f public e → Keeps f public (with_flags o e)
flags_keep f public None e k = k
flags_keep f public (Some cz) e k = record { name = k.name; deny = k.deny; session = k.session; dyn = k.dyn; public = k.public; fixed = k.fixed; inside = k.inside; changes = k.changes }

-- the meaning of a shape keeps the parts of its frame that every row keeps
pub shape_keeps : (s : Shape) (f : Frame) (public : List ℕ) → Keeps f public (meaning s f public).effect
shape_keeps s f public = flags_keep f public s.flags (act_effect s.act (record f { dt = s.dt }) public) (act_keeps s.act (record f { dt = s.dt }) public)

-- what an instruction keeps of its frame
pub effect_keeps : (i : Ins) (f : Frame) (public : List ℕ) (x : Around) → Keeps f public (effect i f public x).effect
effect_keeps i f public x = subst (λ (d : Done). Keeps f public d.effect) (sym (shapes i f public x)) (shape_keeps (shape i f public x) f public)

-- the number of its static bytes stays, if the pending pieces lie in them
pub fixed_length : (f : Frame) (public : List ℕ) (e : Effect) → Keeps f public e → PiecesWithin (length f.fixed) f.pieces → length e.frame.fixed ≡ length f.fixed
fixed_length f public e k h = ap (λ (l : List ℕ). length l) k.fixed ∙ length_after f.fixed e.changes (k.changes h)

-- and does not fall in any case
pub fixed_longer : (f : Frame) (public : List ℕ) (e : Effect) → Keeps f public e → length f.fixed ≤ length e.frame.fixed
fixed_longer f public e k = subst (λ (l : List ℕ). length f.fixed ≤ length l) (sym k.fixed) (after_longer f.fixed e.changes)

-- if a row is done, so is its effect
pub on_done : (P : Done → Type 0) (o : Option Abend) (d : Done) → P d → OnDone (row_end o d) P
on_done P (Some a) d h = tt
on_done P None d h = h

-- each row keeps those parts
pub row_keeps : KeepingLaw
unfolding row
row_keeps i f public x = on_done (λ d. Keeps f public d.effect) (first_cause (causes i f public x)) (effect i f public x) (effect_keeps i f public x)

-- ---- exits and delegations

-- a shape that exits or delegates leaves the segments
abbrev IsLeaving : Frame → List ℕ → Shape → Type 0
IsLeaving f public s = OnLeave s.next (Leaves f (meaning s f public).effect)

exit_leaves : (f : Frame) (public : List ℕ) (sw la : Option ℕ) → Leaves f (meaning (exits f sw la) f public).effect
exit_leaves f public sw la = record { fixed = refl; pieces = refl; session = refl; dyn = refl; dt = omega arith; changes = refl }

delegator_leaves : (f : Frame) (public : List ℕ) (o : Option (List ℕ)) → IsLeaving f public (delegator_shape f o)
delegator_leaves f public None = tt
delegator_leaves f public (Some name) = tt

prim_leaves : (p : Primitive) (args : List ℕ) (f : Frame) (public : List ℕ) (x : Around) → IsLeaving f public (prim_shape p args f public x)
unfolding prim_shape
prim_leaves DelegateTo args f public x = record { fixed = refl; pieces = refl; session = refl; dyn = refl; dt = omega arith; changes = refl }
prim_leaves DelegatorAid args f public x = delegator_leaves f public x.delegator
prim_leaves _ args f public x = tt

pair_leaves : (o : Option Primitive) (args : List ℕ) (f : Frame) (public : List ℕ) (x : Around) → IsLeaving f public (pair_shape o args f public x)
pair_leaves None args f public x = tt
pair_leaves (Some p) args f public x = prim_leaves p args f public x

shape_leaves : (i : Ins) (f : Frame) (public : List ℕ) (x : Around) → IsLeaving f public (shape i f public x)
unfolding shape
shape_leaves ins.Exit f public x = exit_leaves f public None None
shape_leaves (ins.Exitsw sw) f public x = exit_leaves f public (Some sw) None
shape_leaves (ins.Exitla la) f public x = exit_leaves f public None (Some la)
shape_leaves (ins.Exitswla sw la) f public x = exit_leaves f public (Some sw) (Some la)
shape_leaves (ins.Prim set number args) f public x = pair_leaves (primitive set number) args f public x
shape_leaves _ f public x = tt

-- an instruction that exits or delegates leaves its frame's segments as they were
pub effect_leaves : (i : Ins) (f : Frame) (public : List ℕ) (x : Around) → OnLeave (effect i f public x).next (Leaves f (effect i f public x).effect)
effect_leaves i f public x = subst (λ (d : Done). OnLeave d.next (Leaves f d.effect)) (sym (shapes i f public x)) (shape_leaves i f public x)

-- a row that is done and exits or delegates leaves the segments of its frame
pub row_leaves : LeavingLaw
unfolding row
row_leaves i f public x = on_done (λ d. OnLeave d.next (Leaves f d.effect)) (first_cause (causes i f public x)) (effect i f public x) (effect_leaves i f public x)
