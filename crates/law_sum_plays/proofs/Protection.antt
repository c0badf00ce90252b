-- What a row does to the protection, to what waits and to static bytes, by whether it changes the protection.
use Rattle.std.specs.Prelude.{◌≡◌, ℕ, Bool, true, false, cond, nat_le, List, [], length, slice_index, Option, Some, None, refl}
use Rattle.std.proofs.Common.{arith, sym, subst, ◌∙◌}
use Rattle.law_prove_closed.specs.model_machine.specs.declared.instruction.Ins.{Ins}
use Rattle.law_prove_closed.specs.model_machine.specs.declared.instruction.Ins.TheVariants as ins
use Rattle.law_prove_closed.specs.model_machine.specs.Frame.{Frame, Effect, Place, where_is, static_written, write_effect_at, write_effect, protect, static_bytes, pending_change}
use Rattle.law_prove_closed.specs.model_machine.specs.Primitives.{Around, Done, Primitive, DelegatorAid, primitive}
use Rattle.law_prove_closed.specs.model_machine.specs.Row.{effect, causes, first_cause, row}
use Rattle.law_prove_closed.specs.model_machine.specs.Chain.{frame_at}
use Rattle.law_prove_closed.specs.model_machine.specs.Shapes.{Act, Stays, Answers, Jumps, Calls, Returns, Pushes, Replaces, Writes, Protects, Shape, act_effect, with_flags, meaning, prim_shape, pair_shape, shape, delegator_shape}
use Rattle.law_prove_closed.specs.law_rows.proofs.RowShapes.{shapes}
use Rattle.law_prove_closed.specs.law_rows.proofs.Keeping.{on_done}
use Rattle.law_prove_closed.specs.model_rules.specs.Keeping.{mode_of_primitive, mode_of}
use Rattle.law_sums.specs.model_sums.specs.Events.{is_commit}
use Rattle.law_sum_plays.specs.Laws.{Guards, GuardLaw}

-- ---- acts that leave the protection

-- an effect that leaves protection, pieces and static bytes
plain : (b : Bool) (fixed : List ℕ) (pieces : List (ℕ × List ℕ)) (e : Effect) → e.frame.protected ≡ b → e.frame.pieces ≡ pieces → e.frame.fixed ≡ fixed → Guards None b fixed pieces e
plain true fixed pieces e p w s = record { stays = p; settled = λ a none. absurd (cc a); fixed = λ a. s }
plain false fixed pieces e p w s = record { stays = p; settled = λ a none. w ∙ none refl; fixed = λ a. absurd (cc a) }

static_guards : (b : Bool) (f : Frame) (public : List ℕ) (i : ℕ) (bytes : List ℕ) → f.protected ≡ b → Guards None b f.fixed f.pieces (static_written b f public i bytes)
static_guards true f public i bytes p = record { stays = p; settled = λ a none. absurd (cc a); fixed = λ a. refl }
static_guards false f public i bytes p = record { stays = p; settled = λ a none. none refl; fixed = λ a. absurd (cc a) }

written_guards : (f : Frame) (public : List ℕ) (bytes : List ℕ) (o : Option Place) → Guards None f.protected f.fixed f.pieces (write_effect_at f public bytes o)
written_guards f public bytes o = grind (arith, plain, static_guards)

write_guards : (f : Frame) (public : List ℕ) (a : ℕ) (bytes : List ℕ) → Guards None f.protected f.fixed f.pieces (write_effect f public a bytes)
unfolding write_effect
write_guards f public a bytes = written_guards f public bytes (where_is f a (length bytes))

-- ---- the protection

protect_by : (c : Bool) (mode : ℕ) (b : Bool) (f : Frame) (public : List ℕ) → is_commit mode ≡ c → f.protected ≡ b
    → Guards (Some mode) b f.fixed f.pieces
    (cond {A = Effect} c (record { frame = record f { fixed = static_bytes f; pieces = []; protected = nat_le 2 mode }; public = public; changes = pending_change f f.pieces })
    (record { frame = record f { pieces = []; protected = nat_le 2 mode }; public = public; changes = None }))
protect_by c mode b f public is p = grind arith

protect_guards : (mode : ℕ) (f : Frame) (public : List ℕ) → Guards (Some mode) f.protected f.fixed f.pieces (protect f public mode)
protect_guards mode f public = protect_by (is_commit mode) mode f.protected f public refl refl

-- ---- acts

-- the mode of an act
abbrev mode_of_act : Act → Option ℕ
mode_of_act Stays = None
mode_of_act (Answers sw la) = None
mode_of_act (Jumps taken to) = None
mode_of_act (Calls taken to) = None
mode_of_act (Returns less more) = None
mode_of_act (Pushes b) = None
mode_of_act (Replaces b) = None
mode_of_act (Writes a n b) = None
mode_of_act (Protects mode) = Some mode

act_guards : (a : Act) (f : Frame) (public : List ℕ) → Guards (mode_of_act a) f.protected f.fixed f.pieces (act_effect a f public)
act_guards a f public = grind (arith, plain, write_guards, protect_guards)

-- ---- rows

flags_guard : (mode : Option ℕ) (b : Bool) (fixed : List ℕ) (pieces : List (ℕ × List ℕ)) (o : Option (Bool × Bool)) (e : Effect) → Guards mode b fixed pieces e → Guards mode b fixed pieces (with_flags o e)
flags_guard mode b fixed pieces None e h = h
flags_guard mode b fixed pieces (Some cz) e h = record { stays = h.stays; settled = h.settled; fixed = h.fixed }

shape_guards : (s : Shape) (mode : Option ℕ) (f : Frame) (public : List ℕ) → mode_of_act s.act ≡ mode → Guards mode f.protected f.fixed f.pieces (meaning s f public).effect
shape_guards s mode f public is =
    subst (λ (m : Option ℕ). Guards m f.protected f.fixed f.pieces (meaning s f public).effect) is
    (flags_guard (mode_of_act s.act) f.protected f.fixed f.pieces s.flags (act_effect s.act (record f { dt = s.dt }) public) (act_guards s.act (record f { dt = s.dt }) public))

delegator_mode : (f : Frame) (o : Option (List ℕ)) → mode_of_act (delegator_shape f o).act ≡ None
delegator_mode f None = refl
delegator_mode f (Some name) = refl

prim_mode : (p : Primitive) (args : List ℕ) (f : Frame) (public : List ℕ) (x : Around) → mode_of_act (prim_shape p args f public x).act ≡ mode_of_primitive (Some p) (slice_index args 0)
unfolding prim_shape
prim_mode DelegatorAid args f public x = delegator_mode f x.delegator
prim_mode _ args f public x = refl

pair_mode : (o : Option Primitive) (args : List ℕ) (f : Frame) (public : List ℕ) (x : Around) → mode_of_act (pair_shape o args f public x).act ≡ mode_of_primitive o (slice_index args 0)
pair_mode None args f public x = refl
pair_mode (Some p) args f public x = prim_mode p args f public x

-- the mode of an instruction is that of its act
mode_is : (i : Ins) (f : Frame) (public : List ℕ) (x : Around) → mode_of_act (shape i f public x).act ≡ mode_of i
unfolding shape
mode_is (ins.Prim set number args) f public x = pair_mode (primitive set number) args f public x
mode_is _ f public x = refl

effect_guards : (i : Ins) (f : Frame) (public : List ℕ) (x : Around) → Guards (mode_of i) f.protected f.fixed f.pieces (effect i f public x).effect
effect_guards i f public x =
    subst (λ (d : Done). Guards (mode_of i) f.protected f.fixed f.pieces d.effect) (sym (shapes i f public x)) (shape_guards (shape i f public x) (mode_of i) f public (mode_is i f public x))

-- so does each row that is done, at whatever place its fetch ended
pub row_guards : GuardLaw
unfolding row
row_guards i f next public x =
    let g : Frame = frame_at f next in
    on_done (λ d. Guards (mode_of i) f.protected f.fixed f.pieces d.effect) (first_cause (causes i g public x)) (effect i g public x) (effect_guards i g public x)
