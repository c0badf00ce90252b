-- What a row keeps: the application of its frame, that bytes are pending only while protection is on, and the length of
-- the public segment.
use Rattle.std.proofs.Common.{◌≡◌, ℕ, ◌+◌, ◌-◌, ◌≤◌, Bool, true, false, cond, List, length, Option, Some, None, refl, sym, subst, ◌∙◌, arith}
use Rattle.std.specs.Prelude.{◌==◌, ◌&&◌, ◌||◌, nat_le}
use Rattle.std.proofs.lemmas.Bool.Decides.{nat_tests}
use Rattle.law_machine.specs.model_machine.specs.declared.instruction.Ins.{Ins}
use Rattle.law_machine.specs.model_device.specs.Bytes.{bytes2}
use Rattle.law_machine.specs.model_machine.specs.Frame.{Frame, Effect, Place, Static, Dynamic, Public, where_is, public_base, public_end, static_written, write_effect_at, write_effect, protect}
use Rattle.law_machine.specs.model_machine.specs.Primitives.{Around, Done}
use Rattle.law_machine.specs.model_machine.specs.Row.{effect, causes, first_cause, row}
use Rattle.law_machine.specs.law_rows.specs.Keeping.{after_change}
use Rattle.law_machine.specs.model_machine.specs.Shapes.{Act, Answers, Jumps, Calls, Writes, Protects, Shape, with_status, with_length, act_effect, with_flags, meaning, shape}
use Rattle.law_machine.specs.law_rows.proofs.RowShapes.{shapes}
use Rattle.law_machine.specs.law_rows.proofs.Keeping.{effect_keeps as parts_kept, on_done}
use Rattle.mc_segs.specs.Ends.{changed_bytes}
use Rattle.law_machine.specs.model_device.proofs.ListLemmas.{length_splice}
use Rattle.mc_machine.specs.Alike.{IsGuarded, KeepsEffect, KeepsRow}

-- what an effect keeps besides the parts that every row keeps: the size of the code, the guard, and the length of a
-- whole public segment
record KeepsRest (code_len : ℕ) (guard : Type 0) (public : List ℕ) (e : Effect) : Type 0 where
  code_kept : e.frame.code_len ≡ code_len
  guard_kept : guard → IsGuarded e.frame
  public_kept : length public ≡ 1041 → length e.public ≡ 1041

abbrev KeepsRestOf : Frame → List ℕ → Effect → Type 0
KeepsRestOf f public e = KeepsRest f.code_len (IsGuarded f) public e

-- ---- acts

public_fits : (s d p : Bool) (a n i : ℕ) (j k : ℕ) → p ≡ (nat_le public_base a && nat_le (a + n) public_end)
    → cond s (Some (Static j)) (cond d (Some (Dynamic k)) (cond p (Some (Public (a - public_base))) None)) ≡ Some (Public i) → i + n ≤ 1041
public_fits s d p a n i j k test e = grind (arith, nat_tests)

static_kept : (b : Bool) (f : Frame) (public : List ℕ) (i : ℕ) (bytes : List ℕ) → f.protected ≡ b → KeepsRestOf f public (static_written b f public i bytes)
static_kept true f public i bytes on = record { code_kept = refl; guard_kept = λ g off. absurd (cc (on, off)); public_kept = λ e. e }
static_kept false f public i bytes on = record { code_kept = refl; guard_kept = λ g. g; public_kept = λ e. e }

written_in_kept : (f : Frame) (public : List ℕ) (a : ℕ) (bytes : List ℕ) (place : Option Place) → where_is f a (length bytes) ≡ place → KeepsRestOf f public (write_effect_at f public bytes place)
written_in_kept f public a bytes None is = record { code_kept = refl; guard_kept = λ g. g; public_kept = λ e. e }
written_in_kept f public a bytes (Some (Static i)) is = static_kept f.protected f public i bytes refl
written_in_kept f public a bytes (Some (Dynamic i)) is = record { code_kept = refl; guard_kept = λ g. g; public_kept = λ e. e }
written_in_kept f public a bytes (Some (Public i)) is =
    let fits : i + length bytes ≤ 1041 = public_fits _ _ _ a (length bytes) i _ _ refl is in
    record { code_kept = refl; guard_kept = λ g. g; public_kept = λ e. length_splice public i bytes (omega arith) ∙ e }

written_kept : (f : Frame) (public : List ℕ) (a : ℕ) (bytes : List ℕ) → KeepsRestOf f public (write_effect f public a bytes)
unfolding write_effect
written_kept f public a bytes = written_in_kept f public a bytes (where_is f a (length bytes)) refl

cond_kept : (f : Frame) (public : List ℕ) (b : Bool) (d e : Effect) → KeepsRestOf f public d → KeepsRestOf f public e → KeepsRestOf f public (cond b d e)
cond_kept f public true d e s t = s
cond_kept f public false d e s t = t

protect_kept : (f : Frame) (public : List ℕ) (mode : ℕ) → KeepsRestOf f public (protect f public mode)
protect_kept f public mode =
    cond_kept f public (mode == 1 || mode == 3) _ _ (record { code_kept = refl; guard_kept = λ g off. refl; public_kept = λ e. e }) (record { code_kept = refl; guard_kept = λ g off. refl; public_kept = λ e. e })

status_kept : (sw : Option ℕ) (public : List ℕ) → length public ≡ 1041 → length (with_status sw public) ≡ 1041
status_kept None public e = e
status_kept (Some sw) public e = length_splice public 1039 (bytes2 sw) (omega arith) ∙ e

reply_kept : (la : Option ℕ) (public : List ℕ) → length public ≡ 1041 → length (with_length la public) ≡ 1041
reply_kept None public e = e
reply_kept (Some la) public e = length_splice public 1037 (bytes2 la) (omega arith) ∙ e

act_kept : (act : Act) (f : Frame) (public : List ℕ) → KeepsRestOf f public (act_effect act f public)
act_kept (Answers sw la) f public = record { code_kept = refl; guard_kept = λ g. g; public_kept = λ e. reply_kept la (with_status sw public) (status_kept sw public e) }
act_kept (Jumps true to) f public = record { code_kept = refl; guard_kept = λ g. g; public_kept = λ e. e }
act_kept (Jumps false to) f public = record { code_kept = refl; guard_kept = λ g. g; public_kept = λ e. e }
act_kept (Calls true to) f public = record { code_kept = refl; guard_kept = λ g. g; public_kept = λ e. e }
act_kept (Calls false to) f public = record { code_kept = refl; guard_kept = λ g. g; public_kept = λ e. e }
act_kept (Writes a n b) f public = written_kept f public a b
act_kept (Protects mode) f public = protect_kept f public mode
act_kept _ f public = record { code_kept = refl; guard_kept = λ g. g; public_kept = λ e. e }

-- ---- rows

flags_kept : (f : Frame) (public : List ℕ) (o : Option (Bool × Bool)) (e : Effect) → KeepsRestOf f public e → KeepsRestOf f public (with_flags o e)
flags_kept f public None e k = k
flags_kept f public (Some cz) e k = record { code_kept = k.code_kept; guard_kept = k.guard_kept; public_kept = k.public_kept }

shape_kept : (s : Shape) (f : Frame) (public : List ℕ) → KeepsRestOf f public (meaning s f public).effect
shape_kept s f public = flags_kept f public s.flags (act_effect s.act (record f { dt = s.dt }) public) (act_kept s.act (record f { dt = s.dt }) public)

effect_kept : (i : Ins) (f : Frame) (public : List ℕ) (x : Around) → KeepsRestOf f public (effect i f public x).effect
effect_kept i f public x = subst (λ (d : Done). KeepsRestOf f public d.effect) (sym (shapes i f public x)) (shape_kept (shape i f public x) f public)

changed_is : (fixed : List ℕ) (o : Option (List (ℕ × List ℕ))) → after_change fixed o ≡ changed_bytes fixed o
changed_is fixed None = refl
changed_is fixed (Some ps) = refl

-- an instruction's effect keeps these, whether the row abends or not
pub effect_keeps : (i : Ins) (f : Frame) (public : List ℕ) (x : Around) → KeepsEffect f public (effect i f public x).effect
effect_keeps i f public x = grind (arith, parts_kept, effect_kept, changed_is)

pub row_keeps : (i : Ins) (f : Frame) (public : List ℕ) (x : Around) → KeepsRow f public (row i f public x)
unfolding row
row_keeps i f public x = on_done (λ d. KeepsEffect f public d.effect) (first_cause (causes i f public x)) (effect i f public x) (effect_keeps i f public x)
