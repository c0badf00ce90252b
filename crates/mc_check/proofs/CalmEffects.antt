-- What each row of accepted code leaves of its frame: DT, the code address and the open calls after it. An act leaves
-- what its shape says; of each row is shown that its shape pops, pushes and writes as the table of uses says.
use Rattle.std.proofs.Common.{◌≡◌, ℕ, ◌+◌, ◌-◌, ◌*◌, ◌≤◌, ℤ, Bool, true, false, cond, List, length, Option, Some, None, refl, sym, subst, arith}
use Rattle.std.specs.Prelude.{◌==◌, slice_index, take, drop}
use Rattle.std.proofs.lemmas.Bool.{or_parts}
use Rattle.std.proofs.lemmas.List.{length-replicate}
use Rattle.law_family.specs.model_machine.specs.declared.instruction.Ins.{Ins}
use Rattle.law_family.specs.model_machine.specs.declared.instruction.Ins.TheVariants as ins
use Rattle.law_family.specs.model_machine.specs.Blocks.{and_blocks, or_blocks, xor_blocks, not_block}
use Rattle.law_family.specs.model_machine.specs.Code.{IsAddress, Shaped}
use Rattle.law_family.specs.model_machine.specs.Frame.{Frame, Effect, dynamic_end, public_base, public_end, moved_address, address_at, is_outside, no_access, top}
use Rattle.law_family.specs.model_machine.specs.Primitives.{Around, Done, Primitive, MemoryCopy, DelegatorAid, Digest, CopyFixed, Encipher, Decipher, Sign, BitByte, ShiftLeft, ShiftRight, BitWord, primitive, masked_bytes}
use Rattle.law_family.specs.model_machine.specs.Row.{causes, first_cause, effect, holds, address_or_zero, on_stack, operand, place_of}
use Rattle.model_stack.specs.StackRows.{Uses, uses, WritesAt, WritesAnywhere, height_after, pair_uses, prim_uses, row_uses, prim_writing, row_writing, is_indirect, counts, call_target}
use Rattle.mc_isa.specs.model_machine.specs.Shapes.{Act, Stays, Answers, Jumps, Calls, Returns, Pushes, Replaces, Writes, Protects, Shape, with_status, with_length, act_effect, with_flags, meaning, delegator_shape, prim_shape, pair_shape, shape}
use Rattle.law_family.specs.law_rows.proofs.RowShapes.{shapes}
use Rattle.law_family.specs.law_machine.proofs.RowWords.{none_holds}
use Rattle.law_family.specs.law_machine.proofs.BlockLengths.{worked_short, each_short, map_short, stacked_short, at_short}
use Rattle.mc_check.specs.Standing.{StandsAt}
use Rattle.mc_check.proofs.CalmWrites.{IsRoomy, stands_roomy, KeepsCalls, IsSafeAt, framed_kept, gone_kept, flagged_kept, pushed_kept, topped_kept, written_kept, protect_kept}
use Rattle.mc_check.proofs.CalmAddresses.{IsSafe, operand_safe, anywhere_safe, operand_whole, at_whole}
use Rattle.mc_check.proofs.CalmCauses.{row_pops}
use Rattle.law_family.specs.model_device.proofs.ListLemmas.{zeros_short}

-- ---- no cause

-- an operand on the stack lies on it whole
on_top : (b : Bool) (n m h : ℕ) → cond b n m ≤ h → b ≡ true → n ≤ h
on_top true n m h few is = few
on_top false n m h few is = absurd (cc is)

-- the value of a bit operation is as long as its operand
manipulated_short : (a b c : Bool) (v mask : List ℕ) (n : ℕ) → length v ≤ n → length (cond a (and_blocks v (not_block mask)) (cond b (or_blocks v mask) (cond c (xor_blocks v mask) v))) ≤ n
manipulated_short a b c v mask n few = grind (arith, each_short)

-- the code address after a row that is no call and no return
abbrev pub place_after : Ins → Frame → ℕ
place_after (ins.Branch k d) f = cond (holds k f) (address_or_zero (moved_address f.at d)) f.at
place_after (ins.Jump k to) f = cond (holds k f) to f.at
place_after _ f = f.at

-- the conditions under which a row is done that is no call and no return
pub record RunsPlainRow (h : ℕ) (i : Ins) (f : Frame) (public : List ℕ) (x : Around) : Type 0 where
  pub shaped : Shaped i
  pub few : (row_uses i).needs ≤ h
  pub direct : is_indirect i ≡ false
  pub no_return : counts i ≡ None
  pub no_call : call_target i ≡ None
  pub room : f.dt - (row_uses i).pops + (row_uses i).pushes ≤ dynamic_end
  pub whole : public_end - public_base ≤ length public
  pub no_cause : first_cause (causes i f public x) ≡ None

-- a call whose address is not on the stack has a target, so it is no plain row
pub no_call : (b : Bool) (to : ℕ) → b ≡ false → cond b None (Some to) ≡ None → ⊥
no_call true to direct none = cc direct
no_call false to direct none = cc none

-- the bytes that are loaded are all there
load_there : (tag : ℕ) (off : ℤ) (n : ℕ) (f : Frame) (public : List ℕ) (x : Around) → first_cause (causes (ins.Load tag off n) f public x) ≡ None → no_access f (operand f tag off n) n ≡ false
unfolding causes
load_there tag off n f public x e = (none_holds (causes (ins.Load tag off n) f public x) e).1.1.0

loadi_there : (tag : ℕ) (off : ℤ) (n : ℕ) (f : Frame) (public : List ℕ) (x : Around) → first_cause (causes (ins.Loadi tag off n) f public x) ≡ None
    → is_outside f (address_at f public (place_of f tag off 2)) n ≡ false
unfolding causes
loadi_there tag off n f public x e =
    (or_parts (no_access f (operand f tag off 2) 2) (is_outside f (address_at f public (place_of f tag off 2)) n) (none_holds (causes (ins.Loadi tag off n) f public x) e).1.1.0).1

-- ---- shapes that keep to their uses

-- the place at which the code goes on after an act that is no call and no return
abbrev act_place : Act → ℕ → ℕ
act_place (Jumps taken to) at = cond taken to at
act_place _ at = at

-- an act that is no call and no return, which pushes as many bytes as the uses say, and replaces no others than those
-- that they need; and a write is safe under the given condition
abbrev ActFits : Frame → Uses → Type 0 → Act → Type 0
ActFits f u safe (Calls taken to) = ⊥
ActFits f u safe (Returns less more) = ⊥
ActFits f u safe (Pushes b) = u.pushes ≡ length b
ActFits f u safe (Replaces b) = (u.pushes ≡ 0) × (u.pops ≡ 0) × (length b ≤ u.needs)
ActFits f u safe (Writes a n b) = (u.pushes ≡ 0) × IsSafeAt f a (length b) safe
ActFits f u safe _ = u.pushes ≡ 0

-- a shape that pops as many bytes, whose code goes on at the given place, and whose act fits
abbrev ShapeFits : Frame → Uses → ℕ → Type 0 → Shape → Type 0
ShapeFits f u place safe t = (t.dt ≡ f.dt - u.pops) × (place ≡ act_place t.act f.at) × ActFits f u safe t.act

-- an act on a frame whose top bytes were taken off
act_kept : (act : Act) (f : Frame) (h : ℕ) (u : Uses) (safe : Type 0) (public : List ℕ) → IsRoomy f (h - u.pops) → u.needs ≤ h → f.dt + u.pushes ≤ dynamic_end → ActFits f u safe act
    → KeepsCalls f (h - u.pops + u.pushes) (act_place act f.at) safe (act_effect act f public)
act_kept Stays f h u safe public r few room fits = framed_kept f (h - u.pops) _ safe public r (omega arith)
act_kept (Answers sw la) f h u safe public r few room fits = framed_kept f (h - u.pops) _ safe (with_length la (with_status sw public)) r (omega arith)
act_kept (Jumps true to) f h u safe public r few room fits = gone_kept f (h - u.pops) _ to safe public r (omega arith)
act_kept (Jumps false to) f h u safe public r few room fits = framed_kept f (h - u.pops) _ safe public r (omega arith)
act_kept (Calls taken to) f h u safe public r few room fits = absurd fits
act_kept (Returns less more) f h u safe public r few room fits = absurd fits
act_kept (Pushes b) f h u safe public r few room fits = pushed_kept f (h - u.pops) _ b safe public r (omega arith) (omega arith)
act_kept (Replaces b) f h u safe public r few room fits = topped_kept f (h - u.pops) _ b safe public r (omega (arith, fits.1, fits.2)) (omega (arith, fits.0))
act_kept (Writes a n b) f h u safe public r few room fits = written_kept f (h - u.pops) _ safe public a b r (omega (arith, fits.0)) fits.1
act_kept (Protects mode) f h u safe public r few room fits = protect_kept f (h - u.pops) _ safe public mode r (omega arith)

flags_kept : (f : Frame) (k place : ℕ) (safe : Type 0) (o : Option (Bool × Bool)) (e : Effect) → KeepsCalls f k place safe e → KeepsCalls f k place safe (with_flags o e)
flags_kept f k place safe None e s = s
flags_kept f k place safe (Some cz) e s = flagged_kept f k place safe e cz.0 cz.1 s

shape_kept : (t : Shape) (f : Frame) (h : ℕ) (u : Uses) (place : ℕ) (safe : Type 0) (public : List ℕ) → IsRoomy f h → u.needs ≤ h → u.pops ≤ u.needs → f.dt - u.pops + u.pushes ≤ dynamic_end → ShapeFits f u place safe t
    → KeepsCalls f (h - u.pops + u.pushes) place safe (meaning t f public).effect
shape_kept t f h u place safe public r few pops room fits =
    let g = record f { dt = t.dt } in
    let dt : t.dt ≡ f.dt - u.pops = fits.0 in
    let left : IsRoomy g (h - u.pops) = record { dyn = r.dyn; low = r.low; top = omega (arith, r.top); high = omega (arith, r.high) } in
    let e = act_effect t.act g public in
    let kept : KeepsCalls f (h - u.pops + u.pushes) (act_place t.act f.at) safe e = act_kept t.act g h u safe public left few (omega arith) fits.2 in
    flags_kept f (h - u.pops + u.pushes) place safe t.flags e (subst (λ (at : ℕ). KeepsCalls f (h - u.pops + u.pushes) at safe e) (sym fits.1) kept)

module _ (len size base h : ℕ) (f : Frame) (public : List ℕ) (s : StandsAt len size base h f) where
  roomy : IsRoomy f h
  roomy = stands_roomy len size base h f s

  -- a write of m bytes at an operand
  at_operand : (tag : ℕ) (off : ℤ) (n depth other m : ℕ) → IsAddress tag off → on_stack tag depth other ≤ h → m ≤ n → IsSafeAt f (place_of f tag off depth) m (IsSafe size base h (WritesAt tag off n))
  at_operand tag off n depth other m shaped few short = operand_safe len size base h f tag off n depth m s shaped (on_top (tag == 0) depth other h few) short

  -- a write anywhere
  anywhere : (a m : ℕ) → IsSafeAt f a m (IsSafe size base h WritesAnywhere)
  anywhere a m = anywhere_safe len size base h f a m s

  -- ---- primitives

  reported_fits : (o : Option (List ℕ)) → ShapeFits f (uses 2 2 0) f.at (IsSafe size base h WritesAnywhere) (delegator_shape f o)
  reported_fits None = (omega arith, refl, refl)
  reported_fits (Some name) = (omega arith, refl, (refl, anywhere _ _))

  -- the top n bytes under a mask
  masked : (n op : ℕ) (mask : List ℕ) → length (masked_bytes op (top f n) mask) ≤ n
  masked n op mask = manipulated_short (op == 0) (op == 1) (op == 2) (top f n) mask n (stacked_short f n n)

  prim_fits : (p : Primitive) (args : List ℕ) (x : Around) → ShapeFits f (prim_uses p args) f.at (IsSafe size base h (prim_writing (Some p))) (prim_shape p args f public x)
  unfolding prim_shape
  prim_fits MemoryCopy args x = (omega arith, refl, (refl, anywhere _ _))
  prim_fits DelegatorAid args x = reported_fits x.delegator
  prim_fits Digest args x = (omega arith, refl, (refl, anywhere _ _))
  prim_fits CopyFixed args x = (omega arith, refl, (refl, anywhere _ _))
  prim_fits (Encipher c) args x = (omega arith, refl, (refl, anywhere _ _))
  prim_fits (Decipher c) args x = (omega arith, refl, (refl, anywhere _ _))
  prim_fits (Sign c) args x = (omega arith, refl, (refl, anywhere _ _))
  prim_fits BitByte args x = (omega arith, refl, (refl, refl, masked 1 (slice_index args 0) (take 1 (drop 1 args))))
  prim_fits ShiftLeft args x = (omega arith, refl, (refl, refl, worked_short _ (slice_index args 0) _ (stacked_short f _ _)))
  prim_fits ShiftRight args x = (omega arith, refl, (refl, refl, worked_short _ (slice_index args 0) _ (stacked_short f _ _)))
  prim_fits BitWord args x = (omega arith, refl, (refl, refl, masked 2 (slice_index args 0) (take 2 (drop 1 args))))
  prim_fits _ args x = (omega arith, refl, refl)

  pair_fits : (p : Option Primitive) (args : List ℕ) (x : Around) → ShapeFits f (pair_uses p args) f.at (IsSafe size base h (prim_writing p)) (pair_shape p args f public x)
  pair_fits None args x = (omega arith, refl, refl)
  pair_fits (Some p) args x = prim_fits p args x

  -- ---- all rows

  -- a jump whose place may be on the stack, and is not
  direct_fits : (on b : Bool) (to stacked : ℕ) → on ≡ false → (cond on (f.dt - 2) f.dt ≡ f.dt - 0) × (cond b to f.at ≡ cond b (cond on stacked to) f.at)
  direct_fits true b to stacked direct = absurd (cc direct)
  direct_fits false b to stacked direct = (omega arith, refl)

  fits : (i : Ins) (x : Around) → RunsPlainRow h i f public x → ShapeFits f (row_uses i) (place_after i f) (IsSafe size base h (row_writing i)) (shape i f public x)
  unfolding shape
  fits (ins.Jump k to) x y = let both = direct_fits (k == 0) (holds k f) to _ y.direct in (both.0, both.1, refl)
  fits (ins.Call k to) x y = absurd (no_call (k == 0) to y.direct y.no_call)
  fits (ins.Pushz n) x y = (omega arith, refl, sym (length-replicate n 0))
  fits (ins.Prim set number args) x y = pair_fits (primitive set number) args x
  fits ins.Ret x y = absurd (cc y.no_return)
  fits (ins.Reti i) x y = absurd (cc y.no_return)
  fits (ins.Reto o) x y = absurd (cc y.no_return)
  fits (ins.Retio i o) x y = absurd (cc y.no_return)
  fits (ins.Load tag off n) x y = (omega arith, refl, sym (operand_whole f h public (operand f tag off n) n roomy y.whole (load_there tag off n f public x y.no_cause)))
  fits (ins.Store tag off n) x y = (omega arith, refl, (refl, at_operand tag off n (2 * n) n _ y.shaped.0 y.few (stacked_short f n n)))
  fits (ins.Loadi tag off n) x y = (omega arith, refl, sym (at_whole f h public (address_at f public (place_of f tag off 2)) n roomy y.whole (loadi_there tag off n f public x y.no_cause)))
  fits (ins.Storei tag off n) x y = (omega arith, refl, (refl, anywhere _ _))
  fits (ins.Setb tag off b) x y = (omega arith, refl, (refl, at_operand tag off 1 1 0 _ y.shaped.0 y.few (omega arith)))
  fits (ins.Addb tag off b) x y = (omega arith, refl, (refl, at_operand tag off 1 1 0 _ y.shaped.0 y.few (worked_short _ 1 _ (at_short f public _ 1))))
  fits (ins.Subb tag off b) x y = (omega arith, refl, (refl, at_operand tag off 1 1 0 _ y.shaped.0 y.few (worked_short _ 1 _ (at_short f public _ 1))))
  fits (ins.Setw tag off w) x y = (omega arith, refl, (refl, at_operand tag off 2 2 0 _ y.shaped.0 y.few (omega arith)))
  fits (ins.Addw tag off w) x y = (omega arith, refl, (refl, at_operand tag off 2 2 0 _ y.shaped.0 y.few (worked_short _ 2 _ (at_short f public _ 2))))
  fits (ins.Subw tag off w) x y = (omega arith, refl, (refl, at_operand tag off 2 2 0 _ y.shaped.0 y.few (worked_short _ 2 _ (at_short f public _ 2))))
  fits (ins.Clearn tag off n) x y = (omega arith, refl, (refl, at_operand tag off n n 0 _ y.shaped.0 y.few (zeros_short n)))
  fits (ins.Incn tag off n) x y = (omega arith, refl, (refl, at_operand tag off n n 0 _ y.shaped.0 y.few (worked_short _ n _ (at_short f public _ n))))
  fits (ins.Decn tag off n) x y = (omega arith, refl, (refl, at_operand tag off n n 0 _ y.shaped.0 y.few (worked_short _ n _ (at_short f public _ n))))
  fits (ins.Notn tag off n) x y = (omega arith, refl, (refl, at_operand tag off n n 0 _ y.shaped.0 y.few (map_short _ _ n (at_short f public _ n))))
  fits (ins.Addn tag off n) x y = (omega arith, refl, (refl, at_operand tag off n (2 * n) n _ y.shaped.0 y.few (worked_short _ n _ (at_short f public _ n))))
  fits (ins.Subn tag off n) x y = (omega arith, refl, (refl, at_operand tag off n (2 * n) n _ y.shaped.0 y.few (worked_short _ n _ (at_short f public _ n))))
  fits (ins.Andn tag off n) x y = (omega arith, refl, (refl, at_operand tag off n (2 * n) n _ y.shaped.0 y.few (each_short _ _ _ n (at_short f public _ n))))
  fits (ins.Orn tag off n) x y = (omega arith, refl, (refl, at_operand tag off n (2 * n) n _ y.shaped.0 y.few (each_short _ _ _ n (at_short f public _ n))))
  fits (ins.Xorn tag off n) x y = (omega arith, refl, (refl, at_operand tag off n (2 * n) n _ y.shaped.0 y.few (each_short _ _ _ n (at_short f public _ n))))
  fits _ x y = (omega arith, refl, refl)

  pub effect_kept : (i : Ins) (x : Around) → RunsPlainRow h i f public x → KeepsCalls f (height_after i h) (place_after i f) (IsSafe size base h (row_writing i)) (effect i f public x).effect
  effect_kept i x y =
      let safe = IsSafe size base h (row_writing i) in
      subst (λ (d : Done). KeepsCalls f (height_after i h) (place_after i f) safe d.effect) (sym (shapes i f public x))
      (shape_kept (shape i f public x) f h (row_uses i) (place_after i f) safe public roomy y.few (row_pops i) y.room (fits i x y))
