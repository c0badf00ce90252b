-- The places that an instruction goes to: they are in the code, and a CALL, a return and the rest are apart.
use Rattle.std.proofs.Common.{◌≡◌, ◌<◌, ℕ, Bool, true, false, not, ◌&&◌, ◌||◌, nat_lt, List, length, Option, Some, None, option_and_then, refl, ap, subst, ltb-true, arith}
use Rattle.std.proofs.lemmas.Bool.{and_parts}
use Rattle.law_family.specs.model_machine.specs.declared.instruction.Ins.{Ins}
use Rattle.law_family.specs.model_machine.specs.declared.instruction.Ins.TheVariants as ins
use Rattle.law_family.specs.model_machine.specs.Code.{Shaped}
use Rattle.model_stack.specs.StackRows.{counts, goes_on, jump_target, call_target, target_inside, call_inside}
use Rattle.model_stack.specs.StackShape.{Routine, Main, At, Fact, Stands, look, Reached, begins, goes, jumps, calls, passes, returns}
use Rattle.mc_check.proofs.FactLooks.{fine}

-- ---- kinds of instruction

pub call_goes_on : (i : Ins) (q : ℕ) → call_target i ≡ Some q → goes_on i ≡ true
call_goes_on (ins.Call k to) q h = refl
call_goes_on _ q h = absurd (cc h)

pub call_returns_not : (i : Ins) (q : ℕ) → call_target i ≡ Some q → counts i ≡ None
call_returns_not (ins.Call k to) q h = refl
call_returns_not _ q h = absurd (cc h)

pub call_jumps_not : (i : Ins) (next q : ℕ) → call_target i ≡ Some q → jump_target i next ≡ None
call_jumps_not (ins.Call k to) next q h = refl
call_jumps_not _ next q h = absurd (cc h)

-- a return is no CALL, and goes nowhere by itself
pub record LeadsNowhere (i : Ins) (next : ℕ) : Type 0 where
  pub calls : call_target i ≡ None
  pub stops : goes_on i ≡ false
  pub jumps : jump_target i next ≡ None

pub return_ends : (i : Ins) (next : ℕ) (c : ℕ × ℕ) → counts i ≡ Some c → LeadsNowhere i next
return_ends ins.Ret next c h = record { calls = refl; stops = refl; jumps = refl }
return_ends (ins.Reti less) next c h = record { calls = refl; stops = refl; jumps = refl }
return_ends (ins.Reto more) next c h = record { calls = refl; stops = refl; jumps = refl }
return_ends (ins.Retio less more) next c h = record { calls = refl; stops = refl; jumps = refl }
return_ends _ next c h = absurd (cc h)

below : (p q : ℕ × ℕ) → ◌≡◌ {A = Option (ℕ × ℕ)} (Some p) (Some q) → p.0 < 256 → q.0 < 256
below p q h low = let same : p ≡ q = cc h in subst (λ (x : ℕ × ℕ). x.0 < 256) same low

-- a return takes less than 256 bytes
pub return_less : (i : Ins) (c : ℕ × ℕ) → Shaped i → counts i ≡ Some c → c.0 < 256
return_less i c shaped h = grind (arith, below)

pub target_some : (t : Option (Option ℕ)) (to : ℕ) → option_and_then (λ (target : Option ℕ). target) t ≡ Some to → t ≡ Some (Some to)
target_some None to h = absurd (cc h)
target_some (Some t) to h = ap Some h

-- ---- places in the code

goes_or : (goes inside : Bool) → (not goes || inside) ≡ true → goes ≡ true → inside ≡ true
goes_or true inside h on = h
goes_or false inside h on = absurd (cc on)

record LeadsInside (code : List ℕ) (i : Ins) (next : ℕ) : Type 0 where
  goes : (not (goes_on i) || nat_lt next (length code)) ≡ true
  target : target_inside (length code) (jump_target i next) ≡ true
  call : call_inside (length code) (call_target i) ≡ true

inside : (code : List ℕ) (f : Fact) (i : Ins) (next : ℕ) → look code f ≡ Stands i next → LeadsInside code i next
inside code f i next h =
    let a = not (goes_on i) || nat_lt next (length code) in
    let b = target_inside (length code) (jump_target i next) in
    let both = and_parts (a && b) (call_inside (length code) (call_target i)) (fine code f i next h).inside in
    let first = and_parts a b both.0 in
    record { goes = first.0; target = first.1; call = both.1 }

pub next_inside : (code : List ℕ) (f : Fact) (i : Ins) (next : ℕ) → look code f ≡ Stands i next → goes_on i ≡ true → next < length code
next_inside code f i next h on =
    ltb-true next (length code) (goes_or (goes_on i) (nat_lt next (length code)) (inside code f i next h).goes on)

pub jump_inside : (code : List ℕ) (f : Fact) (i : Ins) (next to : ℕ) → look code f ≡ Stands i next → jump_target i next ≡ Some (Some to) → to < length code
jump_inside code f i next to h e =
    ltb-true to (length code) (subst (λ (t : Option (Option ℕ)). target_inside (length code) t ≡ true) e (inside code f i next h).target)

pub routine_inside : (code : List ℕ) (f : Fact) (i : Ins) (next q : ℕ) → look code f ≡ Stands i next → call_target i ≡ Some q → q < length code
routine_inside code f i next q h e =
    ltb-true q (length code) (subst (λ (t : Option ℕ). call_inside (length code) t ≡ true) e (inside code f i next h).call)

-- a routine that is reached begins in the code
abbrev pub BeginsInside : ℕ → Routine → Type 0
BeginsInside len Main = Unit {0}
BeginsInside len (At q) = q < len

pub reached_inside : {code : List ℕ} {f : Fact} → Reached code f → BeginsInside (length code) f.routine
reached_inside begins = tt
reached_inside (goes i next from gives plain on) = reached_inside from
reached_inside (jumps i next to from gives e) = reached_inside from
reached_inside {code} (calls {r} {p} {h} i next q from gives e) = routine_inside code _ i next q gives.stands e
reached_inside (passes i next q from gives e c) = reached_inside from
reached_inside (returns i next q back less more from gives e there at n le) = reached_inside from
