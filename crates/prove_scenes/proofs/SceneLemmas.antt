-- The scene of a place, by the values that it is made of; and bytes that are replaced one by one.
use Rattle.std.proofs.Common.{◌≡◌, ℕ, zero, suc, ◌+◌, ◌-◌, ◌≤◌, ◌<◌, List, [], ◌∷◌, ◌++◌, length, take, drop, get_or, refl, sym, ap, ◌∙◌, arith}
use Rattle.std.specs.Prelude.{Option, Some, None}
use Rattle.std.specs.List.{refill}
use Rattle.std.proofs.lemmas.List.{take_at}
use Rattle.model_machine.specs.model_device.specs.Bytes.{zeros, splice, bytes2}
use Rattle.model_machine.specs.model_device.specs.Card.{App}
use Rattle.model_machine.specs.Frame.{dynamic_base, public_base, public_end}
use Rattle.model_prove.specs.Keys.{PlaceKey, Call}
use Rattle.model_prove.specs.Splits.{Scene, stand_in, stand_in_stack, with_byte, with_values}
use Rattle.prove_scenes.specs.declared.scene.Sizes.{Sizes}
use Rattle.prove_scenes.specs.declared.scene.OpenCall.{OpenCall}
use Rattle.prove_scenes.specs.declared.scene.Registers.{Registers}
use Rattle.prove_scenes.specs.Scenes.{IsSized, HasRegisters, newest, call_of, stack_under, scene_of}

-- the bytes under a call, if there is one
abbrev under : Option Call → List ℕ
under None = zeros 512
under (Some c) = splice (zeros 512) (c.dt - 4 - dynamic_base) (bytes2 c.lb ++ bytes2 c.at)

by_newest : (cs : List Call) → stand_in_stack cs ≡ under (newest cs)
by_newest [] = refl
by_newest (c ∷ cs) = refl

under_call : (o : Option OpenCall) → under (call_of o) ≡ stack_under o
under_call None = refl
under_call (Some c) = refl

-- the bytes under the newest call of a key
same_stack : (cs : List Call) (o : Option OpenCall) → newest cs ≡ call_of o → stand_in_stack cs ≡ stack_under o
same_stack cs o h = by_newest cs ∙ ap under h ∙ under_call o

-- the scene of a place is the frame that stands for it
pub stands_in : (s : Scene) (sizes : Sizes) (r : Registers) (app : App) (k : PlaceKey) → s ≡ scene_of sizes r → IsSized app sizes → HasRegisters k r → s ≡ stand_in app k
stands_in s sizes r app k is size at =
    is ∙ sym (rw (size.code, size.fixed, size.session, size.deny, at.at, at.c, at.z, at.dt, at.lb, at.protected, same_stack k.calls r.newest at.newest) refl)

-- a scene of these parts
abbrev built : Sizes → Registers → List ℕ → List ℕ → List ℕ → Scene
built s r fixed dyn public =
    record {
      frame = record {
        name = [];
        code_len = s.code;
        session = s.session;
        deny = s.deny;
        fixed = fixed;
        pieces = [];
        dyn = dyn;
        dt = r.dt;
        lb = r.lb;
        at = r.at;
        c = r.c;
        z = r.z;
        protected = r.protected;
      };
      public = public;
    }

-- a scene that is made of its parts
pub made : (s : Sizes) (r : Registers) (fixed dyn public : List ℕ) → fixed ≡ zeros s.fixed → dyn ≡ stack_under r.newest → public ≡ zeros (public_end - public_base)
    → built s r fixed dyn public ≡ scene_of s r
made s r fixed dyn public f d p =
    ap (λ (t : List ℕ). built s r t dyn public) f
    ∙ ap (λ (t : List ℕ). built s r (zeros s.fixed) t public) d
    ∙ ap (built s r (zeros s.fixed) (stack_under r.newest)) p

-- a write through as_mut_slice comes back as `refill`
pub refill_same : (n : ℕ) (xs ws : List ℕ) → length ws ≡ n → refill n xs ws ≡ ws
refill_same n xs ws is = take_at ws (drop (length ws) xs) n is

-- the bytes of a list from a place on are set, the byte there first
pub set_next : (s : Scene) (es : List (ℕ × ℕ)) (i : ℕ) → i < length es → with_values s (drop i es) ≡ with_values (with_byte s (get_or es i (0, 0))) (drop (i + 1) es)
set_next s [] i h = absurd (omega (arith, h))
set_next s (e ∷ es) zero h = refl
set_next s (e ∷ es) (suc i) h =
    let next : suc (i + 1) ≡ suc i + 1 = omega arith in
    set_next s es i (omega (arith, h)) ∙ ap (λ (k : ℕ). with_values (with_byte s (get_or es i (0, 0))) (drop k (e ∷ es))) next
