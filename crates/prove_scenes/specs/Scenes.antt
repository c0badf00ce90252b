-- The frame that stands for all of a place, as the code has it.
use Rattle.std.specs.Prelude.{◌≡◌, ℕ, ◌+◌, ◌-◌, ◌≤◌, List, [], ◌∷◌, ◌++◌, length, Option, Some, None}
use Rattle.model_machine.specs.model_device.specs.Bytes.{bytes2, zeros, splice}
use Rattle.model_machine.specs.model_device.specs.Card.{App}
use Rattle.model_machine.specs.Frame.{Frame, dynamic_base, dynamic_end, public_base, public_end}
use Rattle.model_prove.specs.Keys.{PlaceKey, Call}
use Rattle.model_prove.specs.Splits.{Scene}
use Rattle.prove_scenes.specs.declared.scene.Scene.TheInside.{Inside}
use Rattle.prove_scenes.specs.declared.scene.Sizes.{Sizes}
use Rattle.prove_scenes.specs.declared.scene.OpenCall.{OpenCall}
use Rattle.prove_scenes.specs.declared.scene.Registers.{Registers}

-- the scene of the fields
abbrev pub scene_value : Inside → Scene
scene_value s =
    record {
      frame = record {
        name = [];
        code_len = s.code_len;
        session = s.session;
        deny = s.deny;
        fixed = s.fixed;
        pieces = [];
        dyn = s.dynamic;
        dt = s.dt;
        lb = s.lb;
        at = s.at;
        c = s.c;
        z = s.z;
        protected = s.protected;
      };
      public = s.public;
    }

-- the invariant of the fields: DT lies between the floor and the end of the dynamic segment
pub record KeepsScene (s : Inside) : Type 0 where
  pub low : dynamic_base + s.session ≤ s.dt
  pub high : s.dt ≤ dynamic_end

-- the frame of a scene with another DT
abbrev pub frame_to : Scene → ℕ → Frame
frame_to s dt = record s.frame { dt = dt }

-- ---- the scene of a place

-- an application has these sizes and this access list
pub record IsSized (app : App) (sizes : Sizes) : Type 0 where
  pub code : length app.code ≡ sizes.code
  pub fixed : length app.fixed ≡ sizes.fixed
  pub session : app.session ≡ sizes.session
  pub deny : app.deny ≡ sizes.deny

-- the newest of some calls
abbrev pub newest : List Call → Option Call
newest [] = None
newest (c ∷ cs) = Some c

-- a call as the definition's value
abbrev pub call_of : Option OpenCall → Option Call
call_of None = None
call_of (Some c) = Some (record { dt = c.dt; lb = c.lb; at = c.at })

-- a key of a place has these registers, and this call is its newest
pub record HasRegisters (k : PlaceKey) (r : Registers) : Type 0 where
  pub at : k.at ≡ r.at
  pub c : k.c ≡ r.c
  pub z : k.z ≡ r.z
  pub dt : k.dt ≡ r.dt
  pub lb : k.lb ≡ r.lb
  pub protected : k.protected ≡ r.protected
  pub newest : newest k.calls ≡ call_of r.newest

-- a call, if there is one, ends in the dynamic segment
abbrev pub EndsInStack : Option OpenCall → Type 0
EndsInStack None = Unit {0}
EndsInStack (Some c) = c.dt ≤ dynamic_end

-- the dynamic bytes under a newest call
abbrev pub stack_under : Option OpenCall → List ℕ
stack_under None = zeros 512
stack_under (Some c) = splice (zeros 512) (c.dt - 4 - dynamic_base) (bytes2 c.lb ++ bytes2 c.at)

-- the scene of an application with these sizes at a place with these registers
abbrev pub scene_of : Sizes → Registers → Scene
scene_of s r =
    record {
      frame = record {
        name = [];
        code_len = s.code;
        session = s.session;
        deny = s.deny;
        fixed = zeros s.fixed;
        pieces = [];
        dyn = stack_under r.newest;
        dt = r.dt;
        lb = r.lb;
        at = r.at;
        c = r.c;
        z = r.z;
        protected = r.protected;
      };
      public = zeros (public_end - public_base);
    }
