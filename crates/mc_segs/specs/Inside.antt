-- The meaning of the fields of a frame.
use Rattle.std.specs.Prelude.{[]}
use Rattle.mc_words.specs.model_device.specs.Bytes.{zeros}
use Rattle.mc_segs.specs.HeldFrames.{Held, pieces_of, ArePendingIn, KeepsFrame}
use Rattle.mc_segs.specs.declared.frame.Frame.TheInside.{Inside}

-- the frame of the fields
abbrev pub frame_value : Inside → Held
frame_value f =
    record {
      slot = f.slot;
      frame = record {
        name = [];
        code_len = f.code_len;
        session = f.session_len;
        deny = f.deny;
        fixed = zeros f.fixed_len;
        pieces = pieces_of f.fixed_len f.pending;
        dyn = f.dynamic;
        dt = f.dt;
        lb = f.lb;
        at = f.at;
        c = f.c;
        z = f.z;
        protected = f.protected;
      };
    }

-- the invariant of the fields
pub record KeepsInside (f : Inside) : Type 0 where
  pub frame : KeepsFrame (frame_value f).frame
  pub pending : ArePendingIn f.fixed_len f.pending
