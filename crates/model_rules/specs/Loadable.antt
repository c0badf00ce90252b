-- Applications that a card can have.
use Rattle.std.specs.Prelude.{◌+◌, ◌<◌, ◌≤◌, length}
use Rattle.model_rules.specs.model_device.specs.Bytes.{AreBytes}
use Rattle.model_rules.specs.model_device.specs.Card.{App}
use Rattle.model_rules.specs.model_machine.specs.Frame.{dynamic_base, dynamic_end}

-- an application that a card can have: of bytes, whose code has addresses of two bytes, with static and session bytes that
-- lie in their segments
pub record IsLoadable (a : App) : Type 0 where
  pub code : AreBytes a.code
  pub places : length a.code < 65536
  pub bytes : AreBytes a.fixed
  pub static : length a.fixed ≤ dynamic_base
  pub session : dynamic_base + a.session ≤ dynamic_end
