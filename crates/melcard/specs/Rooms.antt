-- The memory that a job has before its input is read.
use Rattle.std.specs.Prelude.{◌≡◌, ◌*◌, ◌≤◌, vec_len, vec_capacity}
use Rattle.mc_base.specs.mc_words.specs.model_device.specs.Limits.{most_code}
use Rattle.mc_filter.specs.Inputs.{input_limit}
use Rattle.melcard.specs.declared.room.Room.{Room}

-- room for the digits of every input, for their bytes, and for a line of a listing for each byte of code
pub record HasRoom (r : Room) : Type 0 where
  pub no_digits : vec_len r.digits ≡ 0
  pub no_text : vec_len r.text ≡ 0
  pub digits : input_limit ≤ vec_capacity r.digits
  pub code : input_limit ≤ 2 * vec_capacity r.code
  pub text : 41 * most_code ≤ vec_capacity r.text
