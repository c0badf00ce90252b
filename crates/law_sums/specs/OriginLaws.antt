-- Laws of origins: the number that bytes are is the value of the form of their origins.
use Rattle.std.specs.Prelude.{◌≡◌, List, ℕ, Some}
use Rattle.model_sums.specs.model_device.specs.Bytes.{num}
use Rattle.model_sums.specs.Forms.{Form, value}
use Rattle.model_sums.specs.Origins.{Origin, form_of}
use Rattle.model_sums.specs.Says.{AreFrom}

-- the number that bytes are of known origins is the value of the form of their origins
abbrev pub NumberLaw : Type 0
NumberLaw = (first : List ℕ) (os : List Origin) (bs : List ℕ) (f : Form) → AreFrom first os bs → form_of os ≡ Some f → num bs ≡ value f first
