use Rattle.std.proofs.Common.{◌≡◌, ◌≤◌, ◌-◌, length, drop}
use Rattle.std.specs.Prelude.{◌%◌, ◌^◌, Some}
use Rattle.model_sums.specs.Origins as origins
use Rattle.prove_forms.specs.Forms.{modulus, OptionalIs}
use Rattle.prove_forms.specs.Origins.{origin_values}
use Rattle.prove_forms.proofs.spelled.form_of.Given as goal

-- the form is the number that the bytes from a place on are
abbrev pub invariant-loop-left : goal.invariant-loop-left
invariant-loop-left l =
    record {
      within : l.left ≤ length l.bytes;
      power : l.power ≡ 256 ^ (length l.bytes - l.left) % modulus;
      form : OptionalIs (Some l.form) (origins.form_of (origin_values (drop l.left l.bytes)));
    }

abbrev pub decreases-loop-left : goal.decreases-loop-left
decreases-loop-left l = l.left
