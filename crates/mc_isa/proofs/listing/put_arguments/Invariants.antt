-- the line so far with the arguments that are left is the whole line, and there is room for them
use Rattle.std.proofs.Common.{◌≡◌, ◌+◌, ◌*◌, ◌≤◌, ◌++◌, drop}
use Rattle.arrayvec.specs.ArrayVec.{array_vec_len}
use Rattle.model_text.specs.Listing.{arguments_text}
use Rattle.mc_isa.proofs.listing.put_arguments.Given as goal

abbrev pub invariant-loop-b : goal.invariant-loop-b
invariant-loop-b l = record {
  text : l.line.items ++ arguments_text (drop l.b-index l.args) ≡ l.fn.line.items ++ arguments_text l.args;
  room : array_vec_len l.line ≤ array_vec_len l.fn.line + 4 * l.b-index;
}
