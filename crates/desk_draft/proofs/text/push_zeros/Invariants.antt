use Rattle.std.proofs.Common.{◌≡◌, ◌-◌, ◌++◌}
use Rattle.mc_text.specs.model_device.specs.Bytes.{zeros}
use Rattle.mc_text.specs.model_text.specs.Listing.{hex_text}
use Rattle.desk_draft.proofs.text.push_zeros.Given as goal

-- the text so far and the zeros that are left are all of them after what the deck had
abbrev pub invariant-loop-byte : goal.invariant-loop-byte
invariant-loop-byte l = l.deck.items ++ hex_text (zeros (l.count - l._byte)) ≡ l.fn.deck.items ++ hex_text (zeros l.count)
