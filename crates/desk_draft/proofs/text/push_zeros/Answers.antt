use Rattle.std.proofs.Common.{◌≡◌, ◌+◌, ◌-◌, ◌++◌, ℕ, List, subst, sym}
use Rattle.mc_text.specs.model_device.specs.Bytes.{zeros}
use Rattle.mc_text.specs.model_text.specs.Listing.{hex_text}
use Rattle.desk_draft.proofs.TextLemmas.{zero_more}
use Rattle.desk_draft.proofs.text.push_zeros.Goals as goal

pub loop-byte-preserved : goal.loop-byte-preserved
loop-byte-preserved c =
    let whole = c.args.deck.now.items ++ hex_text (zeros c.args.count) in
    subst (λ (d : List ℕ). d ++ hex_text (zeros (c.args.count - (c.loop-byte._byte + 1))) ≡ whole) (sym c.in_ok-push.ensures)
    (zero_more c.loop-byte.deck.items whole c.loop-byte._byte c.args.count c.loop-byte-test.true c.loop-byte.invariant)
