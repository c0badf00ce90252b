use Rattle.std.proofs.Common.{◌≡◌, ◌+◌, ◌-◌, ◌*◌, ◌≤◌, ◌++◌, Some, length, drop}
use Rattle.model_play.specs.model_text.specs.Listing.{hex_text}
use Rattle.mc_bank.specs.Bank.{app_of}
use Rattle.mc_card.specs.Parts.{card_in}
use Rattle.mc_script.proofs.text.add_bytes.Given as goal

-- the digits so far and those of the bytes that are left are those of all bytes, after the text that was there
abbrev pub invariant-loop-at : goal.invariant-loop-at
invariant-loop-at g l =
    let fixed = (app_of (card_in g.N.Nvm.state l.card).apps (Some l.aid)).fixed in
    record {
      reported : l.text.items ++ hex_text (drop l.at fixed) ≡ l.fn.text.items ++ hex_text fixed;
      place : l.at ≤ l.len;
      room : length l.text.items ≡ length l.fn.text.items + 2 * l.at;
    }

-- proposed from the loop's first test
abbrev pub decreases-loop-at : goal.decreases-loop-at
decreases-loop-at g l = l.len - l.at
