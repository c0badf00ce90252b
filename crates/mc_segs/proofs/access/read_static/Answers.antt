use Rattle.std.proofs.Common.{List, ℕ, length, get_or, ◌+◌, sym, ap, ◌∙◌, arith}
use Rattle.std.specs.Prelude.{unwrap_or}
use Rattle.std.proofs.lemmas.List.{drop_all}
use Rattle.mc_words.specs.model_device.specs.Pieces.{covering_byte, word_pieces}
use Rattle.mc_segs.specs.HeldFrames.{app_under}
use Rattle.mc_segs.proofs.AccessLemmas.{has_words, static_read}
use Rattle.mc_segs.proofs.access.read_static.Goals as goal

pub returns : goal.returns
returns g c =
    let h = c.args.frame.now in
    let l = (app_under (g.B.Bank.state c.args.bank.now) (g.B.Bank.named c.args.bank.now) h).fixed in
    let has = has_words l c.frame.inside h c.frame.view_is c.frame.invariant c.requires.runs.fits.fixed in
    let same = c.requires.runs.fits.fixed in
    let range = c.requires.range in
    static_read l h.frame.pieces c.frame.inside.pending c.args.at (length c.args.into.now) c.loop-number.into has.pieces has.pending (omega (arith, same, range)) c.loop-number.invariant.len (λ i lt.
    sym (ap (λ (ws : List (ℕ × List ℕ)). unwrap_or (covering_byte (word_pieces ws) (c.args.at + i)) (get_or c.loop-number.into i 0)) (drop_all c.loop-number.number-index c.list-number-items.result.now c.loop-number-test.false))
    ∙ c.loop-number.invariant.bytes i lt
    ∙ ap (λ (ws : List (ℕ × List ℕ)). unwrap_or (covering_byte (word_pieces ws) (c.args.at + i)) (get_or l (c.args.at + i) 0)) c.list-number-items.ensures.words)
