use Rattle.std.proofs.Common.{ℕ, ◌+◌, length, refl, ap, subst, ◌∙◌, arith}
use Rattle.std.proofs.lemmas.Bool.{lt-ltb, le-ltb}
use Rattle.mc_segs.specs.HeldFrames.{Held, frame_on_bank}
use Rattle.mc_segs.specs.Puts.{PutsBytes}
use Rattle.mc_bank.specs.Bank.{app_of}
use Rattle.mc_segs.proofs.AccessLemmas.{has_words}
use Rattle.mc_segs.proofs.StoreLemmas.{fixed_under, limit_by, kept_later}
use Rattle.mc_segs.proofs.protection.keep_static.Goals as goal

pub returns-then-list-more-gt64-clause-abend : goal.returns-then-list-more-gt64-clause-abend
returns-then-list-more-gt64-clause-abend g c =
    let b = c.args.bank.now in
    let h = c.args.frame.now in
    let l = fixed_under g.B.Bank b h in
    let has = has_words l c.frame.inside h c.frame.view_is c.frame.invariant c.requires.runs.fits.fixed in
    let many = c.if-list-more-gt64.true in
    let limit = limit_by (frame_on_bank g.B.Bank b h) l c.frame.inside.pending c.list.result.now c.args.at (length c.args.from.now) c.missing-more.result has.pieces has.pending c.requires.low c.list.ensures.words c.missing-more.ensures.value in
    (limit ∙ lt-ltb 64 (length c.list.result.now + c.missing-more.result) (omega arith), refl)

pub returns-clause-abend : goal.returns-clause-abend
returns-clause-abend g c =
    let b = c.args.bank.now in
    let h = c.args.frame.now in
    let l = fixed_under g.B.Bank b h in
    let has = has_words l c.frame.inside h c.frame.view_is c.frame.invariant c.requires.runs.fits.fixed in
    let few = c.if-list-more-gt64.false in
    let limit = limit_by (frame_on_bank g.B.Bank b h) l c.frame.inside.pending c.list.result.now c.args.at (length c.args.from.now) c.missing-more.result has.pieces has.pending c.requires.low c.list.ensures.words c.missing-more.ensures.value in
    limit ∙ le-ltb 64 (length c.list.result.now + c.missing-more.result) (omega arith)

pub returns-clause-kept : goal.returns-clause-kept
returns-clause-kept g c =
    let state = g.B.Bank.state in
    let named = g.B.Bank.named in
    let b = c.args.bank.now in
    let h = c.args.frame.now in
    let f = c.frame.inside in
    let at = c.args.at in
    let from = c.args.from.now in
    let has = has_words (fixed_under g.B.Bank b h) f h c.frame.view_is c.frame.invariant c.requires.runs.fits.fixed in
    kept_later g.B.Bank b f h at from c.put_bytes.new.words c.frame.view_is c.requires.runs.fits has c.requires.runs.going c.requires.low c.requires.range
    (subst (λ (i : ℕ). PutsBytes (app_of (state b).apps (named b i)).fixed f.pending at from c.put_bytes.new.words) (ap (λ (t : Held). t.slot) c.frame.view_is) c.put_bytes.ensures)
