use Rattle.std.proofs.Common.{ℕ, List, sym, ap, ◌∙◌}
use Rattle.std.proofs.lemmas.Result.{err_from_is_err_and}
use Rattle.mc_words.specs.model_device.specs.Bytes.{splice}
use Rattle.mc_segs.specs.HeldFrames.{Held}
use Rattle.mc_segs.proofs.StoredLemmas.{kept_stored, refused, committed_stored, stopped_stored, dynamic_stored, public_stored}
use Rattle.mc_segs.proofs.access.store.Goals as goal

pub returns-in_ok-keep_static-in-Some-Static : goal.returns-in_ok-keep_static-in-Some-Static
returns-in_ok-keep_static-in-Some-Static g c =
    kept_stored g.B.Bank c.args.bank.now c.args.frame.now c.keep_static.new.frame c.args.at c.in-Some-Static.i c.args.from.now c.args.public.now
    c.requires.runs.fits c.requires.low (sym (ap (λ (h : Held). h.frame.protected) c.frame.view_is) ∙ c.if-frame.true) (rw c.in-Some-Static.field-0-is at c.in-Some-Static.ensures)
    c.in_ok-keep_static-in-Some-Static.ensures.abend c.in_ok-keep_static-in-Some-Static.ensures.kept

pub returns-in_err-keep_static-in-Some-Static : goal.returns-in_err-keep_static-in-Some-Static
returns-in_err-keep_static-in-Some-Static g c =
    let p = err_from_is_err_and c.from_residual.result c.from_residual.ensures.1 in
    rw (p.1, p.2) (refused g.B.Bank c.args.bank.now c.args.frame.now c.keep_static.new.frame c.args.at c.in-Some-Static.i c.args.from.now c.args.public.now c.in_err-keep_static-in-Some-Static.field-0.0
    c.requires.runs.fits c.requires.low (sym (ap (λ (h : Held). h.frame.protected) c.frame.view_is) ∙ c.if-frame.true) (rw c.in-Some-Static.field-0-is at c.in-Some-Static.ensures)
    c.in_err-keep_static-in-Some-Static.ensures.abend.0 c.in_err-keep_static-in-Some-Static.ensures.abend.1 c.in_err-keep_static-in-Some-Static.ensures.unchanged)

pub returns-in_ok-commit_static-in-Some-Static-2 : goal.returns-in_ok-commit_static-in-Some-Static-2
returns-in_ok-commit_static-in-Some-Static-2 g c =
    committed_stored g.B.Bank c.args.bank.now c.commit_static.new.bank c.args.frame.now c.args.at c.in-Some-Static.i c.args.from.now c.args.public.now
    c.requires.runs.fits c.requires.low (sym (ap (λ (h : Held). h.frame.protected) c.frame.view_is) ∙ c.if-frame.false) (rw c.in-Some-Static.field-0-is at c.in-Some-Static.ensures)
    c.in_ok-commit_static-in-Some-Static-2.ensures.done

pub returns-in_err-commit_static-in-Some-Static-2 : goal.returns-in_err-commit_static-in-Some-Static-2
returns-in_err-commit_static-in-Some-Static-2 g c =
    let p = err_from_is_err_and c.from_residual-in_err-commit_static-in-Some-Static-2.result c.from_residual-in_err-commit_static-in-Some-Static-2.ensures.1 in
    rw (p.1, p.2) (stopped_stored g.B.Bank c.args.bank.now c.commit_static.new.bank c.args.frame.now c.args.at c.in-Some-Static.i c.args.from.now c.args.public.now c.in_err-commit_static-in-Some-Static-2.field-0.0
    c.requires.runs.fits c.requires.low (sym (ap (λ (h : Held). h.frame.protected) c.frame.view_is) ∙ c.if-frame.false) (rw c.in-Some-Static.field-0-is at c.in-Some-Static.ensures)
    c.in_err-commit_static-in-Some-Static-2.ensures.items)

pub returns-in-Some-Dynamic : goal.returns-in-Some-Dynamic
returns-in-Some-Dynamic g c =
    dynamic_stored g.B.Bank c.args.bank.now c.frame.inside c.args.frame.now c.args.at c.in-Some-Dynamic.i c.args.from.now c.args.public.now c.write.new.into
    c.frame.view_is c.requires.runs.fits c.requires.runs.going c.requires.low (rw c.in-Some-Dynamic.field-0-is at c.in-Some-Dynamic.ensures) c.write.ensures

pub returns-in-Some-Public : goal.returns-in-Some-Public
returns-in-Some-Public g c =
    public_stored g.B.Bank c.args.bank.now c.args.frame.now c.args.at c.in-Some-Public.i c.args.from.now c.args.public.now c.write-in-Some-Public.new.into
    c.requires.runs.fits c.requires.runs.going c.requires.low (rw c.in-Some-Public.field-0-is at c.in-Some-Public.ensures) (c.write-in-Some-Public.ensures ∙ ap (λ (p : List ℕ). splice p c.in-Some-Public.i c.args.from.now) c.public.view_is)
