use Rattle.std.proofs.Common.{◌++◌, ◌∙◌, Ok, sym, ap, append-nil}
use Rattle.model_text.specs.Text.{ok_as}
use Rattle.model_text.specs.Listing.{text_of}
use Rattle.mc_asm.proofs.ListingLemmas.{left_listed, listed_more, listed_fault, listed_end, line_behind, no_text}
use Rattle.mc_asm.proofs.listing.listing_of.Goals as goal

pub loop-place-init : goal.loop-place-init
loop-place-init c = ap (λ items. ok_as (λ rest. items ++ rest) (left_listed c.args.code.now 0)) c.new-text.ensures.items ∙ no_text c.args.code.now

pub loop-place-preserved : goal.loop-place-preserved
loop-place-preserved c =
    ap (λ items. ok_as (λ rest. items ++ rest) (left_listed c.args.code.now c.in-Ok.next)) c.in_ok-put_line-in-Ok.ensures
    ∙ line_behind c.loop-place.text.items (text_of c.in-Ok.ins) (left_listed c.args.code.now c.in-Ok.next)
    ∙ ap (ok_as (λ rest. c.loop-place.text.items ++ rest)) (sym (listed_more c.args.code.now c.loop-place.place c.in-Ok.next c.in-Ok.ins (sym c.in-Ok.ensures.exact)))
    ∙ c.loop-place.invariant

pub returns-in-Err-clause-refused : goal.returns-in-Err-clause-refused
returns-in-Err-clause-refused c =
    sym c.loop-place.invariant
    ∙ ap (ok_as (λ rest. c.loop-place.text.items ++ rest)) (listed_fault c.args.code.now c.loop-place.place c.in-Err.fault c.loop-place-test.true (sym c.in-Err.ensures.exact))

pub returns-clause-text : goal.returns-clause-text
returns-clause-text c =
    sym c.loop-place.invariant
    ∙ ap (ok_as (λ rest. c.loop-place.text.items ++ rest)) (listed_end c.args.code.now c.loop-place.place c.loop-place-test.false)
    ∙ ap Ok (append-nil c.loop-place.text.items)
