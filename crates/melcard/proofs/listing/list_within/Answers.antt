use Rattle.std.proofs.Common.{◌++◌, ◌∙◌, Ok, arith, sym, ap, append-nil}
use Rattle.mc_text.specs.model_text.specs.Text.{ok_as}
use Rattle.mc_text.specs.model_text.specs.Listing.{text_of}
use Rattle.mc_asm.proofs.ListingLemmas.{left_listed, listed_more, listed_fault, listed_end, line_behind, no_text}
use Rattle.melcard.proofs.CodeLemmas.{no_items, spell_some}
use Rattle.melcard.proofs.listing.list_within.Goals as goal

pub loop-place-init : goal.loop-place-init
loop-place-init c =
    let none = no_items c.args.text.now.items (omega (arith, c.requires.empty, c.args.text.now.ok.0)) in
    record {
      leads = ap (λ items. ok_as (λ rest. items ++ rest) (left_listed c.args.code.now 0)) none ∙ no_text c.args.code.now;
      len = omega (arith, c.requires.empty);
      room = omega arith;
    }

pub loop-place-preserved : goal.loop-place-preserved
loop-place-preserved c =
    let kept = c.loop-place.invariant in
    let found = c.in-Ok.ensures.stands in
    let some = spell_some c.in-Ok.ins found.shaped in
    record {
      leads =
          ap (λ items. ok_as (λ rest. items ++ rest) (left_listed c.args.code.now c.in-Ok.next)) c.put_line.ensures.text
          ∙ line_behind c.loop-place.text.items (text_of c.in-Ok.ins) (left_listed c.args.code.now c.in-Ok.next)
          ∙ ap (ok_as (λ rest. c.loop-place.text.items ++ rest)) (sym (listed_more c.args.code.now c.loop-place.place c.in-Ok.next c.in-Ok.ins (sym c.in-Ok.ensures.exact)))
          ∙ kept.leads;
      len = omega (arith, kept.len, c.put_line.ensures.len, found.place, some);
      room = omega (arith, kept.room, c.put_line.ensures.room);
    }

pub returns-in-Err-clause-refused : goal.returns-in-Err-clause-refused
returns-in-Err-clause-refused c =
    sym c.loop-place.invariant.leads
    ∙ ap (ok_as (λ rest. c.loop-place.text.items ++ rest)) (listed_fault c.args.code.now c.loop-place.place c.in-Err.fault c.loop-place-test.true (sym c.in-Err.ensures.exact))

pub returns-clause-text : goal.returns-clause-text
returns-clause-text c =
    sym c.loop-place.invariant.leads
    ∙ ap (ok_as (λ rest. c.loop-place.text.items ++ rest)) (listed_end c.args.code.now c.loop-place.place c.loop-place-test.false)
    ∙ ap Ok (append-nil c.loop-place.text.items)
