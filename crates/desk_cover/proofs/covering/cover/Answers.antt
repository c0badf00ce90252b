use Rattle.std.proofs.Common.{List, Result, Ok, Err, refl, ap, subst, ◌∙◌, rules}
use Rattle.mc_streams.specs.declared.refusals.WriteFault.{WriteFault}
use Rattle.mc_text.specs.Texts.{Puts, sunk}
use Rattle.mc_script.specs.Plays.{Bench}
use Rattle.desk_cover.specs.declared.lcov.LineCount.{LineCount}
use Rattle.desk_cover.specs.Counting.{new_lines}
use Rattle.desk_cover.specs.Records.{record_text}
use Rattle.desk_cover.proofs.CoverLemmas.{covers_deck}
use Rattle.desk_cover.proofs.covering.cover.Goals as goal

pub returns-in-Ok-put_record-clause-covers : goal.returns-in-Ok-put_record-clause-covers
returns-in-Ok-put_record-clause-covers g c =
    let name = c.args.name.now in
    let a : Bench = record { device = g.N.Nvm.state c.args.dev.now; bench = g.N.Bench.bench c.args.dev.now } in
    let x = sunk g.T.Sink c.args.out.now in
    let y = sunk g.T.Sink c.put_record.new.out in
    let puts =
    subst (λ (ls : List LineCount). Puts x (record_text name ls) (Ok tt) y) c.as_slice.ensures.value
    (subst (λ (r : Result (Unit {0}) WriteFault). Puts x (record_text name c.as_slice.result.now) r y) c.in-Ok-put_record.is c.put_record.ensures)
    in
    covers_deck name c.args.sections.now c.args.deck.now a x (Ok tt) _ _ y y _ c.count_lines-dev.new.counter (c.in-Ok.ensures ∙ ap (new_lines 0) c.all.ensures) refl c.count_lines-dev.ensures.counts puts c.count_lines-dev.ensures.image c.count_lines-dev.ensures.lines (search rules) (search rules) refl refl

pub returns-clause-covers : goal.returns-clause-covers
returns-clause-covers g c =
    let name = c.args.name.now in
    let a : Bench = record { device = g.N.Nvm.state c.args.dev.now; bench = g.N.Bench.bench c.args.dev.now } in
    let x = sunk g.T.Sink c.args.out.now in
    let y = sunk g.T.Sink c.put_record.new.out in
    let e = c.in-Err.field-0 in
    let puts =
    subst (λ (ls : List LineCount). Puts x (record_text name ls) (Err e) y) c.as_slice.ensures.value
    (subst (λ (r : Result (Unit {0}) WriteFault). Puts x (record_text name c.as_slice.result.now) r y) c.in-Err.is c.put_record.ensures)
    in (
      e,
      covers_deck name c.args.sections.now c.args.deck.now a x (Err e) _ _ y y _ c.count_lines-dev.new.counter (c.in-Ok.ensures ∙ ap (new_lines 0) c.all.ensures) refl c.count_lines-dev.ensures.counts puts c.count_lines-dev.ensures.image c.count_lines-dev.ensures.lines (search rules) (search rules) refl refl,
    )
