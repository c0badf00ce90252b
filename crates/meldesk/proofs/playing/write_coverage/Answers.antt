use Rattle.std.proofs.Common.{Err, Ok, ap, refl, ◌∙◌}
use Rattle.mc_filter.specs.declared.status.Status.TheVariants.{Done}
use Rattle.mc_text.specs.Texts.{sunk}
use Rattle.meldesk.proofs.PlayLemmas.{cover_fault, is_covered}
use Rattle.meldesk.proofs.playing.write_coverage.Goals as goal

pub returns-in-Ok-clause-covered : goal.returns-in-Ok-clause-covered
returns-in-Ok-clause-covered g c =
    is_covered c.args.name.now c.args.sections.now c.args.deck.now Done (record { device = g.N.Nvm.state c.args.dev.now; bench = g.N.Bench.bench c.args.dev.now }) (sunk g.T.Sink c.args.out.now) (Ok tt)
    (record { device = g.N.Nvm.state c.cover.new.dev; bench = g.N.Bench.bench c.cover.new.dev }) (sunk g.T.Sink c.cover.new.out) refl c.in-Ok.ensures.covers

pub returns-in-Err-WriteFault-clause-covered : goal.returns-in-Err-WriteFault-clause-covered
returns-in-Err-WriteFault-clause-covered g c =
    let w = c.in-Err-WriteFault in
    cover_fault c.args.name.now c.args.sections.now c.args.deck.now (record { device = g.N.Nvm.state c.args.dev.now; bench = g.N.Bench.bench c.args.dev.now }) (sunk g.T.Sink c.args.out.now) c.cover.result
    (record { device = g.N.Nvm.state c.cover.new.dev; bench = g.N.Bench.bench c.cover.new.dev }) (sunk g.T.Sink c.cover.new.out) (w.is ∙ ap Err w.field-0-is) c.cover.ensures.covers
