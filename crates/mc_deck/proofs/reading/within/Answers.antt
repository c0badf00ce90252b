use Rattle.std.proofs.Common.{◌++◌, ◌∷◌, [], append-nil, refl, sym, ap, ◌∙◌}
use Rattle.model_play.specs.DeckGrammar.{with_unit, Within, Between, Named}
use Rattle.mc_deck.specs.Lines.{owned_parts}
use Rattle.mc_deck.specs.Sections.{section_of}
use Rattle.mc_deck.specs.Readers.{lines_of}
use Rattle.mc_deck.proofs.TurnLemmas.{section_ended, section_refused, section_goes}
use Rattle.mc_deck.proofs.reading.within.Goals as goal

pub returns-in-Err : goal.returns-in-Err
returns-in-Err c = record {
  turned = λ d s.
      section_refused (section_of c.args.section) d c.args.number c.args.text.now c.in-Err.refusal (sym c.ends_section.ensures ∙ c.if-ends_section.true) c.in-Err.ensures.value;
}

pub returns-then-ends_section : goal.returns-then-ends_section
returns-then-ends_section c = record {
  turned = λ d s. record {
    turn = record { lines = (c.args.section.first, Named) ∷ []; mode = Between (with_unit d c.args.section.name.now (owned_parts c.in-Ok.unit)) };
    is = section_ended (section_of c.args.section) d c.args.number c.args.text.now (owned_parts c.in-Ok.unit) (sym c.ends_section.ensures ∙ c.if-ends_section.true) c.in-Ok.ensures.value;
    took = record {
      context = with_unit d c.args.section.name.now (owned_parts c.in-Ok.unit);
      stands = c.in_ok-take_unit.ensures.took d s;
      lines = c.in_ok-take_unit.ensures.lines d s;
      mode = refl;
    };
  };
}

pub returns : goal.returns
returns c = record {
  turned = λ d s.
      let old = section_of c.args.section in
      record {
        turn = record { lines = []; mode = Within (record old { lines = old.lines ++ ((c.args.number, c.args.text.now) ∷ []) }) d };
        is = section_goes old d c.args.number c.args.text.now (sym c.ends_section.ensures ∙ c.if-ends_section.false);
        took = record {
          context = d;
          stands = s;
          lines = sym (append-nil (lines_of c.args.reader.now));
          mode = ap (λ ls. Within (record old { lines = ls }) d) (sym c.in_ok-push_text.ensures.lines);
        };
      };
}
