use Rattle.std.proofs.Common.{◌+◌, [], ◌∷◌, drop, get_or, refl, sym, append-nil}
use Rattle.std.proofs.lemmas.List.{drop_more}
use Rattle.desk_steps.specs.Json.{character, characters}
use Rattle.desk_steps.specs.Sheets.{adds_as}
use Rattle.desk_steps.proofs.SheetLemmas.{leads_end, leads_on, one_character}
use Rattle.desk_steps.proofs.sheet.Sheet.add_characters.Goals as goal

pub loop-byte-preserved : goal.loop-byte-preserved
loop-byte-preserved g c =
    let all = c.args.text.now in
    let i = c.loop-byte.byte-index in
    record {
      rest = leads_on g.T.Sink characters c.args.self.now c.loop-byte.self c.add_character.new.self all (drop i all) (drop (i + 1) all) (get_or all i 0) (drop_more all i 0 c.loop-byte-test.true) (one_character (get_or all i 0) (drop (i + 1) all)) (adds_as g.T.Sink c.loop-byte.self c.add_character.new.self (character (get_or all i 0)) (characters (get_or all i 0 ∷ [])) (sym (append-nil (character (get_or all i 0)))) c.add_character.ensures) c.loop-byte.invariant.rest;
    }

pub returns : goal.returns
returns g c = leads_end g.T.Sink characters c.args.self.now c.loop-byte.self c.args.text.now c.loop-byte.byte-index c.loop-byte-test.false refl c.loop-byte.invariant.rest
