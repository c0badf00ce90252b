-- An object with the tag 4F ends the search, and after any other the bytes after it are left.
use Rattle.std.proofs.Common.{sym, ◌∙◌}
use Rattle.mc_unit.specs.Parts.{object_of}
use Rattle.mc_unit.proofs.Names.{name_here, name_behind}
use Rattle.mc_unit.proofs.name.name_in.Goals as goal

pub returns-then-is_tag : goal.returns-then-is_tag
returns-then-is_tag c =
    sym c.loop-tag.invariant ∙ name_here c.loop-tag.rest.now (object_of c.in-Some.field-0) c.in-Some.ensures.value (sym c.is_tag.ensures ∙ c.if-is_tag.true) c.in-Some.ensures.shorter

pub loop-tag-preserved : goal.loop-tag-preserved
loop-tag-preserved c =
    sym (name_behind c.loop-tag.rest.now (object_of c.in-Some.field-0) c.in-Some.ensures.value (sym c.is_tag.ensures ∙ c.if-is_tag.false) c.in-Some.ensures.shorter) ∙ c.loop-tag.invariant
