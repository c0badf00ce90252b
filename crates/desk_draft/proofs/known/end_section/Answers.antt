use Rattle.std.proofs.Common.{refl}
use Rattle.desk_draft.specs.Drafts.{by_name}
use Rattle.desk_draft.specs.declared.known.Known.{Known}
use Rattle.desk_draft.specs.Views.{loadable_of}
use Rattle.desk_draft.proofs.DraftLemmas.{knows_ended}
use Rattle.desk_draft.proofs.known.end_section.Goals as goal

pub returns : goal.returns
returns c = λ ss r t h e f g.
    let k = c.args.known.now in
    let m : Known = record k { sections = c.put_section.new.sections; scopes = c.put_scope.new.scopes } in
    knows_ended k m ss r t c.args.name.now (loadable_of c.args.sizes) h e f (c.in_ok-put_section.ensures (by_name ss) h.sections) (c.in_ok-put_scope.ensures r.scopes t.scope.names h.scopes g) refl refl
