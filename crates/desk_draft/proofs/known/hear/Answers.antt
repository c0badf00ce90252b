use Rattle.std.proofs.Common.{◌∙◌, ap}
use Rattle.desk_draft.specs.Drafts.{app_after}
use Rattle.desk_draft.proofs.known.hear.Goals as goal

pub returns : goal.returns
returns c = λ ss r h.
    record { sections = h.sections; scopes = h.scopes; app = c.app_after-known.ensures ∙ ap (λ a. app_after a c.args.line.now) h.app; is_draft = h.is_draft }
