use Rattle.std.proofs.Common.{ap, ◌∙◌}
use Rattle.lab_branch.specs.Rosters.{roster_of, statics_of}
use Rattle.lab_key.proofs.Numbers.{key_grows}
use Rattle.lab_key.proofs.Showing.{key_of_shown, readable}
use Rattle.lab_key.proofs.key.CardKey.read.Goals as goal

pub applications_of-requires : goal.applications_of-requires
applications_of-requires g c = readable (g.N.Nvm.state c.args.device.now).words c.args.live.now c.requires

pub read-requires : goal.read-requires
read-requires g c = readable (g.N.Nvm.state c.args.device.now).words c.args.live.now c.requires

pub returns-in_err-roster-clause-keeps : goal.returns-in_err-roster-clause-keeps
returns-in_err-roster-clause-keeps g c k b l h = key_grows _ _ k b l c.in_err-roster.ensures.keeps c.in_err-roster.ensures.distinct h

pub returns-clause-of : goal.returns-clause-of
returns-clause-of g c b l shown =
    let m = (g.N.Nvm.state c.args.device.now).words in
    let found = c.in_ok-roster.ensures.found in
    let apps = c.in_ok-applications.ensures in
    key_of_shown _ _ m c.args.live.now b l (readable m c.args.live.now c.requires) shown c.in_ok-roster.ensures.distinct
    (record {
      roster = found.0;
      found = found.1;
      value = found.2 ∙ c.in_ok-new.ensures ∙ ap roster_of apps;
      statics = c.in_ok-statics.ensures ∙ ap statics_of (c.as_slice.ensures.value ∙ apps);
      live = c.in_ok-live.ensures;
    })

pub returns-clause-keeps : goal.returns-clause-keeps
returns-clause-keeps g c k b l h = key_grows _ _ k b l c.in_ok-roster.ensures.keeps c.in_ok-roster.ensures.distinct h
