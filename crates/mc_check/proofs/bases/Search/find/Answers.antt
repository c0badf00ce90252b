use Rattle.std.proofs.Common.{◌∙◌, List, Some, ap, length, refl, sym, subst}
use Rattle.std.proofs.lemmas.List.{length-set}
use Rattle.std.proofs.lemmas.Option.{slice_get_read}
use Rattle.mc_check.specs.declared.bases.Progress.TheVariants as progress
use Rattle.mc_check.specs.Searching.{Searches}
use Rattle.mc_check.proofs.CallReporting.{called_is_inside}
use Rattle.mc_check.proofs.Begins.{begun, no_last}
use Rattle.mc_check.proofs.bases.Search.find.Goals as goal

pub loop-last-init : goal.loop-last-init
loop-last-init c =
    let states = c.args.self.now.progress.items in
    let l = c.args.calls.now in
    let q = c.args.routine in
    let inside = called_is_inside (length states) l q c.requires.closed c.requires.called in
    let there = slice_get_read states (length states) q c.index.result.now refl inside c.index.ensures ∙ ap Some c.in-Unseen.is in
    let begins = begun states l q c.requires.searches c.requires.called there c.enter.new.self.progress.items c.args.self.now.stack.items c.enter.new.self.stack.items c.requires.stack c.in_ok-enter.ensures.progress c.in_ok-enter.ensures.stack in
    record {
      len = ap length c.in_ok-enter.ensures.progress ∙ length-set states q progress.Open;
      searches = begins.0;
      seen = begins.1;
      this = begins.2;
    }

pub returns-clause-searches : goal.returns-clause-searches
returns-clause-searches c =
    let s = c.loop-last.self in
    subst (λ (stack : List _). Searches c.args.calls.now s.progress.items stack) (no_last s.stack.items (sym c.last.ensures ∙ c.in_default-last.is)) c.loop-last.invariant.searches

pub returns-clause-stack : goal.returns-clause-stack
returns-clause-stack c = no_last c.loop-last.self.stack.items (sym c.last.ensures ∙ c.in_default-last.is)
