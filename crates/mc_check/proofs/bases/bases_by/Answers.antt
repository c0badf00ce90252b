use Rattle.std.proofs.Common.{◌∙◌, List, ap, arith, get_or, length, map, subst, sym}
use Rattle.std.proofs.lemmas.List.{length-replicate}
use Rattle.std.proofs.lemmas.Option.{slice_get-get_or}
use Rattle.mc_check.specs.declared.bases.Progress.{Progress}
use Rattle.mc_check.specs.declared.bases.Progress.TheVariants as progress
use Rattle.mc_check.specs.CallList.{AreClosed}
use Rattle.mc_check.specs.Searching.{base_of}
use Rattle.mc_check.proofs.CallReporting.{no_call, is_called}
use Rattle.mc_check.proofs.SearchFound.{starts, seen_more, are_found}
use Rattle.mc_check.proofs.bases.bases_by.Goals as goal

pub loop-call-init : goal.loop-call-init
loop-call-init c =
    let made = c.in_ok-search.ensures in
    record {
      len = ap length made.progress ∙ length-replicate c.args.len progress.Unseen;
      stack = made.stack;
      searches = starts c.args.calls.now c.in_ok-search.search.progress.items c.args.len made.progress;
      seen = λ k d lt get. absurd (omega arith);
    }

pub find-requires-clause-called : goal.find-requires-clause-called
find-requires-clause-called c =
    let l = c.args.calls.now in
    let k = c.loop-call.call-index in
    is_called l k (get_or l k no_call) (slice_get-get_or l k no_call c.loop-call-test.true)

pub loop-call-preserved : goal.loop-call-preserved
loop-call-preserved c =
    let l = c.args.calls.now in
    let k = c.loop-call.call-index in
    let had = c.loop-call.invariant in
    let has = c.in_ok-find.ensures in
    record {
      len = has.len ∙ had.len;
      stack = has.stack;
      searches = has.searches;
      seen = seen_more l c.loop-call.search.progress.items c.find.new.self.progress.items k (get_or l k no_call) (slice_get-get_or l k no_call c.loop-call-test.true) had.seen has.seen has.this;
    }

pub returns-clause-bases : goal.returns-clause-bases
returns-clause-bases c =
    let l = c.args.calls.now in
    let states = c.loop-call.search.progress.items in
    let had = c.loop-call.invariant in
    are_found l states c.loop-call.call-index (subst (λ n. AreClosed n l) (sym had.len) c.requires.closed) had.searches had.seen c.loop-call-test.false c.args.len c.in_ok-found.field-0.items had.len
    (c.in_ok-found.ensures ∙ ap (λ (s : List Progress). map base_of s) c.as_slice.ensures.value)
