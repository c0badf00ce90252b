use Rattle.std.proofs.Common.{◌≡◌, ◌+◌, ◌∷◌, ◌++◌, ◌∙◌, [], List, Some, None, Vec, Global, sym, ap, subst}
use Rattle.std.specs.Prelude.{slice_get, option_map}
use Rattle.std.proofs.lemmas.Option.{slice_get-get_or, same_Some}
use Rattle.mc_check.specs.declared.calls.Call.{Call}
use Rattle.mc_check.specs.declared.table.Entry.{Entry}
use Rattle.law_family.specs.model_machine.specs.Code.{instruction_at}
use Rattle.mc_check.specs.CallList.{call_of, target_of}
use Rattle.mc_check.proofs.CallList.{ListsUpTo, lists_same, lists_more, are_calls}
use Rattle.mc_check.proofs.calls.list_calls.Goals as goal
use Rattle.mc_check.proofs.calls.list_calls.Goals.{in-Some+in-Some-call_at+in_ok-push, in-Some+in_default-call_at, in_default}

pub loop-place-preserved : goal.loop-place-preserved
loop-place-preserved c =
    let code = c.args.code.now in
    let table = c.args.table.now in
    let n = c.loop-place.place in
    let l = c.loop-place.calls.items in
    let at : slice_get table n ≡ Some _ = slice_get-get_or table n None c.loop-place-test.true in
    elim c.match-entry.branch [
      | in-Some+in-Some-call_at+in_ok-push w ↦
          let call = w.in-Some-call_at.call in
          let now : c.match-entry.calls.items ≡ l ++ call ∷ [] = ap (λ (v : Vec Call Global). v.items) w.calls-is ∙ w.in_ok-push.ensures.items in
          subst (λ (k : List Call). ListsUpTo code table (n + 1) k) (sym now) (lists_more code table n l c.loop-place.invariant w.in-Some.entry call w.in-Some-call_at.ensures.height c.requires.whole (at ∙ ap Some w.in-Some.is) (sym w.call_at.ensures.call ∙ w.in-Some-call_at.is))
      | in-Some+in_default-call_at w ↦
          let now = ap (λ (v : Vec Call Global). v.items) w.calls-is in
          let same : (e : Entry) → slice_get table n ≡ Some (Some e) → w.in-Some.entry ≡ e = λ e there. same_Some w.in-Some.entry e (sym w.in-Some.is ∙ same_Some _ (Some e) (sym at ∙ there)) in
          subst (λ (k : List Call). ListsUpTo code table (n + 1) k) (sym now) (lists_same code table n l c.loop-place.invariant (λ e there. subst (λ (x : Entry). option_map (call_of n x) (target_of (instruction_at code n)) ≡ None) (same e there) (sym w.call_at.ensures.call ∙ w.in_default-call_at.is)))
      | in_default w ↦
          let now = ap (λ (v : Vec Call Global). v.items) w.calls-is in
          subst (λ (k : List Call). ListsUpTo code table (n + 1) k) (sym now) (lists_same code table n l c.loop-place.invariant (λ e there. absurd (w.in_default.not-Some e (same_Some _ (Some e) (sym at ∙ there)))))
    ]

pub returns : goal.returns
returns c = are_calls c.args.code.now c.args.table.now c.loop-place.place c.loop-place.calls.items c.loop-place-test.false c.requires.whole c.loop-place.invariant
