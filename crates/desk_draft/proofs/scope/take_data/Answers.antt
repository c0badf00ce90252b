use Rattle.std.proofs.Common.{◌≡◌, ◌+◌, ◌∙◌, ap, rules}
use Rattle.std.specs.Prelude.{unwrap_or}
use Rattle.mc_asm.specs.Items.{texts}
use Rattle.desk_draft.proofs.ScopeLemmas.{data_taken}
use Rattle.desk_draft.proofs.scope.take_data.Goals as goal

pub returns-clause-takes : goal.returns-clause-takes
returns-clause-takes c = λ l h.
    let none : c.args.scope.now.fixed ≡ 0 = search rules in
    let fs = texts c.args.fields.now in (
      l,
      h,
      data_taken c.args.scope.now l fs c.in_ok-sum.sum none (c.in_ok-sum.ensures.value ∙ ap (λ n. n + c.data_count.result) c.unwrap_or.ensures ∙ ap (λ n. unwrap_or c.args.scope.now.data_bytes 0 + n) c.data_count.ensures),
    )
