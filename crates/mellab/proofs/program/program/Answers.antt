use Rattle.std.proofs.Common.{List, sym, subst, ◌∙◌}
use Rattle.std.specs.declared.alloc.Global.{Global}
use Rattle.std.specs.declared.string.String.{String}
use Rattle.mc_filter.specs.Outside.{outside, Outside}
use Rattle.mc_filter.specs.Statuses.{IsNumberOf}
use Rattle.mellab.specs.Programs.{DoesLabJob, ProgramSays}
use Rattle.mellab.proofs.program.program.Goals as goal

pub returns-in-Ok : goal.returns-in-Ok
returns-in-Ok g c =
    let a : Outside = outside g.S.Source g.T.Sink c.args.input.now c.mellab.new.input c.args.out.now c.mellab.new.out in
    let h = c.mellab.ensures.says in
    let does : DoesLabJob c.as_slice.result.now a h.0 = record { says = h.2; completes = c.mellab.ensures.complete h.0 h.1 } in
    let said : IsNumberOf (DoesLabJob c.as_slice.result.now a) c.mellab.result = (h.0, h.1, does) in
    subst (λ w. ProgramSays w a c.mellab.result) (sym c.in-Ok.is)
    (subst (λ (ws : List (String Global)). IsNumberOf (DoesLabJob ws a) c.mellab.result) (c.as_slice.ensures.value ∙ c.job_words-words.ensures) said)
