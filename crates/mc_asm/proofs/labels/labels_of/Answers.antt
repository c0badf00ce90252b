use Rattle.std.proofs.Common.{◌+◌, ◌∙◌, ℕ, List, Option, Bor, drop, get_or, sym, ap}
use Rattle.std.specs.Prelude.{option_map}
use Rattle.model_text.specs.Text.{ok_as}
use Rattle.model_text.specs.Assembly.{with_label}
use Rattle.mc_asm.specs.Passes.{places, numbered_lines}
use Rattle.mc_asm.proofs.PassLemmas.{places_more, places_refused, places_end, line_at, no_line, no_line_left}
use Rattle.mc_asm.proofs.labels.labels_of.Goals as goal

pub loop-line-preserved : goal.loop-line-preserved
loop-line-preserved c =
    let leads = c.loop-line.invariant.leads in
    let line = get_or c.args.lines.now c.loop-line.line-index no_line in
    let behind = numbered_lines (drop (c.loop-line.line-index + 1) c.args.lines.now) in
    let label = option_map (λ t. t.now) c.in-Ok.label in
    let found = ap (ok_as (λ (p : Option (Bor (List ℕ)) × ℕ). (option_map (λ t. t.now) p.0, p.1))) (sym c.in-Ok.is) ∙ c.label_and_end.ensures.value leads.0 leads.2 in
    let more = ap (places leads.0 c.loop-line.place) (line_at c.args.lines.now c.loop-line.line-index c.loop-line-test.true) ∙ places_more leads.0 c.loop-line.place line.number c.in-Ok.end line.text.now behind label found in
    record {
      leads = (with_label leads.0 label c.loop-line.place, sym more ∙ leads.1, c.in_ok-put_label-in-Ok.ensures.put leads.0 leads.2);
      bound = c.in-Ok.ensures.bound;
    }

pub returns-in-Err-clause-refused : goal.returns-in-Err-clause-refused
returns-in-Err-clause-refused c =
    let leads = c.loop-line.invariant.leads in
    let line = get_or c.args.lines.now c.loop-line.line-index no_line in
    let behind = numbered_lines (drop (c.loop-line.line-index + 1) c.args.lines.now) in
    let found = ap (ok_as (λ (p : Option (Bor (List ℕ)) × ℕ). (option_map (λ t. t.now) p.0, p.1))) (sym c.in-Err.is) ∙ c.label_and_end.ensures.value leads.0 leads.2 in
    sym leads.1 ∙ ap (places leads.0 c.loop-line.place) (line_at c.args.lines.now c.loop-line.line-index c.loop-line-test.true) ∙ places_refused leads.0 c.loop-line.place line.number line.text.now behind c.in-Err.cause found

pub returns-clause-found : goal.returns-clause-found
returns-clause-found c =
    let leads = c.loop-line.invariant.leads in
    (leads.0, sym leads.1 ∙ ap (places leads.0 c.loop-line.place) (no_line_left c.args.lines.now c.loop-line.line-index c.loop-line-test.false) ∙ places_end leads.0 c.loop-line.place, leads.2)
