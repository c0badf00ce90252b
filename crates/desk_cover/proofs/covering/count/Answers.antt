use Rattle.std.proofs.Common.{◌≡◌, ◌+◌, ◌≤◌, length, None, refl, sym, subst, ◌∙◌, rules, arith}
use Rattle.std.specs.Prelude.{slice_set}
use Rattle.desk_cover.specs.declared.lcov.LineCount.{LineCount}
use Rattle.desk_cover.specs.Counting.{line_by}
use Rattle.desk_cover.proofs.ListLemmas.{map_rest, rest_start, rest_step, rest_end}
use Rattle.desk_cover.proofs.covering.count.Goals as goal

-- the default line, for an index past the end
abbrev no_line : LineCount
no_line = record { number = 0; section = 0; place = 0; condition = None; turns = 0; taken = 0 }

pub loop-i-init : goal.loop-i-init
loop-i-init c = record { size = refl; rest = rest_start (line_by c.args.section c.args.at c.args.flags.now.c c.args.flags.now.z) c.args.lines.now }

pub loop-i-preserved : goal.loop-i-preserved
loop-i-preserved c =
    let f = line_by c.args.section c.args.at c.args.flags.now.c c.args.flags.now.z in
    record {
      size = search (rules, arith);
      rest = subst (λ (x : LineCount). map_rest f (c.loop-i.i + 1) (slice_set c.loop-i.lines c.loop-i.i x) ≡ map_rest f c.loop-i.i c.loop-i.lines) (sym c.count_at.ensures) (rest_step f no_line c.loop-i.lines c.loop-i.i (search (rules, arith))) ∙ c.loop-i.invariant.rest;
    }

pub returns : goal.returns
returns c =
    let all : length c.loop-i.lines ≤ c.loop-i.i = search (rules, arith) in
    sym (rest_end (line_by c.args.section c.args.at c.args.flags.now.c c.args.flags.now.z) c.loop-i.lines c.loop-i.i all) ∙ c.loop-i.invariant.rest
