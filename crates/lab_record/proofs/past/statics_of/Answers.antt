use Rattle.std.proofs.Common.{◌≡◌, arith, length, rules, sym, ◌∙◌}
use Rattle.mc_script.specs.Players.{statics_in}
use Rattle.lab_record.proofs.StaticLemmas.{long_by}
use Rattle.lab_record.proofs.past.statics_of.Goals as goal

pub static_of-requires-clause-range : goal.static_of-requires-clause-range
static_of-requires-clause-range g c =
    let h = long_by (statics_in g.N.Nvm.state c.args.player.now c.args.subject.aid.now) c.in-Some.count (sym c.in-Some.is ∙ c.static_len.ensures.value) in
    let size = h.size in
    let long : length c.as_mut_slice.result.now ≡ c.in-Some.count = search rules in
    (h.fixed, h.is, omega (arith, size, long))
