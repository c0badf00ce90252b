use Rattle.std.proofs.Common.{◌≡◌, ◌∙◌, ◌+◌, ◌-◌, ◌*◌, ℕ, List, map, ap, sym, subst, arith}
use Rattle.prove_facts.specs.model_prove.specs.Sets.{Set}
use Rattle.prove_facts.specs.model_prove.specs.Between.{by_left}
use Rattle.prove_facts.specs.model_prove.specs.Texts.{after_character}
use Rattle.prove_patterns.specs.declared.command_headers.Group.{Group}
use Rattle.prove_patterns.specs.Opens.{opens_of}
use Rattle.prove_patterns.specs.Ways.{values_from}
use Rattle.prove_patterns.specs.Headers.{groups_of}
use Rattle.prove_patterns.proofs.SignLemmas.{values_none, values_all}
use Rattle.prove_patterns.proofs.command_headers.by_left.Goals as goal

pub loop-high-init : goal.loop-high-init
loop-high-init c =
    record {
      within = omega arith;
      groups =
          ap (λ (l : List Group). groups_of l) c.new-groups.ensures.items
          ∙ sym (ap (λ (s : Set). by_left (opens_of c.args.opens.now) s) (values_none c.args.set.now.words));
    }

pub loop-high-preserved : goal.loop-high-preserved
loop-high-preserved c =
    let o = opens_of c.args.opens.now in
    let ws = c.args.set.now.words in
    let up : 16 * c.loop-high.high ≡ 16 * (c.loop-high.high - 1) + 16 = omega (arith, c.loop-high-test.true) in
    record {
      within = omega arith;
      groups =
          c.in_ok-add_low.ensures o (ap opens_of c.as_slice.ensures.value ∙ c.in_ok-half.ensures ∙ ap (λ (d : ℕ). map (after_character d) o) c.digit_sign.ensures)
          (subst (λ (k : ℕ). groups_of c.loop-high.groups.items ≡ by_left o (values_from ws k)) up c.loop-high.invariant.groups);
    }

pub returns : goal.returns
returns c =
    let none : 16 * c.loop-high.high ≡ 0 = omega arith in
    let ws = c.args.set.now.words in
    subst (λ (k : ℕ). groups_of c.loop-high.groups.items ≡ by_left (opens_of c.args.opens.now) (values_from ws k)) none c.loop-high.invariant.groups
    ∙ ap (λ (s : Set). by_left (opens_of c.args.opens.now) s) (values_all ws)
