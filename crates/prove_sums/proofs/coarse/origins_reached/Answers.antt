use Rattle.std.proofs.Common.{◌∙◌, ◌++◌, ◌-◌, ℕ, List, ap}
use Rattle.mc_arith.specs.model_machine.specs.Frame.{dynamic_base, dynamic_end, public_base, public_end}
use Rattle.prove_facts.specs.model_prove.specs.Reach.{is_reached}
use Rattle.prove_facts.specs.model_prove.specs.Sets.{numbers_from}
use Rattle.prove_forms.specs.model_sums.specs.Origins as model
use Rattle.prove_forms.specs.declared.origins.Listed.{Listed}
use Rattle.prove_scenes.specs.Scenes.{frame_to}
use Rattle.prove_works.specs.Reaches.{reach_value}
use Rattle.prove_sums.proofs.OriginLemmas.{reached_all}
use Rattle.prove_sums.proofs.coarse.origins_reached.Goals as goal

pub returns : goal.returns
returns c =
    ap (λ (l : List (ℕ × model.Origin)). record { own = c.args.origins.now.own; listed = l })
    (reached_all (is_reached (frame_to c.args.scene.now c.args.dt) (reach_value c.args.reach.now)) (numbers_from dynamic_base (dynamic_end - dynamic_base))
    (numbers_from public_base (public_end - public_base)) c.new-listed.result.items c.add_reached.new.listed.items c.add_reached-2.new.listed.items
    c.extend_from_slice.new.self.items c.args.origins.now.listed.items c.new-listed.ensures.items c.in_ok-add_reached.ensures c.in_ok-add_reached-2.ensures
    (c.in_ok-extend_from_slice.ensures.items ∙ ap (λ (l : List Listed). c.add_reached-2.new.listed.items ++ l) c.as_slice.ensures.value))
