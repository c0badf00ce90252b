use Rattle.std.proofs.Common.{ℕ, subst, sym}
use Rattle.prove_facts.specs.model_prove.specs.Reach as known
use Rattle.prove_forms.specs.model_sums.specs.Moves as moves
use Rattle.prove_forms.specs.model_sums.specs.Writes as writes
use Rattle.prove_scenes.specs.Coarse.{coarse_value}
use Rattle.prove_scenes.specs.declared.coarse_rows.Coarse.{Coarse}
use Rattle.prove_scenes.specs.Scenes.{frame_to}
use Rattle.prove_sums.specs.Values.{SumsAre}
use Rattle.prove_sums.proofs.coarse.moved_coarsely.Goals as goal

pub returns-in_ok-lost_at-in-PushesAny : goal.returns-in_ok-lost_at-in-PushesAny
returns-in_ok-lost_at-in-PushesAny c names ts u are s =
    subst (λ (d : Coarse). SumsAre c.in_ok-lost_at-in-PushesAny.field-0 (moves.moved_coarsely ts (frame_to c.args.scene.now c.args.dt) (coarse_value c.args.facts.now d) u))
    (sym c.in-PushesAny.is) (c.in_ok-lost_at-in-PushesAny.ensures names ts u are s)

pub returns-in_ok-lost_at-in-Shifts : goal.returns-in_ok-lost_at-in-Shifts
returns-in_ok-lost_at-in-Shifts c names ts u are s =
    subst (λ (d : Coarse). SumsAre c.in_ok-lost_at-in-Shifts.field-0 (moves.moved_coarsely ts (frame_to c.args.scene.now c.args.dt) (coarse_value c.args.facts.now d) u))
    (sym c.in-Shifts.is)
    (subst (λ (a : ℕ). SumsAre c.in_ok-lost_at-in-Shifts.field-0 (writes.wrote_any ts a c.in-Shifts.n (writes.popped c.args.dt u))) c.saturating_sub-at.ensures
    (c.in_ok-lost_at-in-Shifts.ensures names ts u are s))

pub returns-in_ok-lost_at-in-Searches : goal.returns-in_ok-lost_at-in-Searches
returns-in_ok-lost_at-in-Searches c names ts u are s =
    subst (λ (d : Coarse). SumsAre c.in_ok-lost_at-in-Searches.field-0 (moves.moved_coarsely ts (frame_to c.args.scene.now c.args.dt) (coarse_value c.args.facts.now d) u))
    (sym c.in-Searches.is) (c.in_ok-lost_at-in-Searches.ensures names ts u are s)

pub returns-in_ok-reached_low-in-Some : goal.returns-in_ok-reached_low-in-Some
returns-in_ok-reached_low-in-Some c names ts u are s =
    subst (λ (d : Coarse). SumsAre c.in_ok-reached_low-in-Some.field-0 (moves.moved_coarsely ts (frame_to c.args.scene.now c.args.dt) (coarse_value c.args.facts.now d) u))
    (sym c.in-WritesWithin.is)
    (subst (λ (r : known.Reach). SumsAre c.in_ok-reached_low-in-Some.field-0 (moves.reached ts (frame_to c.args.scene.now c.args.dt) r (writes.popped c.args.dt u)))
    c.in-Some.ensures (c.in_ok-reached_low-in-Some.ensures names ts u are s))
