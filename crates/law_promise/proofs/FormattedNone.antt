-- A card that was formatted has none of a name, whatever stop hits its first power line.
use Rattle.std.proofs.Common.{◌≡◌, ℕ, ◌≤◌, Bool, true, false, cond, List, [], length, Option, Some, None, refl, ap, ◌∙◌, arith}
use Rattle.std.specs.Prelude.{nat_le}
use Rattle.model_events.specs.model_device.specs.declared.cause.Cause.{Cause}
use Rattle.model_events.specs.model_device.specs.Bytes.{lookup}
use Rattle.model_events.specs.model_device.specs.Card.{App}
use Rattle.model_events.specs.model_device.specs.PowerUp.{Base, base_after_migration, base_of}
use Rattle.law_bytes.specs.model_card.specs.Items.{StopAt}
use Rattle.law_bytes.specs.model_play.specs.Given.{apps_on, apps_in}
use Rattle.law_bytes.specs.model_play.specs.Play.{Armed, Warm, AfterPower, hit_of, power_moves, stopped_power, power_after, play_at_power, formatted_image, step}
use Rattle.law_bytes.specs.law_family.proofs.FormattedImage.{formatted_sound, formatted_empty}
use Rattle.law_promise.specs.Along.{FormattedLaw}

-- a power line leaves the applications of its base
migrated_apps : (x : Bool) (b : Base) → apps_on (cond x (base_after_migration b) b) ≡ apps_on b
migrated_apps x b = grind arith

stopped_apps : (x : Bool) (s : Warm) (t : StopAt) → apps_in (AfterPower (stopped_power s t x)) ≡ apps_on s.base
stopped_apps true s t = refl
stopped_apps false s t = migrated_apps _ s.base

power_apps : (s : Warm) (t : Option StopAt) → apps_in (AfterPower (power_after s t)) ≡ apps_on s.base
power_apps s None = migrated_apps true s.base
power_apps s (Some t) = stopped_apps (nat_le t.at s.owed) s t

-- what it finds is the empty card
found_apps : (m : List (List ℕ)) (budget : ℕ) (armed : Armed) → 256 ≤ length m → length m ≤ 16384 → apps_on (play_at_power (formatted_image m) budget armed).base ≡ []
unfolding play_at_power
found_apps m budget armed low high =
    ap (λ (f : Option (Cause × ℕ)). apps_on (base_of f (formatted_image m))) (formatted_sound m low high) ∙ formatted_empty m low high

-- a card that was formatted has no application, whatever stop hits its first power line
pub formatted_law : FormattedLaw
unfolding step
formatted_law m budget number armed w n low high =
    let s = play_at_power (formatted_image m) budget armed in
    ap (λ (apps : List (List ℕ × App)). lookup apps n) (power_apps s (hit_of armed (power_moves s) w) ∙ found_apps m budget armed low high)
