-- Reading hexadecimal numbers digit by digit.
use Rattle.std.proofs.Common.{◌≡◌, ℕ, zero, suc, ◌+◌, ◌*◌, ◌<◌, ◌≤◌, ◌^◌, List, ◌∷◌, Option, Some, None, arith, refl}
use Rattle.std.specs.Prelude.{option_map}
use Rattle.model_text.specs.Text.{digits_onto, hex_value, hex_values, before_values}
use Rattle.mc_asm.specs.Numbers.{hex_behind}

-- one more character, a hexadecimal digit or not
hex_step_in : (o : Option (List ℕ)) (n v : ℕ) → option_map (digits_onto 16 (n * 16 + v)) o ≡ option_map (digits_onto 16 n) (before_values (Some v) o)
hex_step_in None n v = refl
hex_step_in (Some vs) n v = refl

pub hex_step : (n d v : ℕ) (t : List ℕ) → hex_value d ≡ Some v → hex_behind (n * 16 + v) t ≡ hex_behind n (d ∷ t)
hex_step n d v t h = rw h (hex_step_in (hex_values t) n v)

pub hex_none : (n d : ℕ) (t : List ℕ) → hex_value d ≡ None → hex_behind n (d ∷ t) ≡ None
hex_none n d t h = rw h refl

pub hex_room : (i n : ℕ) → i < 4 → n < 16 ^ i → n < 4096
hex_room zero n l h = omega (arith, h)
hex_room (suc zero) n l h = omega (arith, h)
hex_room (suc (suc zero)) n l h = omega (arith, h)
hex_room (suc (suc (suc zero))) n l h = omega (arith, h)
hex_room (suc (suc (suc (suc i)))) n l h = absurd (omega (arith, l))

pub hex_next : (i n v : ℕ) → i < 4 → n < 16 ^ i → v < 16 → n * 16 + v < 16 ^ (i + 1)
hex_next zero n v l h w = omega (arith, h, w)
hex_next (suc zero) n v l h w = omega (arith, h, w)
hex_next (suc (suc zero)) n v l h w = omega (arith, h, w)
hex_next (suc (suc (suc zero))) n v l h w = omega (arith, h, w)
hex_next (suc (suc (suc (suc i)))) n v l h w = absurd (omega (arith, l))

pub hex_end : (i n : ℕ) → i ≤ 4 → n < 16 ^ i → n < 65536
hex_end zero n l h = omega (arith, h)
hex_end (suc zero) n l h = omega (arith, h)
hex_end (suc (suc zero)) n l h = omega (arith, h)
hex_end (suc (suc (suc zero))) n l h = omega (arith, h)
hex_end (suc (suc (suc (suc zero)))) n l h = omega (arith, h)
hex_end (suc (suc (suc (suc (suc i))))) n l h = absurd (omega (arith, l))
