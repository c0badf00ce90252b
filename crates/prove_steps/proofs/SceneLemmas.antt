-- The newest of the open calls is the last that was opened.
use Rattle.std.proofs.Common.{◌≡◌, refl, arith}
use Rattle.std.specs.Prelude.{ℕ, zero, suc, ◌-◌, ◌≤◌, List, [], ◌∷◌, ◌++◌, length, slice_index_or, Some}
use Rattle.prove_facts.specs.model_prove.specs.Keys as known
use Rattle.prove_keys.specs.declared.keys.Call.{Call}
use Rattle.prove_keys.specs.Keys.{call_of, calls_of}
use Rattle.prove_scenes.specs.Scenes.{newest}

-- the newest of two lists is that of the first, if it has one
newest_of_both : (xs ys : List known.Call) (c : known.Call) → newest xs ≡ Some c → newest (xs ++ ys) ≡ Some c
newest_of_both [] ys c e = absurd (cc e)
newest_of_both (x ∷ xs) ys c e = e

-- the newest call is the one at the last place of the list
newest_at : (xs : List Call) (i : ℕ) (d : Call) → length xs ≡ suc i → newest (calls_of xs) ≡ Some (call_of (slice_index_or xs i d))
newest_at [] i d e = absurd (omega (arith, e))
newest_at (c ∷ []) zero d e = refl
newest_at (c ∷ []) (suc i) d e = absurd (omega (arith, e))
newest_at (c ∷ b ∷ more) zero d e = absurd (omega (arith, e))
newest_at (c ∷ b ∷ more) (suc i) d e =
    newest_of_both (calls_of (b ∷ more)) (call_of c ∷ []) (call_of (slice_index_or (b ∷ more) i d)) (newest_at (b ∷ more) i d (omega (arith, e)))

-- the newest call is the last that was opened
pub newest_is_last : (xs : List Call) (d : Call) → 1 ≤ length xs → newest (calls_of xs) ≡ Some (call_of (slice_index_or xs (length xs - 1) d))
newest_is_last xs d some = newest_at xs (length xs - 1) d (omega (arith, some))
