-- Zero bytes in hexadecimal.
use Rattle.std.proofs.Common.{◌≡◌, ℕ, suc, ◌+◌, ◌-◌, ◌<◌, List, [], ◌∷◌, ◌++◌, arith, subst, ◌∙◌, append_assoc}
use Rattle.mc_text.specs.model_device.specs.Bytes.{zeros}
use Rattle.mc_text.specs.model_text.specs.Listing.{hex_text}

-- one more zero byte
pub zero_more : (d w : List ℕ) (i n : ℕ) → i < n → d ++ hex_text (zeros (n - i)) ≡ w → (d ++ 48 ∷ 48 ∷ []) ++ hex_text (zeros (n - (i + 1))) ≡ w
zero_more d w i n h e =
    let k : n - i ≡ suc (n - (i + 1)) = omega (arith, h) in
    append_assoc d (48 ∷ 48 ∷ []) (hex_text (zeros (n - (i + 1)))) ∙ subst (λ m. d ++ hex_text (zeros m) ≡ w) k e
