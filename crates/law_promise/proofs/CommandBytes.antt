-- Bytes of the public segment of a command beside its INS and its length: CLA, P1, P2 and P3; and what a comparison of
-- bytes found, as a fact about numbers.
use Rattle.std.proofs.Common.{◌≡◌, ℕ, List, [], ◌∷◌, sym, ap, ◌∙◌, arith}
use Rattle.std.specs.Prelude.{◌≢◌, ◌==◌, true, false}
use Rattle.std.proofs.lemmas.Bool.{eqb-true}
use Rattle.model_events.specs.model_device.specs.Bytes.{num}
use Rattle.model_events.specs.model_machine.specs.Blocks.{sub_blocks, is_zero}
use Rattle.law_promise.proofs.PublicBytes.{equal_is}

-- ---- bytes of a command

-- ---- what a comparison found

-- one that clears Z: the byte is another
pub other_byte : (b : List ℕ) (i n : ℕ) → b ≡ i ∷ [] → (sub_blocks b (n ∷ [])).z ≡ false → i ≢ n
other_byte b i n is z same = grind (arith, equal_is)

-- a test that clears Z: the number is not 0; one that sets it: it is
pub some_block : (b : List ℕ) → is_zero b ≡ false → num b ≢ 0
some_block b z none = absurd (cc (sym (ap (λ (n : ℕ). n == 0) none) ∙ z))

-- bytes that are all zero are the number zero
pub zero_block : (b : List ℕ) → is_zero b ≡ true → num b ≡ 0
zero_block b z = eqb-true (num b) 0 z
