use Rattle.std.proofs.Common.{◌∙◌, ℕ, List, [], ◌∷◌, ◌++◌, ap}
use Rattle.melcard.proofs.TextLemmas.{hex_same}
use Rattle.mc_base.specs.mc_words.specs.model_device.proofs.ListLemmas.{all_bytes}
use Rattle.melcard.proofs.text.hex_line.Goals as goal

pub returns : goal.returns
returns c =
    let digits = ap (λ v. v.items) c.into_bytes-digits.ensures.value ∙ c.in_ok-encode_upper.ensures ∙ hex_same c.args.bytes.now (all_bytes c.args.bytes.now c.type_inv.bytes) in
    c.in_ok-extend_from_slice.ensures.items ∙ ap (λ (t : List ℕ). t ++ 10 ∷ []) digits
