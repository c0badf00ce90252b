-- The number that bytes of known origins are, from the last byte on.
use Rattle.std.specs.Prelude.{◌≡◌, ℕ, zero, suc, ◌+◌, ◌-◌, ◌*◌, ◌%◌, ◌^◌, ◌<◌, List, [], ◌∷◌, length, get_or, drop, Option, Some, None, refl}
use Rattle.std.proofs.Common.{ap, sym, subst, ◌∙◌}
use Rattle.std.proofs.Math.Nat.{pow-succ', mul_comm}
use Rattle.std.proofs.lemmas.Nat.{mul-mod_first}
use Rattle.std.proofs.lemmas.List.{drop-map, length-map, length-drop}
use Rattle.model_sums.specs.Forms as forms
use Rattle.model_sums.specs.Origins as origins
use Rattle.model_sums.specs.Origins.{above, form_of_byte, form_of}
use Rattle.prove_forms.specs.declared.forms.Form.{Form}
use Rattle.prove_forms.specs.declared.origins.Origin.{Origin}
use Rattle.prove_forms.specs.Forms.{modulus, FormIs, OptionalIs}
use Rattle.prove_forms.specs.Origins.{origin_value, origin_values}
use Rattle.prove_forms.proofs.OriginLemmas.{bytes_after}

-- ---- a byte that is not known

above_none : (n : ℕ) (f : Option forms.Form) → above n f None ≡ None
above_none n None = refl
above_none n (Some f) = refl

-- bytes of which the last are not known are not known
none_before : (os : List origins.Origin) (n : ℕ) → form_of (drop n os) ≡ None → form_of os ≡ None
none_before [] zero h = h
none_before [] (suc n) h = h
none_before (o ∷ os) zero h = h
none_before (o ∷ os) (suc n) h =
    ap (λ (f : Option forms.Form). above (length os) (form_of_byte o) f) (none_before os n h) ∙ above_none (length os) (form_of_byte o)

none_is : (x : Option forms.Form) → OptionalIs None x → x ≡ None
none_is None h = refl
none_is (Some f) h = absurd h

pub unknown_byte : (os : List Origin) (i : ℕ) (d : Origin) (byte : Option Form) → i < length os → byte ≡ None
    → OptionalIs byte (form_of_byte (origin_value (get_or os i d))) → OptionalIs None (form_of (origin_values os))
unknown_byte os i d byte h e k =
    let g : origins.Origin = origin_value (get_or os i d) in
    let gs : List origins.Origin = origin_values (drop (i + 1) os) in
    let none : form_of_byte g ≡ None = none_is (form_of_byte g) (subst (λ (b : Option Form). OptionalIs b (form_of_byte g)) e k) in
    let here : form_of (drop i (origin_values os)) ≡ None =
    ap (λ (r : List origins.Origin). form_of r) (drop-map origin_value i os ∙ bytes_after os i d h)
    ∙ ap (λ (f : Option forms.Form). above (length gs) f (form_of gs)) none in
    subst (λ (f : Option forms.Form). OptionalIs None f) (sym (none_before (origin_values os) i here)) tt

-- ---- a byte that is known

pub power_next : (k p : ℕ) → p ≡ 256 ^ k % modulus → (p * 256) % modulus ≡ 256 ^ suc k % modulus
power_next k p e =
    ap (λ (x : ℕ). (x * 256) % modulus) e ∙ mul-mod_first (256 ^ k) 256 modulus ∙ ap (λ (x : ℕ). x % modulus) (mul_comm (256 ^ k) 256 ∙ sym (pow-succ' 256 k))

above_is : (n : ℕ) (byte rest r : Form) (x y : Option forms.Form)
    → ((f g : forms.Form) → FormIs byte f → FormIs rest g → FormIs r (forms.plus (forms.times (256 ^ n) f) g)) → OptionalIs (Some byte) x → OptionalIs (Some rest) y
    → OptionalIs (Some r) (above n x y)
above_is n byte rest r None y k h i = absurd h
above_is n byte rest r (Some f) None k h i = absurd i
above_is n byte rest r (Some f) (Some g) k h i = k f g h i

pub known_byte : (os : List Origin) (i next : ℕ) (d : Origin) (byte rest r : Form) → i + 1 ≡ next → i < length os
    → OptionalIs (Some byte) (form_of_byte (origin_value (get_or os i d))) → OptionalIs (Some rest) (form_of (origin_values (drop next os)))
    → ((f g : forms.Form) → FormIs byte f → FormIs rest g → FormIs r (forms.plus (forms.times (256 ^ (length os - next)) f) g))
    → OptionalIs (Some r) (form_of (origin_values (drop i os)))
known_byte os i next d byte rest r e h b s k =
    let g : origins.Origin = origin_value (get_or os i d) in
    let gs : List origins.Origin = origin_values (drop next os) in
    let parts : origin_values (drop i os) ≡ g ∷ gs = bytes_after os i d h ∙ ap (λ (j : ℕ). g ∷ origin_values (drop j os)) e in
    let size : length gs ≡ length os - next = length-map (drop next os) origin_value ∙ length-drop next os in
    let made : OptionalIs (Some r) (above (length os - next) (form_of_byte g) (form_of gs)) = above_is (length os - next) byte rest r (form_of_byte g) (form_of gs) k b s in
    let whole : form_of (origin_values (drop i os)) ≡ above (length os - next) (form_of_byte g) (form_of gs) =
    ap (λ (l : List origins.Origin). form_of l) parts ∙ ap (λ (n : ℕ). above n (form_of_byte g) (form_of gs)) size in
    subst (λ (f : Option forms.Form). OptionalIs (Some r) f) (sym whole) made
