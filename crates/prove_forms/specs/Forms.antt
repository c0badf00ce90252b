-- Forms as they are computed, modulo 256 ^ 16.
use Rattle.std.specs.Prelude.{◌≡◌, ℕ, suc, ◌+◌, ◌*◌, ◌%◌, ◌^◌, true, cond, ◌==◌, List, [], ◌∷◌, map, Option, Some, None, ⊤}
use Rattle.model_sums.specs.Forms as forms
use Rattle.prove_forms.specs.declared.forms.Term.{Term}
use Rattle.prove_forms.specs.declared.forms.Form.{Form}

-- what constants and factors are computed modulo
abbrev pub modulus : ℕ
modulus = 256 ^ 16

-- ---- forms as they are written

-- a term, as a place and a factor
abbrev pub term_value : Term → ℕ × ℕ
term_value t = (t.at, t.factor)

-- terms, as places and factors, in their order
abbrev pub terms_value : List Term → forms.Terms
terms_value ts = map term_value ts

-- a form as it is written
abbrev pub form_value : Form → forms.Form
form_value p = record { constant = p.constant; terms = terms_value p.terms.items }

-- ---- which form is meant

-- terms with each factor modulo 256 ^ 16
abbrev pub reduced_terms : forms.Terms → forms.Terms
reduced_terms [] = []
reduced_terms (t ∷ ts) = (t.0, t.1 % modulus) ∷ reduced_terms ts

-- a form with each number modulo 256 ^ 16
abbrev pub reduced : forms.Form → forms.Form
reduced f = record { constant = f.constant % modulus; terms = reduced_terms f.terms }

-- a form is what is written, modulo 256 ^ 16, and it is just that if what is written is exact
pub record FormIs (p : Form) (f : forms.Form) : Type 0 where
  pub value : reduced (form_value p) ≡ reduced f
  pub exact : p.exact ≡ true → f ≡ form_value p

-- a form is what is written, if there is one
abbrev pub OptionalIs : Option Form → Option forms.Form → Type 0
OptionalIs None None = ⊤
OptionalIs None (Some f) = ⊥
OptionalIs (Some p) None = ⊥
OptionalIs (Some p) (Some f) = FormIs p f

-- each form of a list is what is written, if there is one
abbrev pub OptionalsAre : List (Option Form) → List (Option forms.Form) → Type 0
OptionalsAre [] [] = ⊤
OptionalsAre [] (f ∷ fs) = ⊥
OptionalsAre (p ∷ ps) [] = ⊥
OptionalsAre (p ∷ ps) (f ∷ fs) = OptionalIs p f × OptionalsAre ps fs

-- a constant, as it is
pub record IsConstant (p : Form) : Type 0 where
  pub exact : p.exact ≡ true
  pub terms : p.terms.items ≡ []

-- the number zero, as it is
pub record IsNothing (p : Form) : Type 0 where
  pub constant : p.constant ≡ 0
  pub plain : IsConstant p

-- ---- how terms are computed

-- the place of the first term of a public byte
abbrev pub place_in : ℕ → forms.Terms → ℕ
place_in a [] = 0
place_in a (t ∷ ts) = cond (t.0 == a) 0 (suc (place_in a ts))

-- terms with one more, modulo 256 ^ 16
abbrev pub wrapped_term : ℕ × ℕ → forms.Terms → forms.Terms
wrapped_term t [] = t ∷ []
wrapped_term t (u ∷ us) =
    let rest = wrapped_term t us in
    cond (u.0 == t.0) ((u.0, (u.1 + t.1) % modulus) ∷ us) (u ∷ rest)

-- terms with those of another form, modulo 256 ^ 16
abbrev pub wrapped_terms : forms.Terms → forms.Terms → forms.Terms
wrapped_terms [] us = us
wrapped_terms (t ∷ ts) us = wrapped_term t (wrapped_terms ts us)

-- a multiple of terms, modulo 256 ^ 16
abbrev pub multiples : ℕ → forms.Terms → forms.Terms
multiples k [] = []
multiples k (t ∷ ts) = (t.0, t.1 * k % modulus) ∷ multiples k ts
