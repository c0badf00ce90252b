-- Declarations, by their words and their fields.
use Rattle.std.proofs.Common.{◌≡◌, ℕ, Bool, true, false, cond, List, [], ◌∷◌, take, Option, Some, None, refl, subst, ◌∙◌}
use Rattle.std.specs.Prelude.{option_map}
use Rattle.mc_text.specs.model_device.specs.Bytes.{lookup}
use Rattle.desk_draft.specs.Declarations.{DeclarationWord, StaticWord, SessionWord, PublicWord, ConstWord, Scope, declaration_of, declaration_text, declaration_words, gives, is_labelled, scope_after}
use Rattle.desk_draft.specs.declared.declaration.Declaration.{Declaration}
use Rattle.desk_draft.specs.Views.{Declares, DeclaresMaybe, gives_by}

abbrev Found : Type 0
Found = Option (DeclarationWord × List (List ℕ))

-- ---- a word and the fields after it

pub labelled_none : (w : List ℕ) (ts : List (List ℕ)) → is_labelled ts ≡ true → DeclaresMaybe None (declaration_of (w ∷ ts))
labelled_none w ts h = rw h tt

pub unworded_none : (w : List ℕ) (ts : List (List ℕ)) → is_labelled ts ≡ false → None ≡ lookup declaration_words w → DeclaresMaybe None (declaration_of (w ∷ ts))
unworded_none w ts h e = rw h (subst (λ (o : Option DeclarationWord). DeclaresMaybe None (option_map (λ k. (k, ts)) o)) e tt)

pub worded_some : (w : List ℕ) (ts : List (List ℕ)) (k : DeclarationWord) (d : Declaration) → is_labelled ts ≡ false → Some k ≡ lookup declaration_words w → Declares d k ts → DeclaresMaybe (Some d) (declaration_of (w ∷ ts))
worded_some w ts k d h e g = rw h (subst (λ (o : Option DeclarationWord). DeclaresMaybe (Some d) (option_map (λ k. (k, ts)) o)) e g)

-- ---- no declaration has more than three fields after its word

more_scope : (s : Scope) (w : DeclarationWord) (a b c d : List ℕ) (ts us : List (List ℕ)) → scope_after s w (a ∷ b ∷ c ∷ d ∷ ts) ≡ scope_after s w (a ∷ b ∷ c ∷ d ∷ us)
more_scope s StaticWord a b c d ts us = refl
more_scope s SessionWord a b c d ts us = refl
more_scope s PublicWord a b c d ts us = refl
more_scope s ConstWord a b c d ts us = refl

more_text : (l : Bool) (n : ℕ) (w : DeclarationWord) (a b c d : List ℕ) (ts us : List (List ℕ)) → declaration_text l n w (a ∷ b ∷ c ∷ d ∷ ts) ≡ declaration_text l n w (a ∷ b ∷ c ∷ d ∷ us)
more_text l n StaticWord a b c d ts us = refl
more_text l n SessionWord a b c d ts us = refl
more_text l n PublicWord a b c d ts us = refl
more_text l n ConstWord a b c d ts us = refl

more_gives : (w : DeclarationWord) (a b c d : List ℕ) (ts us : List (List ℕ)) → gives (Some (w, a ∷ b ∷ c ∷ d ∷ ts)) ≡ gives (Some (w, a ∷ b ∷ c ∷ d ∷ us))
more_gives StaticWord a b c d ts us = refl
more_gives SessionWord a b c d ts us = refl
more_gives PublicWord a b c d ts us = refl
more_gives ConstWord a b c d ts us = refl

more_fields : (e : Declaration) (w : DeclarationWord) (a b c d : List ℕ) (ts us : List (List ℕ)) → Declares e w (a ∷ b ∷ c ∷ d ∷ ts) → Declares e w (a ∷ b ∷ c ∷ d ∷ us)
more_fields e w a b c d ts us h = record {
  scope = λ s. h.scope s ∙ more_scope s w a b c d ts us;
  text = λ l n. h.text l n ∙ more_text l n w a b c d ts us;
  gives = h.gives ∙ more_gives w a b c d ts us;
}

four_fields : (e : Declaration) (w : DeclarationWord) (ts : List (List ℕ)) → Declares e w (take 4 ts) → Declares e w ts
four_fields e w [] h = h
four_fields e w (a ∷ []) h = h
four_fields e w (a ∷ b ∷ []) h = h
four_fields e w (a ∷ b ∷ c ∷ []) h = h
four_fields e w (a ∷ b ∷ c ∷ d ∷ ts) h = more_fields e w a b c d [] ts h

worded_four : (o : Option Declaration) (k : Option DeclarationWord) (ts : List (List ℕ)) → DeclaresMaybe o (option_map (λ w. (w, take 4 ts)) k) → DeclaresMaybe o (option_map (λ w. (w, ts)) k)
worded_four None None ts h = tt
worded_four (Some d) None ts h = h
worded_four None (Some w) ts h = h
worded_four (Some d) (Some w) ts h = four_fields d w ts h

unlabelled_four : (o : Option Declaration) (b : Bool) (k : Option DeclarationWord) (ts : List (List ℕ)) → DeclaresMaybe o (cond b None (option_map (λ w. (w, take 4 ts)) k)) → DeclaresMaybe o (cond b None (option_map (λ w. (w, ts)) k))
unlabelled_four o true k ts h = h
unlabelled_four o false k ts h = worded_four o k ts h

is_labelled_four : (ts : List (List ℕ)) → is_labelled (take 4 ts) ≡ is_labelled ts
is_labelled_four [] = refl
is_labelled_four (a ∷ ts) = refl

five_fields : (o : Option Declaration) (ts : List (List ℕ)) → DeclaresMaybe o (declaration_of (take 5 ts)) → DeclaresMaybe o (declaration_of ts)
five_fields o [] h = h
five_fields o (w ∷ ts) h =
    unlabelled_four o (is_labelled ts) (lookup declaration_words w) ts
    (subst (λ (b : Bool). DeclaresMaybe o (cond b None (option_map (λ k. (k, take 4 ts)) (lookup declaration_words w)))) (is_labelled_four ts) h)

-- the first five fields determine the declaration
pub declares_five : (o : Option Declaration) (fs ts : List (List ℕ)) → fs ≡ take 5 ts → DeclaresMaybe o (declaration_of fs) → DeclaresMaybe o (declaration_of ts)
declares_five o fs ts e h = five_fields o ts (subst (λ (x : List (List ℕ)). DeclaresMaybe o (declaration_of x)) e h)

-- ---- lines that give bytes

pub gives_some : (d : Declaration) (f : Found) → DeclaresMaybe (Some d) f → gives_by d ≡ gives f
gives_some d None h = absurd h
gives_some d (Some p) h = h.gives

pub gives_none : (f : Found) → DeclaresMaybe None f → false ≡ gives f
gives_none None h = refl
gives_none (Some p) h = absurd h
