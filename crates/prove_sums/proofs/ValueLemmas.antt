-- What is known for sums as it is written, and copies of it.
use Rattle.std.proofs.Common.{◌≡◌, ◌∙◌, ℕ, ◌+◌, ◌<◌, ◌≤◌, List, [], ◌∷◌, ◌++◌, length, drop, get_or, Option, Some, None, refl, sym, ap, subst, append_assoc}
use Rattle.std.specs.Prelude.{map, IfSome}
use Rattle.std.proofs.lemmas.List.{append-nil, drop_more, drop_all}
use Rattle.prove_forms.specs.declared.forms.Form.{Form}
use Rattle.prove_forms.specs.Forms.{OptionalIs, OptionalsAre}
use Rattle.prove_sums.specs.declared.values.More.{More}
use Rattle.prove_sums.specs.declared.values.Sums.{Sums}
use Rattle.prove_sums.specs.Values.{MoresAre, SumsAre, more_value, off_value, sums_value}
use Rattle.prove_sums.proofs.WalkLemmas.{Off, Offs, first_off}

-- ---- as it is written

mores_written : (ps : List More) → MoresAre ps (map more_value ps)
mores_written [] = tt
mores_written (p ∷ ps) =
    (record { at = refl; from = refl; n = refl; form = record { value = refl; exact = λ e. refl } }, mores_written ps)

off_written : (p : Option Form) → OptionalIs p (off_value p)
off_written None = tt
off_written (Some p) = record { value = refl; exact = λ e. refl }

offs_written : (ps : List (Option Form)) → OptionalsAre ps (map off_value ps)
offs_written [] = tt
offs_written (p ∷ ps) = (off_written p, offs_written ps)

-- what is known is what its forms are as they are written
pub as_written : (p : Sums) → SumsAre p (sums_value p)
as_written p = record { origins = refl; mores = mores_written p.mores.items; offs = offs_written p.offs.items }

-- ---- copies

-- those of the totals so far are there
pub record Copied (fs : Offs) (ps copies : List (Option Form)) : Type 0 where
  pub left : Offs
  pub are : OptionalsAre ps left
  pub done : Offs
  pub made : OptionalsAre copies done
  pub same : fs ≡ done ++ left

-- a copy of by how much a total is off comes after those of the totals before
pub copied_next : (fs : Offs) (ps : List (Option Form)) (i : ℕ) (p : Option Form) (old new : List (Option Form)) (q : Option Form) → p ≡ get_or ps i p
    → i < length ps → ((f : Off) → OptionalIs p f → OptionalIs q f)
    → ((gs : Offs) (f : Off) → OptionalsAre old gs → OptionalIs q f → OptionalsAre new (gs ++ f ∷ []))
    → Copied fs (drop i ps) old → Copied fs (drop (i + 1) ps) new
copied_next fs ps i p old new q e l one grows w =
    let o =
    first_off w.left p (drop (i + 1) ps)
    (subst (λ (x : List (Option Form)). OptionalsAre x w.left) (drop_more ps i p l ∙ ap (λ (x : Option Form). x ∷ drop (i + 1) ps) (sym e)) w.are) in
    record {
      left = o.more;
      are = o.are;
      done = w.done ++ o.off ∷ [];
      made = grows w.done o.off w.made (one o.off o.is);
      same = w.same ∙ ap (λ (x : Offs). w.done ++ x) o.same ∙ sym (append_assoc w.done (o.off ∷ []) o.more);
    }

no_form : (gs : Offs) (ps : List (Option Form)) (i : ℕ) → length ps ≤ i → OptionalsAre (drop i ps) gs → gs ≡ []
no_form [] ps i l are = refl
no_form (g ∷ gs) ps i l are = absurd (subst (λ (x : List (Option Form)). OptionalsAre x (g ∷ gs)) (drop_all i ps l) are)

-- if no total is left, the copies are all of them
pub copied_end : (fs : Offs) (ps : List (Option Form)) (i : ℕ) (copies : List (Option Form)) → length ps ≤ i → Copied fs (drop i ps) copies → OptionalsAre copies fs
copied_end fs ps i copies l w =
    subst (λ (x : Offs). OptionalsAre copies x) (sym (w.same ∙ ap (λ (x : Offs). w.done ++ x) (no_form w.left ps i l w.are) ∙ append-nil w.done)) w.made

-- ---- options

-- what is true of a value, if there is one, is true if more is
pub some_weaker : {X : Type 0} (o : Option X) (P Q : X → Type 0) → ((x : X) → P x → Q x) → IfSome o P → IfSome o Q
some_weaker None P Q h i = i
some_weaker (Some x) P Q h i = h x i
