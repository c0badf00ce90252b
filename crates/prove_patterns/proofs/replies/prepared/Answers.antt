use Rattle.std.proofs.Common.{◌∙◌, List, [], ◌∷◌, Vec, Bor, Global, ℕ, ap, sym}
use Rattle.prove_facts.specs.model_prove.specs.Texts.{Opens, after_any}
use Rattle.prove_patterns.specs.Opens.{many_of}
use Rattle.prove_patterns.proofs.ReachLemmas.{any_found}
use Rattle.prove_patterns.proofs.replies.prepared.Goals as goal

pub returns : goal.returns
returns c same =
    record {
      none = ap (λ (l : List (Vec (Vec (Bor (List ℕ)) Global) Global)). many_of l) c.in_ok-none.ensures;
      any =
          (λ n h. any_found c.in_ok-any.field-0 c.in-Some.any (after_any n (many_of c.in_ok-only.field-0.items)) c.in-Some.is (c.in_ok-any.ensures n h)
          ∙ ap (λ (l : List (Vec (Vec (Bor (List ℕ)) Global) Global)). after_any n (many_of l)) c.in_ok-only.ensures ∙ ap (λ (o : Opens). after_any n (o ∷ [])) (sym same));
    }
