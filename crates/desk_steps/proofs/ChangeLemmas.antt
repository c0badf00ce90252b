-- The runs of three segments, and the lines of frames.
use Rattle.std.proofs.Common.{◌≡◌, ℕ, Bool, true, List, [], ◌∷◌, ◌++◌, None, refl, sym, ap, ◌∙◌, append_assoc, append-nil, codes}
use Rattle.desk_steps.specs.Json.{any_run, runs_more}
use Rattle.desk_steps.proofs.RunLemmas.{more_append}
use Rattle.desk_steps.specs.Lines.{aid_key, command_key, number_key, sets_key}

-- ---- runs of three segments

any_true : (ys : List (ℕ × List ℕ)) → any_run true ys ≡ true
any_true [] = refl
any_true (y ∷ ys) = refl

any_append : (any : Bool) (xs ys : List (ℕ × List ℕ)) → any_run (any_run any xs) ys ≡ any_run any (xs ++ ys)
any_append any [] ys = refl
any_append any (x ∷ xs) ys = any_true ys

-- runs of three segments, one after the other
pub three_runs : (s d p : List (ℕ × List ℕ)) (a b : Bool) (any : Bool) → a ≡ any_run any s → b ≡ any_run a d → runs_more any s ++ runs_more a d ++ runs_more b p ≡ runs_more any (s ++ d ++ p)
three_runs s d p a b any first second =
    let two : runs_more any s ++ runs_more a d ≡ runs_more any (s ++ d) = ap (λ (x : Bool). runs_more any s ++ runs_more x d) first ∙ more_append any s d in
    let last : b ≡ any_run any (s ++ d) = second ∙ ap (λ (x : Bool). any_run x d) first ∙ any_append any s d in
    ap (λ (t : List ℕ). t ++ runs_more b p) two ∙ ap (λ (x : Bool). runs_more any (s ++ d) ++ runs_more x p) last ∙ more_append any (s ++ d) p

-- texts one after the other may be grouped from the second on
pub bracketed : (o a b c e : List ℕ) → (((o ++ a) ++ b) ++ c) ++ e ≡ (o ++ ((a ++ b) ++ c)) ++ e
bracketed o a b c e = ap (λ (t : List ℕ). t ++ e) (ap (λ (t : List ℕ). t ++ c) (append_assoc o a b) ∙ append_assoc o (a ++ b) c)

-- ---- frames

-- a frame without a command
pub text_without_command : (d : ℕ) (name : List ℕ) (sets : List (ℕ × List ℕ)) (e : List ℕ) → number_key (codes "{\"frame\":") d ++ aid_key name ++ sets_key sets ++ e ≡ number_key (codes "{\"frame\":") d ++ aid_key name ++ command_key None ++ sets_key sets ++ e
text_without_command d name sets e = ap (λ (t : List ℕ). t ++ sets_key sets ++ e) (sym (append-nil (number_key (codes "{\"frame\":") d ++ aid_key name)))
