-- Open calls: the code has the oldest first, the definition the newest.
use Rattle.std.specs.Prelude.{◌≡◌, ℕ, ◌+◌, ◌<◌, ◌≤◌, Bool, true, false, cond, List, [], ◌∷◌, ◌++◌, length, take, drop, get_or}
use Rattle.std.proofs.Common.{arith, ap, sym, subst, ◌∙◌, refl}
use Rattle.std.proofs.lemmas.List.{take_more, take_all, drop_all, length-take, drop-append-le}
use Rattle.prove_facts.specs.model_prove.specs.Keys as known
use Rattle.prove_facts.specs.model_prove.specs.Keys.{calls_before}
use Rattle.prove_keys.specs.declared.keys.Call.{Call}
use Rattle.prove_keys.specs.Keys.{call_of, calls_of}

-- the newest call comes last
pub calls_push : (cs : List Call) (c : Call) → calls_of (cs ++ c ∷ []) ≡ call_of c ∷ calls_of cs
calls_push [] c = refl
calls_push (x ∷ cs) c = ap (λ (t : List known.Call). t ++ call_of x ∷ []) (calls_push cs c)

-- ---- calls that are lost

-- one call more is the newest
newest : (cs : List Call) (i : ℕ) (d : Call) → i < length cs → calls_of (take (i + 1) cs) ≡ call_of (get_or cs i d) ∷ calls_of (take i cs)
newest cs i d h = ap calls_of (take_more cs i d h) ∙ calls_push (take i cs) (get_or cs i d)

-- the newest is lost, and all before it
pub one_lost : (lost : known.Call → Bool) (cs : List Call) (i : ℕ) (d : Call) → i < length cs → lost (call_of (get_or cs i d)) ≡ true
    → calls_of (drop (i + 1) (take (i + 1) cs)) ≡ calls_before lost (calls_of (take (i + 1) cs))
one_lost lost cs i d h e =
    let none : drop (i + 1) (take (i + 1) cs) ≡ [] = drop_all (i + 1) (take (i + 1) cs) (omega (arith, length-take (i + 1) cs)) in
    let rest : List known.Call = call_of (get_or cs i d) ∷ calls_before lost (calls_of (take i cs)) in
    ap calls_of none ∙ sym (ap (calls_before lost) (newest cs i d h) ∙ ap (λ (b : Bool). cond b [] rest) e)

-- the newest is kept
pub one_kept : (lost : known.Call → Bool) (cs : List Call) (n i : ℕ) (d : Call) → i < length cs → n ≤ i → lost (call_of (get_or cs i d)) ≡ false
    → calls_of (drop n (take i cs)) ≡ calls_before lost (calls_of (take i cs))
    → calls_of (drop n (take (i + 1) cs)) ≡ calls_before lost (calls_of (take (i + 1) cs))
one_kept lost cs n i d h g e w =
    let c : Call = get_or cs i d in
    let more : drop n (take i cs ++ c ∷ []) ≡ drop n (take i cs) ++ c ∷ [] = drop-append-le n (take i cs) (c ∷ []) (omega (arith, length-take i cs)) in
    let rest : List known.Call = call_of c ∷ calls_before lost (calls_of (take i cs)) in
    ap (λ (t : List Call). calls_of (drop n t)) (take_more cs i d h) ∙ ap calls_of more ∙ calls_push (drop n (take i cs)) c
    ∙ ap (λ (t : List known.Call). call_of c ∷ t) w
    ∙ sym (ap (calls_before lost) (newest cs i d h) ∙ ap (λ (b : Bool). cond b [] rest) e)

-- all were looked at
pub all_seen : (lost : known.Call → Bool) (cs : List Call) (n i : ℕ) → length cs ≤ i
    → calls_of (drop n (take i cs)) ≡ calls_before lost (calls_of (take i cs)) → calls_of (drop n cs) ≡ calls_before lost (calls_of cs)
all_seen lost cs n i h w = subst (λ (t : List Call). calls_of (drop n t) ≡ calls_before lost (calls_of t)) (take_all i cs h) w
