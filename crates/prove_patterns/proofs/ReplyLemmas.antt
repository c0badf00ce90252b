-- The replies of the definition, by the sets of their bytes.
use Rattle.std.proofs.Common.{◌≡◌, ◌∙◌, ◌+◌, Bool, true, false, List, ap, sym, refl, map}
use Rattle.std.specs.Prelude.{flat_map}
use Rattle.prove_facts.specs.model_prove.specs.Sets.{Set}
use Rattle.prove_facts.specs.model_prove.specs.Facts.{values_at}
use Rattle.prove_facts.specs.model_prove.specs.Keys.{Known}
use Rattle.prove_facts.specs.model_prove.specs.Texts.{Opens, opened, after_bytes, any_count, matches_of}
use Rattle.prove_facts.specs.model_prove.specs.Arrivals.{Setting, lengths_of, bodies, distinct, result_patterns, replies, la_at}
use Rattle.prove_patterns.specs.Replies.{bodies_in, HaveValues}

-- the replies of these sets
abbrev replies_of : Set → Set → Set → Set → Opens → List (List Bool)
replies_of a b c d o = distinct (map matches_of (flat_map (after_bytes d) (flat_map (after_bytes c) (bodies (lengths_of a b).some o))))

bodies_are : (b : Bool) (o : Opens) → bodies b o ≡ bodies_in any_count b o
bodies_are true o = refl
bodies_are false o = refl

pub replies_are : (s : Setting) (k : Known) (a b c d : Set) (some : Bool) → HaveValues k.bytes a b c d → some ≡ (lengths_of a b).some
    → distinct (map matches_of (flat_map (after_bytes d) (flat_map (after_bytes c) (bodies_in any_count some (map opened (result_patterns s.rules.ons)))))) ≡ replies s k
replies_are s k a b c d some h e =
    let o = map opened (result_patterns s.rules.ons) in
    ap (λ (x : Bool). distinct (map matches_of (flat_map (after_bytes d) (flat_map (after_bytes c) (bodies_in any_count x o))))) e
    ∙ ap (λ (x : List Opens). distinct (map matches_of (flat_map (after_bytes d) (flat_map (after_bytes c) x)))) (sym (bodies_are (lengths_of a b).some o))
    ∙ sym (ap (λ (x : Set). replies_of x (values_at k.bytes (la_at + 1)) (values_at k.bytes (la_at + 2)) (values_at k.bytes (la_at + 3)) o) h.la_high
    ∙ ap (λ (x : Set). replies_of a x (values_at k.bytes (la_at + 2)) (values_at k.bytes (la_at + 3)) o) h.la_low
    ∙ ap (λ (x : Set). replies_of a b x (values_at k.bytes (la_at + 3)) o) h.sw_high ∙ ap (λ (x : Set). replies_of a b c x o) h.sw_low)
