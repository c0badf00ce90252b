-- Replies, as the definition has them.
use Rattle.std.specs.Prelude.{◌≡◌, ℕ, Bool, true, false, cond, List, [], ◌∷◌, map, ◌≤◌, ◌+◌}
use Rattle.std.specs.declared.alloc.Global.{Global}
use Rattle.std.specs.declared.vec.Vec.{Vec}
use Rattle.prove_facts.specs.model_prove.specs.Texts as known
use Rattle.prove_facts.specs.model_rules.specs.Rules.{AppRules}
use Rattle.prove_facts.specs.model_prove.specs.Texts.{opened, after_any}
use Rattle.prove_facts.specs.model_prove.specs.Sets.{Set}
use Rattle.prove_facts.specs.model_prove.specs.Facts.{Facts, values_at}
use Rattle.prove_facts.specs.model_prove.specs.Arrivals.{has_combination, result_patterns, la_at}
use Rattle.prove_patterns.specs.declared.replies.Replies.{Replies}
use Rattle.prove_patterns.specs.Opens.{many_of}

-- combinations of lines that match
abbrev pub combinations_of : List (Vec Bool Global) → List (List Bool)
combinations_of cs = map (λ c. c.items) cs

-- a combination more, unless it is there
abbrev pub with_combination : List Bool → List (List Bool) → List (List Bool)
with_combination m rest = cond (has_combination m rest) rest (m ∷ rest)

-- the bytes of a reply before its SW: none, or any, with a search of some rounds
abbrev pub bodies_in : ℕ → Bool → known.Opens → List known.Opens
bodies_in n false o = o ∷ []
bodies_in n true o = after_any n (o ∷ [])

-- what is left of patterns before any byte of a reply, and after any bytes of it
pub record ArePrepared (o : known.Opens) (r : Replies) : Type 0 where
  pub none : many_of r.none.items ≡ o ∷ []
  pub any : (n : ℕ) → 10000 ≤ n → many_of r.any.items ≡ after_any n (o ∷ [])

-- what is prepared of the patterns of the results of an application's rules
abbrev pub IsPrepared : AppRules → Replies → Type 0
IsPrepared a r = ArePrepared (map opened (result_patterns a.ons)) r

-- the bytes of La and SW have these values
pub record HaveValues (f : Facts) (a b c d : Set) : Type 0 where
  pub la_high : values_at f la_at ≡ a
  pub la_low : values_at f (la_at + 1) ≡ b
  pub sw_high : values_at f (la_at + 2) ≡ c
  pub sw_low : values_at f (la_at + 3) ≡ d
