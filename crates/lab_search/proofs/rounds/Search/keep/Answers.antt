use Rattle.std.proofs.Common.{◌≡◌, arith, refl, sym, ◌∙◌, Bool, false, List, [], ◌∷◌, ◌++◌, if◌then◌else◌, Result, Ok, Err, IfOk}
use Rattle.std.specs.Result.{is_err}
use Rattle.lab_search.proofs.RoundLemmas.{keeps_known, keeps_full, keeps_new}
use Rattle.lab_search.proofs.rounds.Search.keep.Goals as goal

ok_then : {A E : Type 0} (r : Result A E) (P : Type 0) → IfOk r (λ x. P) → is_err r ≡ false → P
ok_then (Ok a) P h e = h
ok_then (Err f) P h e = absurd (cc e)

new_last : {X : Type 0} (b : Bool) (ks : List X) (x : X) → b ≡ false → (if b then ks else ks ++ x ∷ []) ≡ ks ++ x ∷ []
new_last b ks x h = rw h refl

pub returns-then-contains-clause-comes : goal.returns-then-contains-clause-comes
returns-then-contains-clause-comes c = λ d ns n t e. keeps_known d c.args.self.now ns n t c.args.step c.args.state e (sym c.contains.ensures ∙ c.if-contains.true)

pub returns-then-len-self-clause-comes : goal.returns-then-len-self-clause-comes
returns-then-len-self-clause-comes c =
    λ d ns n t e. keeps_full d c.args.self.now ns n t c.args.step c.args.state e (sym c.contains.ensures ∙ c.if-contains.false) (omega (arith, c.len.ensures.len, c.if-len-self.true))

pub returns-clause-comes : goal.returns-clause-comes
returns-clause-comes c =
    λ d ns n t e.
    let new = sym c.contains.ensures ∙ c.if-contains.false in
    let keys = ok_then c.insert_full.result _ c.insert_full.ensures.keys (sym c.is_err.ensures.value ∙ c.if-is_err.false) in
    keeps_new d c.args.self.now _ ns n t c.args.step c.args.state e new (omega (arith, c.len.ensures.len, c.if-len-self.false)) refl refl refl refl
    (keys ∙ new_last _ c.args.self.now.states.keys c.args.state new) c.in_ok-push.ensures.items
