use Rattle.std.proofs.Common.{◌≡◌, ℕ, ◌<◌, List, [], ◌∷◌, ◌++◌, Some, None, sym, ap, rules, ◌∙◌}
use Rattle.std.specs.Prelude.{length, nat_le, position}
use Rattle.desk_steps.proofs.GuardLemmas.{number_placed}
use Rattle.desk_steps.proofs.guard.Guard.keep_word.Goals as goal

pub returns-in-Some : goal.returns-in-Some
returns-in-Some c =
    let ws : List ℕ = c.args.self.now in
    let n : ℕ = c.args.number in
    let slice : c.as_slice.result.now ≡ ws = search rules in
    let is : Some c.in-Some.place ≡ position (λ w. nat_le n w) ws = sym c.in-Some.is ∙ c.first_from.ensures.value ∙ ap (λ (l : List ℕ). position (λ w. nat_le n w) l) slice in
    let room : length ws < 128 = search rules in
    c.keep_before.ensures ∙ number_placed n ws (Some c.in-Some.place) is room

pub returns-in-None : goal.returns-in-None
returns-in-None c =
    let ws : List ℕ = c.args.self.now in
    let n : ℕ = c.args.number in
    let slice : c.as_slice.result.now ≡ ws = search rules in
    let is : None ≡ position (λ w. nat_le n w) ws = sym c.in-None.is ∙ c.first_from.ensures.value ∙ ap (λ (l : List ℕ). position (λ w. nat_le n w) l) slice in
    let room : length ws < 128 = search rules in
    let same : c.self.inside.words.items ≡ ws = search rules in
    c.push.ensures.items ∙ ap (λ (l : List ℕ). l ++ n ∷ []) same ∙ number_placed n ws None is room
