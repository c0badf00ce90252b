-- What a list of commits leaves of any bank, by the laws of one commit.
use Rattle.std.proofs.Common.{◌≡◌, ℕ, false, List, [], ◌∷◌, Option, Some, Ok, Err, refl, sym, subst, ◌∙◌, inl, inr}
use Rattle.model_card.specs.declared.card.Part.{Part}
use Rattle.model_card.specs.declared.card.Sizes.{Sizes}
use Rattle.model_card.specs.model_device.specs.Orders.{Answer, InOrder}
use Rattle.model_card.specs.Items.{Site, BankItem, Commit}
use Rattle.mc_bank.specs.Bank.{BankState, IsGoodSite, StayGood, BytesStay, Spares, Changes, item_done, apps_after_commit}

-- words of the static bytes of a name
pub record Words : Type 0 where
  pub name : List ℕ
  pub words : List (ℕ × List ℕ)

-- the commits of a list of them
abbrev pub commits : List Words → List BankItem
commits [] = []
commits (w ∷ ws) = Commit w.name w.words ∷ commits ws

module _ {B : Type 0} (did : B → BankItem → Answer → B → Type 0) where
  -- what one commit keeps, a list of them keeps
  pub kept_in_order : (K : B → B → Type 0) → ((b : B) → K b b) → ((b m e : B) → K b m → K m e → K b e)
      → ((b : B) (n : List ℕ) (ws : List (ℕ × List ℕ)) (a : Answer) (e : B) → did b (Commit n ws) a e → K b e)
      → (cs : List Words) (b : B) (a : Answer) (e : B) → InOrder did b (commits cs) a e → K b e
  kept_in_order K itself onward one [] b (Ok u) e h = subst (K b) (sym h) (itself b)
  kept_in_order K itself onward one [] b (Err s) e h = absurd h
  kept_in_order K itself onward one (c ∷ cs) b a e h =
      elim h [
        | inl done ↦ onward b done.0 e (one b c.name c.words (Ok tt) done.0 done.1) (kept_in_order K itself onward one cs done.0 a e done.2)
        | inr stop ↦ one b c.name c.words (Err stop.0) e stop.1
      ]

  -- slots name what they named
  pub slots_in_order : (named : B → ℕ → Option (List ℕ))
      → ((b : B) (i : BankItem) (a : Answer) (e : B) → did b i a e → (k : ℕ) (n : List ℕ) → named b k ≡ Some n → Spares n i → named e k ≡ Some n)
      → (cs : List Words) (b : B) (a : Answer) (e : B) → InOrder did b (commits cs) a e → (k : ℕ) (n : List ℕ) → named b k ≡ Some n → named e k ≡ Some n
  slots_in_order named keeps =
      kept_in_order (λ b e. (k : ℕ) (n : List ℕ) → named b k ≡ Some n → named e k ≡ Some n)
      (λ b k n h. h)
      (λ b m e first second k n h. second k n (first k n h))
      (λ b n ws a e d k l h. keeps b (Commit n ws) a e d k l h tt)

  -- good sites stay good, and keep their bytes
  pub sites_in_order : (state : B → BankState) (room : B → Sizes → Option ℕ) (site_bytes : B → Site → Part → List ℕ)
      → ((b : B) (n : List ℕ) (ws : List (ℕ × List ℕ)) (a : Answer) (e : B) → did b (Commit n ws) a e → StayGood (state b).apps (room b) (state e).apps (room e))
      → ((b : B) (n : List ℕ) (ws : List (ℕ × List ℕ)) (a : Answer) (e : B) → did b (Commit n ws) a e → BytesStay (state b).apps (room b) (site_bytes b) (site_bytes e))
      → (cs : List Words) (b : B) (a : Answer) (e : B) → InOrder did b (commits cs) a e → (s : Site) → IsGoodSite (state b).apps (room b) s → IsGoodSite (state e).apps (room e) s × ((p : Part) → site_bytes e s p ≡ site_bytes b s p)
  sites_in_order state room site_bytes spares leaves =
      kept_in_order (λ b e. (s : Site) → IsGoodSite (state b).apps (room b) s → IsGoodSite (state e).apps (room e) s × ((p : Part) → site_bytes e s p ≡ site_bytes b s p))
      (λ b s good. (good, λ p. refl))
      (λ b m e first second s good.
      let one = first s good in
      let two = second s one.0 in
      (two.0, λ p. two.1 p ∙ one.1 p))
      (λ b n ws a e d s good. (spares b n ws a e d s good, leaves b n ws a e d s good))

  -- the bank goes on if none of them stopped
  pub going_in_order : (state : B → BankState) (site_bytes : B → Site → Part → List ℕ)
      → ((b : B) (i : BankItem) (a : Answer) (e : B) → did b i a e → Changes (state b) (item_done (site_bytes b) i (state b).apps) a (state e))
      → (cs : List Words) (b e : B) → InOrder did b (commits cs) (Ok tt) e → (state b).stopped ≡ false → (state e).stopped ≡ false
  going_in_order state site_bytes obeys [] b e h on = subst (λ (x : B). (state x).stopped ≡ false) (sym h) on
  going_in_order state site_bytes obeys (c ∷ cs) b e h on =
      elim h [
        | inl done ↦ going_in_order state site_bytes obeys cs done.0 e done.2 (obeys b (Commit c.name c.words) (Ok tt) done.0 done.1).going
        | inr stop ↦ absurd (cc stop.2)
      ]

  -- the applications are those after one commit after another
  pub apps_in_order : (state : B → BankState) (site_bytes : B → Site → Part → List ℕ)
      → ((b : B) (i : BankItem) (a : Answer) (e : B) → did b i a e → Changes (state b) (item_done (site_bytes b) i (state b).apps) a (state e))
      → (c : Words) (cs : List Words) (b e : B) → InOrder did b (commits (c ∷ cs)) (Ok tt) e
      → (m : B) × ((state m).apps ≡ apps_after_commit (state b).apps c.name c.words) × InOrder did m (commits cs) (Ok tt) e
  apps_in_order state site_bytes obeys c cs b e h =
      elim h [
        | inl done ↦ (done.0, (obeys b (Commit c.name c.words) (Ok tt) done.0 done.1).apps, done.2)
        | inr stop ↦ absurd (cc stop.2)
      ]
