-- An open load as the model has it, and what a LOAD command and a CREATE make of it.
use Rattle.std.proofs.Common.{◌≡◌, ◌≢◌, ℕ, ◌+◌, ◌≤◌, Bool, true, false, List, ◌++◌, length, take, drop, Option, Some, refl, sym, ap, subst, ◌∙◌, arith}
use Rattle.std.specs.Prelude.{◌==◌, ◌&&◌, option_map}
use Rattle.std.proofs.lemmas.Bool.Decides.{nat_tests}
use Rattle.std.proofs.lemmas.List.{length-take-le, length-append, take_at, take_all}
use Rattle.model_card.specs.declared.card.Part.{Part}
use Rattle.model_card.specs.declared.card.Part.TheVariants.{Code, Data, Dir, Fci}
use Rattle.model_card.specs.declared.card.Sizes.{Sizes}
use Rattle.model_card.specs.model_device.specs.Bytes.{splice}
use Rattle.model_card.specs.Items.{Site}
use Rattle.model_card.specs.Manager.{got_of, size_of, with_got, is_complete, can_create, fresh}
use Rattle.mc_bank.specs.Bank.{part_len, IsGoodSite, StayGood, app_of_site}
use Rattle.mc_manager.specs.ManagerState.{BankView, Loaded, got_len, got_at, open_of, FitsLoad}
use Rattle.mc_manager.specs.Load.{with_more, is_full}
use Rattle.model_card.specs.model_device.proofs.ListLemmas.{length_splice}

-- ---- sections

-- equality of sections is decidable
same_part : (p q : Part) → Dec (p ≡ q)
same_part Code Code = yes refl
same_part Code Data = no (λ e. cc e)
same_part Code Dir = no (λ e. cc e)
same_part Code Fci = no (λ e. cc e)
same_part Data Code = no (λ e. cc e)
same_part Data Data = yes refl
same_part Data Dir = no (λ e. cc e)
same_part Data Fci = no (λ e. cc e)
same_part Dir Code = no (λ e. cc e)
same_part Dir Data = no (λ e. cc e)
same_part Dir Dir = yes refl
same_part Dir Fci = no (λ e. cc e)
same_part Fci Code = no (λ e. cc e)
same_part Fci Data = no (λ e. cc e)
same_part Fci Dir = no (λ e. cc e)
same_part Fci Fci = yes refl

equal_numbers : (a b : ℕ) → (a == b) ≡ true → a ≡ b
equal_numbers a b h = grind (arith, nat_tests, h)

four_equal : (a b c d e f g k : ℕ) → (a == b && c == d && e == f && g == k) ≡ true → (a ≡ b) × (c ≡ d) × (e ≡ f) × (g ≡ k)
four_equal a b c d e f g k h = by_tests (a == b) (c == d) (e == f) (g == k) refl refl refl refl h
  where
    by_tests : (w x y z : Bool) → (a == b) ≡ w → (c == d) ≡ x → (e == f) ≡ y → (g == k) ≡ z → (w && x && y && z) ≡ true → (a ≡ b) × (c ≡ d) × (e ≡ f) × (g ≡ k)
    by_tests true true true true p q r s h = (equal_numbers a b p, equal_numbers c d q, equal_numbers e f r, equal_numbers g k s)
    by_tests false x y z p q r s h = absurd (cc h)
    by_tests true false y z p q r s h = absurd (cc h)
    by_tests true true false z p q r s h = absurd (cc h)
    by_tests true true true false p q r s h = absurd (cc h)

-- ---- the bytes that a section has received

pub length_front : (v : BankView) (l : Loaded) (p : Part) → FitsLoad v l → length (got_at v.site_bytes l p) ≡ got_len p l
length_front v l p h = length-take-le (got_len p l) (v.site_bytes l.site p) (subst (λ (n : ℕ). got_len p l ≤ n) (sym (h.parts p)) (h.within p))

pub got_is : (v : BankView) (l : Loaded) (p : Part) → got_of p (open_of v.site_bytes l).got ≡ got_at v.site_bytes l p
got_is v l Code = refl
got_is v l Data = refl
got_is v l Dir = refl
got_is v l Fci = refl

pub length_got : (v : BankView) (l : Loaded) (p : Part) → FitsLoad v l → length (got_of p (open_of v.site_bytes l).got) ≡ got_len p l
length_got v l p h = ap length (got_is v l p) ∙ length_front v l p h

pub same_size : (p : Part) (s : Sizes) → size_of p s ≡ part_len p s
same_size Code s = refl
same_size Data s = refl
same_size Dir s = refl
same_size Fci s = refl

-- ---- a piece

pub front_filled : (x : List ℕ) (n : ℕ) (b : List ℕ) → n ≤ length x → take (n + length b) (splice x n b) ≡ take n x ++ b
front_filled x n b le =
    take_at (take n x ++ b) (drop (n + length b) x) (n + length b)
    (length-append (take n x) b ∙ ap (λ (k : ℕ). k + length b) (length-take-le n x le))

more_len : (p : Part) (b : List ℕ) (l : Loaded) → got_len p (with_more p b l) ≡ got_len p l + length b
more_len Code b l = refl
more_len Data b l = refl
more_len Dir b l = length-append l.dir b
more_len Fci b l = refl

more_beside : (p q : Part) (b : List ℕ) (l : Loaded) → q ≢ p → got_len q (with_more p b l) ≡ got_len q l
more_beside Code Code b l h = absurd (h refl)
more_beside Code Data b l h = refl
more_beside Code Dir b l h = refl
more_beside Code Fci b l h = refl
more_beside Data Code b l h = refl
more_beside Data Data b l h = absurd (h refl)
more_beside Data Dir b l h = refl
more_beside Data Fci b l h = refl
more_beside Dir Code b l h = refl
more_beside Dir Data b l h = refl
more_beside Dir Dir b l h = absurd (h refl)
more_beside Dir Fci b l h = refl
more_beside Fci Code b l h = refl
more_beside Fci Data b l h = refl
more_beside Fci Dir b l h = refl
more_beside Fci Fci b l h = absurd (h refl)

more_site : (p : Part) (b : List ℕ) (l : Loaded) → (with_more p b l).site ≡ l.site
more_site Code b l = refl
more_site Data b l = refl
more_site Dir b l = refl
more_site Fci b l = refl

-- a piece written after the bytes that a section has received: the bytes of the bank before and after it
pub record IsFilled (v w : BankView) (l : Loaded) (p : Part) (b : List ℕ) : Type 0 where
  pub fits : FitsLoad v l
  pub room : got_len p l + length b ≤ part_len p l.site.sizes
  pub piece : w.site_bytes l.site p ≡ splice (v.site_bytes l.site p) (got_len p l) b
  pub others : (q : Part) → q ≢ p → w.site_bytes l.site q ≡ v.site_bytes l.site q
  pub good : StayGood v.state.apps v.room w.state.apps w.room

got_filled : (v w : BankView) (l : Loaded) (p : Part) (b : List ℕ) → IsFilled v w l p b → take (got_len p l + length b) (w.site_bytes l.site p) ≡ got_at v.site_bytes l p ++ b
got_filled v w l p b h =
    let room = h.room in
    let parts = h.fits.parts p in
    ap (take (got_len p l + length b)) h.piece ∙ front_filled (v.site_bytes l.site p) (got_len p l) b (omega (arith, room, parts))

pub open_filled : (v w : BankView) (l : Loaded) (p : Part) (b : List ℕ) → IsFilled v w l p b
    → open_of w.site_bytes (with_more p b l) ≡ record (open_of v.site_bytes l) { got = with_got p b (open_of v.site_bytes l).got }
open_filled v w l p b h = by_part p h
  where
    by_part : (p : Part) → IsFilled v w l p b → open_of w.site_bytes (with_more p b l) ≡ record (open_of v.site_bytes l) { got = with_got p b (open_of v.site_bytes l).got }
    by_part Code h =
        let own = got_filled v w l Code b h in
        let init = h.others Data (λ e. cc e) in
        let dir = h.others Dir (λ e. cc e) in
        let fci = h.others Fci (λ e. cc e) in
        cc
    by_part Data h =
        let own = got_filled v w l Data b h in
        let code = h.others Code (λ e. cc e) in
        let dir = h.others Dir (λ e. cc e) in
        let fci = h.others Fci (λ e. cc e) in
        cc
    by_part Dir h =
        let own : take (length (l.dir ++ b)) (w.site_bytes l.site Dir) ≡ got_at v.site_bytes l Dir ++ b = ap (λ (k : ℕ). take k (w.site_bytes l.site Dir)) (length-append l.dir b) ∙ got_filled v w l Dir b h in
        let code = h.others Code (λ e. cc e) in
        let init = h.others Data (λ e. cc e) in
        let fci = h.others Fci (λ e. cc e) in
        cc
    by_part Fci h =
        let own = got_filled v w l Fci b h in
        let code = h.others Code (λ e. cc e) in
        let init = h.others Data (λ e. cc e) in
        let dir = h.others Dir (λ e. cc e) in
        cc

pub fits_filled : (v w : BankView) (l : Loaded) (p : Part) (b : List ℕ) → IsFilled v w l p b → FitsLoad w (with_more p b l)
fits_filled v w l p b h =
    record {
      good = subst (λ (s : Site). IsGoodSite w.state.apps w.room s) (sym (more_site p b l)) (h.good l.site h.fits.good);
      parts = λ q. by_site (λ s. length (w.site_bytes s q) ≡ part_len q s.sizes) (len q);
      within = λ q. by_site (λ s. got_len q (with_more p b l) ≤ part_len q s.sizes) (in_size q);
      dir = dir_same p h;
    }
  where
    by_site : (P : Site → Type 0) → P l.site → P (with_more p b l).site
    by_site P x = subst P (sym (more_site p b l)) x

    len : (q : Part) → length (w.site_bytes l.site q) ≡ part_len q l.site.sizes
    len q =
        elim (same_part q p) [
          | yes is ↦
              subst (λ (r : Part). length (w.site_bytes l.site r) ≡ part_len r l.site.sizes) (sym is)
              (let room = h.room in
              let parts = h.fits.parts p in
              ap length h.piece ∙ length_splice (v.site_bytes l.site p) (got_len p l) b (omega (arith, room, parts)) ∙ parts)
          | no other ↦ ap length (h.others q other) ∙ h.fits.parts q
        ]

    in_size : (q : Part) → got_len q (with_more p b l) ≤ part_len q l.site.sizes
    in_size q =
        elim (same_part q p) [
          | yes is ↦ subst (λ (r : Part). got_len r (with_more p b l) ≤ part_len r l.site.sizes) (sym is) (let room = h.room in let len = more_len p b l in omega (arith, room, len))
          | no other ↦ let old = h.fits.within q in let len = more_beside p q b l other in omega (arith, old, len)
        ]

    dir_same : (p : Part) → IsFilled v w l p b → got_at w.site_bytes (with_more p b l) Dir ≡ (with_more p b l).dir
    dir_same Code h = ap (take (length l.dir)) (h.others Dir (λ e. cc e)) ∙ h.fits.dir
    dir_same Data h = ap (take (length l.dir)) (h.others Dir (λ e. cc e)) ∙ h.fits.dir
    dir_same Dir h =
        ap (λ (k : ℕ). take k (w.site_bytes l.site Dir)) (length-append l.dir b) ∙ got_filled v w l Dir b h ∙ ap (λ (d : List ℕ). d ++ b) h.fits.dir
    dir_same Fci h = ap (take (length l.dir)) (h.others Dir (λ e. cc e)) ∙ h.fits.dir

-- ---- a creation

pub complete_full : (v : BankView) (l : Loaded) → FitsLoad v l → is_complete (open_of v.site_bytes l) ≡ is_full l
complete_full v l h =
    let code = length_front v l Code h in
    let init = length_front v l Data h in
    let dir = length_front v l Dir h in
    let fci = length_front v l Fci h in
    cc

full_part : (v : BankView) (l : Loaded) (p : Part) → FitsLoad v l → got_len p l ≡ part_len p l.site.sizes → got_at v.site_bytes l p ≡ v.site_bytes l.site p
full_part v l p h is = take_all (got_len p l) (v.site_bytes l.site p) (let parts = h.parts p in omega (arith, is, parts))

pub fresh_entered : (v : BankView) (l : Loaded) → FitsLoad v l → is_full l ≡ true → fresh (open_of v.site_bytes l) ≡ app_of_site l.site (v.site_bytes l.site)
fresh_entered v l h full =
    let sizes : (l.code ≡ l.site.sizes.code) × (l.init ≡ l.site.sizes.init) × (length l.dir ≡ l.site.sizes.dir) × (l.fci ≡ l.site.sizes.fci) = four_equal l.code l.site.sizes.code l.init l.site.sizes.init (length l.dir) l.site.sizes.dir l.fci l.site.sizes.fci full in
    let code = full_part v l Code h sizes.0 in
    let init = full_part v l Data h sizes.1 in
    let dir = full_part v l Dir h sizes.2 in
    let fci = full_part v l Fci h sizes.3 in
    cc

pub cannot_create : (v : BankView) (load : Option Loaded) (l : Loaded) → load ≡ Some l → FitsLoad v l → is_full l ≡ false → can_create (option_map (open_of v.site_bytes) load) ≡ false
cannot_create v load l is h full = ap (λ (o : Option Loaded). can_create (option_map (open_of v.site_bytes) o)) is ∙ complete_full v l h ∙ full
