-- Used blocks that hold the same in the words of two images.
use Rattle.std.proofs.Common.{◌≡◌, ℕ, [], true, false, Bool, ap, arith, List, cond, length, refl, subst, None, sym, Some, ◌+◌, ◌∷◌, ◌∙◌, ◌<◌, ◌≤◌, ◌≢◌}
use Rattle.mc_words.specs.model_device.specs.Layout.{is_record}
use Rattle.mc_words.specs.model_device.specs.Bytes.{up, insert, be2, has_name, lookup}
use Rattle.mc_words.specs.model_device.specs.Card.{section, app_of, App, Block, record_at, name_in, words_of_lengths, name_at, app_at, apps_of, word, header}
use Rattle.mc_blocks.proofs.Tiles.{Tiled, HeadersRead}
use Rattle.std.proofs.lemmas.Bool.{eqb-true, and_parts}
use Rattle.mc_words.specs.model_device.proofs.MapLemmas.{insert_swap, other_way}
use Rattle.mc_blocks.proofs.Sections.{same_section, same_cells}
use Rattle.mc_blocks.proofs.Bridge.{no_apps, AreNamed, AreRecorded}
use Rattle.mc_blocks.proofs.Applications.{lookup_insert}
use Rattle.mc_blocks.specs.Outcomes.{AgreeBut}
use Rattle.std.specs.Prelude.{slice_index, bytes_eq, not, ◌||◌, ◌==◌}

-- an application by its sections
abbrev app_by_sections : ℕ → List ℕ → List ℕ → List ℕ → List ℕ → List ℕ → App
app_by_sections p r code fixed dir fci = record { code = code; fixed = fixed; session = be2 r 24; deny = be2 r 26; dir = dir; fci = fci; place = p }

-- the block at p has the same record and the same application in both words
pub record SameBlock (m n : List (List ℕ)) (p : ℕ) : Type 0 where
  pub entry : record_at n p ≡ record_at m p
  pub app : app_at n p ≡ app_at m p

pub same_block : (m n : List (List ℕ)) (p words : ℕ) → length n ≡ length m → p + words ≤ length m → is_record (record_at m p) words ≡ true → ((i : ℕ) → p ≤ i → i < p + words → word n i ≡ word m i) → SameBlock m n p
same_block m n p words size h good same =
    let r = record_at m p in
    let code = be2 r 20 in
    let fixed = be2 r 22 in
    let dir = slice_index r 17 in
    let fci = slice_index r 18 in
    let is : words ≡ words_of_lengths code fixed dir fci = eqb-true words (words_of_lengths code fixed dir fci) (and_parts _ (words == words_of_lengths code fixed dir fci) good).1 in
    let entry : record_at n p ≡ record_at m p = same_cells m n 4 (p + 1) size (omega (arith, is)) (λ i above below. same i (omega arith) (omega (arith, is))) in
    let a : section n (p + 5) code ≡ section m (p + 5) code = same_section m n (p + 5) code size (omega (arith, is)) (λ i above below. same i (omega arith) (omega (arith, is))) in
    let b : section n (p + 5 + up code 8) fixed ≡ section m (p + 5 + up code 8) fixed = same_section m n (p + 5 + up code 8) fixed size (omega (arith, is)) (λ i above below. same i (omega arith) (omega (arith, is))) in
    let c : section n (p + 5 + up code 8 + up fixed 8) dir ≡ section m (p + 5 + up code 8 + up fixed 8) dir = same_section m n (p + 5 + up code 8 + up fixed 8) dir size (omega (arith, is)) (λ i above below. same i (omega arith) (omega (arith, is))) in
    let d : section n (p + 5 + up code 8 + up fixed 8 + up dir 8) fci ≡ section m (p + 5 + up code 8 + up fixed 8 + up dir 8) fci = same_section m n (p + 5 + up code 8 + up fixed 8 + up dir 8) fci size (omega (arith, is)) (λ i above below. same i (omega arith) (omega (arith, is))) in
    record {
      entry = entry;
      app = ap (λ (t : List ℕ). app_of n p t) entry
          ∙ ap (λ (w : List ℕ). app_by_sections p r w (section n (p + 5 + up code 8) fixed) (section n (p + 5 + up code 8 + up fixed 8) dir) (section n (p + 5 + up code 8 + up fixed 8 + up dir 8) fci)) a
          ∙ ap (λ (w : List ℕ). app_by_sections p r (section m (p + 5) code) w (section n (p + 5 + up code 8 + up fixed 8) dir) (section n (p + 5 + up code 8 + up fixed 8 + up dir 8) fci)) b
          ∙ ap (λ (w : List ℕ). app_by_sections p r (section m (p + 5) code) (section m (p + 5 + up code 8) fixed) w (section n (p + 5 + up code 8 + up fixed 8 + up dir 8) fci)) c
          ∙ ap (λ (w : List ℕ). app_by_sections p r (section m (p + 5) code) (section m (p + 5 + up code 8) fixed) (section m (p + 5 + up code 8 + up fixed 8) dir) w) d;
    }

-- used blocks, except the one at p, have the same words
abbrev pub SameUsed : List (List ℕ) → List (List ℕ) → ℕ → List Block → Type 0
SameUsed m n p [] = Unit {0}
SameUsed m n p (b ∷ bs) = (b.used ≡ true → b.place ≢ p → SameBlock m n b.place) × SameUsed m n p bs

-- words that agree in used blocks with good records hold the same there
pub agree_used : (m n : List (List ℕ)) (p : ℕ) (bs : List Block) → length n ≡ length m → HeadersRead m bs → AreRecorded m bs → AgreeBut m n p bs → SameUsed m n p bs
agree_used m n p [] size r g a = tt
agree_used m n p (b ∷ bs) size r g a =
    ((λ u ne. same_block m n b.place b.words size r.1 (g.0 u) (a.1 u ne)), agree_used m n p bs size r.2 g.1 a.2)

pub agree_read : (m n : List (List ℕ)) (p : ℕ) (bs : List Block) → length n ≡ length m → HeadersRead m bs → AgreeBut m n p bs → HeadersRead n bs
agree_read m n p [] size r a = tt
agree_read m n p (b ∷ bs) size r a = (ap (λ (w : List ℕ). header b.place w) a.0 ∙ r.0, subst (λ (e : ℕ). b.place + b.words ≤ e) (sym size) r.1, agree_read m n p bs size r.2 a.2)

-- ---- names and applications

-- a used block with the same record has the same name among names
pub named_as : (m n : List (List ℕ)) (names : List (List ℕ)) (b : Block) (new : List Block) → record_at n b.place ≡ record_at m b.place → is_record (record_at m b.place) b.words ≡ true → has_name (name_at m b.place) names ≡ false
    → AreNamed n (name_at m b.place ∷ names) new → AreNamed n names (record b { used = true } ∷ new)
named_as m n names b new e good fresh rest = grind (arith, AreNamed)

-- its application is the same entry of a map
inserted_as : (m n : List (List ℕ)) (p : ℕ) (es : List (List ℕ × App)) → SameBlock m n p → insert es (name_at n p) (app_at n p) ≡ insert es (name_at m p) (app_at m p)
inserted_as m n p es s = ap (λ (r : List ℕ). insert es (name_in r) (app_at n p)) s.entry ∙ ap (λ (x : App). insert es (name_at m p) x) s.app

-- blocks hold the same applications in both words
pub record SameApplications (m n : List (List ℕ)) (names : List (List ℕ)) (bs : List Block) : Type 0 where
  pub named : AreNamed n names bs
  pub apps : apps_of n bs ≡ apps_of m bs

same_kind : (m n : List (List ℕ)) (names : List (List ℕ)) (b : Block) (bs : List Block) (u : Bool) → (u ≡ true → SameBlock m n b.place) → AreNamed m names (record b { used = u } ∷ bs)
    → ((ns : List (List ℕ)) → AreNamed m ns bs → SameApplications m n ns bs) → SameApplications m n names (record b { used = u } ∷ bs)
unfolding apps_of
same_kind m n names b bs false block nm rest = let s = rest names nm in record { named = s.named; apps = s.apps }
same_kind m n names b bs true block nm rest =
    let s = rest (name_at m b.place ∷ names) nm.2 in
    record { named = named_as m n names b bs (block refl).entry nm.0 nm.1 s.named; apps = ap (λ (es : List (List ℕ × App)). insert es (name_at n b.place) (app_at n b.place)) s.apps ∙ inserted_as m n b.place (apps_of m bs) (block refl) }

-- the blocks after p hold the same applications
pub same_named : (m n : List (List ℕ)) (p q : ℕ) (a : Bool) (names : List (List ℕ)) (bs : List Block) (end : ℕ) → p < q → Tiled q a bs end → SameUsed m n p bs → AreNamed m names bs → SameApplications m n names bs
same_named m n p q a names [] end lt t s nm = record { named = tt; apps = no_apps n ∙ sym (no_apps m) }
same_named m n p q a names (b ∷ bs) end lt t s nm =
    let place : b.place ≡ q = t.0 in
    let ne : b.place ≢ p = λ e. absurd (omega (arith, e, place)) in
    same_kind m n names b bs b.used (λ u. s.0 u ne) nm (λ ns ok. same_named m n p (q + b.words) (not b.used) ns bs end (omega arith) t.3 s.1 ok)

-- blocks `new` of words n hold the applications of blocks bs of words m, and one with this name
pub record ApplicationInserted (m n : List (List ℕ)) (names : List (List ℕ)) (k : List ℕ) (a : App) (bs new : List Block) : Type 0 where
  pub named : AreNamed n names new
  pub apps : apps_of n new ≡ insert (apps_of m bs) k a

-- a block that is kept in front of them
pub inserted_kind : (m n : List (List ℕ)) (names : List (List ℕ)) (k : List ℕ) (a : App) (b : Block) (bs new : List Block) (u : Bool) → has_name k names ≡ false → (u ≡ true → bytes_eq (name_at m b.place) k ≡ false) → (u ≡ true → SameBlock m n b.place)
    → AreNamed m names (record b { used = u } ∷ bs) → ((ns : List (List ℕ)) → has_name k ns ≡ false → AreNamed m ns bs → ApplicationInserted m n ns k a bs new)
    → ApplicationInserted m n names k a (record b { used = u } ∷ bs) (record b { used = u } ∷ new)
unfolding apps_of
inserted_kind m n names k a b bs new false fresh apart block nm rest = let c = rest names fresh nm in record { named = c.named; apps = c.apps }
inserted_kind m n names k a b bs new true fresh apart block nm rest =
    let x = name_at m b.place in
    let c = rest (x ∷ names) (ap (λ (t : Bool). t || has_name k names) (apart refl) ∙ fresh) nm.2 in
    record {
      named = named_as m n names b new (block refl).entry nm.0 nm.1 c.named;
      apps = inserted_as m n b.place (apps_of n new) (block refl)
          ∙ ap (λ (es : List (List ℕ × App)). insert es x (app_at m b.place)) c.apps
          ∙ insert_swap (apps_of m bs) k a x (app_at m b.place) (other_way x k (apart refl));
    }

-- blocks `new` of words n hold the applications of blocks bs of words m, but the one with this name
pub record Deleted (m n : List (List ℕ)) (names : List (List ℕ)) (k : List ℕ) (a : App) (bs new : List Block) : Type 0 where
  pub named : AreNamed n names new
  pub apps : apps_of m bs ≡ insert (apps_of n new) k a
  pub gone : lookup (apps_of n new) k ≡ None

-- a block that is kept in front of them
pub deleted_kind : (m n : List (List ℕ)) (names : List (List ℕ)) (k : List ℕ) (a : App) (b : Block) (bs new : List Block) (u : Bool) → (u ≡ true → bytes_eq k (name_at m b.place) ≡ false) → (u ≡ true → SameBlock m n b.place) → AreNamed m names (record b { used = u } ∷ bs)
    → ((ns : List (List ℕ)) → AreNamed m ns bs → Deleted m n ns k a bs new) → Deleted m n names k a (record b { used = u } ∷ bs) (record b { used = u } ∷ new)
unfolding apps_of
deleted_kind m n names k a b bs new false apart block nm rest = let d = rest names nm in record { named = d.named; apps = d.apps; gone = d.gone }
deleted_kind m n names k a b bs new true apart block nm rest =
    let x = name_at m b.place in
    let d = rest (x ∷ names) nm.2 in
    let inserted = inserted_as m n b.place (apps_of n new) (block refl) in
    record {
      named = named_as m n names b new (block refl).entry nm.0 nm.1 d.named;
      apps = ap (λ (es : List (List ℕ × App)). insert es x (app_at m b.place)) d.apps ∙ insert_swap (apps_of n new) k a x (app_at m b.place) (apart refl) ∙ ap (λ (es : List (List ℕ × App)). insert es k a) (sym inserted);
      gone = ap (λ (es : List (List ℕ × App)). lookup es k) inserted
          ∙ lookup_insert (apps_of n new) x k (app_at m b.place)
          ∙ ap (λ (t : Bool). cond t (Some (app_at m b.place)) (lookup (apps_of n new) k)) (other_way k x (apart refl))
          ∙ d.gone;
    }
