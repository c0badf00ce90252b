-- The words that a plan does not change, and the applications of the blocks after it.
use Rattle.std.proofs.Common.{◌≡◌, ◌≢◌, ◌⊎◌, ℕ, ◌+◌, ◌-◌, ◌<◌, ◌≤◌, Bool, true, false, ◌||◌, List, [], ◌∷◌, Some, None, refl, sym, ◌∙◌, ap, subst, inl, inr, arith, cond, not}
use Rattle.std.specs.Prelude.{nat_lt, ◌==◌, bytes_eq}
use Rattle.std.specs.List.{AllByRecursion, list_any}
use Rattle.std.proofs.lemmas.Bool.{or_left, or_right, or_parts, or_cases, eqb-true}
use Rattle.mc_words.specs.model_device.specs.Bytes.{insert, lookup, has_name}
use Rattle.mc_words.specs.model_device.specs.Card.{App, Block, record_at, name_at, app_at, apps_of}
use Rattle.mc_words.specs.model_device.specs.Layout.{first_hole, hole_header, used_header, same_pair, is_record}
use Rattle.mc_blocks.specs.Blocks.{used_spans, hole_spans}
use Rattle.mc_blocks.specs.Plans.{changes, has_room, has_span}
use Rattle.mc_blocks.specs.Chains.{SpansAbove}
use Rattle.mc_blocks.proofs.Tiles.{Tiled}
use Rattle.mc_blocks.proofs.Bridge.{AreNamed, used_above}
use Rattle.mc_blocks.proofs.Changes.{self_pair}
use Rattle.mc_blocks.proofs.Heads.{heads, heads_from}
use Rattle.mc_blocks.proofs.Applications.{lookup_insert}
use Rattle.mc_blocks.proofs.Taking.{free_block, rest_of, take_in, RoomAt, room_at, taken_here, taken_later}
use Rattle.mc_blocks.proofs.Maps.{names_apart, has_self, has_more}
use Rattle.mc_blocks.proofs.Freeing.{with_hole, free_in, SpanAt, span_at, freed_here, freed_touching, freed_later}
use Rattle.mc_blocks.proofs.Written.{relink, from_apart, changes_from}
use Rattle.mc_words.specs.model_device.proofs.MapLemmas.{other_way as turned}
use Rattle.mc_words.specs.model_device.proofs.BoolLemmas.{or_swap}
use Rattle.mc_blocks.proofs.Same.{same_named, ApplicationInserted, inserted_kind, SameUsed, Deleted, SameApplications, deleted_kind}

-- ---- the words that a plan does not change

-- a span is one of these spans
abbrev pub In : ℕ × ℕ → List (ℕ × ℕ) → Type 0
In s [] = ⊥
In s (t ∷ ts) = (t ≡ s) ⊎ In s ts

pub in_above : (p : ℕ) (s : ℕ × ℕ) (l : List (ℕ × ℕ)) → SpansAbove p l → In s l → p ≤ s.0
in_above p s [] a i = absurd i
in_above p s (t ∷ ts) a i = elim i [ inl here ↦ subst (λ (x : ℕ × ℕ). p ≤ x.0) here a.0 | inr later ↦ in_above p s ts a.1 later ]

pub in_old : (s : ℕ × ℕ) (bs : List Block) → In s (used_spans bs) → list_any (same_pair (s.0, used_header s.1)) (heads bs) ≡ true
in_old s [] i = absurd i
in_old s (b ∷ bs) i =
    let same = λ (e : ℕ × List ℕ). same_pair (s.0, used_header s.1) e in
    (elim b.used as (λ u. In s (used_spans (record b { used = u } ∷ bs)) → list_any (same_pair (s.0, used_header s.1)) (heads (record b { used = u } ∷ bs)) ≡ true) [
      | true ↦ λ i. elim i [
        | inl here ↦ or_left (same (b.place, used_header b.words)) (list_any same (heads bs)) (subst (λ (x : ℕ × ℕ). same (x.0, used_header x.1) ≡ true) (sym here) (self_pair (s.0, used_header s.1)))
        | inr later ↦ or_right (same (b.place, used_header b.words)) (list_any same (heads bs)) (in_old s bs later)
      ]
      | false ↦ λ i. or_right (same (b.place, hole_header b.words (first_hole bs))) (list_any same (heads bs)) (in_old s bs i)
    ]) i

keep_kind : (i : ℕ) (e : ℕ × List ℕ) (l : List (ℕ × List ℕ)) (t : Bool) → e.0 ≢ i → AllByRecursion (λ (x : ℕ × List ℕ). x.0 ≢ i) l → AllByRecursion (λ (x : ℕ × List ℕ). x.0 ≢ i) (cond t (e ∷ l) l)
keep_kind i e l true ne a = (ne, a)
keep_kind i e l false ne a = a

-- no word of a used block that is kept is among the changes
pub changes_apart : (s : ℕ × ℕ) (i p : ℕ) (a : Bool) (old : List (ℕ × List ℕ)) (new : List Block) (end : ℕ) → Tiled p a new end → In s (used_spans new) → s.0 ≤ i → i < s.0 + s.1 → list_any (same_pair (s.0, used_header s.1)) old ≡ true
    → AllByRecursion (λ (x : ℕ × List ℕ). x.0 ≢ i) (changes old (heads new))
changes_apart s i p a old [] end t is low high there = absurd is
changes_apart s i p a old (c ∷ cs) end t is low high there =
    let place : c.place ≡ p = t.0 in
    let long : 1 ≤ c.words = t.1 in
    let behind = heads_from (p + c.words) (not c.used) cs end t.3 in
    let kept = λ (x : List ℕ) (later : In s (used_spans cs)).
    let far : p + c.words ≤ s.0 = in_above (p + c.words) s (used_spans cs) (used_above (p + c.words) (not c.used) cs end t.3) later in
    keep_kind i (c.place, x) (changes old (heads cs)) (not (list_any (same_pair (c.place, x)) old)) (λ e. absurd (omega (arith, e))) (changes_apart s i (p + c.words) (not c.used) old cs end t.3 later low high there) in
    (elim c.used as (λ u. In s (used_spans (record c { used = u } ∷ cs)) → AllByRecursion (λ (x : ℕ × List ℕ). x.0 ≢ i) (changes old (heads (record c { used = u } ∷ cs)))) [
      | true ↦ λ is. elim is [
        | inl here ↦
            let at : c.place ≡ s.0 = ap (λ (x : ℕ × ℕ). x.0) here in
            let size : c.words ≡ s.1 = ap (λ (x : ℕ × ℕ). x.1) here in
            let found : list_any (same_pair (c.place, used_header c.words)) old ≡ true = subst (λ (x : ℕ × ℕ). list_any (same_pair (x.0, used_header x.1)) old ≡ true) (sym here) there in
            subst (λ (b : Bool). AllByRecursion (λ (x : ℕ × List ℕ). x.0 ≢ i) (cond (not b) ((c.place, used_header c.words) ∷ changes old (heads cs)) (changes old (heads cs)))) (sym found)
            (from_apart i (changes old (heads cs)) (p + c.words) (omega (arith, at, size)) (changes_from (p + c.words) old (heads cs) behind))
        | inr later ↦ kept (used_header c.words) later
      ]
      | false ↦ λ is. kept (hole_header c.words (first_hole cs)) is
    ]) is

-- ---- names and applications

pub relink_named : (n : List (List ℕ)) (names : List (List ℕ)) (bs : List Block) → AreNamed n names bs → AreNamed n names (relink bs)
relink_named n names [] nm = tt
relink_named n names (b ∷ bs) nm =
    (elim b.used as (λ u. AreNamed n names (record b { used = u } ∷ bs) → AreNamed n names (relink (record b { used = u } ∷ bs))) [
      | true ↦ λ nm. (nm.0, nm.1, relink_named n (name_at n b.place ∷ names) bs nm.2)
      | false ↦ λ nm. relink_named n names bs nm
    ]) nm

pub relink_apps : (n : List (List ℕ)) (bs : List Block) → apps_of n (relink bs) ≡ apps_of n bs
unfolding apps_of
relink_apps n [] = refl
relink_apps n (b ∷ bs) = ap (λ (es : List (List ℕ × App)). cond b.used (insert es (name_at n b.place) (app_at n b.place)) es) (relink_apps n bs)

-- the list `more` has the names of `names` and the name k
OneMore : List ℕ → List (List ℕ) → List (List ℕ) → Type 0
OneMore k names more = (x : List ℕ) → has_name x more ≡ (bytes_eq k x || has_name x names)

one_more : (k x : List ℕ) (names more : List (List ℕ)) → OneMore k names more → OneMore k (x ∷ names) (x ∷ more)
unfolding OneMore
one_more k x names more h = λ y. ap (λ (b : Bool). bytes_eq x y || b) (h y) ∙ or_swap (bytes_eq x y) (bytes_eq k y) (has_name y names)

-- no used block has this name
abbrev pub NotNamed : List (List ℕ) → List ℕ → List Block → Type 0
NotNamed m k [] = Unit {0}
NotNamed m k (b ∷ bs) = (b.used ≡ true → bytes_eq (name_at m b.place) k ≡ false) × NotNamed m k bs

absent_kind : (m : List (List ℕ)) (k : List ℕ) (b : Block) (bs : List Block) (u t : Bool) → bytes_eq (name_at m b.place) k ≡ t → lookup (apps_of m (record b { used = u } ∷ bs)) k ≡ None → (u ≡ true → t ≡ false) × (lookup (apps_of m bs) k ≡ None)
unfolding apps_of
absent_kind m k b bs false t e h = ((λ e. absurd (cc e)), h)
absent_kind m k b bs true t e h =
    (elim t as (λ t. cond t (Some (app_at m b.place)) (lookup (apps_of m bs) k) ≡ None → (true ≡ true → t ≡ false) × (lookup (apps_of m bs) k ≡ None)) [
      | true ↦ λ h. absurd (cc h)
      | false ↦ λ h. ((λ _. refl), h)
    ]) (sym (lookup_insert (apps_of m bs) (name_at m b.place) k (app_at m b.place) ∙ ap (λ (t : Bool). cond t (Some (app_at m b.place)) (lookup (apps_of m bs) k)) e) ∙ h)

pub not_named : (m : List (List ℕ)) (k : List ℕ) (bs : List Block) → lookup (apps_of m bs) k ≡ None → NotNamed m k bs
not_named m k [] h = tt
not_named m k (b ∷ bs) h = let t = absent_kind m k b bs b.used (bytes_eq (name_at m b.place) k) refl h in (t.0, not_named m k bs t.1)

named_more : (m : List (List ℕ)) (k : List ℕ) (names more : List (List ℕ)) (bs : List Block) → OneMore k names more → NotNamed m k bs → AreNamed m names bs → AreNamed m more bs
unfolding OneMore
named_more m k names more [] one free nm = tt
named_more m k names more (b ∷ bs) one free nm =
    let x = name_at m b.place in
    (elim b.used as (λ u. (u ≡ true → bytes_eq x k ≡ false) → AreNamed m names (record b { used = u } ∷ bs) → AreNamed m more (record b { used = u } ∷ bs)) [
      | true ↦ λ apart nm. (nm.0, one x ∙ ap (λ (t : Bool). t || has_name x names) (turned x k (apart refl)) ∙ nm.1, named_more m k (x ∷ names) (x ∷ more) bs (one_more k x names more one) free.1 nm.2)
      | false ↦ λ apart nm. named_more m k names more bs one free.1 nm
    ]) free.0 nm

named_less : (m : List (List ℕ)) (k : List ℕ) (names more : List (List ℕ)) (bs : List Block) → OneMore k names more → AreNamed m more bs → AreNamed m names bs
unfolding OneMore
named_less m k names more [] one nm = tt
named_less m k names more (b ∷ bs) one nm =
    let x = name_at m b.place in
    (elim b.used as (λ u. AreNamed m more (record b { used = u } ∷ bs) → AreNamed m names (record b { used = u } ∷ bs)) [
      | true ↦ λ nm. (nm.0, (or_parts (bytes_eq k x) (has_name x names) (sym (one x) ∙ nm.1)).1, named_less m k (x ∷ names) (x ∷ more) bs (one_more k x names more one) nm.2)
      | false ↦ λ nm. named_less m k names more bs one nm
    ]) nm

rest_named : (n : List (List ℕ)) (p need : ℕ) (ns : List (List ℕ)) (b : Block) (bs : List Block) → AreNamed n ns bs → AreNamed n ns (rest_of p need b bs)
rest_named n p need ns b bs nm = elim (nat_lt need b.words) as (λ t. AreNamed n ns (cond t (free_block (p + need) (b.words - need) ∷ bs) bs)) [ true ↦ nm | false ↦ nm ]

rest_apps : (n : List (List ℕ)) (p need : ℕ) (b : Block) (bs : List Block) → apps_of n (rest_of p need b bs) ≡ apps_of n bs
unfolding apps_of
rest_apps n p need b bs = elim (nat_lt need b.words) as (λ t. apps_of n (cond t (free_block (p + need) (b.words - need) ∷ bs) bs) ≡ apps_of n bs) [ true ↦ refl | false ↦ refl ]

-- ---- a block created

pub created : (m n : List (List ℕ)) (p need q : ℕ) (a : Bool) (names : List (List ℕ)) (bs : List Block) (end : ℕ) → Tiled q a bs end → AreNamed m names bs → SameUsed m n p bs → NotNamed m (name_at n p) bs → has_room p need (hole_spans bs) ≡ true
    → has_name (name_at n p) names ≡ false → is_record (record_at n p) need ≡ true → ApplicationInserted m n names (name_at n p) (app_at n p) bs (take_in p need bs)
unfolding RoomAt OneMore apps_of
created m n p need q a names [] end t nm s free room fresh good = absurd (cc room)
created m n p need q a names (b ∷ bs) end t nm s free room fresh good =
    let k = name_at n p in
    let place : b.place ≡ q = t.0 in
    let long : 1 ≤ b.words = t.1 in
    elim (room_at p need q a b bs end t room) [
      | inl here ↦
          let behind : AreNamed m names bs = subst (λ (u : Bool). AreNamed m names (record b { used = u } ∷ bs)) here.0 nm in
          let same : SameApplications m n (k ∷ names) bs = same_named m n p (q + b.words) (not b.used) (k ∷ names) bs end (omega (arith, here.1, place)) t.3 s.1 (named_more m k names (k ∷ names) bs (λ x. refl) free.1 behind) in
          let apps : apps_of n (rest_of p need b bs) ≡ apps_of m (b ∷ bs) = rest_apps n p need b bs ∙ same.apps ∙ sym (ap (λ (u : Bool). apps_of m (record b { used = u } ∷ bs)) here.0) in
          subst (λ (l : List Block). ApplicationInserted m n names k (app_at n p) (b ∷ bs) l) (sym (taken_here p need b bs here.1))
          (record { named = (good, fresh, rest_named n p need (k ∷ names) b bs same.named); apps = ap (λ (es : List (List ℕ × App)). insert es k (app_at n p)) apps })
      | inr later ↦
          let ne : b.place ≢ p = λ e. absurd (omega (arith, e, later.2)) in
          subst (λ (l : List Block). ApplicationInserted m n names k (app_at n p) (b ∷ bs) l) (sym (taken_later p need b bs later.0))
          (inserted_kind m n names k (app_at n p) b bs (take_in p need bs) b.used fresh free.0 (λ u. s.0 u ne) nm
          (λ ns no ok. created m n p need (q + b.words) (not b.used) ns bs end t.3 ok s.1 free.1 later.1 no good))
    ]

-- ---- a block deleted

-- a name of a block before is not found among the blocks after it
absent : (m : List (List ℕ)) (k : List ℕ) (ns : List (List ℕ)) (bs : List Block) → has_name k ns ≡ true → AreNamed m ns bs → lookup (apps_of m bs) k ≡ None
unfolding apps_of
absent m k ns [] there nm = refl
absent m k ns (b ∷ bs) there nm =
    let x = name_at m b.place in
    (elim b.used as (λ u. AreNamed m ns (record b { used = u } ∷ bs) → lookup (apps_of m (record b { used = u } ∷ bs)) k ≡ None) [
      | true ↦ λ nm.
          lookup_insert (apps_of m bs) x k (app_at m b.place)
          ∙ ap (λ (t : Bool). cond t (Some (app_at m b.place)) (lookup (apps_of m bs) k)) (names_apart ns k x there nm.1)
          ∙ absent m k (x ∷ ns) bs (has_more k x ns there) nm.2
      | false ↦ λ nm. absent m k ns bs there nm
    ]) nm

-- the name of a block is none of those of the blocks before it
pub name_behind : (m : List (List ℕ)) (p : ℕ) (x : List ℕ) (ns : List (List ℕ)) (bs : List Block) → has_name x ns ≡ true → AreNamed m ns bs → has_span p (used_spans bs) ≡ true → bytes_eq (name_at m p) x ≡ false
name_behind m p x ns [] there nm span = absurd (cc span)
name_behind m p x ns (b ∷ bs) there nm span =
    (elim b.used as (λ u. AreNamed m ns (record b { used = u } ∷ bs) → has_span p (used_spans (record b { used = u } ∷ bs)) ≡ true → bytes_eq (name_at m p) x ≡ false) [
      | true ↦ λ nm span. elim (or_cases (b.place == p) (has_span p (used_spans bs)) span) [
        | inl here ↦ subst (λ (q : ℕ). bytes_eq (name_at m q) x ≡ false) (eqb-true b.place p here) (names_apart ns x (name_at m b.place) there nm.1)
        | inr later ↦ name_behind m p x (name_at m b.place ∷ ns) bs (has_more x (name_at m b.place) ns there) nm.2 later
      ]
      | false ↦ λ nm span. name_behind m p x ns bs there nm span
    ]) nm span

with_named : (n : List (List ℕ)) (names : List (List ℕ)) (q k : ℕ) (bs : List Block) → AreNamed n names bs → AreNamed n names (with_hole q k bs)
with_named n names q k bs nm = grind (arith, AreNamed, with_hole)

with_apps : (n : List (List ℕ)) (q k : ℕ) (bs : List Block) → apps_of n (with_hole q k bs) ≡ apps_of n bs
unfolding apps_of
with_apps n q k [] = refl
with_apps n q k (c ∷ cs) = elim c.used as (λ u. apps_of n (with_hole q k (record c { used = u } ∷ cs)) ≡ apps_of n (record c { used = u } ∷ cs)) [ true ↦ refl | false ↦ refl ]

-- the deleted block itself, with a hole in its place
deleted_here : (m n : List (List ℕ)) (p q h w : ℕ) (a : Bool) (names : List (List ℕ)) (b : Block) (bs : List Block) (end : ℕ) → b.used ≡ true → b.place ≡ p → p < q → Tiled q a bs end → SameUsed m n p bs
    → AreNamed m names (b ∷ bs) → Deleted m n names (name_at m p) (app_at m p) (b ∷ bs) (with_hole h w bs)
unfolding OneMore apps_of
deleted_here m n p q h w a names b bs end used place lt t s nm =
    let k = name_at m p in
    let parts = subst (λ (u : Bool). AreNamed m names (record b { used = u } ∷ bs)) used nm in
    let behind : AreNamed m (k ∷ names) bs = subst (λ (x : ℕ). AreNamed m (name_at m x ∷ names) bs) place parts.2 in
    let same : SameApplications m n names bs = same_named m n p q a names bs end lt t s (named_less m k names (k ∷ names) bs (λ x. refl) behind) in
    let apps : apps_of n (with_hole h w bs) ≡ apps_of m bs = with_apps n h w bs ∙ same.apps in
    record {
      named = with_named n names h w bs same.named;
      apps = ap (λ (u : Bool). apps_of m (record b { used = u } ∷ bs)) used ∙ ap (λ (x : ℕ). insert (apps_of m bs) (name_at m x) (app_at m x)) place ∙ ap (λ (es : List (List ℕ × App)). insert es k (app_at m p)) (sym apps);
      gone = ap (λ (es : List (List ℕ × App)). lookup es k) apps ∙ absent m k (k ∷ names) bs (has_self k names) behind;
    }

deleted_touch : (m n : List (List ℕ)) (p q : ℕ) (a : Bool) (names : List (List ℕ)) (b c : Block) (cs bs : List Block) (end : ℕ) → bs ≡ c ∷ cs → Tiled q a (b ∷ bs) end → b.used ≡ false → (b.place == p) ≡ false → c.used ≡ true → c.place ≡ p → SameUsed m n p (b ∷ bs)
    → AreNamed m names (b ∷ bs) → Deleted m n names (name_at m p) (app_at m p) (b ∷ bs) (free_in p (b ∷ bs))
unfolding apps_of
deleted_touch m n p q a names b c cs bs end is t free other used here s nm =
    let k = name_at m p in
    let tail : Tiled (q + b.words) (not b.used) (c ∷ cs) end = subst (λ (l : List Block). Tiled (q + b.words) (not b.used) l end) is t.3 in
    let at : c.place ≡ q + b.words = tail.0 in
    let long : 1 ≤ c.words = tail.1 in
    let behind : AreNamed m names bs = subst (λ (u : Bool). AreNamed m names (record b { used = u } ∷ bs)) free nm in
    let su : SameUsed m n p (c ∷ cs) = subst (λ (l : List Block). SameUsed m n p l) is s.1 in
    let d : Deleted m n names k (app_at m p) (c ∷ cs) (with_hole b.place (b.words + c.words) cs) =
    deleted_here m n p (q + b.words + c.words) b.place (b.words + c.words) (not c.used) names c cs end used here (omega (arith, at, here)) tail.3 su.1 (subst (λ (l : List Block). AreNamed m names l) is behind) in
    let new : free_in p (b ∷ bs) ≡ with_hole b.place (b.words + c.words) cs = ap (λ (l : List Block). free_in p (b ∷ l)) is ∙ freed_touching p b c cs free other here in
    let old : apps_of m (b ∷ bs) ≡ apps_of m (c ∷ cs) = ap (λ (u : Bool). apps_of m (record b { used = u } ∷ bs)) free ∙ ap (apps_of m) is in
    subst (λ (l : List Block). Deleted m n names k (app_at m p) (b ∷ bs) l) (sym new) (record { named = d.named; apps = old ∙ d.apps; gone = d.gone })

pub first_name : (m : List (List ℕ)) (names : List (List ℕ)) (b : Block) (bs : List Block) (u : Bool) → AreNamed m names (record b { used = u } ∷ bs) → u ≡ true → AreNamed m (name_at m b.place ∷ names) bs
first_name m names b bs true nm h = nm.2
first_name m names b bs false nm h = absurd (cc h)

pub deleted : (m n : List (List ℕ)) (p q : ℕ) (a : Bool) (names : List (List ℕ)) (bs : List Block) (end : ℕ) → Tiled q a bs end → AreNamed m names bs → SameUsed m n p bs → has_span p (used_spans bs) ≡ true
    → Deleted m n names (name_at m p) (app_at m p) bs (free_in p bs)
unfolding SpanAt
deleted m n p q a names [] end t nm s span = absurd (cc span)
deleted m n p q a names (b ∷ bs) end t nm s span =
    let k = name_at m p in
    let place : b.place ≡ q = t.0 in
    let long : 1 ≤ b.words = t.1 in
    elim (span_at p q a b bs end t span) [
      | inl here ↦
          subst (λ (l : List Block). Deleted m n names k (app_at m p) (b ∷ bs) l) (sym (freed_here p b bs here.1))
          (deleted_here m n p (q + b.words) p b.words (not b.used) names b bs end here.0 here.1 (omega (arith, here.1, place)) t.3 s.1 nm)
      | inr (inl touch) ↦ deleted_touch m n p q a names b touch.next touch.rest bs end touch.is t touch.hole touch.other touch.used touch.place s nm
      | inr (inr later) ↦
          let ne : b.place ≢ p = λ e. absurd (omega (arith, e, later.before)) in
          let x = name_at m b.place in
          subst (λ (l : List Block). Deleted m n names k (app_at m p) (b ∷ bs) l) (sym (freed_later p b bs later.other later.apart))
          (deleted_kind m n names k (app_at m p) b bs (free_in p bs) b.used (λ u. name_behind m p x (x ∷ names) bs (has_self x names) (first_name m names b bs b.used nm u) later.span) (λ u. s.0 u ne) nm
          (λ ns ok. deleted m n p (q + b.words) (not b.used) ns bs end t.3 ok s.1 later.span))
    ]
