-- The result of a search for room.
use Rattle.std.proofs.Common.{◌≡◌, ℕ, ◌≤◌, ◌<◌, false, Bool, List, length, Some, sym, ap, ◌∙◌, arith, Ok, Err}
use Rattle.std.specs.Prelude.{nat_le}
use Rattle.std.proofs.lemmas.Bool.{le-leb, lt-leb}
use Rattle.std.proofs.lemmas.List.{length-take-le}
use Rattle.model_card.specs.declared.card.Sizes.{Sizes}
use Rattle.model_card.specs.declared.card.OpenRefusal.TheVariants.{Apps}
use Rattle.model_card.specs.Items.{Site}
use Rattle.mc_bank.specs.declared.entries.Entry.{Entry}
use Rattle.mc_bank.specs.Bank.{FitsLimits, search_result, IsGoodSite, HasParts, part_len}
use Rattle.mc_bank.specs.Memory.{facts_in, first_free, count_of_used, apps_from, memory_room, memory_site_bytes, part_of, entry_at, IsMemory}
use Rattle.mc_bank.specs.EntryLaws.{length_apps}
use Rattle.mc_bank.proofs.FillLemmas.{fill_fits}

pub is_full : (m d : List Entry) (s : Sizes) (n : ℕ) → IsMemory m → d ≡ m → n ≡ count_of_used (facts_in d) → 32 ≤ n → Err Apps ≡ search_result s (nat_le 32 (length (apps_from 0 m))) (memory_room m s)
is_full m d s n h same count full =
    let here : n ≡ count_of_used (facts_in m) = count ∙ ap (λ (l : List Entry). count_of_used (facts_in l)) same in
    let len = length_apps 0 m h.apart in
    sym (ap (λ (b : Bool). search_result s b (memory_room m s)) (le-leb 32 (length (apps_from 0 m)) (omega (arith, len, here, full))))

pub has_few : (m d : List Entry) (n : ℕ) → IsMemory m → d ≡ m → n ≡ count_of_used (facts_in d) → n < 32 → length (apps_from 0 m) < 32
has_few m d n h same count few =
    let here : n ≡ count_of_used (facts_in m) = count ∙ ap (λ (l : List Entry). count_of_used (facts_in l)) same in
    let len = length_apps 0 m h.apart in
    omega (arith, len, here, few)

pub site_is : (m d : List Entry) (s : Sizes) (p : ℕ) → d ≡ m → p ≡ first_free (facts_in d) → length (apps_from 0 m) < 32 → Ok (record { sizes = s; place = p }) ≡ search_result s (nat_le 32 (length (apps_from 0 m))) (memory_room m s)
site_is m d s p same place few =
    let here : p ≡ first_free (facts_in m) = place ∙ ap (λ (l : List Entry). first_free (facts_in l)) same in
    ap (λ (q : ℕ). search_result s false (Some q)) here ∙ sym (ap (λ (b : Bool). search_result s b (memory_room m s)) (lt-leb 32 (length (apps_from 0 m)) few))

pub site_good : (m d : List Entry) (s : Sizes) (p : ℕ) → FitsLimits s → d ≡ m → p ≡ first_free (facts_in d) → length (apps_from 0 m) < 32 → IsGoodSite (apps_from 0 m) (memory_room m) (record { sizes = s; place = p })
site_good m d s p limits same place few =
    record { limits = limits; few = few; place = ap (λ (q : ℕ). Some q) (sym (place ∙ ap (λ (l : List Entry). first_free (facts_in l)) same)) }

pub site_parts : (m : List Entry) (t : Site) → IsMemory m → IsGoodSite (apps_from 0 m) (memory_room m) t → HasParts t (memory_site_bytes m t)
site_parts m t h good p = length-take-le (part_len p t.sizes) (part_of p (entry_at m t.place)) (fill_fits m t p h good)
