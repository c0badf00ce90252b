-- The sections of a used block end within the device.
use Rattle.std.proofs.Common.{◌≡◌, ℕ, ◌+◌, ◌≤◌, List, length, sym, subst, arith}
use Rattle.std.specs.Prelude.{slice_index}
use Rattle.mc_words.specs.model_device.specs.Bytes.{be2}
use Rattle.mc_words.specs.model_device.specs.Card.{record_at, words_of_lengths}
use Rattle.mc_store.specs.Slots.{IsUsedBlock}
use Rattle.mc_store.proofs.RecordLemmas.{RecordIs, record_is}

pub block_ends : (m : List (List ℕ)) (p : ℕ) (e : List ℕ) → IsUsedBlock m p → e ≡ record_at m p → p + words_of_lengths (be2 e 20) (be2 e 22) (slice_index e 17) (slice_index e 18) ≤ length m
block_ends m p e b is =
    let r : RecordIs (record_at m p) b.words = record_is (record_at m p) b.words b.good in
    let fits : b.words ≡ words_of_lengths (be2 (record_at m p) 20) (be2 (record_at m p) 22) (slice_index (record_at m p) 17) (slice_index (record_at m p) 18) = r.words in
    let end : p + b.words ≤ length m = b.end in
    subst (λ (x : List ℕ). p + words_of_lengths (be2 x 20) (be2 x 22) (slice_index x 17) (slice_index x 18) ≤ length m) (sym is) (omega (arith, fits, end))
