-- Units that `unit_read` reads are in the grammar, bytes that it refuses are not, and units that are written are read.
use Rattle.std.proofs.Common.{◌≡◌, ℕ, List, Result, Ok, Err}
use Rattle.std.specs.Prelude.{IfOk, OnErr, MatchResult}
use Rattle.std.specs.Global.{Vec}
use Rattle.mc_words.specs.model_device.specs.declared.memory.NoMemory.{NoMemory}
use Rattle.model_card.specs.model_device.specs.Bytes.{zeros}
use Rattle.model_card.specs.declared.unit.UnitRefusal.{UnitRefusal}
use Rattle.model_card.specs.Units.{name_of, unit_bytes, unit_read, FitsUnit, UnitParts, IsUnit}
use Rattle.mc_unit.specs.declared.unit.Unit.{Unit as LoadUnit}
use Rattle.mc_unit.specs.Parts.{parts_of}
use Rattle.mc_unit.proofs.Grammar.{IsBytes, unit_takes, unit_again, written_again}

pub is_found : (b : List ℕ) (r : Result LoadUnit UnitRefusal) → IsBytes b → MatchResult r (λ u. unit_read b ≡ Ok (parts_of u)) (λ e. unit_read b ≡ Err e) → IfOk r (λ u. IsUnit b (parts_of u))
is_found b (Ok u) fits given = unit_takes b (parts_of u) fits given
is_found b (Err e) fits given = tt

pub is_only : (b : List ℕ) (r : Result LoadUnit UnitRefusal) → MatchResult r (λ u. unit_read b ≡ Ok (parts_of u)) (λ e. unit_read b ≡ Err e) → OnErr r ((u : UnitParts) → IsUnit b u → ⊥)
is_only b (Ok u) given = tt
is_only b (Err e) given = λ u is. let again = unit_again b u is in cc

pub is_written : (code init dir fci : List ℕ) (r : Result (Vec ℕ) NoMemory) → FitsUnit code init dir fci → IfOk r (λ v. v.items ≡ unit_bytes code init dir fci)
    → IfOk r (λ v. (aid : List ℕ) → name_of dir ≡ Ok aid → unit_read v.items ≡ Ok (record { number = zeros 8; code = code; init = init; dir = dir; fci = fci; aid = aid }))
is_written code init dir fci (Ok v) fits is = written_again code init dir fci v.items fits is
is_written code init dir fci (Err e) fits is = tt
