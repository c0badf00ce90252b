-- Each byte of the stack that stands for a place is that of the machine, or 0: its numbers are no greater.
use Rattle.std.proofs.Common.{◌≡◌, inl, inr, ℕ, suc, ◌+◌, ◌-◌, ◌*◌, ◌<◌, ◌≤◌, Bool, true, false, List, [], ◌∷◌, ◌++◌, length, take, drop, refl, sym, ap, ◌∙◌, arith}
use Rattle.std.specs.Prelude.{nat_lt, slice_index}
use Rattle.std.proofs.lemmas.Bool.{ltb-true, ltb-false}
use Rattle.std.proofs.lemmas.List.{length-replicate}
use Rattle.law_prove.specs.model_device.specs.Bytes.{bytes2, zeros, splice}
use Rattle.law_prove.specs.model_machine.specs.Frame.{Frame, dynamic_base, dynamic_end, public_base, static_bytes}
use Rattle.law_prove.specs.model_machine.specs.Primitives.{number_below_top}
use Rattle.law_prove.specs.model_prove.specs.Facts.{Memory}
use Rattle.law_prove.specs.model_prove.specs.Keys.{Call}
use Rattle.law_prove.specs.model_prove.specs.Splits.{stand_in_stack}
use Rattle.law_prove.specs.Coverings.{frame_memory, AreOpen}
use Rattle.law_prove.proofs.Alike.{Sized}
use Rattle.law_prove.proofs.Moments.{zero_at}
use Rattle.law_prove.proofs.Parts.{memory_dynamic}
use Rattle.law_prove.proofs.Windows.{window, window_at, taken_is, index_within, index_beside}
use Rattle.law_prove.proofs.ReachScenes.{with_bytes, Fits, fits_sized, pair_is, below_is}

-- a byte of four that were put among zeros
saved_byte : (dyn b : List ℕ) (at j : ℕ) (p q : Bool) → nat_lt j at ≡ p → nat_lt j (at + 4) ≡ q → length dyn ≡ 512 → length b ≡ 4 → at + 4 ≤ 512 → take 4 (drop at dyn) ≡ b → slice_index (splice (zeros 512) at b) j ≤ slice_index dyn j
saved_byte dyn b at j true q e h room four fits saved =
    let low = ltb-true j at e in
    let size : length (zeros 512) ≡ 512 = length-replicate {A = ℕ} 512 0 in
    let is : slice_index (splice (zeros 512) at b) j ≡ 0 = index_beside (zeros 512) at b j (omega (arith, size, fits)) (inl low) ∙ zero_at 512 j in
    omega (arith, is)
saved_byte dyn b at j false false e h room four fits saved =
    let high = ltb-false j (at + 4) h in
    let size : length (zeros 512) ≡ 512 = length-replicate {A = ℕ} 512 0 in
    let is : slice_index (splice (zeros 512) at b) j ≡ 0 = index_beside (zeros 512) at b j (omega (arith, size, fits)) (inr (omega (arith, four, high))) ∙ zero_at 512 j in
    omega (arith, is)
saved_byte dyn b at j false true e h room four fits saved =
    let low = ltb-false j at e in
    let high = ltb-true j (at + 4) h in
    let k = j - at in
    let place : at + k ≡ j = omega (arith, low) in
    let size : length (zeros 512) ≡ 512 = length-replicate {A = ℕ} 512 0 in
    let less : k < 4 = omega (arith, low, high) in
    let four_are : window dyn at 4 ≡ b = sym (taken_is dyn at 4 (omega (arith, room, fits))) ∙ saved in
    let one : slice_index (splice (zeros 512) at b) (at + k) ≡ slice_index b k = index_within (zeros 512) at b k (omega (arith, size, fits)) (omega (arith, four, less)) in
    let two : slice_index b k ≡ slice_index dyn (at + k) = ap (λ (l : List ℕ). slice_index l k) (sym four_are) ∙ window_at dyn at 4 k less in
    let is : slice_index (splice (zeros 512) at b) j ≡ slice_index dyn j = ap (λ (x : ℕ). slice_index (splice (zeros 512) at b) x) (sym place) ∙ (one ∙ (two ∙ ap (λ (x : ℕ). slice_index dyn x) place)) in
    omega (arith, is)

-- no byte of the stack of a scene is greater
pub stack_less : (floor top lb : ℕ) (dyn : List ℕ) (calls : List Call) → dynamic_base ≤ floor → top ≤ dynamic_end → length dyn ≡ 512 → AreOpen floor top lb dyn calls → (j : ℕ) → slice_index (stand_in_stack calls) j ≤ slice_index dyn j
stack_less floor top lb dyn [] low high room o j = let is : slice_index (zeros 512) j ≡ 0 = zero_at 512 j in omega (arith, is)
stack_less floor top lb dyn (c ∷ cs) low high room o j =
    let under : c.dt ≤ top = o.0 in
    let over : floor + 4 ≤ c.dt = o.1 in
    let at = c.dt - 4 - dynamic_base in
    saved_byte dyn (bytes2 c.lb ++ bytes2 c.at) at j (nat_lt j at) (nat_lt j (at + 4)) refl refl room refl (omega (arith, under, over, low, high)) o.3

-- a number of the scene is no greater than that of the machine
pub number_less : (f : Frame) (public fixed others : List ℕ) (calls : List Call) (k : ℕ) → Sized f public → Fits f fixed (stand_in_stack calls) others → AreOpen (dynamic_base + f.session) f.dt f.lb f.dyn calls → dynamic_base + k ≤ f.dt → 2 ≤ k
    → number_below_top (with_bytes f fixed (stand_in_stack calls)) k ≤ number_below_top f k
number_less f public fixed others calls k sized fits o over some =
    let e : Frame = with_bytes f fixed (stand_in_stack calls) in
    let stood : Sized e others = fits_sized f fixed (stand_in_stack calls) others fits in
    let high : f.dt ≤ dynamic_end = sized.high in
    let small : length f.fixed ≤ dynamic_base = sized.small in
    let less0 : length e.fixed ≤ dynamic_base = stood.small in
    let l : Memory = frame_memory e others in
    let m : Memory = frame_memory f public in
    let a = f.dt - k in
    let byte : (b : ℕ) → dynamic_base ≤ b → b < public_base → l b ≤ m b = λ b low less.
    let x : l b ≡ slice_index (stand_in_stack calls) (b - dynamic_base) = memory_dynamic (length e.fixed) (static_bytes e) (stand_in_stack calls) others b less0 low less in
    let y : m b ≡ slice_index f.dyn (b - dynamic_base) = memory_dynamic (length f.fixed) (static_bytes f) f.dyn public b small low less in
    let z = stack_less (dynamic_base + f.session) f.dt f.lb f.dyn calls (omega arith) high sized.room o (b - dynamic_base) in
    omega (arith, x, y, z)
    in
    let first : l a ≤ m a = byte a (omega (arith, over)) (omega (arith, over, high)) in
    let second : l (suc a) ≤ m (suc a) = byte (suc a) (omega (arith, over)) (omega (arith, over, high, some)) in
    let x : number_below_top e k ≡ l a * 256 + l (suc a) = below_is e others k stood over some ∙ pair_is l a in
    let y : number_below_top f k ≡ m a * 256 + m (suc a) = below_is f public k sized over some ∙ pair_is m a in
    omega (arith, first, second, x, y)
