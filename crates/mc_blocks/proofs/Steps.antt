-- One step of a walk by lengths: the block at a place, and the blocks after it.
use Rattle.std.proofs.Common.{◌≡◌, ℕ, zero, suc, ◌+◌, ◌-◌, ◌<◌, ◌≤◌, Bool, true, false, ◌&&◌, ◌||◌, List, [], ◌∷◌, length, Option, Some, None, refl, sym, ◌∙◌, ap, subst, arith, cond}
use Rattle.std.specs.Prelude.{nat_le, ◌==◌, slice_index}
use Rattle.std.proofs.lemmas.Bool.{and_parts, leb-true}
use Rattle.std.proofs.lemmas.List.{get_or_past}
use Rattle.mc_words.specs.model_device.specs.Bytes.{be2}
use Rattle.mc_words.specs.model_device.specs.Card.{Block, used_tag, hole_tag, word, is_header, header, block_and, blocks_from}
use Rattle.mc_blocks.specs.Blocks.{block_within, blocks_at}

-- the facts of a block whose header was read
pub record HeaderIs (p : ℕ) (x : List ℕ) (b : Block) : Type 0 where
  pub place : b.place ≡ p
  pub used : b.used ≡ (slice_index x 0 == used_tag)
  pub words : b.words ≡ be2 x 2
  pub link : b.link ≡ be2 x 4
  pub low : 1 ≤ b.words

abbrev the_block : ℕ → List ℕ → Block
the_block p x = record { place = p; used = slice_index x 0 == used_tag; words = be2 x 2; link = be2 x 4 }

header_read : (p : ℕ) (x : List ℕ) (b : Block) (t : Bool) → is_header x ≡ t → cond t (Some (the_block p x)) None ≡ Some b → HeaderIs p x b
header_read p x b false h e = absurd (cc e)
header_read p x b true h e =
    let is : the_block p x ≡ b = cc in
    let tag = slice_index x 0 == used_tag || slice_index x 0 == hole_tag in
    let a = tag && slice_index x 1 == 0 in
    let long = a && nat_le 1 (be2 x 2) in
    let first = and_parts (long && slice_index x 6 == 0) (slice_index x 7 == 0) h in
    let second = and_parts long (slice_index x 6 == 0) first.0 in
    let third = and_parts a (nat_le 1 (be2 x 2)) second.0 in
    subst (λ (c : Block). HeaderIs p x c) is (record { place = refl; used = refl; words = refl; link = refl; low = leb-true 1 (be2 x 2) third.1 })

pub header_is : (p : ℕ) (x : List ℕ) (b : Block) → header p x ≡ Some b → HeaderIs p x b
header_is p x b h = header_read p x b (is_header x) refl h

-- a block that fits was read, and ends within the device
pub record BlockFits (size p : ℕ) (x : List ℕ) (b : Block) : Type 0 where
  pub read : header p x ≡ Some b
  pub place : b.place ≡ p
  pub low : 1 ≤ b.words
  pub high : p + b.words ≤ size

fits_read : (size p : ℕ) (x : List ℕ) (b c : Block) (t : Bool) → header p x ≡ Some b → nat_le (b.place + b.words) size ≡ t → cond t (Some b) None ≡ Some c → BlockFits size p x c
fits_read size p x b c false e h f = absurd (cc f)
fits_read size p x b c true e h f =
    let is : b ≡ c = cc in
    let known : HeaderIs p x b = header_is p x b e in
    let le : b.place + b.words ≤ size = leb-true (b.place + b.words) size h in
    let place : b.place ≡ p = known.place in
    subst (λ (d : Block). BlockFits size p x d) is (record { read = e; place = place; low = known.low; high = omega (arith, le, place) })

fits_from : (size p : ℕ) (x : List ℕ) (o : Option Block) (c : Block) → header p x ≡ o → block_within size o ≡ Some c → BlockFits size p x c
fits_from size p x None c e h = absurd (cc h)
fits_from size p x (Some b) c e h = fits_read size p x b c (nat_le (b.place + b.words) size) e refl h

pub fits : (size p : ℕ) (x : List ℕ) (b : Block) → block_within size (header p x) ≡ Some b → BlockFits size p x b
fits size p x b h = fits_from size p x (header p x) b refl h

-- ---- blocks

and_fits : (size : ℕ) (o : Option Block) (b : Block) (rest : ℕ → List Block) (t : Bool) (c : Block) → nat_le (c.place + c.words) size ≡ t → o ≡ Some c → cond t (Some c) None ≡ Some b → block_and size o rest ≡ b ∷ rest (b.place + b.words)
and_fits size o b rest t c h e f = grind arith

and_some : (size : ℕ) (o q : Option Block) (b : Block) (rest : ℕ → List Block) → o ≡ q → block_within size q ≡ Some b → block_and size o rest ≡ b ∷ rest (b.place + b.words)
and_some size o None b rest e h = absurd (cc h)
and_some size o (Some c) b rest e h = and_fits size o b rest (nat_le (c.place + c.words) size) c refl e h

and_past : (size : ℕ) (c : Block) (rest : ℕ → List Block) (t : Bool) → cond t (Some c) None ≡ None → cond t (c ∷ rest (c.place + c.words)) [] ≡ []
and_past size c rest false h = refl
and_past size c rest true h = absurd (cc h)

and_none : (size : ℕ) (o : Option Block) (rest : ℕ → List Block) → block_within size o ≡ None → block_and size o rest ≡ []
and_none size None rest h = refl
and_none size (Some c) rest h = and_past size c rest (nat_le (c.place + c.words) size) h

-- past the end there is no header
past : (m : List (List ℕ)) (p : ℕ) → length m ≤ p → header p (word m p) ≡ None
past m p h = ap (λ (x : List ℕ). header p x) (get_or_past m p [] h)

-- any two bounds on the number of blocks that are large enough yield the same blocks
and_either : (m : List (List ℕ)) (p : ℕ) (o : Option Block) (f g : ℕ → List Block) → block_within (length m) (header p (word m p)) ≡ o
    → ((b : Block) → BlockFits (length m) p (word m p) b → f (b.place + b.words) ≡ g (b.place + b.words)) → block_and (length m) (header p (word m p)) f ≡ block_and (length m) (header p (word m p)) g
and_either m p None f g e same = and_none (length m) (header p (word m p)) f e ∙ sym (and_none (length m) (header p (word m p)) g e)
and_either m p (Some b) f g e same =
    and_some (length m) (header p (word m p)) (header p (word m p)) b f refl e
    ∙ ap (λ (l : List Block). b ∷ l) (same b (fits (length m) p (word m p) b e))
    ∙ sym (and_some (length m) (header p (word m p)) (header p (word m p)) b g refl e)

behind : (size p n : ℕ) (x : List ℕ) (b : Block) → BlockFits size p x b → size - p ≤ suc n → size - (b.place + b.words) ≤ n
behind size p n x b f h = let place : b.place ≡ p = f.place in let low : 1 ≤ b.words = f.low in let high : p + b.words ≤ size = f.high in omega arith

same_fuel : (n k : ℕ) (m : List (List ℕ)) (p : ℕ) → length m - p ≤ n → length m - p ≤ k → blocks_from n m p ≡ blocks_from k m p
unfolding blocks_from
same_fuel zero zero m p a b = refl
same_fuel zero (suc k) m p a b = sym (ap (λ (o : Option Block). block_and (length m) o (λ q. blocks_from k m q)) (past m p (omega arith)))
same_fuel (suc n) zero m p a b = ap (λ (o : Option Block). block_and (length m) o (λ q. blocks_from n m q)) (past m p (omega arith))
same_fuel (suc n) (suc k) m p a b =
    and_either m p (block_within (length m) (header p (word m p))) (λ q. blocks_from n m q) (λ q. blocks_from k m q) refl
    (λ c f. same_fuel n k m (c.place + c.words) (behind (length m) p n (word m p) c f a) (behind (length m) p k (word m p) c f b))

pub blocks_all : (m : List (List ℕ)) → blocks_from (length m) m 131 ≡ blocks_at m 131
blocks_all m = same_fuel (length m) (length m - 131) m 131 (omega arith) (omega arith)

blocks_suc : (n : ℕ) (m : List (List ℕ)) (p : ℕ) (b : Block) → block_within (length m) (header p (word m p)) ≡ Some b → blocks_from (suc n) m p ≡ b ∷ blocks_from n m (b.place + b.words)
unfolding blocks_from
blocks_suc n m p b h = and_some (length m) (header p (word m p)) (header p (word m p)) b (λ q. blocks_from n m q) refl h

blocks_fuel : (n k : ℕ) (m : List (List ℕ)) (p : ℕ) → n ≡ suc k → blocks_from n m p ≡ blocks_from (suc k) m p
blocks_fuel n k m p e = ap (λ (t : ℕ). blocks_from t m p) e

-- the blocks from a place on are the block there and those after it
pub blocks_step : (m : List (List ℕ)) (p : ℕ) (b : Block) → Some b ≡ block_within (length m) (header p (word m p)) → blocks_at m p ≡ b ∷ blocks_at m (b.place + b.words)
blocks_step m p b e =
    let h : block_within (length m) (header p (word m p)) ≡ Some b = sym e in
    let f : BlockFits (length m) p (word m p) b = fits (length m) p (word m p) b h in
    let place : b.place ≡ p = f.place in
    let low : 1 ≤ b.words = f.low in
    let high : p + b.words ≤ length m = f.high in
    blocks_fuel (length m - p) (length m - p - 1) m p (omega arith)
    ∙ blocks_suc (length m - p - 1) m p b h
    ∙ ap (λ (l : List Block). b ∷ l) (same_fuel (length m - p - 1) (length m - (b.place + b.words)) m (b.place + b.words) (omega arith) (omega arith))

-- a block ends within the device, and its end is nearer to that of the device than its place
pub block_ends : (size p : ℕ) (x : List ℕ) (b : Block) → Some b ≡ block_within size (header p x) → (b.place + b.words ≤ size) × (size - (b.place + b.words) < size - p) × (b.place ≡ p) × (p < b.place + b.words)
block_ends size p x b e =
    let f : BlockFits size p x b = fits size p x b (sym e) in
    let place : b.place ≡ p = f.place in
    let low : 1 ≤ b.words = f.low in
    let high : p + b.words ≤ size = f.high in
    (omega arith, omega arith, place, omega arith)

blocks_none : (n : ℕ) (m : List (List ℕ)) (p : ℕ) → block_within (length m) (header p (word m p)) ≡ None → blocks_from n m p ≡ []
unfolding blocks_from
blocks_none zero m p h = refl
blocks_none (suc n) m p h = and_none (length m) (header p (word m p)) (λ q. blocks_from n m q) h

-- if there is no block at a place, there is none from it on
pub blocks_stop : (m : List (List ℕ)) (p : ℕ) → None ≡ block_within (length m) (header p (word m p)) → blocks_at m p ≡ []
blocks_stop m p h = blocks_none (length m - p) m p (sym h)
