-- What a list of writes changes in a bench: its words, its tape, its counts, and the write that a fuse stops.
use Rattle.std.proofs.Common.{◌≡◌, ℕ, zero, suc, ◌+◌, ◌-◌, ◌<◌, true, List, [], ◌∷◌, ◌++◌, length, take, Option, Some, None, Ok, Err, refl, sym, ◌∙◌, ap, subst, inl, inr, arith, append_assoc}
use Rattle.std.specs.Prelude.{slice_index_or, slice_set}
use Rattle.std.specs.List.{AllByRecursion}
use Rattle.std.proofs.lemmas.List.{get_or-set_same, length-take-le}
use Rattle.model_play.specs.model_device.specs.declared.device.Stop.{Stop}
use Rattle.model_play.specs.model_device.specs.declared.device.Stop.TheVariants.{Off, Worn}
use Rattle.model_play.specs.model_device.specs.Orders.{Answer}
use Rattle.model_play.specs.model_device.specs.Device.{Entry, Grows, DeviceState, BenchState, fuse_after_write, next_fill, due, NextWriteEnds, Counts, Burns, BenchWrote, Wrote, WriteDone, Makes, GrowsBy, done_entries, torn_entries, next_count}
use Rattle.model_play.specs.model_device.specs.Stopped.{image_after_stop}
use Rattle.model_play.specs.model_device.proofs.DeviceLemmas.{DoneAll, makes_done}
use Rattle.mc_script.specs.Counting.{on_after_stop}
use Rattle.mc_script.specs.Runs.{StoppedAtWrite}
use Rattle.mc_script.proofs.EntryLemmas.{stopped_entry, torn_behind, entries_behind}
use Rattle.mc_script.proofs.AccountLemmas.{SizesTo}
use Rattle.mc_script.proofs.FuseLemmas.{after_writes, Past, falls_at, past_on, past_first, past_none, none_due, cut_due, failure_due}

-- ---- the result of a list

-- the calls of a bench, which no write changes
pub record SameCalls (b c : BenchState) : Type 0 where
  pub powers : c.powers ≡ b.powers
  pub pokes : c.pokes ≡ b.pokes
  pub poked : c.poked ≡ b.poked
  pub arms : c.arms ≡ b.arms
  pub wears : c.wears ≡ b.wears
  pub steady : c.steady ≡ b.steady

-- n writes were done: each fuse is n writes nearer, and stops a write after these
pub record Burnt (b : BenchState) (n : ℕ) (c : BenchState) : Type 0 where
  pub is : c ≡ record b { cut = after_writes n b.cut; worn = after_writes n b.worn }
  pub cut : Past n b.cut
  pub worn : Past n b.worn

-- one count rose, according to the kind of a stop
abbrev pub Raises : Stop → DeviceState → DeviceState → Type 0
Raises Off d e = (e.cuts ≡ next_count d.cuts) × (e.faults ≡ d.faults)
Raises Worn d e = (e.cuts ≡ d.cuts) × (e.faults ≡ next_count d.faults)

-- the fuse that made a stop at write k: a cut is due to the cut fuse; a failed write comes before the cut, and on a
-- steady bench is due to the other fuse
abbrev pub FusedAt : Stop → BenchState → ℕ → List ℕ → Type 0
FusedAt Off b k x = b.cut ≡ Some (record { writes = k; fill = x })
FusedAt Worn b k x = Past k b.cut × (b.steady ≡ true → b.worn ≡ Some (record { writes = k; fill = x }))

-- a list of writes that stopped at its write k, which left the word x
pub record HaltedList (d : DeviceState) (b : BenchState) (ws : List (ℕ × List ℕ)) (k : ℕ) (s : Stop) (x : List ℕ) (e : DeviceState) (c : BenchState) : Type 0 where
  pub size : length x ≡ 8
  pub words : e.words ≡ image_after_stop d.words ws k x
  pub on : e.on ≡ on_after_stop s
  pub tape : GrowsBy d.tape (torn_entries ws k x s) e.tape
  pub raises : Raises s d e
  pub fused : FusedAt s b k x
  pub calls : SameCalls b c

-- ---- a stop after n writes

module _ {D : Type 0} (wrote : D → ℕ → List ℕ → Answer → D → Type 0) where
  -- n writes of a list were done, and the next one stopped
  pub record StoppedBehind (d : D) (ws : List (ℕ × List ℕ)) (n : ℕ) (s : Stop) (e : D) : Type 0 where
    pub high : n < length ws
    pub middle : D
    pub before : Makes wrote d (take n ws) (Ok tt) middle
    pub stopped : wrote middle (slice_index_or ws n (0, [])).0 (slice_index_or ws n (0, [])).1 (Err s) e

  pub behind_at : (d e : D) (ws : List (ℕ × List ℕ)) (n : ℕ) (s : Stop) → StoppedBehind d ws n s e → StoppedAtWrite wrote d ws (suc n) s e
  behind_at d e ws n s r =
      let same : n ≡ suc n - 1 = omega arith in
      record {
        low = omega arith;
        high = omega (arith, r.high);
        middle = r.middle;
        before = subst (λ (j : ℕ). Makes wrote d (take j ws) (Ok tt) r.middle) same r.before;
        stopped = subst (λ (j : ℕ). wrote r.middle (slice_index_or ws j (0, [])).0 (slice_index_or ws j (0, [])).1 (Err s) e) same r.stopped;
      }

  pub at_behind : (d e : D) (ws : List (ℕ × List ℕ)) (n : ℕ) (s : Stop) → StoppedAtWrite wrote d ws (suc n) s e → StoppedBehind d ws n s e
  at_behind d e ws n s r =
      let same : suc n - 1 ≡ n = omega arith in
      record {
        high = omega (arith, r.high);
        middle = r.middle;
        before = subst (λ (j : ℕ). Makes wrote d (take j ws) (Ok tt) r.middle) same r.before;
        stopped = subst (λ (j : ℕ). wrote r.middle (slice_index_or ws j (0, [])).0 (slice_index_or ws j (0, [])).1 (Err s) e) same r.stopped;
      }

  same_stop : (s t : Stop) (a : Answer) → a ≡ Err s → a ≡ Err t → s ≡ t
  same_stop s t a p q = cc

  behind : (ws : List (ℕ × List ℕ)) (d e : D) (s : Stop) → Makes wrote d ws (Err s) e → (n : ℕ) × StoppedBehind d ws n s e
  behind [] d e s made = absurd made
  behind (p ∷ ws) d e s made =
      elim made [
        | inl step ↦
            let r = behind ws step.0 e s step.2 in
            (suc r.0, record { high = let h = (r.1).high in omega (arith, h); middle = (r.1).middle; before = inl (step.0, step.1, (r.1).before); stopped = (r.1).stopped })
        | inr stop ↦
            (0, record { high = omega arith; middle = d; before = refl; stopped = subst (λ (t : Stop). wrote d p.0 p.1 (Err t) e) (same_stop stop.0 s (Err s) stop.2 refl) stop.1 })
      ]

  -- a list of writes that stopped did so at one of its writes
  pub makes_stop : (ws : List (ℕ × List ℕ)) (d e : D) (s : Stop) → Makes wrote d ws (Err s) e → (k : ℕ) × StoppedAtWrite wrote d ws k s e
  makes_stop ws d e s made = let r = behind ws d e s made in (suc r.0, behind_at d e ws r.0 s r.1)

-- ---- benches

-- after a write the bench's fuses are nearer, whatever its result
after_stop : (b c : BenchState) (s : Stop) → Burns b (Err s) c → SameCalls b c
after_stop b c s h =
    elim h [
      | inl e ↦ let q : c ≡ record b { cut = fuse_after_write b.cut; worn = fuse_after_write b.worn } = e in record { powers = ap (λ (x : BenchState). x.powers) q; pokes = ap (λ (x : BenchState). x.pokes) q; poked = ap (λ (x : BenchState). x.poked) q; arms = ap (λ (x : BenchState). x.arms) q; wears = ap (λ (x : BenchState). x.wears) q; steady = ap (λ (x : BenchState). x.steady) q }
      | inr e ↦ let q : c ≡ record b { cut = fuse_after_write b.cut; worn = None } = e in record { powers = ap (λ (x : BenchState). x.powers) q; pokes = ap (λ (x : BenchState). x.pokes) q; poked = ap (λ (x : BenchState). x.poked) q; arms = ap (λ (x : BenchState). x.arms) q; wears = ap (λ (x : BenchState). x.wears) q; steady = ap (λ (x : BenchState). x.steady) q }
    ]

raises : (s : Stop) (d m e : DeviceState) → m.cuts ≡ d.cuts → m.faults ≡ d.faults → Counts m (Err s) e → Raises s d e
raises Off d m e cuts faults h = (h.0 ∙ ap next_count cuts, h.1 ∙ faults)
raises Worn d m e cuts faults h = (h.0 ∙ cuts, h.1 ∙ ap next_count faults)

-- the device as a write that stopped left it
pub record LeftBy (d : DeviceState) (at : ℕ) (s : Stop) (e : DeviceState) : Type 0 where
  pub left : List ℕ
  pub size : length left ≡ 8
  pub words : e.words ≡ slice_set d.words at left
  pub on : e.on ≡ on_after_stop s
  pub tape : Grows d.tape (record { at = at; left = left; «end» = Some s }) e.tape

grows_last : (t : Option (List Entry)) (es : List Entry) (u : Option (List Entry)) (e : Entry) (v : Option (List Entry)) → GrowsBy t es u → Grows u e v → GrowsBy t (es ++ e ∷ []) v
grows_last t es u e None g h = tt
grows_last t es None e (Some v) g h = absurd h
grows_last None es (Some u) e (Some v) g h = absurd g
grows_last (Some t) es (Some u) e (Some v) g h = h ∙ ap (λ (x : List Entry). x ++ e ∷ []) g ∙ append_assoc t es (e ∷ [])

same_word : (m : List (List ℕ)) (at : ℕ) (a b : List ℕ) → at < length m → slice_set m at a ≡ slice_set m at b → a ≡ b
same_word m at a b low h = sym (get_or-set_same m at a [] low) ∙ ap (λ (t : List (List ℕ)). slice_index_or t at []) h ∙ get_or-set_same m at b [] low

fused : (s : Stop) (b c : BenchState) (n : ℕ) (d e : DeviceState) (at : ℕ) (x : List ℕ) → Burnt b n c → NextWriteEnds (due (next_fill c.cut) (next_fill c.worn)) c.steady d at (Err s) e
    → at < length d.words → e.words ≡ slice_set d.words at x → FusedAt s b (suc n) x
fused Off b c n d e at x burnt ends low words = grind (arith, cut_due, same_word, after_writes, falls_at)
fused Worn b c n d e at x burnt ends low words =
    let r = failure_due (next_fill c.cut) (next_fill c.worn) c.steady d at e ends in
    let one : n + 1 ≡ suc n = omega arith in
    let f : next_fill (after_writes n b.cut) ≡ None = ap (λ (t : BenchState). next_fill t.cut) (sym burnt.is) ∙ r.0 in (
      subst (λ (k : ℕ). Past k b.cut) one (past_on n b.cut f burnt.cut),
      λ steady.
          let q = r.1 (ap (λ (t : BenchState). t.steady) burnt.is ∙ steady) in
          let y : q.0 ≡ x = same_word d.words at q.0 x low (sym q.2 ∙ words) in
          let g : next_fill (after_writes n b.worn) ≡ Some x = ap (λ (t : BenchState). next_fill t.worn) (sym burnt.is) ∙ q.1 ∙ ap (λ (z : List ℕ). Some z) y in
          subst (λ (k : ℕ). b.worn ≡ Some (record { writes = k; fill = x })) one (falls_at n b.worn x g),
    )

pub burnt_calls : (b c : BenchState) (n : ℕ) → Burnt b n c → SameCalls b c
burnt_calls b c n r =
    record {
      powers = ap (λ (x : BenchState). x.powers) r.is;
      pokes = ap (λ (x : BenchState). x.pokes) r.is;
      poked = ap (λ (x : BenchState). x.poked) r.is;
      arms = ap (λ (x : BenchState). x.arms) r.is;
      wears = ap (λ (x : BenchState). x.wears) r.is;
      steady = ap (λ (x : BenchState). x.steady) r.is;
    }

calls_then : (a b c : BenchState) → SameCalls a b → SameCalls b c → SameCalls a c
calls_then a b c r q =
    record {
      powers = q.powers ∙ r.powers;
      pokes = q.pokes ∙ r.pokes;
      poked = q.poked ∙ r.poked;
      arms = q.arms ∙ r.arms;
      wears = q.wears ∙ r.wears;
      steady = q.steady ∙ r.steady;
    }

module _ {D : Type 0} (state : D → DeviceState) (bench : D → BenchState) (wrote : D → ℕ → List ℕ → Answer → D → Type 0)
    (obeys : (d : D) (at : ℕ) (w : List ℕ) (a : Answer) (e : D) → (state d).on ≡ true → wrote d at w a e → Wrote (state d) at w a (state e))
    (burns : (d : D) (at : ℕ) (w : List ℕ) (a : Answer) (e : D) → (state d).on ≡ true → wrote d at w a e → BenchWrote (state d) (bench d) at a (state e) (bench e))
    (fits : (d : D) (at : ℕ) (w : List ℕ) (a : Answer) (e : D) → wrote d at w a e → (at < length (state d).words) × (length w ≡ 8)) where
  -- a list that was done: no fuse was due
  pub burnt : (ws : List (ℕ × List ℕ)) (d e : D) → (state d).on ≡ true → Makes wrote d ws (Ok tt) e → Burnt (bench d) (length ws) (bench e)
  burnt [] d e on made = record { is = ap bench made; cut = past_none (bench d).cut; worn = past_none (bench d).worn }
  burnt (p ∷ ws) d e on made =
      elim made [
        | inl step ↦
            let m = step.0 in
            let first : BenchWrote (state d) (bench d) p.0 (Ok tt) (state m) (bench m) = burns d p.0 p.1 (Ok tt) m on step.1 in
            let wrote_one : WriteDone (state d) p.0 p.1 (state m) = obeys d p.0 p.1 (Ok tt) m on step.1 in
            let free = none_due (next_fill (bench d).cut) (next_fill (bench d).worn) (bench d).steady (state d) p.0 (state m) first.ends in
            let rest : Burnt (bench m) (length ws) (bench e) = burnt ws m e wrote_one.power step.2 in
            let near : bench m ≡ record (bench d) { cut = fuse_after_write (bench d).cut; worn = fuse_after_write (bench d).worn } = first.fuses in
            let n = length ws in
            record {
              is = rest.is ∙ ap (λ (x : BenchState). record x { cut = after_writes n x.cut; worn = after_writes n x.worn }) near;
              cut = past_first n (bench d).cut free.0 (subst (λ (x : BenchState). Past n x.cut) near rest.cut);
              worn = past_first n (bench d).worn free.1 (subst (λ (x : BenchState). Past n x.worn) near rest.worn);
            }
        | inr stop ↦ absurd (cc stop.2)
      ]

  left_by : (s : Stop) (d e : D) (at : ℕ) (w : List ℕ) → (state d).on ≡ true → wrote d at w (Err s) e → LeftBy (state d) at s (state e)
  left_by Off d e at w on h = grind (arith, obeys d at w (Err Off) e on h)
  left_by Worn d e at w on h = grind (arith, obeys d at w (Err Worn) e on h)

  halted_behind : (ws : List (ℕ × List ℕ)) (d e : D) (n : ℕ) (s : Stop) → (state d).on ≡ true → StoppedBehind wrote d ws n s e → (x : List ℕ) × HaltedList (state d) (bench d) ws (suc n) s x (state e) (bench e)
  halted_behind ws d e n s on r =
      let m = r.middle in
      let p : ℕ × List ℕ = slice_index_or ws n (0, []) in
      let done : DoneAll (state d) (take n ws) (state m) = makes_done state wrote obeys (take n ws) d m on r.before in
      let count : length (take n ws) ≡ n = let high = r.high in length-take-le n ws (omega (arith, high)) in
      let near : Burnt (bench d) n (bench m) = subst (λ (j : ℕ). Burnt (bench d) j (bench m)) count (burnt (take n ws) d m on r.before) in
      let left : LeftBy (state m) p.0 s (state e) = left_by s m e p.0 p.1 done.power r.stopped in
      let x = left.left in
      let last : BenchWrote (state m) (bench m) p.0 (Err s) (state e) (bench e) = burns m p.0 p.1 (Err s) e done.power r.stopped in
      let place : p.0 < length (state m).words = (fits m p.0 p.1 (Err s) e r.stopped).0 in (
        x,
        record {
          size = left.size;
          words = left.words ∙ ap (λ (t : List (List ℕ)). slice_set t p.0 x) done.words ∙ sym (torn_behind (state d).words ws n x r.high);
          on = left.on;
          tape = subst (λ (es : List Entry). GrowsBy (state d).tape es (state e).tape) (sym (entries_behind ws n x s r.high))
              (grows_last (state d).tape (done_entries (take n ws)) (state m).tape (stopped_entry ws n x s) (state e).tape done.tape left.tape);
          raises = raises s (state d) (state m) (state e) done.cuts done.faults last.counts;
          fused = fused s (bench d) (bench m) n (state m) (state e) p.0 x near last.ends place left.words;
          calls = calls_then (bench d) (bench m) (bench e) (burnt_calls (bench d) (bench m) n near) (after_stop (bench m) (bench e) s last.fuses);
        },
      )

  -- a list that stopped at its write k: the word that this write left, and the fuse that was due
  pub halted : (ws : List (ℕ × List ℕ)) (d e : D) (k : ℕ) (s : Stop) → (state d).on ≡ true → StoppedAtWrite wrote d ws k s e → (x : List ℕ) × HaltedList (state d) (bench d) ws k s x (state e) (bench e)
  halted ws d e zero s on r = let low = r.low in absurd (omega (arith, low))
  halted ws d e (suc n) s on r = halted_behind ws d e n s on (at_behind wrote d e ws n s r)

  -- the words that a list wrote, up to its end or its stop, have eight bytes
  pub words_written : (ws : List (ℕ × List ℕ)) (d e : D) → Makes wrote d ws (Ok tt) e → AllByRecursion (λ p. length p.1 ≡ 8) ws
  words_written [] d e made = tt
  words_written (p ∷ ws) d e made =
      elim made [
        | inl step ↦ ((fits d p.0 p.1 (Ok tt) step.0 step.1).1, words_written ws step.0 e step.2)
        | inr stop ↦ absurd (cc stop.2)
      ]

  sizes_take : (ws : List (ℕ × List ℕ)) (n : ℕ) (d e : D) → Makes wrote d (take n ws) (Ok tt) e → SizesTo n ws
  sizes_take [] n d e made = tt
  sizes_take (p ∷ ws) zero d e made = tt
  sizes_take (p ∷ ws) (suc n) d e made =
      elim made [
        | inl step ↦ ((fits d p.0 p.1 (Ok tt) step.0 step.1).1, sizes_take ws n step.0 e step.2)
        | inr stop ↦ absurd (cc stop.2)
      ]

  -- the words before the write that stopped have eight bytes
  pub sizes_before : (ws : List (ℕ × List ℕ)) (d e : D) (n : ℕ) (s : Stop) → StoppedAtWrite wrote d ws (suc n) s e → SizesTo n ws
  sizes_before ws d e n s r = let b = at_behind wrote d e ws n s r in sizes_take ws n d b.middle b.before
