-- How takes and puts compose.
use Rattle.std.proofs.Common.{◌≡◌, ℕ, zero, suc, ◌+◌, ◌-◌, ◌<◌, ◌≤◌, List, [], ◌++◌, length, take, drop, Option, Some, None, refl, arith, sym, ◌∙◌, ap, subst, append_assoc, length-drop, inl, inr, ◌⊎◌}
use Rattle.std.proofs.Common.{length-append, length-take}
use Rattle.std.proofs.lemmas.List.{append-nil, take_rest, take_at, drop-drop, take-append-drop}
use Rattle.std.proofs.Math.Nat.{min-le_left}
use Rattle.std.proofs.Math.Seq.{take-add}
use Rattle.model_device.specs.Counts.{Rose, last_count}
use Rattle.mc_streams.specs.Streams.{one_more, without_last, Took, AtEnd, Grew, Stays, TookAtMost, TookMore, GrewByPart}

-- a take after a take
pub took_append : (a b c : Option (List ℕ)) (xs ys : List ℕ) → Took a b xs → Took b c ys → Took a c (xs ++ ys)
took_append None b c xs ys h k = tt
took_append (Some l) None c xs ys h k = absurd h
took_append (Some l) (Some m) None xs ys h k = absurd k
took_append (Some l) (Some m) (Some n) xs ys h k = h ∙ ap (λ t. xs ++ t) k ∙ sym (append_assoc xs ys n)

-- a call that took nothing after a take
pub took_stays : (a b c : Option (List ℕ)) (xs : List ℕ) → Took a b xs → Stays b c → Took a c xs
took_stays None b c xs h k = tt
took_stays (Some l) None c xs h k = absurd h
took_stays (Some l) (Some m) None xs h k = absurd k
took_stays (Some l) (Some m) (Some n) xs h k = h ∙ ap (λ t. xs ++ t) (sym k)

-- nothing was taken
pub took_none : (a : Option (List ℕ)) → Took a a []
took_none None = tt
took_none (Some l) = refl

-- a take of no byte
pub took_empty : (a b c : Option (List ℕ)) (xs ys : List ℕ) → ys ≡ [] → Took a b xs → Took b c ys → Took a c xs
took_empty a b c xs ys e h k = subst (λ t. Took a c t) (ap (λ t. xs ++ t) e ∙ append-nil xs) (took_append a b c xs ys h k)

-- a put after a put
pub grew_append : (a b c : Option (List ℕ)) (xs ys : List ℕ) → Grew a b xs → Grew b c ys → Grew a c (xs ++ ys)
grew_append None b c xs ys h k = tt
grew_append (Some l) None c xs ys h k = absurd h
grew_append (Some l) (Some m) None xs ys h k = absurd k
grew_append (Some l) (Some m) (Some n) xs ys h k = k ∙ ap (λ t. t ++ ys) h ∙ append_assoc l xs ys

-- a call that put nothing after a put
pub grew_stays : (a b c : Option (List ℕ)) (xs : List ℕ) → Grew a b xs → Stays b c → Grew a c xs
grew_stays None b c xs h k = tt
grew_stays (Some l) None c xs h k = absurd h
grew_stays (Some l) (Some m) None xs h k = absurd k
grew_stays (Some l) (Some m) (Some n) xs h k = k ∙ h

-- nothing was put
pub grew_none : (a : Option (List ℕ)) → Grew a a []
grew_none None = tt
grew_none (Some l) = sym (append-nil l)

-- a count that rose later rose
pub rose_later : (a b c : ℕ) → a ≤ b → Rose b c → Rose a c
rose_later a b c h r = elim r [ inl more ↦ inl (omega arith) | inr last ↦ inr last ]

-- a count plus one is at most one more
pub one_more_most : (n : ℕ) → one_more n ≤ n + 1
one_more_most n = min-le_left (n + 1) last_count

-- a call more, which took n bytes, after at most as many calls as bytes
pub counted_call : (a b c d n : ℕ) → b ≤ a + d → c ≡ one_more b → 0 < n → c ≤ a + (d + n)
counted_call a b c d n most is some = let more = one_more_most b in rw is (omega (arith, most, more, some))

-- calls that each took their whole piece are one call: none went before the one that took the last bytes
pub whole_call : {S : Type 0} (calls : S → ℕ) (IsWhole : S → Type 0) (a b c : S) (size done n : ℕ) → done < size → (done ≡ 0 → b ≡ a)
    → (IsWhole b → 0 < done → (calls b ≡ one_more (calls a)) × (done ≡ size)) → calls c ≡ one_more (calls b)
    → (IsWhole c → IsWhole b × (n ≡ size - done)) → IsWhole c → (calls c ≡ one_more (calls a)) × (done + n ≡ size)
whole_call {S} calls IsWhole a b c size zero n less none one is parts whole =
    let rest : n ≡ size - 0 = (parts whole).1 in
    (is ∙ ap (λ s. one_more (calls s)) (none refl), omega (arith, rest))
whole_call {S} calls IsWhole a b c size (suc d) n less none one is parts whole =
    let all = (one (parts whole).0 (omega arith)).1 in
    absurd (omega (arith, less, all))

-- a put of the next bytes of a piece
pub put_more : (a b c : Option (List ℕ)) (piece : List ℕ) (i n : ℕ) → Grew a b (take i piece) → Grew b c (take n (take (length piece - i) (drop i piece))) → Grew a c (take (i + n) piece)
put_more a b c piece i n h k =
    let next : Grew b c (take n (drop i piece)) = subst (λ (t : List ℕ). Grew b c (take n t)) (take_rest piece i) k in
    subst (λ (t : List ℕ). Grew a c t) (sym (take-add i n piece)) (grew_append a b c (take i piece) (take n (drop i piece)) h next)

-- a take of n bytes of a chunk passes the limit
pub took_over : (a b c : Option (List ℕ)) (xs chunk : List ℕ) (n limit : ℕ) → n ≤ length chunk → limit - length xs < n → Took a b xs → Took b c (take n chunk) → TookMore a c limit
took_over a b c xs chunk n limit fit more h k =
    record { front = xs ++ take n chunk; took = took_append a b c xs (take n chunk) h k; over = simp (length-append, length-take) (omega arith) }

-- a take of n bytes of a chunk, which asks for one byte more than the limit leaves, at most
pub took_within : (a b c : Option (List ℕ)) (xs chunk : List ℕ) (n limit : ℕ) → length xs ≤ limit → length chunk ≤ (limit - length xs) + 1 → Took a b xs → Took b c (take n chunk) → TookAtMost a c (limit + 1)
took_within a b c xs chunk n limit fit most h k =
    record { front = xs ++ take n chunk; took = took_append a b c xs (take n chunk) h k; bound = simp (length-append, length-take) (omega arith) }

-- the next n of the items, copied to the front of a slice, and the items after them
pub took_copied : (items into copied : List ℕ) (at n : ℕ) → copied ≡ take n (drop at items) → length copied ≡ n → drop at items ≡ take n (copied ++ drop n into) ++ drop (at + n) items
took_copied items into copied at n is size =
    let front : take n (copied ++ drop n into) ≡ take n (drop at items) = take_at copied (drop n into) n size ∙ is in
    sym (rw (front, ← drop-drop n at items) (take-append-drop n (drop at items)))
