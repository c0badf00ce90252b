-- How often a play writes one word.
use Rattle.std.proofs.Common.{◌≡◌, ℕ, zero, suc, ◌+◌, ◌≤◌, Bool, true, false, cond, List, [], ◌∷◌, length, take, refl, arith}
use Rattle.std.specs.Prelude.{◌==◌}
use Rattle.std.proofs.lemmas.Bool.Decides.{eqb_tells, nat_tests}
use Rattle.std.proofs.lemmas.List.{length-append}
use Rattle.law_family.specs.model_device.specs.Image.{Journal, One, Two, gate}
use Rattle.law_family.specs.model_device.specs.Card.{heap_start}
use Rattle.law_family.specs.model_device.specs.Stopped.{writes}
use Rattle.law_family.specs.model_card.specs.Items.{Item, moves}
use Rattle.law_family.specs.model_play.specs.Given.{is_power}
use Rattle.law_family.specs.model_play.specs.Play.{Step, plays, start}
use Rattle.law_wear.specs.Laws.{atomic_writes, times_written, EachWritesFew, WearsGateTwice, WritesFew}
use Rattle.law_wear.specs.OfWord.{MadeByLine, MadeByMigration, MadeByPlay, MadeByRecovery, MadeOf, most_by_atomic, most_by_migration, most_by_plain, most_of_line, most_of_word, plain_writes, twice_if, NoItems, PlainFirst, AtomicFirst, NothingLeft, Replayed, NoMigration, Migrated, NoLines, LineFirst}
use Rattle.law_wear.specs.WordLaws.{ItemWearLaw, WordWearLaw}
use Rattle.law_wear.proofs.AtomicWear.{atomic_wear_law, hits, hits_most, hits_not, times_append}
use Rattle.law_wear.proofs.Plays.{wear_law}

-- ---- items

-- a whole atomic write
atomic_times : (j : Journal) (p : ℕ) (list : List (ℕ × List ℕ)) → WearsGateTwice j list → times_written p (writes j list) ≤ twice_if (p == gate j) 1
atomic_times j p list h = grind (arith, eqb_tells)

one_more : (b : Bool) (n : ℕ) → twice_if b (1 + n) ≡ twice_if b 1 + twice_if b n
one_more true n = omega arith
one_more false n = omega arith

twice_most : (b : Bool) (n k : ℕ) → n ≤ k → twice_if b n ≤ twice_if b k
twice_most true n k h = omega (arith, h)
twice_most false n k h = h

plain_more : (b : Bool) (n : ℕ) → cond b (1 + n) 0 ≡ cond b 1 0 + cond b n 0
plain_more true n = refl
plain_more false n = refl

-- a plain write
plain_times : (p : ℕ) (w : ℕ × List ℕ) → heap_start ≤ w.0 → hits w.0 p ≤ most_by_plain p 1
plain_times p w h = grind (arith, hits, hits_most, nat_tests, hits_not)

made_counts : (size : ℕ) (is : List Item) (ws : List (ℕ × List ℕ)) → size ≤ 16384 → MadeOf size is ws → length ws ≡ moves is
made_counts size _ _ high NoItems = refl
made_counts size _ _ high (PlainFirst p is ws low m) = let rest = made_counts size is ws high m in omega (arith, rest)
made_counts size _ _ high (AtomicFirst list c is ws atomic m) =
    grind (arith, made_counts size is ws high m, (atomic_wear_law Two size list high atomic).count, length-append (writes Two list) ws)

made_times : (size : ℕ) (is : List Item) (ws : List (ℕ × List ℕ)) → size ≤ 16384 → MadeOf size is ws → (p : ℕ) → times_written p ws ≤ most_by_atomic p (atomic_writes is) + most_by_plain p (plain_writes is)
made_times size _ _ high NoItems p = omega arith
made_times size _ _ high (PlainFirst w is ws low m) p = grind (arith, hits, plain_times, plain_more, made_times size is ws high m p)
made_times size _ _ high (AtomicFirst list c is ws atomic m) p =
    grind (arith, made_times size is ws high m p, atomic_times Two p list (atomic_wear_law Two size list high atomic), one_more (p == gate Two) (atomic_writes is), times_append p (writes Two list) ws)

-- items write the gate twice for each atomic write, and any other word at most once for each
pub item_wear_law : ItemWearLaw
item_wear_law size is ws high m = record { count = made_counts size is ws high m; each = λ p. made_times size is ws high m p }

-- ---- lines

take_times : (p n : ℕ) (ws : List (ℕ × List ℕ)) → times_written p (take n ws) ≤ times_written p ws
take_times p zero ws = omega arith
take_times p (suc n) [] = omega arith
take_times p (suc n) (w ∷ ws) = let rest = take_times p n ws in omega (arith, rest)

recovery_times : (size p : ℕ) (ws : List (ℕ × List ℕ)) → size ≤ 16384 → MadeByRecovery size ws → times_written p ws ≤ 1
recovery_times size p _ high NothingLeft = omega arith
recovery_times size p _ high (Replayed j list atomic) = (atomic_wear_law j size list high atomic).recovery p

migration_times : (size p : ℕ) (b : Bool) (ws : List (ℕ × List ℕ)) → size ≤ 16384 → MadeByMigration size b ws → times_written p ws ≤ most_by_migration b p
migration_times size p _ _ high NoMigration = omega arith
migration_times size p _ _ high (Migrated list atomic) = atomic_times One p list (atomic_wear_law One size list high atomic)

line_times : (size p : ℕ) (t : Step) (ws : List (ℕ × List ℕ)) → size ≤ 16384 → WritesFew t → MadeByLine size t ws → times_written p ws ≤ most_of_line (is_power t.line) p t
line_times size p t ws high few h = grind (arith, recovery_times, migration_times, times_append, take_times, made_times, twice_most)

-- ---- plays

play_times : (size p : ℕ) (ts : List Step) (ws : List (ℕ × List ℕ)) → size ≤ 16384 → EachWritesFew ts → MadeByPlay size ts ws → times_written p ws ≤ most_of_word p ts
play_times size p _ _ high few NoLines = omega arith
play_times size p _ _ high few (LineFirst t ts ws vs m rest) = grind (arith, line_times, times_append, play_times size p ts vs high few.1 rest)

-- no word is written more often than the sum of what the lines of a play write it at the most
pub word_wear_law : WordWearLaw
word_wear_law ls m ws may image n are made is p = play_times (length m) p (take n (plays (start m) ls ws)) made image.high (wear_law ls m ws may image n are).each is
