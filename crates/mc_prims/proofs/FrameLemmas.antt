-- Addresses that lie in segments, and a stack whose top is replaced.
use Rattle.std.proofs.Common.{◌≡◌, ℕ, ◌+◌, ◌≤◌, ◌<◌, true, false, List, length, arith}
use Rattle.model_machine.specs.Primitives.{Cipher, Des, TripleDes, Aes, is_message}
use Rattle.model_machine.specs.Frame.{Frame, is_outside, is_under, frame_after_push, frame_after_pop, frame_with_top}

-- a byte in a segment has an address below FFFF
pub inside_low : (f : Frame) (a : ℕ) → is_outside f a 1 ≡ false → length f.fixed ≤ 4096 → f.dt ≤ 0x8200 → a + 1 < 65536
inside_low f a inside fixed dt = grind arith

-- pushing as many bytes as were popped replaces the top of the stack
pub pushed_popped : (f : Frame) (n : ℕ) (b : List ℕ) → length b ≡ n → is_under f n ≡ false → frame_after_push (frame_after_pop f n) b ≡ frame_with_top f b
pushed_popped f n b size under = grind arith

-- a message has a byte
pub message_some : (c : Cipher) (n : ℕ) → is_message c n ≡ true → 1 ≤ n
message_some Des n whole = grind arith
message_some TripleDes n whole = grind arith
message_some Aes n whole = grind arith
