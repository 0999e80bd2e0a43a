-- A block of a trace: 512 bytes, of which the last two hold the check of those before them.
use Rattle.std.specs.Prelude.{ℕ, ◌+◌, ◌*◌, ◌%◌, cond, ◌&&◌, ◌||◌, List, [], ◌∷◌, length, take, drop, ◌==◌, nat_le, slice_index}

-- what a block holds: the head of a trace with the number of a stack, an arrival, a tally, or nothing that is good
pub data Entry : Type 0 where
  head : (stack : ℕ) → Entry
  arrival : (moment peer : ℕ) → (datagram : List ℕ) → Entry
  tally : Entry
  damaged : Entry

-- `n` bytes from the place `at` on
abbrev pub part : (at n : ℕ) → List ℕ → List ℕ
part at n bytes = take n (drop at bytes)

-- the number that bytes stand for after the bytes before them have given `n`
abbrev pub number_after : ℕ → List ℕ → ℕ
number_after n [] = n
number_after n (b ∷ bs) = number_after (n * 256 + b) bs

-- the number that bytes stand for, most significant byte first
abbrev pub number : List ℕ → ℕ
number bytes = number_after 0 bytes

-- the first byte times `weight`, the next times one more, and so on, added up
abbrev pub weighted : (weight : ℕ) → List ℕ → ℕ
weighted weight [] = 0
weighted weight (b ∷ bs) = b * weight + weighted (weight + 1) bs

-- byte i times i + 1, added up, modulo 65521
abbrev pub check_of : List ℕ → ℕ
check_of bytes = weighted 1 bytes % 65521

-- a head asks for stack 1 or 2
abbrev pub head_in : ℕ → Entry
head_in stack = cond (stack == 1 || stack == 2) (head stack) damaged

-- bytes 1 and 2 are the length of the datagram, at most 480, bytes 3 to 6 the peer and bytes 7 to 14 the moment; the
-- datagram begins at byte 15
abbrev pub arrival_in : List ℕ → Entry
arrival_in block =
    cond (nat_le (number (part 1 2 block)) 480)
    (arrival (number (part 7 8 block)) (number (part 3 4 block)) (part 15 (number (part 1 2 block)) block))
    damaged

-- byte 0 is the kind, and a head has the stack in byte 1; other bytes may hold anything
abbrev pub content_in : List ℕ → Entry
content_in block =
    cond (slice_index block 0 == 1) (head_in (slice_index block 1))
    (cond (slice_index block 0 == 2) (arrival_in block)
    (cond (slice_index block 0 == 3) tally damaged))

-- what these bytes hold as a block
abbrev pub entry_in : List ℕ → Entry
entry_in bytes = cond (length bytes == 512 && number (part 510 2 bytes) == check_of (take 510 bytes)) (content_in bytes) damaged
