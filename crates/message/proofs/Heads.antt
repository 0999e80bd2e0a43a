-- The header of a datagram that is a message.
use Rattle.std.proofs.Common.{◌≡◌, ℕ, ◌+◌, ◌*◌, ◌/◌, ◌%◌, ◌≤◌, List, length, take, arith}
use Rattle.std.proofs.lemmas.Bool.Decides.{nat_tests}
use Rattle.message.specs.Header.{type_of, opens, framed}

-- a header in which nothing is at fault
pub framed_opens : (size first code high low : ℕ) (rest : List ℕ) → first / 64 ≡ 1 → first % 16 ≤ 8 → first % 16 ≤ length rest → (code ≡ 0 → first % 16 + length rest ≡ 0) → framed size first code high low rest ≡ opens (record { type = type_of (first / 16 % 4); code = code; id = high * 256 + low; token = take (first % 16) rest }) (4 + first % 16)
framed_opens size first code high low rest v s w e = grind (arith, nat_tests)
