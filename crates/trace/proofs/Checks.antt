-- What a block of 512 bytes holds, by whether its check is right.
use Rattle.std.proofs.Common.{◌≡◌, ℕ, Bool, cond, eqb, List, take, sym, subst}
use Rattle.std.proofs.lemmas.Bool.{eq-eqb}
use Rattle.std.specs.Array.{IsWholeChunk}
use Rattle.trace.specs.Blocks.{damaged, part, number, check_of, content_in, entry_in}

pub entry_checked : (bytes block : List ℕ) (right : Bool) → IsWholeChunk bytes block 512 → eqb (number (part 510 2 block)) (check_of (take 510 block)) ≡ right → cond right (content_in block) damaged ≡ entry_in bytes
entry_checked bytes block right whole is =
    subst (λ bs. eqb (number (part 510 2 bs)) (check_of (take 510 bs)) ≡ right → cond right (content_in bs) damaged ≡ entry_in bytes) (sym whole.same)
    (λ checked. rw (eq-eqb _ 512 whole.long, checked)) is
