-- What stays at the front through one step after another.
use Rattle.std.proofs.Common.{ℕ, ◌≤◌, List, length, take, sym, ap, ◌∙◌, arith}
use Rattle.std.proofs.lemmas.List.{length-take, take-take}
use Rattle.inspect.specs.Written.{StaysInFront}

pub front_through : (a b c : List ℕ) → StaysInFront a b → StaysInFront b c → StaysInFront a c
front_through a b c p q =
    let le : length a ≤ length b = omega (arith, length-take (length a) b, ap length p) in
    sym (take-take (length a) (length b) c le) ∙ ap (take (length a)) q ∙ p
