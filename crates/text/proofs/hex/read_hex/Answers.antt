use Rattle.std.proofs.Common.{◌≡◌, ◌+◌, ◌*◌, [], ◌∷◌, ◌++◌, vec_items, ap, ◌∙◌, rules}
use Rattle.text.proofs.Pairs.{sofar_blank, sofar_first, sofar_second, sofar_wrong}
use Rattle.text.proofs.hex.read_hex.Goals as goal
use Rattle.text.proofs.hex.read_hex.Goals.{in-Some-high+in_ok-push-in-Some-high, in-None}

pub loop-c-preserved-then-is_blank : goal.loop-c-preserved-then-is_blank
loop-c-preserved-then-is_blank c = sofar_blank c.loop-c.invariant c.loop-c-test.true c.if-is_blank.ensures

pub returns-in_default : goal.returns-in_default
returns-in_default c = search (rules, sofar_wrong)

pub loop-c-preserved : goal.loop-c-preserved
loop-c-preserved c =
    elim c.match-high.branch [
      | in-Some-high+in_ok-push-in-Some-high w ↦
          let pushed : vec_items c.match-high.bytes ≡ vec_items c.loop-c.bytes ++ (16 * w.in-Some-high.first + c.in-Some.digit) ∷ [] =
          ap vec_items w.bytes-is ∙ w.in_ok-push-in-Some-high.ensures.items in
          rw (w.high-is, pushed)
          (sofar_second c.loop-c.invariant c.loop-c-test.true c.if-is_blank.ensures w.in-Some-high.first c.in-Some.digit c.in-Some.ensures w.in-Some-high.is)
      | in-None w ↦
          rw (w.high-is, w.bytes-is)
          (sofar_first c.loop-c.invariant c.loop-c-test.true c.if-is_blank.ensures c.in-Some.digit c.in-Some.ensures w.in-None.is)
    ]
