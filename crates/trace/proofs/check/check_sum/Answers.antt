use Rattle.std.proofs.Common.{rules, ℕ, ◌*◌, ◌%◌, ap, ◌∙◌, arith}
use borrow.Author.Tests.{tests}
use Rattle.std.proofs.lemmas.Iterator.{YieldsList-from_map}
use Rattle.std.proofs.lemmas.Iterator.Consumers.{YieldsList-at, sum_by_from_yields_List, fits_by_from_yields_list}
use Rattle.std.proofs.lemmas.Iterator.Adapters.{serves_from_places}
use Rattle.trace.proofs.Weighing.{YieldsList-from_weights, sum-weighed, weighted-le, product-lt}
use Rattle.trace.proofs.check.check_sum.Goals as goal

pub sum-sum-requires-clause-can : goal.sum-sum-requires-clause-can
sum-sum-requires-clause-can c = (
  (tt, tt),
  serves_from_places (YieldsList-from_weights c.args.bytes.now (grind arith) (grind arith) c.requires) (λ x q r. search rules)
      (λ x k within e. let fits = product-lt c.args.bytes.now (λ i. omega (arith, c.type_inv.bytes i)) c.requires x.0.now x.1 k within e in search rules),
)

pub sum-sum-requires-clause-fits : goal.sum-sum-requires-clause-fits
sum-sum-requires-clause-fits c =
    let all = weighted-le 1 c.args.bytes.now (λ i. omega (arith, c.type_inv.bytes i)) (omega (arith, c.requires)) in
    fits_by_from_yields_list (λ (p : ℕ × ℕ). p.0 * p.1) _ c.map.result _ (YieldsList-from_map _ (λ (p : ℕ × ℕ). p.0 * p.1) (YieldsList-at c.map.ensures.source (YieldsList-from_weights c.args.bytes.now (grind arith) (grind arith) c.requires)) c.map.ensures.closure (λ x r q k. search (rules, tests)))
    (omega (arith, all, c.requires, sum-weighed 1 c.args.bytes.now))

pub returns : goal.returns
returns c =
    ap (λ n. n % 65521)
    (sum_by_from_yields_List (λ (p : ℕ × ℕ). p.0 * p.1) _ c.map.result _ c.sum-sum.ensures.ran (YieldsList-from_map _ (λ (p : ℕ × ℕ). p.0 * p.1) (YieldsList-at c.map.ensures.source (YieldsList-from_weights c.args.bytes.now (grind arith) (grind arith) c.requires)) c.map.ensures.closure (λ x r q k. search (rules, tests)))
    ∙ sum-weighed 1 c.args.bytes.now)
