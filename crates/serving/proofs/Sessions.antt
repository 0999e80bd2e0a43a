-- A list of calls, all of which are answered.
use Rattle.std.proofs.Common.{◌≡◌, ℕ, ◌≤◌, List, ◌++◌, length, drop, ap, ◌∙◌, append-nil}
use Rattle.std.proofs.lemmas.List.{at_drop_all}
use Rattle.register.specs.Meaning.{Meaning}
use Rattle.calls.specs.declared.answer.Served.{Served}
use Rattle.calls.specs.declared.call.Call as code
use Rattle.server.specs.Requests.{coap}
use Rattle.server.specs.Serving.{Server, run, end}
use Rattle.calls.specs.Model.{calls_of, served_of}

module _ (m : Meaning) (cs : List code.Call) (i : ℕ) (h : length cs ≤ i) (v : Server m.State) where
  pub run_all : (xs : List Served) → served_of xs ++ run m coap v (calls_of 320 (drop i cs)) ≡ served_of xs
  run_all xs = ap (λ l. served_of xs ++ l) (at_drop_all (λ l. run m coap v (calls_of 320 l)) cs i h) ∙ append-nil (served_of xs)

  pub end_all : end m coap v (calls_of 320 (drop i cs)) ≡ v
  end_all = at_drop_all (λ l. end m coap v (calls_of 320 l)) cs i h
