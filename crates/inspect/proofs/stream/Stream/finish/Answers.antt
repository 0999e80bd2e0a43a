use Rattle.std.proofs.Common.{◌≡◌, ◌<◌, ◌++◌, length, vec_items, sym, ap, ◌∙◌, append_assoc, rules}
use Rattle.std.proofs.lemmas.Result.{IfOk-weaker}
use Rattle.inspect.specs.Line.{line_text, line_kind}
use Rattle.inspect.specs.Counts.{counted, totals}
use Rattle.inspect.specs.Stream.{closing, state_of}
use Rattle.inspect.proofs.Feeding.{closed_line, closed_none}
use Rattle.inspect.proofs.Reports.{whole_report}
use Rattle.inspect.proofs.stream.Stream.finish.Goals as goal
use Rattle.inspect.proofs.stream.Stream.finish.Goals.{then-not-is_empty+in_ok-end_line, else-not-is_empty}

pub returns-in_err-end_line : goal.returns-in_err-end_line
returns-in_err-end_line c = search (rules, whole_report)

-- The counts come after the answer to the last line, where there is one.
closed : (c : goal.After-drop-self-2) → vec_items c.if-not-is_empty.out ++ totals c.if-not-is_empty.self.tally ≡ vec_items c.args.out.now ++ closing (state_of c.args.self)
closed c =
    let line = vec_items c.args.self.line in
    let before = vec_items c.args.out.now in
    elim c.if-not-is_empty.branch [
      | then-not-is_empty+in_ok-end_line w ↦
          let some : 0 < length line = search rules in
          (λ i. (ap vec_items w.out-is ∙ w.in_ok-end_line.ensures.text) i ++ totals ((ap state_of w.self-is ∙ w.in_ok-end_line.ensures.state) i).tally)
          ∙ append_assoc before (line_text line) (totals (counted (line_kind line) c.args.self.tally))
          ∙ ap (λ l. before ++ l) (sym (closed_line line c.args.self.tally some))
      | else-not-is_empty w ↦
          let none : length line ≡ 0 = search rules in
          (λ i. vec_items (w.out-is i) ++ totals (w.self-is i).tally)
          ∙ ap (λ l. before ++ l) (sym (closed_none line c.args.self.tally none))
    ]

pub returns : goal.returns
returns c = record { text = IfOk-weaker c.push_totals.result _ _ (λ done e. e ∙ closed c) c.push_totals.ensures; whole = whole_report }
