use Rattle.std.proofs.Common.{true, false, sym, ◌∙◌, arith}
use Rattle.std.specs.Array.{IsWholeChunk}
use Rattle.std.proofs.lemmas.Bool.{eq-eqb, ne_eqb}
use Rattle.trace.proofs.Checks.{entry_checked}
use Rattle.trace.proofs.reader.read_block.Goals as goal

pub returns-then-check_sum-stored_check : goal.returns-then-check_sum-stored_check
returns-then-check_sum-stored_check c =
    let whole : IsWholeChunk c.args.bytes.now c.in_ok-block.block.now 512 = grind arith in
    entry_checked c.args.bytes.now c.in_ok-block.block.now false whole
    (ne_eqb _ _ (λ right. c.if-check_sum-stored_check.true (c.check_sum.ensures ∙ sym (c.stored_check.ensures ∙ right))))

pub returns : goal.returns
returns c =
    let whole : IsWholeChunk c.args.bytes.now c.in_ok-block.block.now 512 = grind arith in
    c.read_content.ensures
    ∙ entry_checked c.args.bytes.now c.in_ok-block.block.now true whole
    (eq-eqb _ _ (sym c.stored_check.ensures ∙ (sym c.if-check_sum-stored_check.false ∙ c.check_sum.ensures)))
