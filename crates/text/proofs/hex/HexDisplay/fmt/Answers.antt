use Rattle.std.proofs.Common.{◌≡◌, ◌++◌, ◌∙◌, append_assoc, rules}
use Rattle.std.proofs.Output.{has_written_append}
use Rattle.std.proofs.lemmas.Str.{IsUtf8-from_ascii}
use Rattle.text.proofs.Digits.{text_append}
use Rattle.text.proofs.hex.HexDisplay.fmt.Goals as goal
use Rattle.text.specs.Hex.{hex_text}

pub unreachable-requires : goal.unreachable-requires
unreachable-requires g c = c.in_default.ensures.cases.0 (rw c.part_digits-room.ensures.text (IsUtf8-from_ascii _ c.part_digits-room.ensures.ascii))

pub loop-part-preserved : goal.loop-part-preserved
loop-part-preserved g c =
    let steps = c.in-Some.ensures.steps in
    let shown : c.in-Ok.text.now ≡ hex_text c.in-Some.part.now = c.in-Ok.ensures.cases.0 ∙ c.part_digits-room.ensures.text in (
      search rules,
      tt,
      steps.0 ∙ c.loop-part.invariant.2,
      λ plain.
          let so_far = c.loop-part.invariant.3 plain in (
            so_far.0 ++ c.in-Ok.text.now,
            has_written_append _ _ _ _ _ _ so_far.1 (search rules),
            rw (append_assoc, shown, ← text_append) (rw steps.1.0 at so_far.2),
          ),
    )
