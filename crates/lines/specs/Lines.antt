-- The line of text for each answer and each notice.
use Rattle.std.specs.Prelude.{ℕ, ◌++◌, codes, decimal}
use Rattle.text.specs.Hex.{hex_text}
use Rattle.text.specs.Lines.{line_feed}
use Rattle.register.specs.Values.{Bytes}
use Rattle.server.specs.Calls.{Answer, Reply, Silent, Refused, Tallied, Counts}
use Rattle.lines.specs.declared.notice.Notice.{Notice}
use Rattle.lines.specs.declared.notice.Notice.TheVariants.{Stack, Damaged, End, NoHead}

-- A word, with its blank, and a number.
abbrev pub number_text : Bytes → ℕ → Bytes
number_text word number = word ++ decimal number

-- The four counts, with a blank between two.
abbrev pub tally_text : Counts → Bytes
tally_text counts = codes "tally " ++ decimal counts.done ++ codes " " ++ decimal counts.repeated ++ codes " " ++ decimal counts.silenced ++ codes " " ++ decimal counts.dropped

-- A reply's bytes are in capital hexadecimal.
abbrev pub answer_text : Answer → Bytes
answer_text (Reply reply) = codes "reply " ++ hex_text reply
answer_text (Silent number) = number_text (codes "silent ") number
answer_text (Refused number) = number_text (codes "refused ") number
answer_text (Tallied counts) = tally_text counts

abbrev pub answer_line : Answer → Bytes
answer_line answer = answer_text answer ++ line_feed

abbrev pub notice_text : Notice → Bytes
notice_text (Stack number) = number_text (codes "pile ") number
notice_text Damaged = codes "damaged"
notice_text End = codes "end"
notice_text NoHead = codes "no head"

abbrev pub notice_line : Notice → Bytes
notice_line notice = notice_text notice ++ line_feed
