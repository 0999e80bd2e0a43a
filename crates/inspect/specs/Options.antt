-- The options of a message as text.
use Rattle.std.specs.Prelude.{ℕ, List, [], ◌∷◌, ◌++◌, Ok, Err, codes, decimal, Result}
use Rattle.text.specs.Hex.{hex_text}
use Rattle.message.specs.declared.fault.MessageFault.TheVariants.{InOption}
use Rattle.message.specs.declared.fault.Rejection.{Rejection}
use Rattle.message.specs.declared.fault.Rejection.TheVariants.{Fault}
use Rattle.message.specs.Options.{ReadOption, OptionList, broken, ended}
use Rattle.message.specs.Texts.{kind_text}

-- An option as KIND:NUMBER@PLACE=HEX.
abbrev pub option_text : ReadOption → List ℕ
option_text o = kind_text o.kind ++ codes ":" ++ decimal o.number ++ codes "@" ++ decimal o.place ++ codes "=" ++ hex_text o.value

-- Options that come after others, with a comma before each.
abbrev pub further_text : List ReadOption → List ℕ
further_text [] = []
further_text (o ∷ os) = codes "," ++ option_text o ++ further_text os

-- All the options, joined by commas, or a dash where there are none.
abbrev pub options_text : List ReadOption → List ℕ
options_text [] = codes "-"
options_text (o ∷ os) = option_text o ++ further_text os

-- The text of options that are read from a datagram, or why there is none.
abbrev pub text_in : (List ReadOption → List ℕ) → OptionList → Result (List ℕ) Rejection
text_in shown (broken f) = Err (Fault (InOption f))
text_in shown (ended options end) = Ok (shown options)
