-- The fields of a message as text.
use Rattle.std.specs.Prelude.{ℕ, List, [], ◌∷◌, ◌++◌, codes, decimal}
use Rattle.text.specs.Hex.{hex_text}
use Rattle.message.specs.Header.{Head}
use Rattle.message.specs.Texts.{code_text, type_text}

-- Bytes in hexadecimal, or a dash where there are none.
abbrev pub bytes_text : List ℕ → List ℕ
bytes_text [] = codes "-"
bytes_text (b ∷ bs) = hex_text (b ∷ bs)

-- What comes before the options of a message, with a blank after each field.
abbrev pub head_text : Head → List ℕ
head_text h = codes "message " ++ type_text h.type ++ codes " " ++ code_text h.code ++ codes " " ++ decimal h.id ++ codes " " ++ bytes_text h.token ++ codes " "
