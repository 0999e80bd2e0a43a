-- How parts of a message are printed.
use Rattle.std.specs.Prelude.{ℕ, ◌+◌, ◌/◌, ◌%◌, List, [], ◌∷◌, codes}
use Rattle.message.specs.declared.header.MessageType.{MessageType}
use Rattle.message.specs.declared.header.MessageType.TheVariants.{Con, Non, Ack, Rst}
use Rattle.message.specs.Options.{Kind, host, port, path, proxy, ignored, unknown}

abbrev pub type_text : MessageType → List ℕ
type_text Con = codes "CON"
type_text Non = codes "NON"
type_text Ack = codes "ACK"
type_text Rst = codes "RST"

-- The class of a code, a dot, and the detail in two digits. 48 is the digit 0, and 46 the dot.
abbrev pub code_text : ℕ → List ℕ
code_text code = (48 + code / 32) ∷ (46 ∷ ((48 + code % 32 / 10) ∷ ((48 + code % 32 % 10) ∷ [])))

abbrev pub kind_text : Kind → List ℕ
kind_text host = codes "Host"
kind_text port = codes "Port"
kind_text path = codes "Path"
kind_text proxy = codes "Proxy"
kind_text ignored = codes "Ignored"
kind_text unknown = codes "Unknown"
