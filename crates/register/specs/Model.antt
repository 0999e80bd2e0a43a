-- The values of the code as lists of bytes and numbers.
use Rattle.register.specs.declared.values.ChangeRequest.{ChangeRequest}
use Rattle.register.specs.declared.values.ReadAnswer.{ReadAnswer}
use Rattle.register.specs.declared.values.ChangeAnswer.{ChangeAnswer}
use Rattle.register.specs.Values as values

-- bytes and a segment are lists of bytes already, and a path is a list of segments
abbrev pub bytes_of : values.Bytes → values.Bytes
bytes_of b = b

abbrev pub segment_of : values.Bytes → values.Bytes
segment_of s = s

abbrev pub segments_of : values.Path → values.Path
segments_of p = p

abbrev pub change_of : ChangeRequest → values.Change
change_of c = record { method = c.method; path = segments_of c.path; body = bytes_of c.body }

abbrev pub read_of : ReadAnswer → values.Read
read_of r = record { shown = record { code = r.code; body = bytes_of r.body }; max_age = r.max_age }

abbrev pub said_of : ChangeAnswer → values.Said
said_of a = record { code = a.code; body = bytes_of a.body; max_age = a.max_age }
