-- The records of the code in the words of the definitions.
use Rattle.std.specs.Prelude.{◌≡◌, ℕ, ◌+◌, Bool, cond, List, map, slice_set}
use Rattle.register.specs.Values.{Bytes}
use Rattle.register.specs.Model.{bytes_of}
use Rattle.register.specs.Places.{place_in}
use Rattle.server.specs.Serving as serving
use Rattle.server.specs.Settling as settling
use Rattle.serving.specs.declared.record.Record.{Record}
use Rattle.serving.specs.declared.record.Ending.{Ending}
use Rattle.serving.specs.declared.record.Ending.TheVariants.{Repeated, Silenced, Dropped, Done}

abbrev pub key_in : Record → serving.Key
key_in r = record { peer = r.key.peer; id = r.key.id; expiry = r.expiry }

abbrev pub record_of : Record → serving.Record
record_of r = record { key = key_in r; reply = bytes_of r.reply }

abbrev pub records_of : List Record → List serving.Record
records_of rs = map record_of rs

-- the record of a reply that was given at t, for the exchange lifetime
abbrev pub record_for : (peer id t : ℕ) → Bytes → serving.Record
record_for peer id t reply = record { key = record { peer = peer; id = id; expiry = t + 247000 }; reply = reply }

-- the records with one more, where the place rule says
abbrev pub recorded_in : List serving.Record → serving.Record → List serving.Record
recorded_in rs r = slice_set rs (place_in (serving.expiries (serving.keys rs))) r

abbrev pub ending_of : Ending → settling.Ending
ending_of (Repeated b) = settling.Repeated
ending_of Silenced = settling.Silenced
ending_of Dropped = settling.Dropped
ending_of Done = settling.Done

-- the reply that is repeated is this one
abbrev pub Repeats : Ending → Bytes → Type 0
Repeats (Repeated b) reply = bytes_of b ≡ reply
Repeats Silenced reply = Unit {0}
Repeats Dropped reply = Unit {0}
Repeats Done reply = Unit {0}

-- how a change ends that this peer asks for at t, with this Message ID, confirmable or not
abbrev pub ending_at : (t peer id : ℕ) → (con : Bool) → List serving.Key → settling.Ending
ending_at t peer id con ks = cond (serving.live_at t peer id ks) (cond con settling.Repeated settling.Silenced) (cond (serving.full ks t) settling.Dropped settling.Done)
