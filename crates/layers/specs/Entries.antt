-- The entries of the code as those of the definitions.
use Rattle.std.specs.Prelude.{List, map}
use Rattle.register.specs.Model.{bytes_of, segments_of}
use Rattle.register.specs.Cached.{Entry}
use Rattle.layers.specs.declared.entry.CacheEntry.{CacheEntry}

abbrev pub entry_of : CacheEntry → Entry
entry_of e = record { path = segments_of e.path; body = bytes_of e.body; stored = e.stored; expiry = e.expiry }

abbrev pub entries_of : List CacheEntry → List Entry
entries_of es = map entry_of es
