-- A cache of eight entries before a resource. Its register is the one below.
use Rattle.std.specs.Prelude.{◌≡◌, ℕ, ◌+◌, ◌-◌, ◌*◌, ◌/◌, ◌<◌, ◌≤◌, min, Bool, true, false, cond, ◌&&◌, ◌||◌, List, [], ◌∷◌, map, replicate, nat_le, nat_lt, slice_set}
use Rattle.std.specs.List.{AllByRecursion}
use Rattle.register.specs.declared.values.ReadCode.{ReadCode}
use Rattle.register.specs.declared.values.ReadCode.TheVariants.{Content, NotFound}
use Rattle.register.specs.Values.{Bytes, Path, same_path, IsMoment, Shown, Read, IsBody, nothing}
use Rattle.register.specs.Meaning.{Meaning}
use Rattle.register.specs.Places.{first, place_in}

-- a 2.05 that was read: its path and body, the moment at which it was stored, and the moment up to which it is fresh
pub record Entry : Type 0 where
  pub path : Path
  pub body : Bytes
  pub stored : ℕ
  pub expiry : ℕ

-- an empty place
abbrev pub no_entry : Entry
no_entry = record { path = []; body = []; stored = 0; expiry = 0 }

abbrev pub all_empty : List Entry
all_empty = replicate 8 no_entry

pub record Cached (S : Type 0) : Type 0 where
  pub below : S
  pub entries : List Entry

-- an entry answers a read of its path from the moment when it was stored until it expires; an empty place has expiry 0
abbrev pub answers_at : Path → ℕ → Entry → Bool
answers_at p t e = same_path e.path p && (nat_le e.stored t && nat_lt t e.expiry)

abbrev pub hit : Path → ℕ → List Entry → Bool
hit p t [] = false
hit p t (e ∷ es) = answers_at p t e || hit p t es

-- the body, with the seconds that are left, rounded down; a Max-Age has 32 bits
abbrev pub from_entry : Entry → ℕ → Read
from_entry e t = record { shown = record { code = Content; body = e.body }; max_age = min ((e.expiry - t) / 1000) 4294967295 }

abbrev pub from_entries : Path → ℕ → List Entry → Read
from_entries p t [] = nothing
from_entries p t (e ∷ es) = cond (answers_at p t e) (from_entry e t) (from_entries p t es)

-- a new entry replaces one of the same path, or else goes where the place rule says; an empty place has no path
abbrev pub holds : Path → Entry → Bool
holds p e = nat_lt 0 e.expiry && same_path e.path p

abbrev pub holds_any : Path → List Entry → Bool
holds_any p [] = false
holds_any p (e ∷ es) = holds p e || holds_any p es

abbrev pub entry_place : Path → List Entry → ℕ
entry_place p es = cond (holds_any p es) (first (holds p) es) (place_in (map (λ e. e.expiry) es))

-- a 2.05 with a Max-Age of 1 at least is kept
abbrev pub is_content : ReadCode → Bool
is_content Content = true
is_content NotFound = false

abbrev pub entry_for : Path → ℕ → Read → Entry
entry_for p t r = record { path = p; body = r.shown.body; stored = t; expiry = t + 1000 * r.max_age }

abbrev pub kept_after : Path → ℕ → Read → List Entry → List Entry
kept_after p t r es = cond (is_content r.shown.code && nat_le 1 r.max_age) (slice_set es (entry_place p es) (entry_for p t r)) es

-- what an entry says fits, and is what the register shows, from the moment when it was stored until it expires
abbrev pub Fresh : (Path → ℕ → Shown) → Entry → Type 0
Fresh shows e = IsBody e.body × ((u : ℕ) → IsMoment u → e.stored ≤ u → u < e.expiry → shows e.path u ≡ record { code = Content; body = e.body })

abbrev pub cached : Meaning → Meaning
cached m = record {
  Register = m.Register;
  shows = m.shows;
  says = m.says;
  leaves = m.leaves;
  State = Cached m.State;
  register = λ s. m.register s.below;
  reads = λ s p t. cond (hit p t s.entries) (from_entries p t s.entries) (m.reads s.below p t);
  after_read = λ s p t. cond (hit p t s.entries) s (record { below = m.after_read s.below p t; entries = kept_after p t (m.reads s.below p t) s.entries });
  answers = λ s c t. m.answers s.below c t;
  after_change = λ s c t. record { below = m.after_change s.below c t; entries = all_empty };
  Fixed = m.Fixed;
  fixed = λ s. m.fixed s.below;
  Sound = λ s. m.Sound s.below × AllByRecursion (Fresh (m.shows (m.register s.below))) s.entries;
}
