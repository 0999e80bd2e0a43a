-- Laws of the definitions: reading and writing are inverse to each other, and what the definitions of options mean.
use Rattle.std.specs.Prelude.{◌≡◌, ℕ, ◌+◌, ◌<◌, ◌≤◌, Bool, false, ◌||◌, List, [], ◌∷◌, length, take, drop, ◌==◌, slice_index}
use Rattle.message.specs.declared.fault.OptionFault.TheVariants.{Truncated}
use Rattle.message.specs.declared.fault.MessageFault.TheVariants.{TokenTruncated, InOption}
use Rattle.message.specs.declared.fault.Rejection.TheVariants.{Fault}
use Rattle.message.specs.Options.{ReadOption, ended, kind_by, walk, options_from}
use Rattle.message.specs.Encoding.{Message, encode}
use Rattle.message.specs.Message.{refused, message, parse, WellFormed}

abbrev pub Bytes : List ℕ → Type 0
Bytes d = (i : ℕ) → slice_index d i < 256

-- reader and writer are inverse to each other
pub record RoundTrip : Type 0 where
  -- a message that can be written is read again from its bytes
  pub read_again : (m : Message) → WellFormed m → parse (encode m) ≡ message m
  -- a datagram that is a message is what is written of that message
  pub written_again : (d : List ℕ) (m : Message) → Bytes d → parse d ≡ message m → (encode m ≡ d) × WellFormed m
  -- two datagrams that are messages are equal exactly when their fields are
  pub same_fields : (d e : List ℕ) (m n : Message) → Bytes d → Bytes e → parse d ≡ message m → parse e ≡ message n → (d ≡ e → m ≡ n) × (m ≡ n → d ≡ e)

abbrev pub used : ℕ → List ℕ → Bool
used n [] = false
used n (m ∷ ms) = n == m || used n ms

-- each option has the kind that follows from all the numbers before it, of which `came` are the earlier ones
abbrev pub KindsAfter : List ℕ → List ReadOption → Type 0
KindsAfter came [] = Unit {0}
KindsAfter came (o ∷ os) = (o.kind ≡ kind_by (used o.number came) o.number (length o.value)) × KindsAfter (o.number ∷ came) os

-- each value stands in the datagram at its place
abbrev pub InPlace : List ℕ → List ReadOption → Type 0
InPlace d [] = Unit {0}
InPlace d (o ∷ os) = (o.value ≡ take (length o.value) (drop o.place d)) × (o.place + length o.value ≤ length d) × InPlace d os

-- what the definitions of options mean
pub record OptionLaws : Type 0 where
  -- the budget of a walk is never spent: a larger one gives the same
  pub whole_walk : (d : List ℕ) (at before budget : ℕ) → length d < budget → walk budget d at before ≡ options_from d at before
  -- a second use decided from the number before is a use anywhere before
  pub second_use : (d : List ℕ) (at : ℕ) (options : List ReadOption) (end : ℕ) → options_from d at 0 ≡ ended options end → KindsAfter [] options
  -- values are parts of the datagram
  pub in_place : (d : List ℕ) (at : ℕ) (options : List ReadOption) (end : ℕ) → options_from d at 0 ≡ ended options end → InPlace d options
  -- where a token or an option is cut short, the place of the fault is the length of the datagram
  pub token_cut : (d : List ℕ) (place : ℕ) → parse d ≡ refused (Fault (TokenTruncated place)) → place ≡ length d
  pub option_cut : (d : List ℕ) (place : ℕ) → parse d ≡ refused (Fault (InOption (Truncated place))) → place ≡ length d
