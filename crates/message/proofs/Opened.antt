-- What an option byte and what follows it give where nothing is at fault.
use Rattle.std.proofs.Common.{◌≡◌, ℕ, ◌+◌, ◌≤◌, List, length, take, drop, sym, refl, ◌∙◌, arith}
use Rattle.message.specs.declared.fault.OptionFault.{OptionFault}
use Rattle.message.specs.Options.{ReadOption, kind_of, extension_size, extended, fault, closed, item, opened}
use Rattle.std.proofs.lemmas.Bool.Decides.{nat_tests}

-- an option in place: its head is `head` bytes after the option byte, and its value `len` bytes
pub record Sound (before delta len number head size : ℕ) (body : List ℕ) : Type 0 where
  pub delta_open : delta ≡ 15 → ⊥
  pub len_open : len ≡ 15 → ⊥
  pub head_is : head ≡ extension_size delta + extension_size len
  pub number_is : number ≡ before + extended delta body
  pub size_is : size ≡ extended len (drop (extension_size delta) body)
  pub low : number ≤ 65535
  pub whole : head + size ≤ length body

pub opened_item : (at before delta len number head size : ℕ) (body : List ℕ) → Sound before delta len number head size body → opened at before delta len body ≡ item (record { kind = kind_of before number size; number = number; place = at + 1 + head; value = take size (drop head body) }) (at + 1 + head + size)
opened_item at before delta len number head size body s = grind (arith, nat_tests)

same_item : (o p : ReadOption) (a b : ℕ) → item o a ≡ item p b → o ≡ p
same_item o p a b e = cc

-- what an option that was read is
pub record Came (at before delta len : ℕ) (body : List ℕ) (o : ReadOption) (after : ℕ) : Type 0 where
  pub sound : Sound before delta len o.number (extension_size delta + extension_size len) (extended len (drop (extension_size delta) body)) body
  pub shown : o ≡ record { kind = kind_of before o.number (extended len (drop (extension_size delta) body)); number = o.number; place = at + 1 + (extension_size delta + extension_size len); value = take (extended len (drop (extension_size delta) body)) (drop (extension_size delta + extension_size len) body) }
  pub ends : after ≡ at + 1 + (extension_size delta + extension_size len) + extended len (drop (extension_size delta) body)

opened_sound : (at before delta len : ℕ) (body : List ℕ) (o : ReadOption) (after : ℕ) → opened at before delta len body ≡ item o after → Sound before delta len o.number (extension_size delta + extension_size len) (extended len (drop (extension_size delta) body)) body
opened_sound at before delta len body o after e = record {
  delta_open = grind (arith, nat_tests);
  len_open = grind (arith, nat_tests);
  head_is = refl;
  number_is = grind (arith, nat_tests);
  size_is = refl;
  low = grind (arith, nat_tests);
  whole = grind (arith, nat_tests);
}

pub opened_came : (at before delta len : ℕ) (body : List ℕ) (o : ReadOption) (after : ℕ) → opened at before delta len body ≡ item o after → Came at before delta len body o after
opened_came at before delta len body o after e =
    let s = opened_sound at before delta len body o after e in
    record {
      sound = s;
      shown = same_item o _ after _ (sym e ∙ opened_item at before delta len o.number _ _ body s);
      ends = grind (arith, nat_tests);
    }

pub never : (o : ReadOption) (after : ℕ) → closed ≡ item o after → ⊥
never o after e = let z : ◌≡◌ {A = ℕ} 0 1 = cc in omega arith

pub never_fault : (f : OptionFault) (o : ReadOption) (after : ℕ) → fault f ≡ item o after → ⊥
never_fault f o after e = let z : ◌≡◌ {A = ℕ} 0 1 = cc in omega arith
