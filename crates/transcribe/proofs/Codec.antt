-- What is written is read again, and what is read is what would be written.
use Rattle.std.proofs.Common.{◌≡◌, ℕ, zero, suc, ◌+◌, ◌-◌, ◌*◌, ◌/◌, ◌%◌, ◌<◌, ◌≤◌, true, false, cond, eqb, ltb, List, [], ◌∷◌, ◌++◌, map, length, get_or, take, drop, sym, refl, ap, ◌∙◌, subst, ⊎_elim, append_assoc, add-zero, arith, length-append, length-drop, take-append-drop, length-take-le, get_or-drop}
use Rattle.std.proofs.lemmas.Bool.Decides.{nat_tests}
use Rattle.std.proofs.lemmas.Bool.{cases_Bool, eqb-true, ne_eqb, lt-ltb, le-ltb, cases_lt, cases_eq}
use Rattle.std.proofs.lemmas.List.{take_at, drop_at, drop-drop}
use Rattle.std.proofs.lemmas.Nat.{div-mul-add, mod-mul-add}
use Rattle.message.specs.Options.{ReadOption, kind_of, extension_size, extended, Step, fault, closed, item, opened, step, ended, more, onward, walk, payload_of}
use Rattle.message.specs.Encoding.{Field, nibble, further, option_bytes, options_bytes, payload_bytes}
use Rattle.message.specs.Message.{field_in}
use Rattle.message.specs.declared.fault.OptionFault.TheVariants.{NoPayload}
use Rattle.message.proofs.Opened.{Sound, opened_item, Came, opened_came, never, never_fault}
use Rattle.message.proofs.Walks.{Walk, stop, draw}

-- options that can be written after one of number `before`
abbrev pub Writable : ℕ → List Field → Type 0
Writable before [] = Unit {0}
Writable before (o ∷ os) = (before ≤ o.number) × (o.number ≤ 65535) × (length o.value ≤ 65804) × Writable o.number os

-- where the value of an option begins, counted from after the option byte
abbrev pub value_start : ℕ → Field → ℕ
value_start before o = length (further (o.number - before)) + length (further (length o.value))

-- options that are written from the place `at` on, as the reader gives them
abbrev pub item_at : (at before : ℕ) → Field → ReadOption
item_at at before o = record { kind = kind_of before o.number (length o.value); number = o.number; place = at + 1 + value_start before o; value = o.value }

abbrev pub items_of : (at before : ℕ) → List Field → List ReadOption
items_of at before [] = []
items_of at before (o ∷ os) = item_at at before o ∷ items_of (at + length (option_bytes before o)) o.number os

pub nibble_below : (n : ℕ) → nibble n < 15
nibble_below n = grind (arith, nat_tests)

pub extended_size_nibble : (n : ℕ) → extension_size (nibble n) ≡ length (further n)
extended_size_nibble n = grind (arith, nat_tests)

pub extended_nibble : (n : ℕ) (tail : List ℕ) → n ≤ 65804 → extended (nibble n) (further n ++ tail) ≡ n
extended_nibble n tail h = grind (arith, nat_tests)

taken : (a b v t : List ℕ) → take (length v) (drop (length a + length b) (a ++ (b ++ (v ++ t)))) ≡ v
taken a b v t =
    ap (λ l. take (length v) (drop (length a + length b) l)) (sym (append_assoc a b (v ++ t)))
    ∙ ap (take (length v)) (drop_at (a ++ b) (v ++ t) (length a + length b) (length-append a b))
    ∙ take_at v t (length v) refl

-- an option byte that is cut into its nibbles
pub step_by : (at before first delta len : ℕ) (body rest : List ℕ) (s : Step) → delta < 15 → len < 15 → first ≡ delta * 16 + len → body ≡ rest → opened at before delta len rest ≡ s → step at before (first ∷ body) ≡ s
step_by at before first delta len body rest s a b cut split e =
    let ne : eqb first 255 ≡ false = ne_eqb first 255 (λ e. omega arith) in
    let hi : first / 16 ≡ delta = ap (λ x. x / 16) cut ∙ div-mul-add delta 16 len (omega arith) in
    let lo : first % 16 ≡ len = ap (λ x. x % 16) cut ∙ mod-mul-add delta 16 len (omega arith) in
    rw (ne, hi, lo, split) e

sound_option : (before : ℕ) (o : Field) (tail : List ℕ) → before ≤ o.number → o.number ≤ 65535 → length o.value ≤ 65804 → Sound before (nibble (o.number - before)) (nibble (length o.value)) o.number (length (further (o.number - before)) + length (further (length o.value))) (length o.value) (further (o.number - before) ++ (further (length o.value) ++ (o.value ++ tail)))
sound_option before o tail up low short =
    let d = o.number - before in
    let n = length o.value in
    let rest = further n ++ (o.value ++ tail) in
    let a = nibble_below d in
    let b = nibble_below n in
    let back : before + d ≡ o.number = omega arith in
    record {
      delta_open = λ e. omega arith;
      len_open = λ e. omega arith;
      head_is = sym (ap (λ x. x + extension_size (nibble n)) (extended_size_nibble d) ∙ ap (λ x. length (further d) + x) (extended_size_nibble n));
      number_is = sym (ap (λ m. before + m) (extended_nibble d rest (omega arith)) ∙ back);
      size_is = sym (ap (extended (nibble n)) (drop_at (further d) rest (extension_size (nibble d)) (sym (extended_size_nibble d))) ∙ extended_nibble n (o.value ++ tail) short);
      low = low;
      whole = simp length-append (omega arith);
    }

pub length_option : (before : ℕ) (o : Field) → length (option_bytes before o) ≡ 1 + value_start before o + length o.value
length_option before o = simp length-append (omega arith)

-- an option that is written is read again, whatever follows it
pub step_option : (at before : ℕ) (o : Field) (tail : List ℕ) → before ≤ o.number → o.number ≤ 65535 → length o.value ≤ 65804 → step at before (option_bytes before o ++ tail) ≡ item (record { kind = kind_of before o.number (length o.value); number = o.number; place = at + 1 + value_start before o; value = o.value }) (at + length (option_bytes before o))
step_option at before o tail up low short =
    let d = o.number - before in
    let n = length o.value in
    let rest = further d ++ (further n ++ (o.value ++ tail)) in
    let split : (further d ++ (further n ++ o.value)) ++ tail ≡ rest = simp append_assoc in
    let ends : at + 1 + value_start before o + n ≡ at + length (option_bytes before o) = omega (arith, length_option before o) in
    step_by at before (nibble d * 16 + nibble n) (nibble d) (nibble n) ((further d ++ (further n ++ o.value)) ++ tail) rest _ (nibble_below d) (nibble_below n) refl split
    (opened_item at before (nibble d) (nibble n) o.number (value_start before o) n rest (sound_option before o tail up low short)
    ∙ (λ i. item (record { kind = kind_of before o.number n; number = o.number; place = at + 1 + value_start before o; value = taken (further d) (further n) o.value tail i }) (ends i)))

-- the reverse: what a nibble and its further bytes mean is written by them
pub nibble_extended : (nib : ℕ) (bytes : List ℕ) → nib < 15 → get_or bytes 0 0 < 256 → get_or bytes 1 0 < 256 → nibble (extended nib bytes) ≡ nib
nibble_extended nib bytes h a b = grind (arith, nat_tests)

extended_below : (nib : ℕ) (bytes : List ℕ) → nib < 15 → get_or bytes 0 0 < 256 → get_or bytes 1 0 < 256 → extended nib bytes ≤ 65804
extended_below nib bytes h a b = grind (arith, nat_tests)

further_two : (a b : ℕ) → a < 256 → b < 256 → further (a * 256 + b + 269) ≡ a ∷ (b ∷ [])
further_two a b s t =
    let back : a * 256 + b + 269 - 269 ≡ a * 256 + b = omega arith in
    let hi : (a * 256 + b + 269 - 269) / 256 ≡ a = ap (λ x. x / 256) back ∙ div-mul-add a 256 b t in
    let lo : (a * 256 + b + 269 - 269) % 256 ≡ b = ap (λ x. x % 256) back ∙ mod-mul-add a 256 b t in
    let p : ltb (a * 256 + b + 269) 13 ≡ false = le-ltb _ 13 (omega arith) in
    let q : ltb (a * 256 + b + 269) 269 ≡ false = le-ltb _ 269 (omega arith) in
    rw (p, q) (λ i. hi i ∷ (lo i ∷ []))

further_one : (a : ℕ) → a < 256 → further (a + 13) ≡ a ∷ []
further_one a s =
    let back : a + 13 - 13 ≡ a = omega arith in
    let p : ltb (a + 13) 13 ≡ false = le-ltb _ 13 (omega arith) in
    let q : ltb (a + 13) 269 ≡ true = lt-ltb _ 269 (omega arith) in
    rw (p, q) (λ i. back i ∷ [])

extended_13 : (bytes : List ℕ) → 1 ≤ length bytes → get_or bytes 0 0 < 256 → further (extended 13 bytes) ≡ take 1 bytes
extended_13 [] long a = absurd (omega arith)
extended_13 (x ∷ bytes) long a = further_one x a

extended_14 : (bytes : List ℕ) → 2 ≤ length bytes → get_or bytes 0 0 < 256 → get_or bytes 1 0 < 256 → further (extended 14 bytes) ≡ take 2 bytes
extended_14 [] long a b = absurd (omega arith)
extended_14 (x ∷ []) long a b = absurd (omega arith)
extended_14 (x ∷ y ∷ bytes) long a b = further_two x y a b

pub further_extended : (nib : ℕ) (bytes : List ℕ) → nib < 15 → extension_size nib ≤ length bytes → get_or bytes 0 0 < 256 → get_or bytes 1 0 < 256 → further (extended nib bytes) ≡ take (extension_size nib) bytes
further_extended nib bytes h long a b = ⊎_elim
    (λ low. let t = lt-ltb nib 13 low in rw t (rw t))
    (λ high. ⊎_elim
    (λ e. let l : 1 ≤ length bytes = rw e at long in rw e (extended_13 bytes l a))
    (λ ne. let e : nib ≡ 14 = omega arith in let l : 2 ≤ length bytes = rw e at long in rw e (extended_14 bytes l a b))
    (cases_eq nib 13))
    (cases_lt nib 13)

-- what `step` gives at an option is what its bytes are, with the rest behind them
pub record Read (at before : ℕ) (rest : List ℕ) (o : ReadOption) (after : ℕ) : Type 0 where
  pub bytes : rest ≡ option_bytes before (field_in o) ++ drop (after - at) rest
  pub up : before ≤ o.number
  pub low : o.number ≤ 65535
  pub short : length o.value ≤ 65804
  pub onward : at < after
  pub within : after ≤ at + length rest

bytes_back : (delta len : ℕ) (body : List ℕ) → delta < 15 → len < 15 → ((i : ℕ) → get_or body i 0 < 256) → extension_size delta + extension_size len + extended len (drop (extension_size delta) body) ≤ length body → body ≡ (further (extended delta body) ++ (further (extended len (drop (extension_size delta) body)) ++ take (extended len (drop (extension_size delta) body)) (drop (extension_size delta + extension_size len) body))) ++ drop (extension_size delta + extension_size len + extended len (drop (extension_size delta) body)) body
bytes_back delta len body dl ll small whole =
    let b1 = drop (extension_size delta) body in
    let size = extended len b1 in
    let s0 : get_or b1 0 0 < 256 = subst (λ x. x < 256) (sym (get_or-drop (extension_size delta) body 0 0)) (small (extension_size delta + 0)) in
    let s1 : get_or b1 1 0 < 256 = subst (λ x. x < 256) (sym (get_or-drop (extension_size delta) body 1 0)) (small (extension_size delta + 1)) in
    let fd : further (extended delta body) ≡ take (extension_size delta) body = further_extended delta body dl (omega arith) (small 0) (small 1) in
    let fl : further size ≡ take (extension_size len) b1 = further_extended len b1 ll (simp length-drop (omega arith)) s0 s1 in
    let e1 : drop (extension_size delta + extension_size len) body ≡ drop (extension_size len) b1 = sym (drop-drop (extension_size len) (extension_size delta) body) in
    let e2 : drop (extension_size delta + extension_size len + size) body ≡ drop size (drop (extension_size len) b1) = sym (drop-drop size (extension_size delta + extension_size len) body) ∙ ap (drop size) e1 in
    sym (
    ap (λ l. l ++ drop (extension_size delta + extension_size len + size) body) (λ i. fd i ++ (fl i ++ take size (e1 i)))
    ∙ ap (λ l. (take (extension_size delta) body ++ (take (extension_size len) b1 ++ take size (drop (extension_size len) b1))) ++ l) e2
    ∙ append_assoc (take (extension_size delta) body) _ _
    ∙ ap (λ l. take (extension_size delta) body ++ l) (append_assoc (take (extension_size len) b1) _ _ ∙ ap (λ l. take (extension_size len) b1 ++ l) (take-append-drop size (drop (extension_size len) b1)) ∙ take-append-drop (extension_size len) b1)
    ∙ take-append-drop (extension_size delta) body)

read_back : (at before first : ℕ) (body : List ℕ) (o : ReadOption) (after : ℕ) → ((i : ℕ) → get_or (first ∷ body) i 0 < 256) → Came at before (first / 16) (first % 16) body o after → Read at before (first ∷ body) o after
read_back at before first body o after small c =
    let delta = first / 16 in
    let len = first % 16 in
    let head = extension_size delta + extension_size len in
    let size = extended len (drop (extension_size delta) body) in
    let b = small 0 in
    let dl : delta < 15 = omega (arith, c.sound.delta_open) in
    let ll : len < 15 = omega (arith, c.sound.len_open) in
    let below : (i : ℕ) → get_or body i 0 < 256 = λ i. small (suc i) in
    let s0 : get_or (drop (extension_size delta) body) 0 0 < 256 = subst (λ x. x < 256) (sym (get_or-drop (extension_size delta) body 0 0)) (below (extension_size delta + 0)) in
    let s1 : get_or (drop (extension_size delta) body) 1 0 < 256 = subst (λ x. x < 256) (sym (get_or-drop (extension_size delta) body 1 0)) (below (extension_size delta + 1)) in
    let value : o.value ≡ take size (drop head body) = ap (λ x. x.value) c.shown in
    let long : length o.value ≡ size = ap length value ∙ length-take-le size (drop head body) (simp length-drop (omega (arith, c.sound.whole))) in
    let gap : o.number - before ≡ extended delta body = omega (arith, c.sound.number_is) in
    let back : body ≡ (further (o.number - before) ++ (further (length o.value) ++ o.value)) ++ drop (head + size) body =
    bytes_back delta len body dl ll below c.sound.whole ∙ sym (λ i. (further (gap i) ++ (further (long i) ++ value i)) ++ drop (head + size) body) in
    let ahead : after - at ≡ suc (head + size) = omega (arith, c.ends) in
    let top : first ≡ nibble (o.number - before) * 16 + nibble (length o.value) =
    omega (arith, ap nibble gap ∙ nibble_extended delta body dl (below 0) (below 1), ap nibble long ∙ nibble_extended len (drop (extension_size delta) body) ll s0 s1) in
    record {
      bytes = (λ i. top i ∷ back i) ∙ sym (ap (λ n. option_bytes before (field_in o) ++ drop n (first ∷ body)) ahead);
      up = omega (arith, c.sound.number_is);
      low = c.sound.low;
      short = rw long (extended_below len (drop (extension_size delta) body) ll s0 s1);
      onward = omega (arith, c.ends);
      within = omega (arith, c.ends, c.sound.whole);
    }

pub step_read : (at before : ℕ) (rest : List ℕ) (o : ReadOption) (after : ℕ) → ((i : ℕ) → get_or rest i 0 < 256) → step at before rest ≡ item o after → Read at before rest o after
step_read at before [] o after small e = absurd (never o after e)
step_read at before (first ∷ body) o after small e = ⊎_elim
    (λ t. let h : cond (eqb (length body) 0) (fault (NoPayload at)) closed ≡ item o after = rw t at e in ⊎_elim
    (λ u. absurd (never_fault (NoPayload at) o after (rw u at h)))
    (λ u. absurd (never o after (rw u at h)))
    (cases_Bool (eqb (length body) 0)))
    (λ t. read_back at before first body o after small (opened_came at before (first / 16) (first % 16) body o after (rw t at e)))
    (cases_Bool (eqb first 255))

-- the whole list of options: what is written is read again
pub walk_written : (os : List Field) (k at before : ℕ) (d tail : List ℕ) → Writable before os → ((a b : ℕ) → step a b tail ≡ closed) → drop at d ≡ options_bytes before os ++ tail → length os < k → walk k d at before ≡ ended (items_of at before os) (at + length (options_bytes before os))
walk_written [] zero at before d tail w shut e h = absurd (omega arith)
walk_written [] (suc k) at before d tail w shut e h =
    let s : step at before (drop at d) ≡ closed = rw e (shut at before) in
    ap (onward at (λ o after. walk k d after o.number)) s ∙ ap (ended []) (sym (add-zero at))
walk_written (o ∷ os) zero at before d tail w shut e h = absurd (omega arith)
walk_written (o ∷ os) (suc k) at before d tail w shut e h =
    let n = length (option_bytes before o) in
    let regroup : drop at d ≡ option_bytes before o ++ (options_bytes o.number os ++ tail) = e ∙ append_assoc (option_bytes before o) (options_bytes o.number os) tail in
    let s : step at before (drop at d) ≡ item (item_at at before o) (at + n) = rw regroup (step_option at before o (options_bytes o.number os ++ tail) w.0 w.1 w.2) in
    let on : drop (at + n) d ≡ options_bytes o.number os ++ tail = sym (drop-drop n at d) ∙ ap (drop n) regroup ∙ drop_at (option_bytes before o) _ n refl in
    let rest : walk k d (at + n) o.number ≡ ended (items_of (at + n) o.number os) (at + n + length (options_bytes o.number os)) = walk_written os k (at + n) o.number d tail w.3 shut on (omega arith) in
    let z : at + n + length (options_bytes o.number os) ≡ at + length (options_bytes before (o ∷ os)) = omega (arith, length-append (option_bytes before o) (options_bytes o.number os)) in
    ap (onward at (λ o after. walk k d after o.number)) s ∙ ap (more (item_at at before o)) rest ∙ ap (ended (items_of at before (o ∷ os))) z

pub payload_shut : (p : List ℕ) (at before : ℕ) → step at before (payload_bytes p) ≡ closed
payload_shut [] at before = refl
payload_shut (b ∷ bs) at before = let t : eqb (length (b ∷ bs)) 0 ≡ false = ne_eqb _ 0 (λ e. omega arith) in rw t

opened_open : (at before delta len : ℕ) (body : List ℕ) → opened at before delta len body ≡ closed → ⊥
opened_open at before delta len body e = grind (arith, nat_tests)

marked : (first : ℕ) (body : List ℕ) (at : ℕ) → first ≡ 255 → cond (eqb (length body) 0) (fault (NoPayload at)) closed ≡ closed → first ∷ body ≡ payload_bytes body
marked first [] at t h = let z : ◌≡◌ {A = ℕ} 0 1 = cc in absurd (omega arith)
marked first (b ∷ bs) at t h = ap (λ x. x ∷ (b ∷ bs)) t

pub shut_payload : (rest : List ℕ) (at before : ℕ) → step at before rest ≡ closed → rest ≡ payload_bytes (payload_of rest)
shut_payload [] at before e = refl
shut_payload (first ∷ body) at before e = ⊎_elim
    (λ t. let h : cond (eqb (length body) 0) (fault (NoPayload at)) closed ≡ closed = rw t at e in marked first body at (eqb-true first 255 t) h)
    (λ t. absurd (opened_open at before (first / 16) (first % 16) body (rw t at e)))
    (cases_Bool (eqb first 255))

-- the whole list of options: what was read is what would be written
pub record Walked (d : List ℕ) (at before : ℕ) (items : List ReadOption) (end : ℕ) : Type 0 where
  pub bytes : drop at d ≡ options_bytes before (map field_in items) ++ drop end d
  pub writable : Writable before (map field_in items)
  pub tail : drop end d ≡ payload_bytes (payload_of (drop end d))
  pub within : end ≤ length d

pub walk_read : (d : List ℕ) {at before end : ℕ} {items : List ReadOption} → ((i : ℕ) → get_or d i 0 < 256) → at ≤ length d → Walk d at before (ended items end) → Walked d at before items end
walk_read d {at} {before} small le (stop e) = record { bytes = refl; writable = tt; tail = shut_payload (drop at d) at before e; within = le }
walk_read d {at} {before} {end} small le (draw {after = after} {o = o} {os = os} e w) =
    let r = step_read at before (drop at d) o after (λ i. subst (λ x. x < 256) (sym (get_or-drop at d i 0)) (small (at + i))) e in
    let h = walk_read d small (omega (arith, r.within, length-drop at d)) w in
    let gap : at + (after - at) ≡ after = omega (arith, r.onward) in
    let on : drop (after - at) (drop at d) ≡ drop after d = drop-drop (after - at) at d ∙ ap (λ n. drop n d) gap in
    record {
      bytes = r.bytes ∙ ap (λ l. option_bytes before (field_in o) ++ l) (on ∙ h.bytes) ∙ sym (append_assoc (option_bytes before (field_in o)) (options_bytes o.number (map field_in os)) (drop end d));
      writable = (r.up, r.low, r.short, h.writable);
      tail = h.tail;
      within = h.within;
    }
