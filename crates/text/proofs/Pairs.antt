-- How the bytes of a line come out, one character after another.
use Rattle.std.proofs.Common.{◌≡◌, ℕ, ◌+◌, ◌*◌, ◌<◌, ◌≤◌, true, false, List, [], ◌∷◌, ◌++◌, length, get_or, drop, IfSome, Some, None, Option, sym, refl, ap, ◌∙◌, append_assoc, arith}
use Rattle.std.proofs.lemmas.List.{at_drop_more}
use Rattle.std.proofs.lemmas.Bool.{cond-true, cond-false}
use Rattle.std.proofs.lemmas.Bool.Decides.{nat_tests}
use Rattle.std.specs.Option.{option_map}
use Rattle.text.specs.Hex.{blank, byte_then, digit_of, hex_bytes, paired, unblanked}

unblanked_blank : (c : ℕ) (cs : List ℕ) → blank c ≡ true → unblanked (c ∷ cs) ≡ unblanked cs
unblanked_blank c cs e = cond-true (blank c) _ _ e

pub unblanked_other : (c : ℕ) (cs : List ℕ) → blank c ≡ false → unblanked (c ∷ cs) ≡ c ∷ unblanked cs
unblanked_other c cs e = cond-false (blank c) _ _ e

digit_small : (c d : ℕ) → digit_of c ≡ Some d → d < 16
digit_small c d e = grind (arith, nat_tests)

-- What characters give after a digit that is still alone, if there is one.
abbrev pub resumed : Option ℕ → List ℕ → Option (List ℕ)
resumed None cs = paired cs
resumed (Some h) [] = None
resumed (Some h) (c ∷ cs) = byte_then (Some h) (digit_of c) (paired cs)

-- A first digit waits for the second, whatever comes then.
first_waits : (c : ℕ) (cs : List ℕ) (o : Option ℕ) → digit_of c ≡ o → paired (c ∷ cs) ≡ elim o [ None ↦ None | Some d ↦ resumed (Some d) cs ]
first_waits c [] None e = refl
first_waits c [] (Some d) e = refl
first_waits c (l ∷ cs) None e = ap (λ o. byte_then o (digit_of l) (paired cs)) e
first_waits c (l ∷ cs) (Some d) e = ap (λ o. byte_then o (digit_of l) (paired cs)) e

-- A character that is no digit leaves nothing.
wrong_ends : (high : Option ℕ) (c : ℕ) (cs : List ℕ) → digit_of c ≡ None → resumed high (c ∷ cs) ≡ None
wrong_ends None c cs e = first_waits c cs None e
wrong_ends (Some h) c cs e = ap (λ o. byte_then (Some h) o (paired cs)) e

-- Bytes in front of what there may be.
abbrev pub after : List ℕ → Option (List ℕ) → Option (List ℕ)
after bs o = option_map (λ more. bs ++ more) o

after_push : (bs : List ℕ) (h d : ℕ) (o : Option (List ℕ)) → after bs (byte_then (Some h) (Some d) o) ≡ after (bs ++ (16 * h + d) ∷ []) o
after_push bs h d None = refl
after_push bs h d (Some more) = ap (λ (l : List ℕ). Some l) (sym (append_assoc bs ((16 * h + d) ∷ []) more))

-- How many characters a digit takes that is still alone.
abbrev pub waiting : Option ℕ → ℕ
waiting None = 0
waiting (Some h) = 1

-- The first i characters gave bytes and perhaps a digit that is alone, and the others give what is left.
pub record Sofar (line : List ℕ) (i : ℕ) (bytes : List ℕ) (high : Option ℕ) : Type 0 where
  pub whole : hex_bytes line ≡ after bytes (resumed high (unblanked (drop i line)))
  pub small : IfSome high (λ h. h < 16)
  pub room : waiting high + length (unblanked (drop i line)) ≤ length (unblanked line)

module _ {line : List ℕ} {i : ℕ} {bytes : List ℕ} {high : Option ℕ} (so : Sofar line i bytes high) where
  module _ (within : i < length line) where
    pub sofar_blank : true ≡ blank (get_or line i 0) → Sofar line (i + 1) bytes high
    sofar_blank dark =
        let passed = at_drop_more unblanked line i 0 within ∙ unblanked_blank (get_or line i 0) (drop (i + 1) line) (sym dark) in
        record {
          whole = so.whole ∙ ap (λ cs. after bytes (resumed high cs)) passed;
          small = so.small;
          room = omega (arith, so.room, ap length passed);
        }

    module _ (plain : false ≡ blank (get_or line i 0)) where
      -- The character at i comes next.
      next : unblanked (drop i line) ≡ get_or line i 0 ∷ unblanked (drop (i + 1) line)
      next = at_drop_more unblanked line i 0 within ∙ unblanked_other (get_or line i 0) (drop (i + 1) line) (sym plain)

      at_other : (o : Option ℕ) → high ≡ o → hex_bytes line ≡ after bytes (resumed o (get_or line i 0 ∷ unblanked (drop (i + 1) line)))
      at_other o is = so.whole ∙ (λ j. after bytes (resumed (is j) (next j)))

      -- The digit that is alone, this character and those after it all stand in the line.
      room_other : (o : Option ℕ) → high ≡ o → waiting o + (1 + length (unblanked (drop (i + 1) line))) ≤ length (unblanked line)
      room_other o is = omega (arith, so.room, ap waiting is, ap length next)

      pub sofar_wrong : None ≡ digit_of (get_or line i 0) → None ≡ hex_bytes line
      sofar_wrong e = sym (at_other high refl ∙ ap (after bytes) (wrong_ends high (get_or line i 0) (unblanked (drop (i + 1) line)) (sym e)))

      pub sofar_first : (d : ℕ) → Some d ≡ digit_of (get_or line i 0) → high ≡ None → Sofar line (i + 1) bytes (Some d)
      sofar_first d e is = record {
        whole = at_other None is ∙ ap (after bytes) (first_waits (get_or line i 0) (unblanked (drop (i + 1) line)) (Some d) (sym e));
        small = digit_small (get_or line i 0) d (sym e);
        room = omega (arith, room_other None is);
      }

      pub sofar_second : (h d : ℕ) → Some d ≡ digit_of (get_or line i 0) → high ≡ Some h → Sofar line (i + 1) (bytes ++ (16 * h + d) ∷ []) None
      sofar_second h d e is = record {
        whole = at_other (Some h) is ∙ ap (λ o. after bytes (byte_then (Some h) o (paired (unblanked (drop (i + 1) line))))) (sym e) ∙ after_push bytes h d (paired (unblanked (drop (i + 1) line)));
        small = tt;
        room = omega (arith, room_other (Some h) is);
      }
