-- What writes to a part of a buffer leave, and when they are accepted.
use Rattle.std.proofs.Common.{◌≡◌, ℕ, ◌+◌, ◌-◌, ◌*◌, ◌/◌, ◌%◌, ◌<◌, ◌≤◌, List, [], ◌∷◌, ◌++◌, length, take, drop, Ok, sym, refl, ap, ◌∙◌, append_assoc, add-zero, zero-add, arith, length-append, length-drop, take-append-drop, length-take, length-take-le}
use Rattle.std.proofs.lemmas.List.{drop-drop, take_at, drop_at}
use Rattle.std.proofs.lemmas.Bool.Decides.{nat_tests}
use Rattle.message.specs.declared.writer.Stage.{Stage}
use Rattle.message.specs.declared.writer.Stage.TheVariants.{Complete}
use Rattle.message.specs.Header.{Head, type_bits}
use Rattle.message.specs.Encoding.{Field, nibble, further, head_bytes, option_bytes, payload_bytes}
use Rattle.message.specs.Writing.{laid, State, added, beginning, following, started, headed, start_answer, option_answer, payload_answer, stage_after}

laid_none : (n : ℕ) (buffer bs : List ℕ) → bs ≡ [] → buffer ≡ laid buffer n bs
laid_none n buffer bs e =
    sym (take-append-drop n buffer) ∙ ap (λ k. take n buffer ++ drop k buffer) (sym (add-zero n)) ∙ ap (laid buffer n) (sym e)

pub laid_laid : (n m : ℕ) (buffer xs ys : List ℕ) → n ≤ length buffer → m ≡ n + length xs → laid (laid buffer n xs) m ys ≡ laid buffer n (xs ++ ys)
laid_laid n m buffer xs ys h e =
    let front : length (take n buffer ++ xs) ≡ m = length-append (take n buffer) xs ∙ ap (λ k. k + length xs) (length-take-le n buffer h) ∙ sym e in
    let rest = drop (n + length xs) buffer in
    let regroup : laid buffer n xs ≡ (take n buffer ++ xs) ++ rest = sym (append_assoc (take n buffer) xs rest) in
    let first : take m (laid buffer n xs) ≡ take n buffer ++ xs = ap (take m) regroup ∙ take_at (take n buffer ++ xs) rest m front in
    let past : drop m (laid buffer n xs) ≡ rest = ap (drop m) regroup ∙ drop_at (take n buffer ++ xs) rest m front in
    let sum : n + length xs + length ys ≡ n + length (xs ++ ys) = omega (arith, length-append xs ys) in
    let last : drop (m + length ys) (laid buffer n xs) ≡ drop (n + length (xs ++ ys)) buffer =
    sym (drop-drop (length ys) m (laid buffer n xs)) ∙ ap (drop (length ys)) past ∙ drop-drop (length ys) (n + length xs) buffer ∙ ap (λ k. drop k buffer) sum in
    (λ i. first i ++ (ys ++ last i)) ∙ append_assoc (take n buffer) xs (ys ++ drop (n + length (xs ++ ys)) buffer) ∙ ap (λ t. take n buffer ++ t) (sym (append_assoc xs ys (drop (n + length (xs ++ ys)) buffer)))

pub length_laid : (n : ℕ) (buffer bs : List ℕ) → n + length bs ≤ length buffer → length (laid buffer n bs) ≡ length buffer
length_laid n buffer bs h = simp (length-append, length-take, length-drop) (omega arith)

-- nothing written
pub added_none : (w : State) (bs : List ℕ) → bs ≡ [] → w ≡ added w bs
added_none w bs e =
    let len : w.len ≡ w.len + length bs = sym (ap (λ l. w.len + length l) e ∙ add-zero w.len) in
    λ i. record { lender = w.lender; buffer = laid_none w.len w.buffer bs e i; len = len i; number = w.number; stage = w.stage }

-- one write after another
pub added_added : (w : State) (xs ys : List ℕ) → w.len ≤ length w.buffer → added (added w xs) ys ≡ added w (xs ++ ys)
added_added w xs ys h =
    let len : w.len + length xs + length ys ≡ w.len + length (xs ++ ys) = omega (arith, length-append xs ys) in
    λ i. record { lender = w.lender; buffer = laid_laid w.len (w.len + length xs) w.buffer xs ys h refl i; len = len i; number = w.number; stage = w.stage }

-- a second write to a writer that has had a first one
pub added_then : (v w u : State) (xs ys : List ℕ) → v ≡ added w xs → u ≡ added v ys → w.len ≤ length w.buffer → u ≡ added w (xs ++ ys)
added_then v w u xs ys e f h = f ∙ ap (λ s. added s ys) e ∙ added_added w xs ys h

-- a writer that begins at the front of its buffer
abbrev pub rewound : State → State
rewound w = record { lender = w.lender; buffer = w.buffer; len = 0; number = w.number; stage = w.stage }

-- a writer once the header and the token are laid
abbrev pub head_ended : State → Head → State
head_ended w h = record { lender = w.lender; buffer = w.buffer; len = w.len; number = 0; stage = headed h.code }

-- four bytes of a header and a token
pub start_done : (w v u : State) (h : Head) (first high low : ℕ) → v ≡ added (rewound w) (first ∷ (h.code ∷ (high ∷ (low ∷ [])))) → u ≡ added v h.token → first ≡ 64 + type_bits h.type * 16 + length h.token → high ≡ h.id / 256 → low ≡ h.id % 256 → head_ended u h ≡ started w h
start_done w v u h first high low e f a b c =
    let g : u ≡ added (rewound w) (head_bytes h) = added_then v (rewound w) u (first ∷ (h.code ∷ (high ∷ (low ∷ [])))) h.token e f (omega arith) ∙ ap (added (rewound w)) (λ i. a i ∷ (h.code ∷ (b i ∷ (c i ∷ h.token)))) in
    ap (λ s. head_ended s h) g ∙ (λ i. record { lender = w.lender; buffer = laid w.buffer 0 (head_bytes h); len = zero-add (length (head_bytes h)) i; number = 0; stage = headed h.code })

-- the four parts of an option
pub option_done : (w w₁ w₂ w₃ w₄ : State) (o : Field) (first : ℕ) → w.len ≤ length w.buffer → first ≡ nibble (o.number - w.number) * 16 + nibble (length o.value) → w₁ ≡ added w (first ∷ []) → w₂ ≡ added w₁ (further (o.number - w.number)) → w₃ ≡ added w₂ (further (length o.value)) → w₄ ≡ added w₃ o.value → w₄ ≡ added w (option_bytes w.number o)
option_done w w₁ w₂ w₃ w₄ o first h f e₁ e₂ e₃ e₄ =
    let delta = further (o.number - w.number) in
    let len = further (length o.value) in
    let f₂ = added_then w₁ w w₂ (first ∷ []) delta e₁ e₂ h in
    let f₃ = added_then w₂ w w₃ ((first ∷ []) ++ delta) len f₂ e₃ h in
    let f₄ = added_then w₃ w w₄ (((first ∷ []) ++ delta) ++ len) o.value f₃ e₄ h in
    let regroup : (((first ∷ []) ++ delta) ++ len) ++ o.value ≡ first ∷ (delta ++ (len ++ o.value)) = simp append_assoc in
    f₄ ∙ ap (added w) (regroup ∙ ap (λ x. x ∷ (delta ++ (len ++ o.value))) f)

-- when the writer accepts
pub start_accepted : (w : State) (h : Head) → length h.token ≤ 8 → (h.code ≡ 0 → length h.token ≡ 0) → Ok tt ≡ beginning w.stage → 4 + length h.token ≤ length w.buffer → Ok tt ≡ start_answer w h
start_accepted w h s e b r = grind (arith, nat_tests)

pub option_accepted : (w : State) (o : Field) → Ok tt ≡ following w.stage → w.number ≤ o.number → w.len + length (option_bytes w.number o) ≤ length w.buffer → w.len + length (option_bytes w.number o) ≤ 480 → Ok tt ≡ option_answer w o
option_accepted w o f u r l = grind (arith, nat_tests)

pub payload_accepted : (w : State) (p : List ℕ) → Ok tt ≡ following w.stage → w.len + length (payload_bytes p) ≤ length w.buffer → w.len + length (payload_bytes p) ≤ 480 → Ok tt ≡ payload_answer w p
payload_accepted w [] f r l = refl
payload_accepted w (b ∷ bs) f r l = grind (arith, nat_tests)

pub payload_some : (w v u : State) (p : List ℕ) → 0 < length p → w.len ≤ length w.buffer → v ≡ added w (255 ∷ []) → u ≡ added v p → u ≡ added w (payload_bytes p)
payload_some w v u [] some h e f = absurd (omega arith)
payload_some w v u (b ∷ bs) some h e f = added_then v w u (255 ∷ []) (b ∷ bs) e f h

pub stage_some : (p : List ℕ) (s : Stage) → 0 < length p → Complete ≡ stage_after p s
stage_some [] s h = absurd (omega arith)
stage_some (b ∷ bs) s h = refl
