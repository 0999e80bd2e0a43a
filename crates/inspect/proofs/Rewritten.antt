-- What is written again of a message is the message.
use Rattle.std.proofs.Common.{◌≡◌, ℕ, ◌+◌, ◌-◌, true, List, ◌++◌, length, take, drop, Ok, Err, Result, refl, ap, ◌∙◌, ⊎_elim, arith}
use Rattle.std.proofs.lemmas.List.{take_at}
use Rattle.std.proofs.lemmas.Bool.{cases_Bool}
use Rattle.transcribe.specs.declared.TranscribeError.{TranscribeError}
use Rattle.message.specs.Message.{Parsed, refused, message, parse}
use Rattle.message.specs.Writing.{fits}
use Rattle.transcribe.specs.Transcribing.{answer_for, buffer_for, transcribe_answer, transcribed}
use Rattle.inspect.specs.Datagram.{is_message}

same_size : (m n : ℕ) → ◌≡◌ {A = Result ℕ TranscribeError} (Ok m) (Ok n) → m ≡ n
same_size m n e = cc

never_both : (n : ℕ) (why : TranscribeError) → ◌≡◌ {A = Result ℕ TranscribeError} (Ok n) (Err why) → ⊥
never_both n why e = let z : ◌≡◌ {A = ℕ} 0 1 = cc in omega arith

module _ (d buffer : List ℕ) where
  written : (after : List ℕ) (size : ℕ) (p : Parsed) → Ok size ≡ answer_for d buffer p → after ≡ buffer_for d buffer (answer_for d buffer p) → (is_message p ≡ true) × (take (size - 0) (drop 0 after) ≡ d)
  written after size (refused why) e b = absurd (never_both size _ e)
  written after size (message m) e b = ⊎_elim
      (λ t. let long : size ≡ length d = same_size size (length d) (rw t at e) in
      let laid : after ≡ d ++ drop (0 + length d) buffer = rw t at b in
      (refl, ap (take (size - 0)) laid ∙ take_at d (drop (0 + length d) buffer) (size - 0) (omega arith)))
      (λ t. absurd (never_both size _ (rw t at e)))
      (cases_Bool (fits buffer (length d)))

  pub written_again : (after : List ℕ) (size : ℕ) → Ok size ≡ transcribe_answer d buffer → after ≡ transcribed d buffer → (is_message (parse d) ≡ true) × (take (size - 0) (drop 0 after) ≡ d)
  written_again after size e b = written after size (parse d) e b
