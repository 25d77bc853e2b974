-- The first line of a text, byte by byte.
use Rattle.std.proofs.Common.{◌≡◌, ◌≢◌, ℕ, ◌+◌, ◌<◌, ◌≤◌, Bool, if◌then◌else◌, List, [], ◌∷◌, ◌++◌, length, get_or, take, drop, refl, sym, ap, ◌∙◌, append_assoc}
use Rattle.std.proofs.lemmas.Bool.{ne_eqb}
use Rattle.std.proofs.lemmas.List.{append-nil, at_drop_all, drop_more, take_all, take_more}
use Rattle.journal_audit.specs.Reading.{first_line}

pub at_feed : (text : List ℕ) → first_line (10 ∷ text) ≡ 10 ∷ []
at_feed text = refl

past_byte : (byte : ℕ) (text : List ℕ) → byte ≢ 10 → first_line (byte ∷ text) ≡ byte ∷ first_line text
past_byte byte text ne = ap (λ (b : Bool). if b then byte ∷ [] else byte ∷ first_line text) (ne_eqb byte 10 ne)

module _ (text : List ℕ) (place : ℕ) (inside : place < length text) (so_far : first_line text ≡ take place text ++ first_line (drop place text)) where
  abbrev byte : ℕ
  byte = get_or text place 0

  pub goes_on : byte ≢ 10 → first_line text ≡ take (place + 1) text ++ first_line (drop (place + 1) text)
  goes_on ne =
      so_far ∙ (ap (λ (t : List ℕ). take place text ++ first_line t) (drop_more text place 0 inside)
      ∙ (ap (λ (t : List ℕ). take place text ++ t) (past_byte byte (drop (place + 1) text) ne)
      ∙ (sym (append_assoc (take place text) (byte ∷ []) (first_line (drop (place + 1) text)))
      ∙ ap (λ (t : List ℕ). t ++ first_line (drop (place + 1) text)) (sym (take_more text place 0 inside)))))

  pub ends : byte ≡ 10 → first_line text ≡ take (place + 1) text
  ends is =
      so_far ∙ (ap (λ (t : List ℕ). take place text ++ first_line t) (drop_more text place 0 inside)
      ∙ (ap (λ (b : ℕ). take place text ++ first_line (b ∷ drop (place + 1) text)) is
      ∙ (ap (λ (b : ℕ). take place text ++ b ∷ []) (sym is) ∙ sym (take_more text place 0 inside))))

pub all : (text : List ℕ) (place : ℕ) → length text ≤ place → first_line text ≡ take place text ++ first_line (drop place text) → first_line text ≡ text
all text place past so_far =
    so_far ∙ (ap (λ (t : List ℕ). take place text ++ t) (at_drop_all first_line text place past) ∙ (append-nil (take place text) ∙ take_all place text past))
