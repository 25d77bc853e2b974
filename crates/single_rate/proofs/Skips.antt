-- Parts that a range doesn't meet, before it and after it.
use Rattle.std.proofs.Common.{◌≡◌, ℕ, zero, suc, ◌+◌, ◌<◌, ◌≤◌, ⊎_elim, List, [], ◌∷◌, ◌++◌, length, take, drop, slice_index_or, refl, sym, append_assoc, arith}
use Rattle.std.proofs.lemmas.Bool.{cases_eq, eq-eqb, ne_eqb}
use Rattle.sdf_level.specs.declared.node.Node.TheVariants as node
use Rattle.single_rate.specs.declared.part.Part.{Part}
use Rattle.single_rate.specs.Wires.{common, one_piece, pieces, piece_counts, total}

pub total-take : (n : ℕ) (parts : List Part) → total (take n parts) ≤ total parts
total-take zero parts = omega arith
total-take (suc n) [] = omega arith
total-take (suc n) (r ∷ rs) = let t = total-take n rs in omega arith

pub pieces-total : (a e b : ℕ) (rs : List Part) → pieces a e b rs ≤ total rs
pieces-total a e b [] = omega arith
pieces-total a e b (r ∷ rs) =
    let later = pieces-total a e (b + r.size) rs in ⊎_elim
    (λ (none : common a e b (b + r.size) ≡ 0). rw (eq-eqb (common a e b (b + r.size)) 0 none) (omega arith))
    (λ (some : common a e b (b + r.size) ≡ 0 → ⊥). rw (ne_eqb (common a e b (b + r.size)) 0 some) (omega arith))
    (cases_eq (common a e b (b + r.size)) 0)

-- those that end before the range
pub pieces-skip : (a e b n : ℕ) (rs : List Part) → b + total (take n rs) ≤ a → pieces a e b rs ≡ pieces a e (b + total (take n rs)) (drop n rs)
pieces-skip a e b zero rs h = let z : b + 0 ≡ b = omega arith in rw z refl
pieces-skip a e b (suc n) [] h = refl
pieces-skip a e b (suc n) (r ∷ rs) h =
    let none : common a e b (b + r.size) ≡ 0 = omega arith in
    let s : (b + r.size) + total (take n rs) ≡ b + (r.size + total (take n rs)) = omega arith in
    rw (eq-eqb (common a e b (b + r.size)) 0 none, pieces-skip a e (b + r.size) n rs (omega arith), s) (omega arith)

-- those that begin after it
pub pieces-past : (a e b : ℕ) (rs : List Part) → e ≤ b → pieces a e b rs ≡ 0
pieces-past a e b [] h = refl
pieces-past a e b (r ∷ rs) h =
    let none : common a e b (b + r.size) ≡ 0 = omega arith in
    rw (eq-eqb (common a e b (b + r.size)) 0 none, pieces-past a e (b + r.size) rs (omega arith)) refl

-- a step from one part to the next
pub total-step : (rs : List Part) (i : ℕ) (z : Part) → i < length rs → total (take (i + 1) rs) ≡ total (take i rs) + (slice_index_or rs i z).size
total-step [] i z h = absurd (omega arith)
total-step (r ∷ rs) zero z h = omega arith
total-step (r ∷ rs) (suc i) z h = let e : suc i + 1 ≡ suc (i + 1) = omega arith in let t = total-step rs i z (omega arith) in rw e (omega arith)

pub pieces-step : (a e b : ℕ) (rs : List Part) (i : ℕ) (z : Part) → i < length rs → pieces a e b (drop i rs) ≡ one_piece a e b (b + (slice_index_or rs i z).size) + pieces a e (b + (slice_index_or rs i z).size) (drop (i + 1) rs)
pieces-step a e b [] i z h = absurd (omega arith)
pieces-step a e b (r ∷ rs) zero z h = let s : 0 + 1 ≡ suc 0 = omega arith in rw s refl
pieces-step a e b (r ∷ rs) (suc i) z h = let s : suc i + 1 ≡ suc (i + 1) = omega arith in rw s (pieces-step a e b rs i z (omega arith))

-- from the place where the cursor stands
pub pieces-cursor : (a e i start : ℕ) (rs : List Part) → start ≡ total (take i rs) → start ≤ a → pieces a e start (drop i rs) ≡ pieces a e 0 rs
pieces-cursor a e i start rs at h = let z : 0 + total (take i rs) ≡ start = omega arith in let s = pieces-skip a e 0 i rs (omega arith) in sym (rw z at s)

abbrev pub no_part : Part
no_part = record { at = record { node = node.Source 0; port = 0 }; size = 0 }

pub counts-step : (a i : ℕ) (parts others : List Part) → i < length parts → piece_counts a (drop i parts) others ≡ pieces a (a + (slice_index_or parts i no_part).size) 0 others ∷ piece_counts (a + (slice_index_or parts i no_part).size) (drop (i + 1) parts) others
counts-step a i [] others h = absurd (omega arith)
counts-step a zero (r ∷ parts) others h = refl
counts-step a (suc i) (r ∷ parts) others h = let s : suc i + 1 ≡ suc (i + 1) = omega arith in rw s (counts-step a i parts others (omega arith))

pub counts-next : (counts : List ℕ) (a i : ℕ) (parts others : List Part) (n : ℕ) → i < length parts → n ≡ pieces a (a + (slice_index_or parts i no_part).size) 0 others →
    (counts ++ n ∷ []) ++ piece_counts (a + (slice_index_or parts i no_part).size) (drop (i + 1) parts) others ≡ counts ++ piece_counts a (drop i parts) others
counts-next counts a i parts others n h is = rw (counts-step a i parts others h, ← is) (append_assoc counts (n ∷ []) (piece_counts (a + (slice_index_or parts i no_part).size) (drop (i + 1) parts) others))
