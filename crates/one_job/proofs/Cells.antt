-- Cells after some of them were written.
use Rattle.std.proofs.Common.{◌≡◌, ℕ, ◌+◌, ◌-◌, ◌<◌, ◌≤◌, ⊎_elim, List, ◌++◌, length, take, drop, get_or, refl, sym, ap, ◌∙◌, arith, ℤ, pos}
use Rattle.std.proofs.lemmas.List.{ext_get_or, get_or_append_left, get_or-append_right, get_or-take, get_or-drop, length-take-le, length-drop, length-append}
use Rattle.split_block.specs.Places.{Place, Apart, window, write}

pub length-write : (start : ℕ) (ws cells : List ℤ) → start + length ws ≤ length cells → length (write start ws cells) ≡ length cells
length-write start ws cells fits =
    let front = length-take-le start cells (omega arith) in
    simp (length-append, length-drop) (omega arith)

write_below : (start : ℕ) (ws cells : List ℤ) (i : ℕ) → start + length ws ≤ length cells → i < start → get_or (write start ws cells) i (pos 0) ≡ get_or cells i (pos 0)
write_below start ws cells i fits below =
    let front = length-take-le start cells (omega arith) in
    get_or_append_left (take start cells) (ws ++ drop (start + length ws) cells) (pos 0) i (omega arith) ∙ get_or-take start cells i (pos 0) below

write_in : (start : ℕ) (ws cells : List ℤ) (i : ℕ) → start + length ws ≤ length cells → i < length ws → get_or (write start ws cells) (start + i) (pos 0) ≡ get_or ws i (pos 0)
write_in start ws cells i fits inside =
    let front = length-take-le start cells (omega arith) in
    let there : start + i - start ≡ i = omega arith in
    get_or-append_right (take start cells) (ws ++ drop (start + length ws) cells) start (start + i) (pos 0) front (omega arith)
    ∙ rw there (get_or_append_left ws (drop (start + length ws) cells) (pos 0) i inside)

write_above : (start : ℕ) (ws cells : List ℤ) (i : ℕ) → start + length ws ≤ length cells → start + length ws ≤ i → get_or (write start ws cells) i (pos 0) ≡ get_or cells i (pos 0)
write_above start ws cells i fits above =
    let front = length-take-le start cells (omega arith) in
    let back : start + length ws + (i - start - length ws) ≡ i = omega arith in
    get_or-append_right (take start cells) (ws ++ drop (start + length ws) cells) start i (pos 0) front (omega arith)
    ∙ (get_or-append_right ws (drop (start + length ws) cells) (length ws) (i - start) (pos 0) refl (omega arith)
    ∙ (get_or-drop (start + length ws) cells (i - start - length ws) (pos 0) ∙ ap (λ n. get_or cells n (pos 0)) back))

-- a window, cell by cell
pub length-window : (cells : List ℤ) (start len : ℕ) → start + len ≤ length cells → length (window start len cells) ≡ len
length-window cells start len fits = length-take-le len (drop start cells) (simp length-drop (omega arith))

at_window : (cells : List ℤ) (start len i : ℕ) → i < len → get_or (window start len cells) i (pos 0) ≡ get_or cells (start + i) (pos 0)
at_window cells start len i inside = get_or-take len (drop start cells) i (pos 0) inside ∙ get_or-drop start cells i (pos 0)

window_is : (cells ws : List ℤ) (start len : ℕ) → start + len ≤ length cells → length ws ≡ len → ((i : ℕ) → i < len → get_or cells (start + i) (pos 0) ≡ get_or ws i (pos 0)) → window start len cells ≡ ws
window_is cells ws start len fits long each =
    let wide = length-window cells start len fits in
    ext_get_or (pos 0) (window start len cells) ws (wide ∙ sym long) (λ i below. let inside : i < len = omega arith in at_window cells start len i inside ∙ each i inside)

-- what was written stands there
pub window-write_same : (start : ℕ) (ws cells : List ℤ) → start + length ws ≤ length cells → window start (length ws) (write start ws cells) ≡ ws
window-write_same start ws cells fits =
    let long = length-write start ws cells fits in
    window_is (write start ws cells) ws start (length ws) (omega arith) refl (λ i inside. write_in start ws cells i fits inside)

-- and what is apart from it stays
pub window-write_apart : (p : Place) (start : ℕ) (ws cells : List ℤ) → start + length ws ≤ length cells → p.start + p.len ≤ length cells → Apart p (record { start = start; len = length ws }) → window p.start p.len (write start ws cells) ≡ window p.start p.len cells
window-write_apart p start ws cells fits within apart =
    let long = length-write start ws cells fits in
    window_is (write start ws cells) (window p.start p.len cells) p.start p.len (omega arith) (length-window cells p.start p.len within)
    (λ i inside. stays i inside ∙ sym (at_window cells p.start p.len i inside))
  where
    stays : (i : ℕ) → i < p.len → get_or (write start ws cells) (p.start + i) (pos 0) ≡ get_or cells (p.start + i) (pos 0)
    stays i inside = ⊎_elim
        (λ (before : p.start + p.len ≤ start). write_below start ws cells (p.start + i) fits (omega arith))
        (λ (after : start + length ws ≤ p.start). write_above start ws cells (p.start + i) fits (omega arith))
        apart
