-- The rule leaves no choice: one line, one list of orders.
use Rattle.std.proofs.Common.{◌≡◌, ℕ, zero, suc, ◌<◌, ◌≤◌, eqb, List, [], take, slice_index, add-one, arith, refl, sym, ap, subst, ◌∙◌}
use Rattle.std.specs.List.{filter}
use Rattle.std.proofs.lemmas.List.{ext_get_or, take_all, take_more_same}
use Rattle.order_memory.specs.Line.{IsLeastOpen, IsLine}
use Rattle.order_memory.specs.Orders.{AreOrders}
use Rattle.order_memory.proofs.Standing.{whole_long}

module _ (nodes : ℕ) (edges : List (ℕ × ℕ)) where
  same_least : (earlier : List ℕ) (n m : ℕ) → IsLeastOpen nodes edges earlier n → IsLeastOpen nodes edges earlier m → n ≡ m
  same_least earlier n m one other =
      let up = one.least m other.is_open in
      let down = other.least n one.is_open in
      omega arith

  same_front : (line other : List ℕ) → IsLine nodes edges line → IsLine nodes edges other → (i : ℕ) → i ≤ nodes → take i line ≡ take i other
  same_front line other one two zero inside = refl
  same_front line other one two (suc i) inside =
      let long = whole_long nodes edges line one in
      let long' = whole_long nodes edges other two in
      let before = same_front line other one two i (omega arith) in
      let next : slice_index line i ≡ slice_index other i = same_least (take i line) (slice_index line i) (slice_index other i) (one.each i (omega arith)) (subst (λ (earlier : List ℕ). IsLeastOpen nodes edges earlier (slice_index other i)) (sym before) (two.each i (omega arith))) in
      rw (add-one i) at (take_more_same line other i 0 (omega arith) (omega arith) before next)

  same_line : (line other : List ℕ) → IsLine nodes edges line → IsLine nodes edges other → line ≡ other
  same_line line other one two =
      sym (take_all nodes line (let long = whole_long nodes edges line one in omega arith))
      ∙ same_front line other one two nodes (omega arith)
      ∙ take_all nodes other (let long = whole_long nodes edges other two in omega arith)

  pub same_orders : (home : List ℕ) (workers : ℕ) (orders other : List (List ℕ)) → AreOrders nodes edges home workers orders → AreOrders nodes edges home workers other → other ≡ orders
  same_orders home workers orders other one two = ext_get_or [] other orders (two.of_line.one_each ∙ sym one.of_line.one_each) (λ w inside.
      let there : w < workers = (let long = two.of_line.one_each in omega arith) in
      two.of_line.each w there
      ∙ ap (λ (line : List ℕ). filter (λ n. eqb (slice_index home n) w) line) (same_line two.line one.line two.is_line one.is_line)
      ∙ sym (one.of_line.each w there))
