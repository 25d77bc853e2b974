-- One firing more at the end.
use Rattle.std.proofs.Common.{◌≡◌, ℕ, zero, suc, ◌+◌, ◌*◌, ◌≤◌, List, [], ◌∷◌, ◌++◌, length, refl, ap, sym, ◌∙◌, append_assoc, arith}
use Rattle.sdf_level.specs.declared.node.Node.TheVariants as node
use Rattle.single_rate.specs.declared.part.Part.{Part}
use Rattle.single_rate.specs.declared.wire.Wire.{Wire}
use Rattle.sdf_level.specs.declared.node.Node.{Node}
use Rattle.single_rate.specs.Wires.{firing_parts, delay_part, broadcast_to, rounded_from}

abbrev pub firing_part : ℕ → ℕ → ℕ → ℕ → Part
firing_part a p r k = record { at = record { node = node.Firing a k; port = p }; size = r }

abbrev pub broadcast_wire : ℕ → ℕ → ℕ → ℕ → ℕ → ℕ → Wire
broadcast_wire l b j c k x = record { tail = record { node = node.Broadcast l; port = k }; head = record { node = node.Firing b k; port = j }; size = c; place = x }

abbrev pub rounded_wire : ℕ → ℕ → ℕ → ℕ → ℕ → ℕ → Wire
rounded_wire l a p r k x = record { tail = record { node = node.Firing a k; port = p }; head = record { node = node.Round l; port = k }; size = r; place = x }

firing-snoc : (a p r k n : ℕ) → firing_parts a p r k (n + 1) ≡ firing_parts a p r k n ++ firing_part a p r (k + n) ∷ []
firing-snoc a p r k zero = let z : k + 0 ≡ k = omega arith in rw z refl
firing-snoc a p r k (suc n) = let s : suc n + 1 ≡ suc (n + 1) = omega arith in let z : k + suc n ≡ (k + 1) + n = omega arith in rw (s, z) (ap (λ (x : List Part). firing_part a p r k ∷ x) (firing-snoc a p r (k + 1) n))

broadcast-snoc : (l b j c k x n : ℕ) → broadcast_to l b j c k x (n + 1) ≡ broadcast_to l b j c k x n ++ broadcast_wire l b j c (k + n) (x + n * c) ∷ []
broadcast-snoc l b j c k x zero = let z : k + 0 ≡ k = omega arith in let y : x + 0 * c ≡ x = omega arith in rw (z, y) refl
broadcast-snoc l b j c k x (suc n) = let s : suc n + 1 ≡ suc (n + 1) = omega arith in let z : k + suc n ≡ (k + 1) + n = omega arith in let y : x + suc n * c ≡ (x + c) + n * c = grind arith in rw (s, z, y) (ap (λ (w : List Wire). broadcast_wire l b j c k x ∷ w) (broadcast-snoc l b j c (k + 1) (x + c) n))

rounded-snoc : (l a p r k x n : ℕ) → rounded_from l a p r k x (n + 1) ≡ rounded_from l a p r k x n ++ rounded_wire l a p r (k + n) (x + n * r) ∷ []
rounded-snoc l a p r k x zero = let z : k + 0 ≡ k = omega arith in let y : x + 0 * r ≡ x = omega arith in rw (z, y) refl
rounded-snoc l a p r k x (suc n) = let s : suc n + 1 ≡ suc (n + 1) = omega arith in let z : k + suc n ≡ (k + 1) + n = omega arith in let y : x + suc n * r ≡ (x + r) + n * r = grind arith in rw (s, z, y) (ap (λ (w : List Wire). rounded_wire l a p r k x ∷ w) (rounded-snoc l a p r (k + 1) (x + r) n))

pub firings-pushed : (a p r n : ℕ) (start old new : List Part) → new ≡ old ++ firing_part a p r n ∷ [] → old ≡ start ++ firing_parts a p r 0 n → new ≡ start ++ firing_parts a p r 0 (n + 1)
firings-pushed a p r n start old new is before =
    let z : 0 + n ≡ n = omega arith in
    let s = rw z at (firing-snoc a p r 0 n) in
    is ∙ ap (λ (x : List Part). x ++ firing_part a p r n ∷ []) before ∙ append_assoc start (firing_parts a p r 0 n) (firing_part a p r n ∷ []) ∙ ap (λ (x : List Part). start ++ x) (sym s)

pub broadcast-pushed : (l b j c n x : ℕ) (start old new : List Wire) → x ≡ n * c → new ≡ old ++ broadcast_wire l b j c n x ∷ [] → old ≡ start ++ broadcast_to l b j c 0 0 n → new ≡ start ++ broadcast_to l b j c 0 0 (n + 1)
broadcast-pushed l b j c n x start old new at is before =
    let z : 0 + n ≡ n = omega arith in
    let y : 0 + n * c ≡ x = omega arith in
    let s = rw (z, y) at (broadcast-snoc l b j c 0 0 n) in
    is ∙ ap (λ (w : List Wire). w ++ broadcast_wire l b j c n x ∷ []) before ∙ append_assoc start (broadcast_to l b j c 0 0 n) (broadcast_wire l b j c n x ∷ []) ∙ ap (λ (w : List Wire). start ++ w) (sym s)

pub rounded-pushed : (l a p r n x : ℕ) (start old new : List Wire) → x ≡ n * r → new ≡ old ++ rounded_wire l a p r n x ∷ [] → old ≡ start ++ rounded_from l a p r 0 0 n → new ≡ start ++ rounded_from l a p r 0 0 (n + 1)
rounded-pushed l a p r n x start old new at is before =
    let z : 0 + n ≡ n = omega arith in
    let y : 0 + n * r ≡ x = omega arith in
    let s = rw (z, y) at (rounded-snoc l a p r 0 0 n) in
    is ∙ ap (λ (w : List Wire). w ++ rounded_wire l a p r n x ∷ []) before ∙ append_assoc start (rounded_from l a p r 0 0 n) (rounded_wire l a p r n x ∷ []) ∙ ap (λ (w : List Wire). start ++ w) (sym s)

pub firings-length : (a p r k n : ℕ) → length (firing_parts a p r k n) ≡ n
firings-length a p r k zero = refl
firings-length a p r k (suc n) = let e = firings-length a p r (k + 1) n in omega arith

pub delay-length : (n : Node) (d : ℕ) → length (delay_part n d) ≤ 1
delay-length n zero = omega arith
delay-length n (suc d) = omega arith
