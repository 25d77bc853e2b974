-- A frame whose outputs are written one after the other.
use Rattle.std.proofs.Common.{◌≡◌, ℕ, ◌+◌, ◌%◌, ◌/◌, ◌<◌, ◌≤◌, List, [], ◌∷◌, ◌++◌, length, get_or, set, take, drop, refl, sym, ap, ◌∙◌, append-nil, arith, length-append, length-drop}
use Rattle.std.specs.Prelude.{ℤ}
use Rattle.std.proofs.Math.Nat.{zero-mod, add-mul-mod_self_right, mod-add-div'}
use Rattle.std.proofs.Math.Seq.{take-add}
use Rattle.std.proofs.lemmas.List.{length-take-le, take_more, take_more_set, take_all, get_or-map, map-set, set-get_or, length-map}
use Rattle.std.proofs.lemmas.List.Concat.{flat_map-append}
use Rattle.std.proofs.lemmas.List.Folds.{length-flat_map-take}
use Rattle.kernel_gate.specs.Value.{FrameView, port, lengths}
use Rattle.sdf_level.specs.Interfaces.{repeated}
use Rattle.special_actors.specs.Copying.{joined}
use Rattle.special_actors.proofs.Rounds.{length_repeated, repeated_append, repeated_mod}

joined_append : {T : Type 0} (xs ys : List (List T)) → joined (xs ++ ys) ≡ joined xs ++ joined ys
joined_append xs ys = flat_map-append (λ l. l) xs ys

joined_push : {T : Type 0} (xs : List (List T)) (w : List T) → joined (xs ++ w ∷ []) ≡ joined xs ++ w
joined_push xs w = joined_append xs (w ∷ []) ∙ ap (λ l. joined xs ++ l) (append-nil w)

-- the lists up to the next place
pub joined_more : {T : Type 0} (xs : List (List T)) (i : ℕ) → i < length xs → joined (take (i + 1) xs) ≡ joined (take i xs) ++ get_or xs i []
joined_more xs i lt = ap joined (take_more xs i [] lt) ∙ joined_push (take i xs) (get_or xs i [])

pub joined_written : {T : Type 0} (xs : List (List T)) (i : ℕ) (w : List T) → i < length xs → joined (take (i + 1) (set xs i w)) ≡ joined (take i xs) ++ w
joined_written xs i w lt = ap joined (take_more_set xs i w lt) ∙ joined_push (take i xs) w

pub length_more : {T : Type 0} (xs : List (List T)) (i : ℕ) → i < length xs → length (joined (take (i + 1) xs)) ≡ length (joined (take i xs)) + length (get_or xs i [])
length_more xs i lt = ap length (joined_more xs i lt) ∙ length-append (joined (take i xs)) (get_or xs i [])

-- only outputs changed, and none in length
pub record KeepsSizes (f g : FrameView) : Type 0 where
  pub kept : g ≡ record f { outputs = g.outputs }
  pub sizes : lengths g.outputs ≡ lengths f.outputs

pub unchanged : (f : FrameView) → KeepsSizes f f
unchanged f = record { kept = refl; sizes = refl }

pub same_count : (f g : FrameView) → KeepsSizes f g → length g.outputs ≡ length f.outputs
same_count f g k =
    sym (length-map g.outputs (λ (l : List ℤ). length l)) ∙ (ap (λ (l : List ℕ). length l) k.sizes ∙ length-map f.outputs (λ (l : List ℤ). length l))

pub same_size : (f g : FrameView) (i : ℕ) → KeepsSizes f g → i < length f.outputs → length (port g.outputs i) ≡ length (port f.outputs i)
same_size f g i k lt =
    sym (get_or-map (λ (l : List ℤ). length l) g.outputs i [] 0 (omega (arith, same_count f g k)))
    ∙ (ap (λ (l : List ℕ). get_or l i 0) k.sizes ∙ get_or-map (λ (l : List ℤ). length l) f.outputs i [] 0 lt)

pub written_one : (f g h : FrameView) (i : ℕ) (w : List ℤ) → KeepsSizes f g → i < length g.outputs → length w ≡ length (port g.outputs i) → h ≡ record g { outputs = set g.outputs i w } → KeepsSizes f h
written_one f g h i w k lt len e = record {
  kept = e ∙ ap (λ (v : FrameView). record v { outputs = set g.outputs i w }) k.kept ∙ ap (λ (l : List (List ℤ)). record f { outputs = l }) (sym (ap (λ (v : FrameView). v.outputs) e));
  sizes = ap (λ (v : FrameView). lengths v.outputs) e
      ∙ (map-set (λ (l : List ℤ). length l) g.outputs i w
      ∙ (ap (set (lengths g.outputs) i) (len ∙ sym (get_or-map (λ (l : List ℤ). length l) g.outputs i [] 0 lt)) ∙ (set-get_or (lengths g.outputs) i 0 ∙ k.sizes)));
}

-- the first `to` outputs are filled with the input's tokens in order, up to a place
pub record CutTo (f g : FrameView) (to place : ℕ) : Type 0 where
  pub same : KeepsSizes f g
  pub within : to ≤ length f.outputs
  pub next : place ≡ length (joined (take to f.outputs))
  pub written : joined (take to g.outputs) ≡ take place (port f.inputs 0)

pub cut_start : (f : FrameView) → CutTo f f 0 0
cut_start f = record { same = unchanged f; within = omega arith; next = refl; written = refl }

pub cut_fits : (f g : FrameView) (to place : ℕ) → CutTo f g to place → to < length f.outputs → length (joined f.outputs) ≡ length (port f.inputs 0) → place + length (port g.outputs to) ≤ length (port g.inputs 0)
cut_fits f g to place c lt all =
    let inputs : g.inputs ≡ f.inputs = ap (λ (v : FrameView). v.inputs) c.same.kept in
    omega (arith, c.next, length-flat_map-take (λ (l : List ℤ). l) f.outputs to [] lt, same_size f g to c.same lt, ap (λ (l : List (List ℤ)). length (port l 0)) inputs)

pub cut_more : (f g h : FrameView) (to place next : ℕ) → CutTo f g to place → to < length f.outputs → length (joined f.outputs) ≡ length (port f.inputs 0) → next ≡ place + length (port g.outputs to)
    → h ≡ record g { outputs = set g.outputs to (take (length (port g.outputs to)) (drop place (port g.inputs 0))) } → CutTo f h (to + 1) next
cut_more f g h to place next c lt all end e =
    let n = length (port g.outputs to) in
    let x = port g.inputs 0 in
    let there : to < length g.outputs = omega (arith, same_count f g c.same) in
    let room : n ≤ length (drop place x) = omega (arith, cut_fits f g to place c lt all, length-drop place x) in
    let inputs : port g.inputs 0 ≡ port f.inputs 0 = ap (λ (v : FrameView). port v.inputs 0) c.same.kept in
    record {
      same = written_one f g h to (take n (drop place x)) c.same there (length-take-le n (drop place x) room) e;
      within = omega arith;
      next = end ∙ omega (arith, c.next, length_more f.outputs to lt, same_size f g to c.same lt);
      written = ap (λ (v : FrameView). joined (take (to + 1) v.outputs)) e
          ∙ (joined_written g.outputs to (take n (drop place x)) there
          ∙ (ap (λ (l : List ℤ). l ++ take n (drop place x)) (c.written ∙ ap (λ (l : List ℤ). take place l) (sym inputs))
          ∙ (sym (take-add place n x) ∙ (ap (λ k. take k x) (sym end) ∙ ap (λ (l : List ℤ). take next l) inputs))));
    }

pub cut_all : (f g : FrameView) (to place : ℕ) → CutTo f g to place → length f.outputs ≤ to → length (joined f.outputs) ≡ length (port f.inputs 0) → joined g.outputs ≡ port f.inputs 0
cut_all f g to place c le all =
    let end : length (port f.inputs 0) ≤ place = omega (arith, c.next, ap (λ (l : List (List ℤ)). length (joined l)) (take_all to f.outputs le)) in
    sym (ap joined (take_all to g.outputs (omega (arith, same_count f g c.same)))) ∙ (c.written ∙ take_all place (port f.inputs 0) end)

mod-add-mod : (a n m : ℕ) → (a % m + n) % m ≡ (a + n) % m
mod-add-mod a n m = sym (add-mul-mod_self_right (a % m + n) (a / m) m) ∙ ap (λ k. k % m) (omega (arith, mod-add-div' a m))

-- the first `to` outputs are filled with the input's repeated tokens, and a place of the input is next
pub record RepeatedTo (f g : FrameView) (to place : ℕ) : Type 0 where
  pub same : KeepsSizes f g
  pub within : to ≤ length f.outputs
  pub next : place ≡ length (joined (take to f.outputs)) % length (port f.inputs 0)
  pub written : joined (take to g.outputs) ≡ repeated (port f.inputs 0) 0 (length (joined (take to f.outputs)))

pub repeated_start : (f : FrameView) → RepeatedTo f f 0 0
repeated_start f = record { same = unchanged f; within = omega arith; next = sym (zero-mod (length (port f.inputs 0))); written = refl }

pub repeated_fits : (f g : FrameView) (to place : ℕ) → RepeatedTo f g to place → 0 < length (port f.inputs 0) → place < length (port g.inputs 0)
repeated_fits f g to place c some =
    let inputs : length (port g.inputs 0) ≡ length (port f.inputs 0) = ap (λ (v : FrameView). length (port v.inputs 0)) c.same.kept in
    omega (arith, c.next, inputs)

pub repeated_more : (f g h : FrameView) (to place next : ℕ) → RepeatedTo f g to place → to < length f.outputs → 0 < length (port f.inputs 0) → next ≡ (place + length (port g.outputs to)) % length (port g.inputs 0)
    → h ≡ record g { outputs = set g.outputs to (repeated (port g.inputs 0) place (length (port g.outputs to))) } → RepeatedTo f h (to + 1) next
repeated_more f g h to place next c lt some end e =
    let n = length (port g.outputs to) in
    let x = port f.inputs 0 in
    let before = length (joined (take to f.outputs)) in
    let there : to < length g.outputs = omega (arith, same_count f g c.same) in
    let inputs : port g.inputs 0 ≡ x = ap (λ (v : FrameView). port v.inputs 0) c.same.kept in
    let some' : 0 < length (port g.inputs 0) = omega (arith, ap (λ (l : List ℤ). length l) inputs) in
    let total : before + n ≡ length (joined (take (to + 1) f.outputs)) = omega (arith, length_more f.outputs to lt, same_size f g to c.same lt) in
    let piece : repeated (port g.inputs 0) place n ≡ repeated x (0 + before) n =
    ap (λ (l : List ℤ). repeated l place n) inputs ∙ (ap (λ p. repeated x p n) c.next ∙ (repeated_mod x before n ∙ ap (λ p. repeated x p n) (omega arith)))
    in
    record {
      same = written_one f g h to (repeated (port g.inputs 0) place n) c.same there (length_repeated (port g.inputs 0) place n some') e;
      within = omega arith;
      next = end
          ∙ (ap (λ (l : List ℤ). (place + n) % length l) inputs
          ∙ (ap (λ p. (p + n) % length x) c.next ∙ (mod-add-mod before n (length x) ∙ ap (λ p. p % length x) total)));
      written = ap (λ (v : FrameView). joined (take (to + 1) v.outputs)) e
          ∙ (joined_written g.outputs to (repeated (port g.inputs 0) place n) there
          ∙ (ap (λ (l : List ℤ). l ++ repeated (port g.inputs 0) place n) c.written
          ∙ (ap (λ (l : List ℤ). repeated x 0 before ++ l) piece ∙ (repeated_append x 0 before n ∙ ap (repeated x 0) total))));
    }

pub repeated_all : (f g : FrameView) (to place : ℕ) → RepeatedTo f g to place → length f.outputs ≤ to → joined g.outputs ≡ repeated (port f.inputs 0) 0 (length (joined f.outputs))
repeated_all f g to place c le =
    sym (ap joined (take_all to g.outputs (omega (arith, same_count f g c.same))))
    ∙ (c.written ∙ ap (λ (l : List (List ℤ)). repeated (port f.inputs 0) 0 (length (joined l))) (take_all to f.outputs le))
