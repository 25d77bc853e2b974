-- The canonical value of graphs without a fault shows each delay and its life.
use Rattle.std.proofs.Common.{◌≡◌, ℕ, suc, ◌+◌, ◌^◌, ◌≤◌, ◌&&◌, ℤ, pos, negsuc, Bool, true, false, not, List, [], ◌∷◌, ◌++◌, map, All, length, get_or, refl, ap, arith, ◌==◌, ◌∙◌, if◌then◌else◌, sym}
use Rattle.std.specs.Prelude.{nat_le, nat_lt}
use Rattle.std.specs.List.{AllByRecursion, AllPass, list_all}
use Rattle.std.specs.Ordering.{int_eq}
use Rattle.std.proofs.lemmas.Bool.{or_parts}
use Rattle.std.proofs.lemmas.Bool.Decides.{nat_tests}
use Rattle.serde_json.specs.View.{items_of}
use Rattle.param_expr.specs.Eval.{in_i64}
use Rattle.pisdf_model.proofs.Lists.{left_none, right_none}
use Rattle.pisdf_model.specs.Count.{count_faults, delay_limit, graph_counts, has_long_delay}
use Rattle.pisdf_model.specs.Details.{from_number, unless}
use Rattle.pisdf_model.specs.Hold.{has_large_hold}
use Rattle.pisdf_model.specs.Range.{InRange, life_of}
use Rattle.pisdf_model.specs.declared.counting.Counted.TheVariants as counted
use Rattle.pisdf_model.specs.declared.fifo.Fifo.{Fifo}
use Rattle.pisdf_model.specs.declared.fifo.Life.{Life}
use Rattle.pisdf_model.specs.declared.fifo.Life.TheVariants.{Firing}
use Rattle.pisdf_model.specs.declared.graph.Graph.{Graph}
use Rattle.pisdf_model.specs.declared.graph.Graphs.{Graphs}
use Rattle.graph_format.specs.Canonical.{delay_value, whole_value, is_no_delay}
use Rattle.graph_format.specs.Named.{named_fifo, named_file, named_graph, stated_delay, stated_life}
use Rattle.graph_format.specs.Objects.{has_lives}
use Rattle.graph_format.specs.States.{StatesDelay}
use Rattle.graph_format.specs.Values.{AreItems, IsWhole}
use Rattle.graph_writer.specs.ReadAgain.{HasI64Tokens}
use Rattle.pisdf_model.proofs.Distinct.{not_told}
use Rattle.graph_writer.proofs.CanonicalValue.{AreShown, IsShown, shows_life}
use Rattle.graph_format.specs.declared.fifo.FileDelay.TheVariants.{Zeros, Tokens}

-- ---- numbers

whole_again : (z : ℤ) → in_i64 z ≡ true → IsWhole (whole_value z) z
whole_again (pos n) inside =
    let below : nat_lt n (2 ^ 63) ≡ true = grind (arith, nat_tests) in
    rw below refl
whole_again (negsuc n) inside = refl

wholes_again : (tokens : List ℤ) → AllPass in_i64 tokens → AreItems IsWhole (items_of (map whole_value tokens)) tokens
wholes_again [] inside = tt
wholes_again (t ∷ ts) inside = (whole_again t (inside 0 t (omega arith)), wholes_again ts (λ k d lt. inside (suc k) d (omega arith)))

-- ---- delays

delay_again : (tokens : List ℤ) → AllPass in_i64 tokens → nat_lt delay_limit (length tokens) ≡ false → StatesDelay (delay_value (stated_delay tokens)) (stated_delay tokens)
delay_again tokens inside short = go (list_all (λ token. int_eq token (pos 0)) tokens) refl
  where
    go : (b : Bool) → list_all (λ token. int_eq token (pos 0)) tokens ≡ b → StatesDelay (delay_value (stated_delay tokens)) (stated_delay tokens)
    go true is =
        let below : nat_lt (length tokens) (2 ^ 63) ≡ true = grind (arith, nat_tests) in
        rw (is, below) refl
    go false is = rw is (record { values = items_of (map whole_value tokens); is_array = refl; items = wholes_again tokens inside })

-- ---- when a delay is left out

not_zero : (n : ℕ) → (suc n == 0) ≡ false
not_zero n = grind (arith, nat_tests)

is_some_delay : (b : Bool) (t : ℤ) (ts : List ℤ) → is_no_delay (if b then Zeros (length (t ∷ ts)) else Tokens (t ∷ ts)) ≡ false
is_some_delay true t ts = not_zero (length ts)
is_some_delay false t ts = refl

pub only_empty : (tokens : List ℤ) → is_no_delay (stated_delay tokens) ≡ (length tokens == 0)
only_empty [] = refl
only_empty (t ∷ ts) = is_some_delay (list_all (λ token. int_eq token (pos 0)) (t ∷ ts)) t ts ∙ sym (not_zero (length ts))

-- ---- lives

-- the life of a FIFO without a delay is that of a firing
abbrev EmptyIsFiring : Fifo → Type 0
EmptyIsFiring f = f.delay ≡ [] → f.life ≡ Firing

lives_fit : (graphs : Graphs) → InRange graphs → All (λ (g : Graph). All EmptyIsFiring g.fifos) graphs.graphs
lives_fit graphs range = λ n d inside k e within none.
    let g = get_or graphs.graphs n d in
    let f = get_or g.fifos k e in
    ((range.each_graph n d inside).fifos k e within).life ∙ ap (life_of graphs.version (n == graphs.top) f.life) none

-- a life that the canonical value doesn't show is that of a firing
life_shown : (version : ℕ) (life : Life) (tokens : List ℤ) → 1 ≤ version → (tokens ≡ [] → life ≡ Firing) → shows_life version (stated_delay tokens) ≡ false → stated_life version life ≡ Firing
life_shown version life [] least empty hidden = go (version == 1)
  where
    go : (first : Bool) → (if first then Firing else life) ≡ Firing
    go true = refl
    go false = empty refl
life_shown version life (t ∷ ts) least empty hidden =
    let some : is_no_delay (stated_delay (t ∷ ts)) ≡ false = is_some_delay (list_all (λ token. int_eq token (pos 0)) (t ∷ ts)) t ts in
    let old : has_lives version ≡ false = (and_false (has_lives version) (not (is_no_delay (stated_delay (t ∷ ts)))) hidden (ap not some)) in
    let first : (version == 1) ≡ true = grind (arith, nat_tests, old) in
    ap (λ b. if b then Firing else life) first
  where
    and_false : (a b : Bool) → (a && b) ≡ false → b ≡ true → a ≡ false
    and_false true b none is = absurd cc
    and_false false b none is = refl

-- ---- graphs

-- of the counts of a graph
not_long : (graphs : List Graph) (n : ℕ) (g : Graph) → graph_counts graphs n g ≡ [] → has_long_delay g.fifos ≡ false
not_long graphs n g none =
    let hold = unless (not (has_large_hold graphs n)) counted.Hold in
    let delays = unless (not (has_long_delay g.fifos)) counted.Delay in
    let exports = unless (nat_le (length g.exports) 64) counted.Exports in
    let fifos = unless (nat_le (length g.fifos) 128) counted.Fifos in
    let actors = unless (nat_le (length g.actors) 64) counted.Actors in
    let outputs = unless (nat_le (length g.outputs) 32) counted.Outputs in
    let inputs = unless (nat_le (length g.inputs) 32) counted.Inputs in
    let params = unless (nat_le (length g.params) 64) counted.Params in
    let from_delays = delays ++ hold in
    let from_exports = exports ++ from_delays in
    let from_fifos = fifos ++ from_exports in
    let from_actors = actors ++ from_fifos in
    let from_outputs = outputs ++ from_actors in
    let from_inputs = inputs ++ from_outputs in
    let none_outputs : from_outputs ≡ [] = right_none inputs from_outputs (right_none params from_inputs none) in
    let none_fifos : from_fifos ≡ [] = right_none actors from_fifos (right_none outputs from_actors none_outputs) in
    let none_delays : from_delays ≡ [] = right_none exports from_delays (right_none fifos from_exports none_fifos) in
    not_told (has_long_delay g.fifos) counted.Delay (left_none delays hold none_delays)

module _ (kernels : List (List ℕ)) (graphs : Graphs) (least : 1 ≤ graphs.version) where
  each_shown : (g : Graph) (fifos : List Fifo) → All (λ (f : Fifo). AllPass in_i64 f.delay) fifos → All EmptyIsFiring fifos → has_long_delay fifos ≡ false → AllByRecursion (IsShown graphs.version) (map (named_fifo graphs g) fifos)
  each_shown g [] inside fit short = tt
  each_shown g (f ∷ fs) inside fit short =
      let parts = or_parts (nat_lt delay_limit (length f.delay)) (has_long_delay fs) short in
      let first : IsShown graphs.version (named_fifo graphs g f) = record {
        delay = delay_again f.delay (inside 0 f (omega arith)) parts.0;
        life = life_shown graphs.version f.life f.delay least (fit 0 f (omega arith));
      } in
      (first, each_shown g fs (λ k d lt. inside (suc k) d (omega arith)) (λ k d lt. fit (suc k) d (omega arith)) parts.1)

  graph_shown : (n : ℕ) (g : Graph) → HasI64Tokens g → All EmptyIsFiring g.fifos → graph_counts graphs.graphs n g ≡ [] → AreShown graphs.version (named_graph kernels graphs g)
  unfolding named_graph
  graph_shown n g inside fit none = each_shown g g.fifos inside fit (not_long graphs.graphs n g none)

  graphs_shown : (n : ℕ) (some : List Graph) → All HasI64Tokens some → All (λ (g : Graph). All EmptyIsFiring g.fifos) some → from_number n (graph_counts graphs.graphs) some ≡ [] → AllByRecursion (AreShown graphs.version) (map (named_graph kernels graphs) some)
  graphs_shown n [] inside fit none = tt
  graphs_shown n (g ∷ some) inside fit none =
      let here = graph_counts graphs.graphs n g in
      let rest = from_number (n + 1) (graph_counts graphs.graphs) some in
      (graph_shown n g (inside 0 g (omega arith)) (fit 0 g (omega arith)) (left_none here rest none), graphs_shown (n + 1) some (λ k d lt. inside (suc k) d (omega arith)) (λ k d lt. fit (suc k) d (omega arith)) (right_none here rest none))

-- the canonical value of the file of graphs shows all that its FIFOs have
pub fifos_shown : (kernels : List (List ℕ)) (graphs : Graphs) → All HasI64Tokens graphs.graphs → InRange graphs → count_faults graphs ≡ [] → AllByRecursion (AreShown (named_file kernels graphs).version) (named_file kernels graphs).graphs
unfolding named_file
fifos_shown kernels graphs inside range none =
    graphs_shown kernels graphs range.first_version 0 graphs.graphs inside (lives_fit graphs range) (right_none (unless (nat_le (length graphs.graphs) 32) counted.Graphs) (from_number 0 (graph_counts graphs.graphs) graphs.graphs) none)
