-- The counts of a file's parts are those of its graphs.
use Rattle.std.proofs.Common.{◌≡◌, ◌==◌, ◌||◌, ◌≤◌, ◌<◌, ℕ, List, [], ◌∷◌, ◌++◌, ◌+◌, length, map, Bool, true, false, Some, refl, sym, ap, ◌∙◌, arith}
use Rattle.std.specs.Prelude.{nat_le, nat_lt, slice_index_or, sum_by}
use Rattle.std.specs.List.{enumerate_from, range_with_len}
use Rattle.std.proofs.lemmas.Bool.Decides.{nat_tests}
use Rattle.std.proofs.lemmas.List.{length-map}
use Rattle.std.proofs.lemmas.List.FromFn.{get_or-map-range_with_len, length-enumerate_from}
use Rattle.std.proofs.lemmas.List.Sums.{sum_by-cons}
use Rattle.pisdf_model.specs.Count.{count_faults, counts_of, delay_limit, excess_of, graph_counts}
use Rattle.pisdf_model.specs.Count as model
use Rattle.pisdf_model.specs.Details.{first, from_number, of_each, unless}
use Rattle.pisdf_model.specs.Hold.{capped_hold, has_large_hold, is_large, kept_in, own_hold}
use Rattle.pisdf_model.specs.Nesting.{children}
use Rattle.pisdf_model.specs.declared.counting.Counted.{Counted}
use Rattle.pisdf_model.specs.declared.counting.Counted.TheVariants as counted
use Rattle.pisdf_model.specs.declared.fifo.Fifo.{Fifo}
use Rattle.pisdf_model.specs.declared.graph.Graph.{Graph}
use Rattle.pisdf_model.specs.declared.graph.Graphs.{Graphs}
use Rattle.pisdf_model.proofs.Alike.{of_mapped}
use Rattle.pisdf_model.proofs.Holds.{large_capped, large_hold}
use Rattle.graph_format.specs.Placed.{mark_of, placed, placed_actor, placed_fifo, placed_graph, placed_interface, placed_param, first_place, tokens_of, top_of}
use Rattle.graph_format.specs.KnownNames.{KnownNames, known_names}
use Rattle.graph_format.specs.declared.fifo.FileFifo.{FileFifo}
use Rattle.graph_format.specs.declared.file.File.{File}
use Rattle.graph_format.specs.declared.file.FileGraph.{FileGraph}
use Rattle.graph_reader.specs.Counted.{has_long_delay, kept_count, own_count, own_counts, part_counts}

-- ---- one graph

delays_kept : (version : ℕ) (is_top : Bool) (s : KnownNames) (fifos : List FileFifo) → model.has_long_delay (map (placed_fifo version tokens_of is_top s) fifos) ≡ has_long_delay fifos
delays_kept version is_top s [] = refl
delays_kept version is_top s (f ∷ fifos) = ap (λ any. nat_lt delay_limit (length (tokens_of f.delay)) || any) (delays_kept version is_top s fifos)

parts_kept : (large : Bool) (version : ℕ) (is_top : Bool) (s : KnownNames) (g : FileGraph) → counts_of large (placed_graph version tokens_of is_top s g) ≡ part_counts large g
parts_kept large version is_top s g =
    let params = length-map g.params (placed_param s) in
    let inputs = length-map g.inputs (placed_interface s) in
    let outputs = length-map g.outputs (placed_interface s) in
    let actors = length-map g.actors (placed_actor s) in
    let fifos = length-map g.fifos (placed_fifo version tokens_of is_top s) in
    let exports = length-map g.exports (first_place s.params) in
    let long = delays_kept version is_top s g.fifos in
    rw (params, inputs, outputs, actors, fifos, exports, long) refl

tokens_kept : (version : ℕ) (is_top : Bool) (s : KnownNames) (fifos : List FileFifo) → sum_by (λ (f : Fifo). length (kept_in f)) (map (placed_fifo version tokens_of is_top s) fifos) ≡ sum_by (kept_count version is_top) fifos
tokens_kept version is_top s [] = refl
tokens_kept version is_top s (f ∷ fifos) =
    let size : Fifo → ℕ = λ (f : Fifo). length (kept_in f) in
    let made : FileFifo → Fifo = placed_fifo version tokens_of is_top s in
    sum_by-cons size (made f) (map made fifos) ∙ ap (λ n. kept_count version is_top f + n) (tokens_kept version is_top s fifos) ∙ sym (sum_by-cons (kept_count version is_top) f fifos)

-- ---- all graphs

pub own_length : (file : File) (top : ℕ) → length (own_counts file top) ≡ length file.graphs
own_length file top = length-map (enumerate_from 0 file.graphs) (λ (n : ℕ × FileGraph). capped_hold (own_count file.version (n.0 == top) n.1)) ∙ length-enumerate_from 0 file.graphs

numbered_below : {X Y D : Type 0} (m : ℕ × X → Y) (f : ℕ → Y → List D) (g : ℕ → X → List D) (most : ℕ) → ((n : ℕ) (x : X) → n < most → f n (m (n, x)) ≡ g n x) → (n : ℕ) (xs : List X) → n + length xs ≤ most
    → from_number n f (map m (enumerate_from n xs)) ≡ from_number n g xs
numbered_below m f g most alike n [] within = refl
numbered_below m f g most alike n (x ∷ xs) within =
    ap (λ ds. ds ++ from_number (n + 1) f (map m (enumerate_from (n + 1) xs))) (alike n x (omega arith)) ∙ ap (λ ds. g n x ++ ds) (numbered_below m f g most alike (n + 1) xs (omega arith))

module _ (kernels : List (List ℕ)) (file : File) where
  abbrev made : ℕ × FileGraph → Graph
  made n = placed_graph file.version tokens_of (n.0 == top_of file) (known_names kernels file.graphs n.1) n.1

  abbrev marked : ℕ × FileGraph → Graph
  marked n = placed_graph file.version mark_of (n.0 == top_of file) (known_names kernels file.graphs n.1) n.1

  abbrev numbered : List (ℕ × FileGraph)
  numbered = enumerate_from 0 file.graphs

  abbrev own : ℕ × FileGraph → ℕ
  own n = own_count file.version (n.0 == top_of file) n.1

  owns : map capped_hold (map own_hold (map made numbered)) ≡ own_counts file (top_of file)
  owns =
      ap (map capped_hold) (of_mapped made own_hold own (λ n. tokens_kept file.version (n.0 == top_of file) (known_names kernels file.graphs n.1) n.1.fifos) numbered)
      ∙ of_mapped own capped_hold (λ n. capped_hold (own n)) (λ n. refl) numbered

  same_children : map children (map made numbered) ≡ map children (map marked numbered)
  same_children = of_mapped made children (λ n. children (marked n)) (λ n. refl) numbered ∙ sym (of_mapped marked children (λ n. children (marked n)) (λ n. refl) numbered)

  large_in : (n : ℕ) → has_large_hold (map made numbered) n ≡ is_large (own_counts file (top_of file)) (map children (map marked numbered)) n
  large_in n =
      large_hold (map made numbered) n
      ∙ sym (large_capped (map own_hold (map made numbered)) (map children (map made numbered)) n)
      ∙ ap (λ os. is_large os (map children (map made numbered)) n) owns
      ∙ ap (λ cs. is_large (own_counts file (top_of file)) cs n) same_children

  long : {A : Type 0} (f : ℕ × FileGraph → A) → length (map f numbered) ≡ length file.graphs
  long f = length-map numbered f ∙ length-enumerate_from 0 file.graphs

  pub as_many : (graphs : Graphs) → graphs ≡ placed mark_of kernels file → length graphs.graphs ≡ length file.graphs
  as_many graphs is = ap (λ (gs : Graphs). length gs.graphs) is ∙ long marked

  -- whether the holds are too large, by number
  abbrev larges : List Bool
  larges = map (is_large (own_counts file (top_of file)) (map children (map marked numbered))) (range_with_len 0 (length (map marked numbered)))

  abbrev excess : ℕ → FileGraph → List Counted
  excess n g = excess_of (part_counts (slice_index_or larges n false) g)

  excess_is : (n : ℕ) (g : FileGraph) → n < length file.graphs → graph_counts (map made numbered) n (made (n, g)) ≡ excess n g
  excess_is n g within =
      let inside : n < length (map marked numbered) = rw (long marked) within in
      let test = is_large (own_counts file (top_of file)) (map children (map marked numbered)) in
      let read : slice_index_or larges n false ≡ test n = get_or-map-range_with_len test 0 (length (map marked numbered)) n n false inside (omega arith) in
      ap excess_of (parts_kept (has_large_hold (map made numbered) n) file.version (n == top_of file) (known_names kernels file.graphs g) g ∙ ap (λ b. part_counts b g) (large_in n ∙ sym read))

  all_counts : count_faults (placed tokens_of kernels file) ≡ unless (nat_le (length file.graphs) 32) counted.Graphs ++ of_each excess file.graphs
  all_counts =
      ap (λ n. unless (nat_le n 32) counted.Graphs ++ of_each (graph_counts (map made numbered)) (map made numbered)) (long made)
      ∙ ap (λ ds. unless (nat_le (length file.graphs) 32) counted.Graphs ++ ds) (numbered_below made (graph_counts (map made numbered)) excess (length file.graphs) excess_is 0 file.graphs (omega arith))

  pub too_many_graphs : 32 < length file.graphs → first (count_faults (placed tokens_of kernels file)) ≡ Some counted.Graphs
  too_many_graphs more =
      let no : nat_le (length file.graphs) 32 ≡ false = grind (arith, nat_tests) in
      rw (all_counts, no) refl

  graphs_within : length file.graphs ≤ 32 → of_each excess file.graphs ≡ count_faults (placed tokens_of kernels file)
  graphs_within within =
      let yes : nat_le (length file.graphs) 32 ≡ true = grind (arith, nat_tests) in
      rw (all_counts, yes) refl

  -- what is counted of the file, where these are its graphs with their delays marked, is what its graphs have too many of
  pub all_counted : (graphs : Graphs) (own_tokens : List ℕ) (large : List Bool) (parts : List FileGraph) → graphs ≡ placed mark_of kernels file → own_tokens ≡ own_counts file graphs.top
      → large ≡ map (is_large own_tokens (map children graphs.graphs)) (range_with_len 0 (length graphs.graphs)) → parts ≡ file.graphs → length file.graphs ≤ 32
      → of_each (λ (n : ℕ) (g : FileGraph). excess_of (part_counts (slice_index_or large n false) g)) parts ≡ count_faults (placed tokens_of kernels file)
  all_counted graphs own_tokens large parts is owned told same within =
      let top : graphs.top ≡ top_of file = ap (λ (gs : Graphs). gs.top) is in
      let all : graphs.graphs ≡ map marked numbered = ap (λ (gs : Graphs). gs.graphs) is in
      let counts : own_tokens ≡ own_counts file (top_of file) = owned ∙ ap (own_counts file) top in
      let larges_are : large ≡ larges =
      told ∙ ap (λ (os : List ℕ). map (is_large os (map children graphs.graphs)) (range_with_len 0 (length graphs.graphs))) counts
      ∙ ap (λ (gs : List Graph). map (is_large (own_counts file (top_of file)) (map children gs)) (range_with_len 0 (length gs))) all in
      ap (λ (ls : List Bool). of_each (λ (n : ℕ) (g : FileGraph). excess_of (part_counts (slice_index_or ls n false) g)) parts) larges_are
      ∙ ap (of_each excess) same
      ∙ graphs_within within
