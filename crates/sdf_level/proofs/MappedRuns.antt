-- Runs over images are images of runs.
use Rattle.std.proofs.Common.{◌≡◌, ℕ, zero, suc, ◌+◌, ◌-◌, ◌*◌, ◌%◌, ◌==◌, Bool, true, false, if◌then◌else◌, List, [], ◌∷◌, ◌++◌, length, map, slice_index, slice_index_or, drop, Result, Ok, Err, refl, ap, sym, ◌∙◌, subst}
use Rattle.std.proofs.lemmas.List.{map-append, length-map, take-map, drop-map}
use Rattle.std.proofs.Math.ListN.{get_or-map}
use Rattle.sdf_level.specs.View.{LevelView}
use Rattle.sdf_level.specs.declared.link.Link.{Link}
use Rattle.sdf_level.specs.declared.link.Tail.{Tail}
use Rattle.sdf_level.specs.declared.link.Head.{Head}
use Rattle.sdf_level.specs.declared.link.Tail.TheVariants as tail
use Rattle.sdf_level.specs.declared.link.Head.TheVariants as head
use Rattle.sdf_level.specs.Invariants.{how_many, is_into_port, is_into_sink}
use Rattle.sdf_level.specs.Interfaces.{repeat, repeated, last}
use Rattle.sdf_level.specs.Firings.{firings}
use Rattle.sdf_level.specs.Run.{Fire, read, input, inputs_below, inputs, head_rate, is_into_actor, added, put, GoesOn, RunsFrom, Runs}
use Rattle.sdf_level.specs.LevelRun.{Ended, written, kept_at, left_on, left_of, IsEnd, IsLevelRun}
use Rattle.sdf_level.specs.Told.{Made, sent, line_of, lines_of}
use Rattle.sdf_level.specs.Images.{image, image_made, image_answer, image_end, Respects}

module _ {S T : Type 0} (f : S → T) where
  either : (c : Bool) (x y : List S) → (if c then map f x else map f y) ≡ map f (if c then x else y)
  either true x y = refl
  either false x y = refl

  at_image : (lists : List (List S)) (p : ℕ) → slice_index_or (image f lists) p [] ≡ map f (slice_index_or lists p [])
  at_image lists p = get_or-map (λ (list : List S). map f list) lists p []

  repeat_image : (t : List S) (i : ℕ) → repeat (map f t) i ≡ map f (repeat t i)
  repeat_image t i = rw (length-map t f, drop-map f (i % length t) t) (take-map f 1 (drop (i % length t) t))

  repeated_image : (t : List S) (i n : ℕ) → repeated (map f t) i n ≡ map f (repeated t i n)
  repeated_image t i zero = refl
  repeated_image t i (suc n) = rw (repeat_image t i, repeated_image t (i + 1) n) (sym (map-append f (repeat t i) (repeated t (i + 1) n)))

  read_image : (sources : List (List S)) (k c : ℕ) (t : Tail) (line : List S) → read (image f sources) k c t (map f line) ≡ map f (read sources k c t line)
  read_image sources k c (tail.Source s) line = rw (at_image sources s) (repeated_image (slice_index_or sources s []) (k * c) c)
  read_image sources k c (tail.Port a p r) line = rw (drop-map f (k * c) line) (take-map f c (drop (k * c) line))

  input_image : (sources : List (List S)) (b k port : ℕ) (links : List Link) (lines : List (List S)) → input (image f sources) b k port links (image f lines) ≡ map f (input sources b k port links lines)
  input_image sources b k port [] lines = refl
  input_image sources b k port (link ∷ links) [] = refl
  input_image sources b k port (link ∷ links) (line ∷ lines) =
      rw (read_image sources k (head_rate link.head) link.tail line, input_image sources b k port links lines) (either (is_into_port b port link) (read sources k (head_rate link.head) link.tail line) (input sources b k port links lines))

  below_image : (sources : List (List S)) (b k ports : ℕ) (links : List Link) (lines : List (List S)) → inputs_below (image f sources) b k ports links (image f lines) ≡ image f (inputs_below sources b k ports links lines)
  below_image sources b k zero links lines = refl
  below_image sources b k (suc port) links lines =
      rw (below_image sources b k port links lines, input_image sources b k port links lines) (sym (map-append (λ (list : List S). map f list) (inputs_below sources b k port links lines) (input sources b k port links lines ∷ [])))

  pub inputs_image : (sources lines : List (List S)) (links : List Link) (b k : ℕ) → inputs (image f sources) b k links (image f lines) ≡ image f (inputs sources b k links lines)
  inputs_image sources lines links b k = below_image sources b k (how_many (is_into_actor b) links) links lines

  added_image : (b : ℕ) (outputs : List (List S)) (t : Tail) → added b (image f outputs) t ≡ map f (added b outputs t)
  added_image b outputs (tail.Source s) = refl
  added_image b outputs (tail.Port a p r) = rw (at_image outputs p) (either (a == b) (slice_index_or outputs p []) [])

  put_image : (b : ℕ) (outputs : List (List S)) (links : List Link) (lines : List (List S)) → put b (image f outputs) links (image f lines) ≡ image f (put b outputs links lines)
  put_image b outputs [] lines = refl
  put_image b outputs (link ∷ links) [] = refl
  put_image b outputs (link ∷ links) (line ∷ lines) = rw (added_image b outputs link.tail, put_image b outputs links lines, map-append f line (added b outputs link.tail)) refl

  -- what was made
  sent_image : (own : ℕ → List (List S)) (p n : ℕ) → sent (λ j. image f (own j)) p n ≡ map f (sent own p n)
  sent_image own p zero = refl
  sent_image own p (suc n) = rw (sent_image own p n, at_image (own n) p) (sym (map-append f (sent own p n) (slice_index_or (own n) p [])))

  line_image : (made : Made S) (fired : ℕ → ℕ) (t : Tail) (start : List S) → line_of (image_made f made) fired t (map f start) ≡ map f (line_of made fired t start)
  line_image made fired (tail.Source s) start = refl
  line_image made fired (tail.Port a p r) start = rw (sent_image (made a) p (fired a)) (sym (map-append f start (sent (made a) p (fired a))))

  pub lines_image : (made : Made S) (fired : ℕ → ℕ) (links : List Link) (starts : List (List S)) → lines_of (image_made f made) fired links (image f starts) ≡ image f (lines_of made fired links starts)
  lines_image made fired [] starts = refl
  lines_image made fired (link ∷ links) [] = refl
  lines_image made fired (link ∷ links) (start ∷ starts) = rw (line_image made fired link.tail start, lines_image made fired links starts) refl

  -- what a run ends with
  last_image : (r : ℕ) (line : List S) → last r (map f line) ≡ map f (last r line)
  last_image r line = rw (length-map line f) (drop-map f (length line - r) line)

  written_image : (s : ℕ) (links : List Link) (lines : List (List S)) → written s links (image f lines) ≡ map f (written s links lines)
  written_image s [] lines = refl
  written_image s (link ∷ links) [] = refl
  written_image s (link ∷ links) (line ∷ lines) = rw (written_image s links lines) (either (is_into_sink s link) line (written s links lines))

  kept_image : (s : ℕ) (sinks : List ℕ) (links : List Link) (lines : List (List S)) → kept_at s sinks links (image f lines) ≡ image f (kept_at s sinks links lines)
  kept_image s [] links lines = refl
  kept_image s (r ∷ sinks) links lines = rw (written_image s links lines, last_image r (written s links lines), kept_image (s + 1) sinks links lines) refl

  left_on_image : (q : List ℕ) (t : Tail) (h : Head) (line : List S) → left_on q t h (map f line) ≡ map f (left_on q t h line)
  left_on_image q (tail.Source s) h line = refl
  left_on_image q (tail.Port a p r) (head.Sink t) line = refl
  left_on_image q (tail.Port a p r) (head.Port b j c) line = drop-map f (slice_index q b * c) line

  left_image : (q : List ℕ) (links : List Link) (lines : List (List S)) → left_of q links (image f lines) ≡ image f (left_of q links lines)
  left_image q [] lines = refl
  left_image q (link ∷ links) [] = refl
  left_image q (link ∷ links) (line ∷ lines) = rw (left_on_image q link.tail link.head line, left_image q links lines) refl

  module _ {F : Type 0} (level : LevelView) where
    ended_image : (q : List ℕ) (lines : Result (List (List S)) F) (end : Result (Ended S) F) → IsEnd level q lines end → IsEnd level q (image_answer f lines) (image_end f end)
    ended_image q (Ok lines) end is = ap (image_end {F = F} f) is ∙ rw (kept_image 0 level.sinks level.links lines, left_image q level.links lines) refl
    ended_image q (Err fault) end is = ap (image_end f) is

    module _ (fire : Fire S F) (other : Fire T F) (respects : Respects f fire other) (sources : List (List S)) where
      runs_image : (before : List ℕ) (lines : List (List S)) (rest : List ℕ) (end : Result (List (List S)) F) → RunsFrom level fire sources before lines rest end → RunsFrom level other (image f sources) before (image f lines) rest (image_answer f end)
      runs_image before lines [] end e = ap (image_answer f) e
      runs_image before lines (b ∷ rest) end e =
          let P : List (List T) → Type 0 = λ ins. other b (firings b before) ins (image_answer f e.0) in
          (image_answer f e.0, subst P (sym (inputs_image sources lines level.links b (firings b before))) (respects b (firings b before) (inputs sources b (firings b before) level.links lines) e.0 e.1), go e.0 e.2 (λ outputs g. runs_image (before ++ b ∷ []) (put b outputs level.links lines) rest end g))
        where
          go : (answer : Result (List (List S)) F) → GoesOn (λ outputs. RunsFrom level fire sources (before ++ b ∷ []) (put b outputs level.links lines) rest end) end answer →
              ((outputs : List (List S)) → RunsFrom level fire sources (before ++ b ∷ []) (put b outputs level.links lines) rest end → RunsFrom level other (image f sources) (before ++ b ∷ []) (image f (put b outputs level.links lines)) rest (image_answer f end)) →
              GoesOn (λ outputs. RunsFrom level other (image f sources) (before ++ b ∷ []) (put b outputs level.links (image f lines)) rest (image_answer f end)) (image_answer f end) (image_answer f answer)
          go (Ok outputs) goes later = let Q : List (List T) → Type 0 = λ l. RunsFrom level other (image f sources) (before ++ b ∷ []) l rest (image_answer f end) in subst Q (sym (put_image b outputs level.links lines)) (later outputs goes)
          go (Err fault) goes later = ap (image_answer f) goes

      pub mapped_run : (delays : List (List S)) (list : List ℕ) (end : Result (List (List S)) F) → Runs level fire sources delays list end → Runs level other (image f sources) (image f delays) list (image_answer f end)
      mapped_run delays list end run = runs_image [] delays list end run

      pub mapped_level_run : (q : List ℕ) (delays : List (List S)) (end : Result (Ended S) F) → IsLevelRun level q sources delays fire end → IsLevelRun level q (image f sources) (image f delays) other (image_end f end)
      mapped_level_run q delays end run = record {
        list = run.list;
        order = run.order;
        ends = record {
          lines = image_answer f run.ends.lines;
          runs = mapped_run delays run.list run.ends.lines run.ends.runs;
          is_end = ended_image q run.ends.lines end run.ends.is_end;
        };
      }
