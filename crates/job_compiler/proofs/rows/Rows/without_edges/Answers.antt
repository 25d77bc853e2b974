use Rattle.std.proofs.Common.{◌≡◌, ℕ, ◌+◌, List, [], ◌∷◌, ◌++◌, length, map, take, get_or, replicate, sym, ap, ◌∙◌, subst, arith}
use Rattle.std.specs.Prelude.{Option, None, slice_index}
use Rattle.std.proofs.lemmas.List.{map_more, length_push}
use Rattle.job_compiler.specs.Rows.{rows_in, spans_of, KeepsStarts}
use Rattle.job_compiler.proofs.RowStarts.{last_now, rows_now, keeps_now}
use Rattle.job_compiler.proofs.rows.Rows.without_edges.Goals as goal

-- what the loop keeps after so many rows
record IsBegun (counts : List ℕ) (k : ℕ) (ports : List (Option ℕ)) (starts : List ℕ) : Type 0 where
  keeps : KeepsStarts ports starts
  rows : rows_in ports (spans_of starts) ≡ map (λ (count : ℕ). replicate count None) (take k counts)
  long : length starts ≡ k + 1
  last : slice_index starts k ≡ length ports

pub loop-count-preserved : goal.loop-count-preserved
loop-count-preserved c =
    let ports = c.loop-count.ports.items in
    let starts = c.loop-count.starts.items in
    let counts = c.args.counts.now in
    let k = c.loop-count.count-index in
    let count = get_or counts k 0 in
    let at = c.loop-count.invariant in
    let empty_row : ℕ → List (Option ℕ) = λ (n : ℕ). replicate n None in
    let more = ports ++ replicate count None in
    let more_is : c.add_ports.new.ports.items ≡ more = c.in_ok-add_ports.ensures in
    let start_is : c.len.result ≡ length more = omega (arith, c.len.ensures, c.add_ports.new.ports.ok.0, ap length more_is) in
    let starts_are : c.push-in-loop-count.new.self.items ≡ starts ++ length more ∷ [] = c.in_ok-push-2.ensures.items ∙ ap (λ start. starts ++ start ∷ []) start_is in
    let rows_are = rows_now ports starts at.keeps k count at.long at.last
    ∙ (ap (λ rows. rows ++ replicate count None ∷ []) at.rows ∙ sym (map_more empty_row counts k 0 c.loop-count-test.true)) in
    let then : IsBegun counts (k + 1) more (starts ++ length more ∷ []) = record {
      keeps = keeps_now ports starts at.keeps k count at.long at.last;
      rows = rows_are;
      long = length_push starts (length more) ∙ ap (λ n. n + 1) at.long;
      last = last_now ports starts at.keeps k count at.long at.last;
    } in
    let now = subst (λ (x : List (Option ℕ) × List ℕ). IsBegun counts (k + 1) x.0 x.1) (λ i. (sym more_is i, sym starts_are i)) then in
    record { keeps = now.keeps; rows = now.rows; long = now.long; last = now.last }
