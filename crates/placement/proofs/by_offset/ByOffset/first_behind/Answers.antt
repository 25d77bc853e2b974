use Rattle.std.proofs.Common.{rules, ◌≡◌, ℕ, ◌<◌, ◌≤◌, leb, leb-true, true, false, length, get_or, reverse, arith}
use Rattle.std.specs.List.Sorted.{IsPartitionPoint}
use Rattle.std.proofs.lemmas.List.{get_or_append_left}
use Rattle.std.proofs.lemmas.List.Sorted.{IsPartitionPoint-from_clause, IsPartitionedBy-leb}
use Rattle.placement.proofs.by_offset.ByOffset.first_behind.Goals as goal

pub returns : goal.returns
returns c =
    let low = c.args.self.now.low.items in
    let reach = c.args.self.now.reach.items in
    let point : IsPartitionPoint (λ (end : ℕ). leb end c.args.cell ≡ true) (λ (end : ℕ). leb end c.args.cell ≡ false) reach c.partition_point.result =
    IsPartitionPoint-from_clause (λ (end : ℕ). leb end c.args.cell) reach c.partition_point.result
    (rw c.deref.ensures.value at c.partition_point.ensures.partitioned)
    (IsPartitionedBy-leb (λ (end : ℕ). end) reach c.args.cell c.requires.rising)
    (λ a r q k. search rules) in
    λ k d below.
    let bound : c.partition_point.result ≤ length reach = rw c.deref.ensures.value at c.partition_point.ensures.bound in
    let long = c.requires.long in
    let inside : k < length low = omega arith in
    let ends = leb-true (get_or reach k 0) c.args.cell (point.0 k 0 (omega arith) below) in
    let reached = c.requires.ends k d inside in
    rw (get_or_append_left low (reverse c.args.self.now.high.items) d k inside) (omega arith)
