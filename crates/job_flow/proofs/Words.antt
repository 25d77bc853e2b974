-- Faults told in other words.
use Rattle.std.proofs.Common.{◌≡◌, ℕ, zero, suc, ◌+◌, List, [], ◌∷◌, length, slice_index_or, Option, Some, None, Result, Ok, Err, refl, ap}
use Rattle.std.specs.List.{AllByRecursion}
use Rattle.sdf_level.specs.declared.link.Link.{Link}
use Rattle.sdf_level.specs.declared.node.Node.{Node}
use Rattle.sdf_level.specs.declared.node.Node.TheVariants as node
use Rattle.sdf_level.specs.declared.single_rate.Edge.{Edge}
use Rattle.single_rate.specs.Expanded.{place_of}
use Rattle.job_flow.specs.Graphs.{JobGraph, node_at}
use Rattle.job_flow.specs.Frames.{Values, given, on, arriving_below, ports_in, reads, inputs}
use Rattle.job_flow.specs.Events.{IsDone, IsFinished, IsReady, IsQuiet}
use Rattle.job_flow.specs.Outcomes.{failure_or, failure_from, failure, put_out, sunk, left_over, ended}
use Rattle.job_flow.specs.Renamed.{renamed_answer, renamed, renamed_failure}

module _ {T F G : Type 0} where
  given-same : (f : F → G) (o : Option (Result (List (List T)) F)) → given (renamed_answer f o) ≡ given o
  given-same f None = refl
  given-same f (Some (Ok outs)) = refl
  given-same f (Some (Err fault)) = refl

  done-to : (f : F → G) (o : Option (Result (List (List T)) F)) → IsDone o → IsDone (renamed_answer f o)
  done-to f None done = done
  done-to f (Some (Ok outs)) done = done
  done-to f (Some (Err fault)) done = done

  done-from : (f : F → G) (o : Option (Result (List (List T)) F)) → IsDone (renamed_answer f o) → IsDone o
  done-from f None done = done
  done-from f (Some (Ok outs)) done = done
  done-from f (Some (Err fault)) done = done

  finished-to : (f : F → G) (o : Option (Result (List (List T)) F)) → IsFinished o → IsFinished (renamed_answer f o)
  finished-to f None finished = finished
  finished-to f (Some (Ok outs)) finished = finished
  finished-to f (Some (Err fault)) finished = finished

  module _ (g : ℕ → F → G) (v : Values T F) where
    on-same : (es : List Edge) → on (renamed g v) es ≡ on v es
    on-same [] = refl
    on-same (e ∷ es) = rw (given-same (g e.tail) (v e.tail), on-same es) refl

    below-same : (es : List Edge) (n k : ℕ) → arriving_below es (on (renamed g v) es) n k ≡ arriving_below es (on v es) n k
    below-same es n k = ap (λ (tokens : List (List T)). arriving_below es tokens n k) (on-same es)

    before-to : (n : ℕ) (es : List Edge) → AllByRecursion (λ e. e.head ≡ n → IsDone (v e.tail)) es → AllByRecursion (λ e. e.head ≡ n → IsDone (renamed g v e.tail)) es
    before-to n [] before = before
    before-to n (e ∷ es) before = ((λ own. done-to (g e.tail) (v e.tail) (before.0 own)), before-to n es before.1)

    before-from : (n : ℕ) (es : List Edge) → AllByRecursion (λ e. e.head ≡ n → IsDone (renamed g v e.tail)) es → AllByRecursion (λ e. e.head ≡ n → IsDone (v e.tail)) es
    before-from n [] before = before
    before-from n (e ∷ es) before = ((λ own. done-from (g e.tail) (v e.tail) (before.0 own)), before-from n es before.1)

    pub ready-to : (job : JobGraph T) (n : ℕ) → IsReady job v n → IsReady job (renamed g v) n
    ready-to job n ready = record { there = ready.there; before = before-to n job.edges ready.before }

    pub ready-from : (job : JobGraph T) (n : ℕ) → IsReady job (renamed g v) n → IsReady job v n
    ready-from job n ready = record { there = ready.there; before = before-from n job.edges ready.before }

    reads-same : (job : JobGraph T) (n : ℕ) (m : Node) → reads job (renamed g v) m n ≡ reads job v m n
    reads-same job n (node.Source s) = refl
    reads-same job n (node.Init l) = refl
    reads-same job n (node.Firing a k) = below-same job.edges n (ports_in job (node.Firing a k) n)
    reads-same job n (node.End l) = below-same job.edges n 1
    reads-same job n (node.Sink t) = below-same job.edges n 1
    reads-same job n (node.Broadcast l) = below-same job.edges n 1
    reads-same job n (node.Fork l i) = below-same job.edges n 1
    reads-same job n (node.Join l j) = below-same job.edges n (ports_in job (node.Join l j) n)
    reads-same job n (node.Round l) = below-same job.edges n (ports_in job (node.Round l) n)

    pub inputs-same : (job : JobGraph T) (n : ℕ) → inputs job (renamed g v) n ≡ inputs job v n
    inputs-same job n = reads-same job n (node_at job.nodes n)

    pub quiet-to : (job : JobGraph T) → IsQuiet job v → IsQuiet job (renamed g v)
    quiet-to job quiet n ready = finished-to (g n) (v n) (quiet n (ready-from job n ready))

    failure-from : (k count : ℕ) → failure_from (renamed g v) k count ≡ renamed_failure g (failure_from v k count)
    failure-from k zero = refl
    failure-from k (suc count) = go (v k) (failure-from (k + 1) count)
      where
        go : (o : Option (Result (List (List T)) F)) → failure_from (renamed g v) (k + 1) count ≡ renamed_failure g (failure_from v (k + 1) count) → failure_or k (renamed_answer (g k) o) (failure_from (renamed g v) (k + 1) count) ≡ renamed_failure g (failure_or k o (failure_from v (k + 1) count))
        go None later = later
        go (Some (Ok outs)) later = later
        go (Some (Err fault)) later = refl

    pub failure-same : (job : JobGraph T) → failure job (renamed g v) ≡ renamed_failure g (failure job v)
    failure-same job = failure-from 0 (length job.nodes)

    out-same : (list : List Node) (m : Node) → put_out list (renamed g v) m ≡ put_out list v m
    out-same list m = ap (λ (outs : List (List T)). slice_index_or outs 0 []) (given-same (g (place_of list m)) (v (place_of list m)))

    sunk-same : (list : List Node) (t : ℕ) (rates : List ℕ) → sunk list (renamed g v) t rates ≡ sunk list v t rates
    sunk-same list t [] = refl
    sunk-same list t (r ∷ rates) = rw (out-same list (node.Sink t), sunk-same list (t + 1) rates) refl

    left-same : (list : List Node) (l : ℕ) (links : List Link) → left_over list (renamed g v) l links ≡ left_over list v l links
    left-same list l [] = refl
    left-same list l (link ∷ links) = rw (out-same list (node.End l), left-same list (l + 1) links) refl

    pub ended-same : (job : JobGraph T) → ended job (renamed g v) ≡ ended job v
    ended-same job = rw (sunk-same job.nodes 0 job.level.sinks, left-same job.nodes 0 job.level.links) refl
