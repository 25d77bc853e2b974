-- The cells of an open firing hold what was written, and the steps tell what they hold.
use Rattle.std.proofs.Common.{◌≡◌, List, ℤ, pos, replicate, Some, refl, sym, ap, ◌∙◌, subst}
use Rattle.std.proofs.lemmas.List.{length-map}
use Rattle.sdf_level.specs.declared.single_rate.Edge.{Edge}
use Rattle.memory_exclusion.specs.Paths.{Excludes}
use Rattle.placement.specs.declared.placing.Placement.{Placement}
use Rattle.placement_checker.proofs.OnePlacement.{tight_height, tight_offsets}
use Rattle.worker_mapping.specs.Costs.{pairs_of}
use Rattle.job_compiler.specs.Compilation.{Compilation, IsPlaced, sizes_of}
use Rattle.job_flow.specs.Laws.{EdgesHavePorts}
use Rattle.job_rules.specs.Items.{Prepared, edges_in, graph_of, nodes_in, prepared_in}
use Rattle.nested_jobs.proofs.Nesting.{start_nested}
use Rattle.nested_jobs.proofs.Places.{one_open}
use Rattle.nested_jobs.specs.Journals.{start}
use Rattle.nested_jobs.specs.Marks.{values}
use Rattle.nested_jobs.specs.Rules.{Place}
use Rattle.job_rules.specs.Meant.{rank}
use Rattle.one_job.proofs.Phases.{claimed_not_failed, claimed_not_finished, claimed_not_free}
use Rattle.one_job.specs.Marks.{phase}
use Rattle.one_job.specs.Places.{edge_at}
use Rattle.pisdf_meaning.specs.declared.firing.Firing.{Firing}
use Rattle.board_rules.proofs.Known.{BoardLaws, board_laws, known}
use Rattle.board_rules.specs.AskingLaws.{PathsAreApart}
use Rattle.board_rules.specs.Entries.{Step}
use Rattle.board_rules.specs.JobLaws.{JobsHaveLaws}
use Rattle.board_rules.specs.Keys.{Key, rules, top_job}
use Rattle.board_rules.specs.Legal.{state_after}
use Rattle.firing_board.proofs.OfTable.CellSteps.{Follows, begin, full_holds}
use Rattle.firing_board.proofs.OfTable.FittingOuts.{outs_fit}
use Rattle.firing_board.proofs.OfTable.ImageSteps.{image_follows}
use Rattle.firing_board.specs.Table.Images.{FullBuffersHoldTokens, ImagesAreOne, ReadBuffersAreFull, image, image_of}
use Rattle.firing_board.specs.Table.LiveFirings.{FiringsKeepOrder, IsOpenWith, nodes_at}

-- ---- full buffers

module _ (jobs : JobsHaveLaws) (ports : EdgesHavePorts ℤ) (key : Key) (taken : List Step) (place : Place) (job : Firing) (c : Compilation) (w : IsOpenWith key taken place job c) where
  abbrev laws : BoardLaws key
  laws = board_laws key (jobs key w.is_key)

  follows : Follows key place job c w.compiled (state_after key taken).marks (image_of key place job c taken)
  follows = image_follows key place job c w.compiled laws.lawful (state_after key taken).marks w.is_open w.prepared w.prepared_is w.edges_are
      (outs_fit ports key w.is_key laws (state_after key taken).marks (known key w.is_key laws taken w.legal) place job w.is_open w.prepared w.prepared_is c w.nodes_are w.edges_are)
      (start (top_job key)) taken (start_nested (rules key) (rank key.graphs.graphs) laws.lawful (top_job key)) refl (replicate c.placement.height (pos 0))
      (begin key place job c w.compiled (start (top_job key)).marks (λ n. refl))

pub full_hold : JobsHaveLaws → EdgesHavePorts ℤ → FullBuffersHoldTokens
full_hold jobs ports = λ key taken place job c e w inside full.
    full_holds key place job c w.compiled (state_after key taken).marks (image_of key place job c taken) (follows jobs ports key taken place job c w) e inside full

-- ---- what claimed nodes read

pub read_full : FiringsKeepOrder → ReadBuffersAreFull
read_full order = λ key taken place job c e w inside claimed.
    let marks = nodes_at key job c (state_after key taken).marks place in
    let head = phase marks (edge_at c.graph.edges e).head in
    record {
      given = order key taken place job c w e inside (claimed_not_free head claimed);
      unfinished = claimed_not_finished head claimed;
      unfailed = claimed_not_failed head claimed;
    }

-- ---- one image

placed_once : (edges : List Edge) (one other : Placement) → IsPlaced edges one → IsPlaced edges other → one ≡ other
placed_once edges one other a b =
    let long = length-map edges (λ (e : Edge). e.size) in
    let offsets : one.offsets ≡ other.offsets = tight_offsets (sizes_of edges) (Excludes (pairs_of edges)) one.offsets other.offsets one.height other.height (a.one_each ∙ sym long) (b.one_each ∙ sym long) a.tight b.tight in
    let height : one.height ≡ other.height = tight_height (sizes_of edges) (Excludes (pairs_of edges)) one.offsets other.offsets one.height other.height a.tight b.tight in
    λ i. record { offsets = offsets i; height = height i }

same_prepared : (key : Key) (taken : List Step) (place : Place) (job : Firing) (p q : Prepared) → prepared_in (graph_of key.graphs.graphs job) (values (state_after key taken).marks place) ≡ Some p
    → prepared_in (graph_of key.graphs.graphs job) (values (state_after key taken).marks place) ≡ Some q → p ≡ q
same_prepared key taken place job p q a b = (let both : Some p ≡ Some q = sym a ∙ b in cc)

module _ (key : Key) (taken : List Step) (place : Place) where
  of_one_job : (job : Firing) (c d : Compilation) → IsOpenWith key taken place job c → IsOpenWith key taken place job d → image_of key place job c taken ≡ image_of key place job d taken
  of_one_job job c d a b =
      let G = key.graphs.graphs in
      let prepared = same_prepared key taken place job a.prepared b.prepared a.prepared_is b.prepared_is in
      let nodes : c.graph.nodes ≡ d.graph.nodes = a.nodes_are ∙ (ap (λ (x : Prepared). nodes_in G (graph_of G job) job x) prepared ∙ sym b.nodes_are) in
      let edges : c.graph.edges ≡ d.graph.edges = a.edges_are ∙ (ap (λ (x : Prepared). edges_in G (graph_of G job) job x) prepared ∙ sym b.edges_are) in
      let placement : c.placement ≡ d.placement = placed_once c.graph.edges c.placement d.placement a.compiled.placed (subst (λ (es : List Edge). IsPlaced es d.placement) (sym edges) b.compiled.placed) in
      λ i. image key place job (nodes i) (edges i) (placement i) taken

  pub once : (job other : Firing) (c d : Compilation) → IsOpenWith key taken place job c → IsOpenWith key taken place other d → image_of key place job c taken ≡ image_of key place other d taken
  once job other c d a b =
      let same : other ≡ job = one_open (state_after key taken).marks place other job b.is_open a.is_open in
      of_one_job job c d a (subst (λ (j : Firing). IsOpenWith key taken place j d) same b) ∙ ap (λ (j : Firing). image_of key place j d taken) (sym same)

pub images_once : PathsAreApart → ImagesAreOne
images_once apart = λ key taken path one other a b.
    let same : b.place ≡ a.place = apart key taken b.place a.place b.job a.job a.is_open.is_key a.is_open.legal b.is_open.is_open a.is_open.is_open (b.path_is ∙ sym a.path_is) in
    a.cells_are
    ∙ (once key taken a.place a.job b.job a.compilation b.compilation a.is_open (subst (λ (p : Place). IsOpenWith key taken p b.job b.compilation) same b.is_open)
    ∙ (ap (λ (p : Place). image_of key p b.job b.compilation taken) (sym same) ∙ sym b.cells_are))
