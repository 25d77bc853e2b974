-- One step of a board, as the nodes of an open firing and the cells at their edges go through it node by node.
use Rattle.std.proofs.Common.{◌≡◌, ◌⊎◌, ⊎_elim, ℕ, zero, suc, ◌+◌, ◌<◌, ◌≤◌, Bool, List, [], ◌∷◌, length, set, replicate, ℤ, pos, Option, Some, None, Result, Ok, Err, refl, sym, ap, ◌∙◌, subst, arith}
use Rattle.std.specs.Prelude.{slice_index_or}
use Rattle.std.specs.Option.{option_map}
use Rattle.std.proofs.lemmas.Bool.{cases_lt}
use Rattle.std.proofs.lemmas.List.{get_or-replicate, get_or_past}
use Rattle.sdf_level.specs.declared.node.Node.{Node}
use Rattle.sdf_level.specs.declared.single_rate.Edge.{Edge}
use Rattle.split_block.specs.Places.{window}
use Rattle.job_compiler.specs.Compilation.{Compilation, IsCompiled}
use Rattle.job_flow.specs.Frames.{given, on_edge}
use Rattle.job_flow.specs.Graphs.{node_at}
use Rattle.job_rules.specs.Items.{actor_of, graph_of, keeps_state, node_base, node_result}
use Rattle.job_rules.specs.Words as words
use Rattle.job_rules.specs.Words.{Answer}
use Rattle.graph_firing.specs.Nodes.Leases.{as_node}
use Rattle.nested_jobs.specs.Marks as mark
use Rattle.nested_jobs.specs.Marks.{Mark, Marks, answer_of}
use Rattle.nested_jobs.specs.Rules.{Place}
use Rattle.one_job.proofs.ImagesHold.{Holds, claim_holds, events_hold, finish_holds}
use Rattle.one_job.proofs.Phases.{finished_not_free, inside_of, mark_elsewhere, mark_there}
use Rattle.one_job.specs.Images.{FitsEdges}
use Rattle.one_job.specs.Live.{IsFull}
use Rattle.one_job.specs.Marks as one
use Rattle.one_job.specs.Places.{buffer_at, edge_at, no_edge}
use Rattle.pisdf_model.specs.declared.graph.Graph.{Graph}
use Rattle.pisdf_meaning.specs.declared.firing.Firing.{Firing}
use Rattle.pisdf_meaning.specs.declared.refusal.Refusal.{Refusal}
use Rattle.board_rules.specs.Keys.{Key}
use Rattle.firing_board.proofs.OfTable.LiveFirings.{phase_in, phase_past}
use Rattle.firing_board.proofs.OfTable.MarkSteps.{IsTaken}
use Rattle.firing_board.specs.Table.Images.{all_wrote, values_at, wrote}
use Rattle.firing_board.specs.Table.LiveFirings.{nodes_at}

-- ---- marks of nodes, with what they are finished with

abbrev NodeEnd : Type 0
NodeEnd = Result (List (List ℤ)) Refusal

abbrev told_end : NodeEnd → one.Mark
told_end (Ok outs) = one.Finished outs
told_end (Err refusal) = one.Failed 0

abbrev taken_mark : one.Mark
taken_mark = one.Claimed one.nowhere

abbrev told_mark : Bool → Mark Firing Answer → one.Mark
told_mark keeps mark.Free = one.Free
told_mark keeps mark.Busy = taken_mark
told_mark keeps (mark.Open d) = taken_mark
told_mark keeps (mark.Done a) = told_end (node_result keeps a)

abbrev value_told : Bool → Mark Firing Answer → Option NodeEnd
value_told keeps x = option_map (node_result keeps) (answer_of x)

told_phase : (keeps : Bool) (x : Mark Firing Answer) → one.phase_of (told_mark keeps x) ≡ one.phase_of (as_node x)
told_phase keeps mark.Free = refl
told_phase keeps mark.Busy = refl
told_phase keeps (mark.Open d) = refl
told_phase keeps (mark.Done (words.Gives g)) = refl
told_phase keeps (mark.Done (words.Schedules s)) = refl
told_phase keeps (mark.Done (words.Refuses r)) = refl

given_end : (r : NodeEnd) → given (one.value_of (told_end r)) ≡ given (Some r)
given_end (Ok outs) = refl
given_end (Err refusal) = refl

given_told : (keeps : Bool) (x : Mark Firing Answer) → given (one.value_of (told_mark keeps x)) ≡ given (value_told keeps x)
given_told keeps mark.Free = refl
given_told keeps mark.Busy = refl
given_told keeps (mark.Open d) = refl
given_told keeps (mark.Done a) = given_end (node_result keeps a)

-- one that is taken has no value yet
none_told : (keeps : Bool) (x : Mark Firing Answer) → IsTaken x → value_told keeps x ≡ None
none_told keeps mark.Free taken = absurd taken
none_told keeps mark.Busy taken = refl
none_told keeps (mark.Open d) taken = refl
none_told keeps (mark.Done a) taken = absurd taken

taken_told : (keeps : Bool) (x : Mark Firing Answer) → IsTaken x → told_mark keeps x ≡ taken_mark
taken_told keeps mark.Free taken = absurd taken
taken_told keeps mark.Busy taken = refl
taken_told keeps (mark.Open d) taken = refl
taken_told keeps (mark.Done a) taken = absurd taken

upto : (P : ℕ → Type 0) (k : ℕ) → ((n : ℕ) → n < k → P n) → P k → (n : ℕ) → n < suc k → P n
upto P k before here n below = ⊎_elim
    (λ (less : n < k). before n less)
    (λ (up : k ≤ n). let e : k ≡ n = omega arith in subst P e here)
    (cases_lt n k)

module _ (key : Key) (place : Place) (job : Firing) (c : Compilation) (is : IsCompiled c) where
  abbrev graphs : List Graph
  graphs = key.graphs.graphs

  abbrev ns : List Node
  ns = c.graph.nodes

  abbrev es : List Edge
  es = c.graph.edges

  abbrev keeps_at : ℕ → Bool
  keeps_at n = keeps_state graphs (actor_of (graph_of graphs job) (node_at ns n))

  abbrev pub item : ℕ → Place
  item n = (node_base (graph_of graphs job) + n) ∷ place

  abbrev told : ℕ → Mark Firing Answer → one.Mark
  told n x = told_mark (keeps_at n) x

  -- ---- what one step makes of a node

  -- it is claimed, where those before it are finished and stay so
  pub record Taken (s t : Marks Firing Answer) (n : ℕ) : Type 0 where
    pub free : s (item n) ≡ mark.Free
    pub taken : IsTaken (t (item n))
    pub tails : (e : ℕ) → e < length es → (edge_at es e).head ≡ n → (s (item (edge_at es e).tail) ≡ t (item (edge_at es e).tail)) × (one.phase_of (as_node (t (item (edge_at es e).tail))) ≡ one.IsFinished)

  -- it is finished, with outputs that fit the edges
  pub record Ended (s t : Marks Firing Answer) (n : ℕ) : Type 0 where
    pub taken : IsTaken (s (item n))
    pub answer : Answer
    pub done : t (item n) ≡ mark.Done answer
    pub fits : (outs : List (List ℤ)) → node_result (keeps_at n) answer ≡ Ok outs → FitsEdges es n (Ok outs)

  abbrev pub Moves : Marks Firing Answer → Marks Firing Answer → ℕ → Type 0
  Moves s t n = (s (item n) ≡ t (item n)) ⊎ (Taken s t n ⊎ Ended s t n)

  -- ---- marks and cells

  -- the marks of a job are those of the nodes, and the cells are what its full buffers hold
  pub record Follows (m : Marks Firing Answer) (cells : List ℤ) : Type 0 where
    pub marks : List one.Mark
    pub holds : Holds c marks cells
    pub same : (n : ℕ) → n < length ns → one.mark_at marks n ≡ told n (m (item n))

  pub begin : (m : Marks Firing Answer) → ((n : ℕ) → m (item n) ≡ mark.Free) → Follows m (replicate c.placement.height (pos 0))
  begin m free = record {
    marks = replicate (length ns) one.Free;
    holds = events_hold c [] is tt;
    same = λ n inside. get_or-replicate (length ns) n one.Free one.Free inside ∙ sym (ap (told n) (free n));
  }

  module _ (s t : Marks Firing Answer) where
    -- of the first so many nodes the marks after the step, and of the others those before it
    record Mixed (k : ℕ) (cells : List ℤ) : Type 0 where
      marks : List one.Mark
      holds : Holds c marks cells
      behind : (n : ℕ) → n < k → n < length ns → one.mark_at marks n ≡ told n (t (item n))
      ahead : (n : ℕ) → k ≤ n → n < length ns → one.mark_at marks n ≡ told n (s (item n))

    abbrev wrote_here : ℕ → Option NodeEnd → Option NodeEnd → List ℤ → List ℤ
    wrote_here k before now cells = wrote es c.placement.offsets k before now cells

    wrote_nothing : (k : ℕ) (o : Option NodeEnd) (cells : List ℤ) → wrote_here k o o cells ≡ cells
    wrote_nothing k None cells = refl
    wrote_nothing k (Some r) cells = refl

    abbrev Behind : List one.Mark → ℕ → Type 0
    Behind marks n = n < length ns → one.mark_at marks n ≡ told n (t (item n))

    module _ (k : ℕ) (inside : k < length ns) (cells : List ℤ) (r : Mixed k cells) where
      abbrev before : Option NodeEnd
      before = value_told (keeps_at k) (s (item k))

      abbrev now : Option NodeEnd
      now = value_told (keeps_at k) (t (item k))

      unmoved : s (item k) ≡ t (item k) → Mixed (suc k) (wrote_here k before now cells)
      unmoved same =
          let cells_are : wrote_here k before now cells ≡ cells = ap (λ x. wrote_here k before (value_told (keeps_at k) x) cells) (sym same) ∙ wrote_nothing k before cells in
          subst (λ (z : List ℤ). Mixed (suc k) z) (sym cells_are) record {
            marks = r.marks;
            holds = r.holds;
            behind = upto (Behind r.marks) k r.behind (λ there. r.ahead k (omega arith) there ∙ ap (told k) same);
            ahead = λ n past there. r.ahead n (omega arith) there;
          }

      -- the marks with another one here
      behind_with : (x : one.Mark) → x ≡ told k (t (item k)) → (n : ℕ) → n < suc k → Behind (set r.marks k x) n
      behind_with x here = upto (Behind (set r.marks k x)) k
          (λ n below there. mark_elsewhere r.marks k n x (λ e. omega (arith, e)) ∙ r.behind n below there)
          (λ there. mark_there r.marks k x (let l = r.holds.marks_long in omega arith) ∙ here)

      ahead_with : (x : one.Mark) (n : ℕ) → suc k ≤ n → n < length ns → one.mark_at (set r.marks k x) n ≡ told n (s (item n))
      ahead_with x n past there = mark_elsewhere r.marks k n x (λ e. omega (arith, e)) ∙ r.ahead n (omega arith) there

      claimed : Taken s t k → Mixed (suc k) (wrote_here k before now cells)
      claimed m =
          let none_before : before ≡ None = ap (value_told (keeps_at k)) m.free in
          let none_now : now ≡ None = none_told (keeps_at k) (t (item k)) m.taken in
          let cells_are : wrote_here k before now cells ≡ cells = ap (λ o. wrote_here k o now cells) none_before ∙ ap (λ o. wrote_here k None o cells) none_now in
          let free : one.phase r.marks k ≡ one.IsFree = ap one.phase_of (r.ahead k (omega arith) inside ∙ ap (told k) m.free) in
          let finished : (e : ℕ) → e < length es → (edge_at es e).head ≡ k → one.phase r.marks (edge_at es e).tail ≡ one.IsFinished = λ e e_in head_is.
          let tail = (edge_at es e).tail in
          let told_so = m.tails e e_in head_is in
          let tail_in : tail < length ns = (is.expanded.sound.ends e no_edge e_in).0 in
          let after_so : one.phase_of (told tail (t (item tail))) ≡ one.IsFinished = told_phase (keeps_at tail) (t (item tail)) ∙ told_so.1 in
          ⊎_elim
          (λ (below : tail < k). ap one.phase_of (r.behind tail below tail_in) ∙ after_so)
          (λ (past : k ≤ tail). ap one.phase_of (r.ahead tail past tail_in ∙ ap (told tail) told_so.0) ∙ after_so)
          (cases_lt tail k)
          in
          subst (λ (z : List ℤ). Mixed (suc k) z) (sym cells_are) record {
            marks = set r.marks k taken_mark;
            holds = claim_holds c is r.marks cells r.holds k inside free finished;
            behind = behind_with taken_mark (sym (taken_told (keeps_at k) (t (item k)) m.taken));
            ahead = ahead_with taken_mark;
          }

      ended : Ended s t k → Mixed (suc k) (wrote_here k before now cells)
      ended m =
          let none_before : before ≡ None = none_told (keeps_at k) (s (item k)) m.taken in
          let some_now : now ≡ Some (node_result (keeps_at k) m.answer) = ap (value_told (keeps_at k)) m.done in
          let cells_are : wrote_here k before now cells ≡ wrote_here k None (Some (node_result (keeps_at k) m.answer)) cells = ap (λ o. wrote_here k o now cells) none_before ∙ ap (λ o. wrote_here k None o cells) some_now in
          subst (λ (z : List ℤ). Mixed (suc k) z) (sym cells_are) (go (node_result (keeps_at k) m.answer) refl)
        where
          busy : one.phase r.marks k ≡ one.IsClaimed
          busy = ap one.phase_of (r.ahead k (omega arith) inside ∙ taken_told (keeps_at k) (s (item k)) m.taken)

          here : told k (t (item k)) ≡ told_end (node_result (keeps_at k) m.answer)
          here = ap (told k) m.done

          go : (o : NodeEnd) → node_result (keeps_at k) m.answer ≡ o → Mixed (suc k) (wrote_here k None (Some o) cells)
          go (Ok outs) same = record {
            marks = set r.marks k (one.Finished outs);
            holds = finish_holds c is r.marks cells r.holds k busy (Ok outs) (m.fits outs same);
            behind = behind_with (one.Finished outs) (sym (here ∙ ap told_end same));
            ahead = ahead_with (one.Finished outs);
          }
          go (Err refusal) same = record {
            marks = set r.marks k (one.Failed 0);
            holds = finish_holds c is r.marks cells r.holds k busy (Err 0) tt;
            behind = behind_with (one.Failed 0) (sym (here ∙ ap told_end same));
            ahead = ahead_with (one.Failed 0);
          }

      moved : Moves s t k → Mixed (suc k) (wrote_here k before now cells)
      moved m = ⊎_elim unmoved (λ (n : Taken s t k ⊎ Ended s t k). ⊎_elim claimed ended n) m

    abbrev cells_by : ℕ → List ℤ → List ℤ
    cells_by k cells = all_wrote es c.placement.offsets (values_at key job ns s place) (values_at key job ns t place) k cells

    all_moved : (cells : List ℤ) → ((n : ℕ) → n < length ns → Moves s t n) → Mixed 0 cells → (k : ℕ) → k ≤ length ns → Mixed k (cells_by k cells)
    all_moved cells moves r zero below = r
    all_moved cells moves r (suc k) below = moved k (omega arith) (cells_by k cells) (all_moved cells moves r k (omega arith)) (moves k (omega arith))

    -- the whole step
    pub follow : (cells : List ℤ) → ((n : ℕ) → n < length ns → Moves s t n) → Follows s cells → Follows t (cells_by (length ns) cells)
    follow cells moves f =
        let r = all_moved cells moves record { marks = f.marks; holds = f.holds; behind = λ n below there. absurd (omega (arith, below)); ahead = λ n past there. f.same n there } (length ns) (omega arith) in
        record { marks = r.marks; holds = r.holds; same = λ n inside. r.behind n inside inside }

  -- ---- full buffers

  module _ (m : Marks Firing Answer) (cells : List ℤ) (f : Follows m cells) where
    abbrev all : List one.Mark
    all = nodes_at key job c m place

    phases : (n : ℕ) → one.phase f.marks n ≡ one.phase all n
    phases n = ⊎_elim
        (λ (inside : n < length ns). ap one.phase_of (f.same n inside) ∙ (told_phase (keeps_at n) (m (item n)) ∙ sym (phase_in m place (node_base (graph_of graphs job)) (length ns) n inside)))
        (λ (past : length ns ≤ n).
        ap one.phase_of (get_or_past f.marks n one.Free (let l = f.holds.marks_long in omega arith))
        ∙ sym (phase_past m place (node_base (graph_of graphs job)) (length ns) n past))
        (cases_lt n (length ns))

    pub full_holds : (e : ℕ) → e < length es → IsFull es all e
        → window (buffer_at es c.placement.offsets e).start (buffer_at es c.placement.offsets e).len cells ≡ on_edge (values_at key job ns m place) (edge_at es e)
    full_holds e e_in full =
        let tail = (edge_at es e).tail in
        let given_so : one.phase f.marks tail ≡ one.IsFinished = phases tail ∙ full.given in
        let tail_in : tail < length ns = (let i = inside_of f.marks tail (finished_not_free (one.phase f.marks tail) given_so) in let l = f.holds.marks_long in omega arith) in
        let own : IsFull es f.marks e = record {
          given = given_so;
          unfinished = λ done. full.unfinished (sym (phases (edge_at es e).head) ∙ done);
          unfailed = λ failed. full.unfailed (sym (phases (edge_at es e).head) ∙ failed);
        }
        in
        f.holds.full e e_in own
        ∙ ap (λ (outs : List (List ℤ)). slice_index_or outs (edge_at es e).tail_port []) (ap (λ (x : one.Mark). given (one.value_of x)) (f.same tail tail_in) ∙ given_told (keeps_at tail) (m (item tail)))
