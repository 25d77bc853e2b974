-- What the finish of a node of a job keeps.
use Rattle.std.proofs.Common.{◌≡◌, ℕ, ℤ, ◌<◌, ◌⊎◌, ⊎_elim, Bool, true, false, List, [], ◌∷◌, ◌++◌, length, map, set, take, drop, refl, sym, ap, ◌∙◌, subst, arith}
use Rattle.std.specs.Prelude.{◌≢◌, Option, slice_index_or, if◌then◌else◌, Result, Ok, Err, IsOk, Vec}
use Rattle.std.specs.Global.{Global}
use Rattle.std.proofs.lemmas.Bool.{false≢true}
use Rattle.std.proofs.lemmas.List.{length-set, length-map, append-nil, take-append-le, take_all}
use Rattle.sdf_level.specs.declared.node.Node.{Node}
use Rattle.sdf_level.specs.declared.node.Node.TheVariants as node
use Rattle.single_rate.specs.Expanded.{place_of}
use Rattle.split_block.specs.View.{Block, LeaseView, LeasePlace, IsWholePlace, lease_place, cells_of}
use Rattle.cell_pool.specs.View.{PoolView}
use Rattle.kernel_gate.specs.Value.{FrameView, Places}
use Rattle.kernel_gate.specs.Leased.{AllWhole}
use Rattle.kernel_gate.specs.declared.fault.KernelFault.{KernelFault}
use Rattle.job_flow.specs.Graphs.{node_at}
use Rattle.job_flow.specs.Frames.{given as flow_given, lens, ports_in}
use Rattle.one_job.specs.Marks.{Mark, Claimed, Finished, mark_at, IsFree, IsClaimed, phase, phase_of, value_of}
use Rattle.one_job.specs.Places.{edge_at, buffer_at}
use Rattle.one_job.specs.Ports.{reads_stored, writes_stored, with_left, with_out, row_of, EachLies, LieBehind, port_size}
use Rattle.one_job.specs.Taking.{Layout, AreDue, IsOne, with_leases}
use Rattle.one_job.specs.View.{JobView, graph_of, IsFiring}
use Rattle.one_job.specs.Calls.{finished_with}
use Rattle.one_job.specs.Invariants.{Parts, HasStock, LieRight, Keeps}
use Rattle.one_job.specs.Staged.{mark_of, stage_with}
use Rattle.kernel_gate.specs.declared.told.Told.{Told}
use Rattle.one_job.proofs.Phases.{mark_elsewhere, phase_there, inside_of, claimed_not_free}
use Rattle.one_job.proofs.Order.{IsLaid, finish_keeps_order}
use Rattle.one_job.proofs.Claiming.{ArePorts}
use Rattle.one_job.proofs.Finishing.{IsEnd, Finishes, finishes, finish_keeps_full}
use Rattle.one_job.proofs.Wires.{laid_of, ports_of}
use Rattle.one_job.proofs.JobClaim.{port_alone, no_own}
use Rattle.one_job.proofs.JobFinish.{sunk_later, left_later}

-- the leases of ports, where none is of stored tokens
abbrev pub ports_part : Bool → List LeaseView → List LeaseView
ports_part true leases = []
ports_part false leases = leases

pub back_is : (b : Bool) (leases : List LeaseView) (pool : PoolView) → (if b then pool else with_leases leases pool) ≡ with_leases (ports_part b leases) pool
back_is true leases pool = refl
back_is false leases pool = refl

part_lies : (place : Layout) (block : Block) (b : Bool) (count : ℕ) (row : List (Option ℕ)) (leases : List LeaseView) → length row ≡ (if b then 0 else count) → LieBehind place block b row (map lease_place leases) → EachLies place block row (map lease_place (ports_part b leases))
part_lies place block true count [] leases long lies = tt
part_lies place block true count (port ∷ row) leases long lies = absurd (let bad : ⊥ = omega arith in bad)
part_lies place block false count row leases long lies = subst (EachLies place block row) (sym (no_own false lies.own lies.others (map lease_place leases) refl lies.count lies.all)) lies.each

one_of : (leases : List LeaseView) (own : List LeasePlace) → map lease_place leases ≡ own → length own ≡ 1 → AllWhole own → IsOne leases
one_of leases [] is count whole = absurd (let bad : ⊥ = omega arith in bad)
one_of leases (p ∷ q ∷ own) is count whole = absurd (let bad : ⊥ = omega arith in bad)
one_of [] (p ∷ []) is count whole = absurd (cc)
one_of (l ∷ k ∷ leases) (p ∷ []) is count whole = absurd (cc)
one_of (l ∷ []) (p ∷ []) is count whole = let here : p ≡ lease_place l = cc in (l, refl, subst IsWholePlace here whole.0)

stored_one : (place : Layout) (block : Block) (b : Bool) (count : ℕ) (row : List (Option ℕ)) (leases : List LeaseView) → length row ≡ (if b then 0 else count) → LieBehind place block b row (map lease_place leases) → b ≡ true → IsOne leases
stored_one place block false count row leases long lies is = absurd (false≢true is)
stored_one place block true count (port ∷ row) leases long lies is = absurd (let bad : ⊥ = omega arith in bad)
stored_one place block true count [] leases long lies is = go lies.others lies.each lies.all
  where
    go : (others : List LeasePlace) → EachLies place block [] others → map lease_place leases ≡ lies.own ++ others → IsOne leases
    go [] each all = one_of leases lies.own (all ∙ append-nil lies.own) lies.count lies.whole
    go (p ∷ others) each all = absurd each

due_part : (b : Bool) (leases : List LeaseView) (pool : PoolView) → b ≡ false → AreDue (ports_part b leases) pool → AreDue leases pool
due_part true leases pool is due = absurd (false≢true (sym is))
due_part false leases pool is due = due

writes_no_firing : (which : Node) → writes_stored which ≡ true → IsFiring which → ⊥
writes_no_firing (node.Source s) is firing = firing
writes_no_firing (node.Init l) is firing = firing
writes_no_firing (node.Firing a k) is firing = false≢true is
writes_no_firing (node.End l) is firing = firing
writes_no_firing (node.Sink t) is firing = firing
writes_no_firing (node.Broadcast l) is firing = firing
writes_no_firing (node.Fork l i) is firing = firing
writes_no_firing (node.Join l i) is firing = firing
writes_no_firing (node.Round l) is firing = firing

with_out-same : (which : Node) (a b : List ℤ) (lists : List (List ℤ)) → (writes_stored which ≡ true → a ≡ b) → with_out which a lists ≡ with_out which b lists
with_out-same (node.Source s) a b lists same = refl
with_out-same (node.Init l) a b lists same = refl
with_out-same (node.Firing x k) a b lists same = refl
with_out-same (node.End l) a b lists same = refl
with_out-same (node.Sink t) a b lists same = ap (set lists t) (same refl)
with_out-same (node.Broadcast l) a b lists same = refl
with_out-same (node.Fork l i) a b lists same = refl
with_out-same (node.Join l i) a b lists same = refl
with_out-same (node.Round l) a b lists same = refl

with_left-same : (which : Node) (a b : List ℤ) (lists : List (List ℤ)) → (writes_stored which ≡ true → a ≡ b) → with_left which a lists ≡ with_left which b lists
with_left-same (node.Source s) a b lists same = refl
with_left-same (node.Init l) a b lists same = refl
with_left-same (node.Firing x k) a b lists same = refl
with_left-same (node.End l) a b lists same = ap (set lists l) (same refl)
with_left-same (node.Sink t) a b lists same = refl
with_left-same (node.Broadcast l) a b lists same = refl
with_left-same (node.Fork l i) a b lists same = refl
with_left-same (node.Join l i) a b lists same = refl
with_left-same (node.Round l) a b lists same = refl

ends : (f : FrameView) (answer : Result (Unit {0}) KernelFault) → IsEnd (finished_with f answer)
ends f (Ok done) = record { not_free = λ bad. absurd (cc); not_claimed = λ bad. absurd (cc) }
ends f (Err fault) = record { not_free = λ bad. absurd (cc); not_claimed = λ bad. absurd (cc) }

tokens_of : (f : FrameView) (answer : Result (Unit {0}) KernelFault) (tokens : List (List ℤ)) → finished_with f answer ≡ Finished tokens → tokens ≡ f.outputs
tokens_of f (Ok done) tokens is = cc
tokens_of f (Err fault) tokens is = absurd (cc)

kept_tokens : (f : FrameView) (answer : Result (Unit {0}) KernelFault) (leases : List LeaseView) (kept : List ℤ) → IsOk answer → f.outputs ≡ map cells_of leases → IsOne leases → ((tokens : List ℤ) → map cells_of leases ≡ tokens ∷ [] → kept ≡ tokens) → kept ≡ slice_index_or (flow_given (value_of (finished_with f answer))) 0 []
kept_tokens f (Err fault) leases kept ok outs one told = absurd (false≢true ok)
kept_tokens f (Ok done) leases kept ok outs one told =
    let one_cell : map cells_of leases ≡ (one.0).cells ∷ [] = ap (map cells_of) one.1 in
    told (one.0).cells one_cell ∙ sym (ap (λ l. slice_index_or l 0 []) (outs ∙ one_cell))

module _ (j : JobView) (p : Parts) (pool : PoolView) (outs left : List (List ℤ)) (keeps : Keeps j p pool outs left) (n : ℕ) (f : FrameView) (claimed : mark_at j.marks n ≡ Claimed f.places) (in_leases out_leases : List LeaseView)
    (ins_at : f.places.inputs ≡ map lease_place in_leases) (outs_at : f.places.outputs ≡ map lease_place out_leases) (outputs_are : f.outputs ≡ map cells_of out_leases) (answer : Result (Unit {0}) KernelFault) where
  abbrev which : Node
  which = node_at j.compilation.graph.nodes n

  abbrev place : Layout
  place = buffer_at j.compilation.graph.edges j.compilation.placement.offsets

  abbrev row_in : List (Option ℕ)
  row_in = row_of p.entering n

  abbrev row_out : List (Option ℕ)
  row_out = row_of p.leaving n

  running : phase j.marks n ≡ IsClaimed
  running = ap phase_of claimed

  marked : n < length j.marks
  marked = inside_of j.marks n (claimed_not_free (phase j.marks n) running)

  inside : n < length j.compilation.graph.nodes
  inside = subst (λ k. n < k) keeps.one_each marked

  lies : LieRight j p n f.places
  lies = keeps.claimed n f.places claimed

  long_out : length row_out ≡ (if writes_stored which then 0 else length (lens (graph_of j) n))
  long_out = sym (length-map row_out (port_size j.compilation.graph.edges)) ∙ (ap length (keeps.wired.outs n inside) ∙ by (writes_stored which))
    where
      by : (c : Bool) → length (if c then [] else lens (graph_of j) n) ≡ (if c then 0 else length (lens (graph_of j) n))
      by true = refl
      by false = refl

  ins_behind : LieBehind place j.block (reads_stored which) row_in (map lease_place in_leases)
  ins_behind = subst (LieBehind place j.block (reads_stored which) row_in) ins_at lies.inputs

  outs_behind : LieBehind place j.block (writes_stored which) row_out (map lease_place out_leases)
  outs_behind = subst (LieBehind place j.block (writes_stored which) row_out) outs_at lies.outputs

  ins_lie : EachLies place j.block row_in (map lease_place (ports_part (reads_stored which) in_leases))
  ins_lie = part_lies place j.block (reads_stored which) (ports_in (graph_of j) which n) row_in in_leases (keeps.wired.ins n inside) ins_behind

  outs_lie : EachLies place j.block row_out (map lease_place (ports_part (writes_stored which) out_leases))
  outs_lie = part_lies place j.block (writes_stored which) (length (lens (graph_of j) n)) row_out out_leases long_out outs_behind

  laid : IsLaid j.compilation.graph.edges j.compilation.placement.offsets j.compilation.placement.height
  laid = laid_of j.compilation keeps.compiled

  ports : ArePorts j.compilation.graph.edges n row_in row_out
  ports = ports_of (graph_of j) p.entering p.leaving n keeps.wired inside

  abbrev end_mark : Mark
  end_mark = finished_with f answer

  facts : Finishes j.compilation.graph.edges j.compilation.placement.offsets j.compilation.placement.height laid j.marks keeps.order n running end_mark (ends f answer) row_in row_out ports pool j.block keeps.cells.block keeps.cells.long keeps.out
      (ports_part (reads_stored which) in_leases) (ports_part (writes_stored which) out_leases) ins_lie outs_lie
  facts = finishes j.compilation.graph.edges j.compilation.placement.offsets j.compilation.placement.height laid j.marks keeps.order n running end_mark (ends f answer) row_in row_out ports pool j.block keeps.cells.block keeps.cells.long keeps.out
      (ports_part (reads_stored which) in_leases) (ports_part (writes_stored which) out_leases) ins_lie outs_lie

  abbrev middle : PoolView
  middle = with_leases (ports_part (reads_stored which) in_leases) pool

  abbrev last : PoolView
  last = with_leases (ports_part (writes_stored which) out_leases) middle

  -- what is asked when the leases are given back
  pub record CanGiveBoth : Type 0 where
    pub there : n < length j.compilation.graph.nodes
    pub ins_one : reads_stored which ≡ true → IsOne in_leases
    pub ins_due : reads_stored which ≡ false → AreDue in_leases pool
    pub outs_one : writes_stored which ≡ true → IsOne out_leases
    pub outs_due : writes_stored which ≡ false → AreDue out_leases middle

  pub can_give_both : CanGiveBoth
  can_give_both = record {
    there = inside;
    ins_one = stored_one place j.block (reads_stored which) (ports_in (graph_of j) which n) row_in in_leases (keeps.wired.ins n inside) ins_behind;
    ins_due = λ is. due_part (reads_stored which) in_leases pool is facts.ins_due;
    outs_one = stored_one place j.block (writes_stored which) (length (lens (graph_of j) n)) row_out out_leases long_out outs_behind;
    outs_due = λ is. due_part (writes_stored which) out_leases middle is facts.outs_due;
  }

  module _ (sound : IsFiring which ⊎ IsOk answer) (once : place_of j.compilation.graph.nodes which ≡ n) (kept : List ℤ) (told : (tokens : List ℤ) → writes_stored which ≡ true → map cells_of out_leases ≡ tokens ∷ [] → kept ≡ tokens) where
    abbrev later_job : JobView
    later_job = record j { marks = set j.marks n end_mark }

    kept_is : writes_stored which ≡ true → kept ≡ slice_index_or (flow_given (value_of end_mark)) 0 []
    kept_is is = kept_tokens f answer out_leases kept (⊎_elim (λ (firing : IsFiring which). absurd (writes_no_firing which is firing)) (λ (ok : IsOk answer). ok) sound) outputs_are (can_give_both.outs_one is) (λ tokens. told tokens is)

    part_at : (b : Bool) → b ≡ false → (port : ℕ) → slice_index_or (map cells_of out_leases) port [] ≡ slice_index_or (map cells_of (ports_part b out_leases)) port []
    part_at true is port = absurd (false≢true (sym is))
    part_at false is port = refl

    before_none : flow_given (value_of (mark_at j.marks n)) ≡ []
    before_none = ap (λ (k : Mark). flow_given (value_of k)) claimed

    others_free : (m : ℕ) → m < length j.compilation.graph.nodes → phase later_job.marks m ≡ IsFree → HasStock later_job p m
    others_free m m_in free =
        let differs : m ≢ n = λ same. (ends f answer).not_free (sym (phase_there j.marks n end_mark marked) ∙ subst (λ v. phase later_job.marks v ≡ IsFree) same free) in
        keeps.free m m_in (ap phase_of (sym (mark_elsewhere j.marks n m end_mark differs)) ∙ free)

    others_lie : (m : ℕ) (where_they_lie : Places) → mark_at later_job.marks m ≡ Claimed where_they_lie → LieRight later_job p m where_they_lie
    others_lie m where_they_lie is =
        let differs : m ≢ n = λ same. (ends f answer).not_claimed (sym (phase_there j.marks n end_mark marked) ∙ ap phase_of (subst (λ v. mark_at later_job.marks v ≡ Claimed where_they_lie) same is)) in
        let old = keeps.claimed m where_they_lie (sym (mark_elsewhere j.marks n m end_mark differs) ∙ is) in
        record { inputs = old.inputs; outputs = old.outputs }

    pub finish_keeps : Keeps later_job p last (with_out which kept outs) (with_left which kept left)
    finish_keeps = record {
      compiled = keeps.compiled;
      lists = record { kinds = keeps.lists.kinds; args = keeps.lists.args; sources = keeps.lists.sources; stored = keeps.lists.stored };
      one_each = length-set j.marks n end_mark ∙ keeps.one_each;
      wired = keeps.wired;
      order = finish_keeps_order j.compilation.graph.edges j.marks keeps.order n end_mark running;
      cells = record {
        block = facts.same_block ∙ keeps.cells.block;
        pooled = keeps.cells.pooled;
        len = keeps.cells.len;
        long = facts.same_long ∙ keeps.cells.long;
        most = facts.same_most ∙ keeps.cells.most;
        small = keeps.cells.small;
      };
      out = facts.after;
      full = finish_keeps_full j.compilation.graph.edges j.compilation.placement.offsets j.compilation.placement.height laid j.marks keeps.order n running end_mark (ends f answer) row_in row_out ports pool j.block keeps.cells.block keeps.cells.long keeps.out
          (ports_part (reads_stored which) in_leases) (ports_part (writes_stored which) out_leases) ins_lie outs_lie keeps.full
          (λ tokens is e e_in here.
          ap (λ l. slice_index_or l (edge_at j.compilation.graph.edges e).tail_port []) (tokens_of f answer tokens is ∙ outputs_are)
          ∙ part_at (writes_stored which) (port_alone (writes_stored which) (length (lens (graph_of j) n)) row_out (edge_at j.compilation.graph.edges e).tail_port e long_out (ports.tails_at e e_in here)) (edge_at j.compilation.graph.edges e).tail_port);
      stocked = keeps.stocked;
      free = others_free;
      rooms = λ m m_in. keeps.rooms m m_in;
      claimed = others_lie;
      outs_are = with_out-same which kept (slice_index_or (flow_given (value_of end_mark)) 0 []) outs kept_is
          ∙ (ap (with_out which (slice_index_or (flow_given (value_of end_mark)) 0 [])) keeps.outs_are
          ∙ sym (sunk_later j.compilation.graph.nodes j.marks n end_mark inside marked before_none which refl once j.compilation.level.sinks));
      left_are = with_left-same which kept (slice_index_or (flow_given (value_of end_mark)) 0 []) left kept_is
          ∙ (ap (with_left which (slice_index_or (flow_given (value_of end_mark)) 0 [])) keeps.left_are
          ∙ sym (left_later j.compilation.graph.nodes j.marks n end_mark inside marked before_none which refl once j.compilation.level.links));
    }

-- the mark of the stage of a node whose frame came back
pub mark_stage : (told : Told) (f : FrameView) (answer : Result (Unit {0}) KernelFault) → told.frame ≡ f → mark_of (stage_with told answer) ≡ finished_with f answer
mark_stage told f (Ok done) is = ap (λ (g : FrameView). Finished g.outputs) is
mark_stage told f (Err fault) is = refl

pub length-with_out : (which : Node) (tokens : List ℤ) (lists : List (List ℤ)) → length (with_out which tokens lists) ≡ length lists
length-with_out (node.Source s) tokens lists = refl
length-with_out (node.Init l) tokens lists = refl
length-with_out (node.Firing x k) tokens lists = refl
length-with_out (node.End l) tokens lists = refl
length-with_out (node.Sink t) tokens lists = length-set lists t tokens
length-with_out (node.Broadcast l) tokens lists = refl
length-with_out (node.Fork l i) tokens lists = refl
length-with_out (node.Join l i) tokens lists = refl
length-with_out (node.Round l) tokens lists = refl

pub length-with_left : (which : Node) (tokens : List ℤ) (lists : List (List ℤ)) → length (with_left which tokens lists) ≡ length lists
length-with_left (node.Source s) tokens lists = refl
length-with_left (node.Init l) tokens lists = refl
length-with_left (node.Firing x k) tokens lists = refl
length-with_left (node.End l) tokens lists = length-set lists l tokens
length-with_left (node.Sink t) tokens lists = refl
length-with_left (node.Broadcast l) tokens lists = refl
length-with_left (node.Fork l i) tokens lists = refl
length-with_left (node.Join l i) tokens lists = refl
length-with_left (node.Round l) tokens lists = refl

-- lists that were lent and came back as long as they were
pub lent_back : (lists : Vec (List ℤ) Global) (ws : List (List ℤ)) → length ws ≡ length lists.items → take lists.len (ws ++ drop (length ws) lists.items) ≡ ws
lent_back lists ws long =
    ap (λ n. take n (ws ++ drop (length ws) lists.items)) (lists.ok.0 ∙ sym long)
    ∙ (take-append-le (length ws) ws (drop (length ws) lists.items) (omega arith) ∙ take_all (length ws) ws (omega arith))
