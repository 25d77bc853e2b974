-- The claim of a node of a job.
use Rattle.std.proofs.Common.{◌≡◌, ℕ, ℤ, ◌+◌, ◌<◌, ◌≤◌, ⊎_elim, Bool, true, false, List, [], ◌∷◌, ◌++◌, length, map, set, get_or, refl, sym, ap, ap₂, ◌∙◌, subst, arith}
use Rattle.std.specs.Prelude.{◌≢◌, Option, Some, None, slice_index, slice_index_or, slice_get, if◌then◌else◌}
use Rattle.std.proofs.lemmas.Bool.{cases_eq, false≢true}
use Rattle.std.proofs.lemmas.List.{length-set, length-map, map-append, get_or-set_other}
use Rattle.sdf_level.specs.declared.link.Link.{Link}
use Rattle.sdf_level.specs.declared.node.Node.{Node}
use Rattle.sdf_level.specs.declared.single_rate.Edge.{Edge}
use Rattle.sdf_level.specs.declared.node.Node.TheVariants as node
use Rattle.split_block.specs.View.{Block, LeaseView, LeasePlace, lease_place, cells_of}
use Rattle.split_block.specs.Places.{window}
use Rattle.cell_pool.specs.View.{PoolView}
use Rattle.kernel_gate.specs.Value.{Places, lengths}
use Rattle.kernel_gate.specs.Leased.{AllWhole}
use Rattle.kernel_gate.specs.declared.room.RoomSize.{RoomSize}
use Rattle.job_flow.specs.Graphs.{node_at}
use Rattle.job_flow.specs.Frames.{Values, given as flow_given, inputs, lens, on_edge, ports_in}
use Rattle.job_flow.specs.Outcomes.{put_out, sunk, left_over}
use Rattle.single_rate.specs.Expanded.{place_of}
use Rattle.one_job.specs.Marks.{Mark, Claimed, mark_at, IsFree, IsClaimed, nowhere, phase, phase_of, values, value_of}
use Rattle.one_job.specs.Places.{edge_at, buffer_at}
use Rattle.one_job.specs.Ports.{reads_stored, writes_stored, row_of, EachLies, LieBehind, port_size}
use Rattle.one_job.specs.Stock.{IsStock}
use Rattle.one_job.specs.Taking.{Layout, taken, CanTake, IsStored, TakesBehind}
use Rattle.one_job.specs.View.{JobView, IsEnabled, graph_of}
use Rattle.one_job.specs.Calls.{LieAtBuffers}
use Rattle.one_job.specs.Invariants.{Parts, HasStock, LieRight, Keeps, stored_at}
use Rattle.one_job.proofs.Phases.{mark_there, mark_elsewhere, phase_there}
use Rattle.one_job.proofs.Order.{CanClaim, IsLaid, buffer_within, claim_keeps_order}
use Rattle.one_job.proofs.Lending.{EachEdge, EachEdge-weaker}
use Rattle.one_job.proofs.Claiming.{ArePorts, Enters, Leaves, enters_each, leaves_each, Claims, claims, claim_keeps_full, entering_full}
use Rattle.one_job.proofs.Wires.{laid_of, can_claim, ports_of, inputs_are, stored_part, taken_cells, taken_lie, written_at_one, EachLies-lengths, EachLies-at}

-- ---- the ends of the job depend on what was given alone

module _ (list : List Node) (v w : Values ℤ ℕ) (same : (m : ℕ) → flow_given (v m) ≡ flow_given (w m)) where
  put_same : (which : Node) → put_out list v which ≡ put_out list w which
  put_same which = ap (λ outs. slice_index_or outs 0 []) (same (place_of list which))

  pub sunk_same : (t : ℕ) (rates : List ℕ) → sunk list v t rates ≡ sunk list w t rates
  sunk_same t [] = refl
  sunk_same t (rate ∷ rates) = ap₂ (λ x xs. x ∷ xs) (put_same (node.Sink t)) (sunk_same (t + 1) rates)

  pub left_same : (l : ℕ) (links : List Link) → left_over list v l links ≡ left_over list w l links
  left_same l [] = refl
  left_same l (link ∷ links) = ap₂ (λ x xs. x ∷ xs) (put_same (node.End l)) (left_same (l + 1) links)

-- ---- leases as the node's frame has them

-- the stored tokens and those of the ports
stored_cells : (stored : Bool) (tokens : List ℤ) (own : List LeaseView) → IsStored stored tokens own → map cells_of own ≡ stored_part stored tokens
stored_cells true tokens own is = ap (map cells_of) is.1 ∙ ap (λ t. t ∷ []) is.3
stored_cells false tokens own is = ap (map cells_of) is

pub TakesBehind-cells : (place : Layout) (pool : PoolView) (ports : List (Option ℕ)) (stored : Bool) (tokens : List ℤ) (own leases : List LeaseView) (takes : TakesBehind place pool ports own leases) → IsStored stored tokens own → map cells_of leases ≡ stored_part stored tokens ++ map cells_of takes.more
TakesBehind-cells place pool ports stored tokens own leases takes is =
    ap (map cells_of) takes.all ∙ (map-append cells_of own takes.more ∙ ap (λ cells. cells ++ map cells_of takes.more) (stored_cells stored tokens own is))

own_whole : (stored : Bool) (tokens : List ℤ) (own : List LeaseView) → IsStored stored tokens own → AllWhole (map lease_place own) × (length (map lease_place own) ≡ (if stored then 1 else 0))
own_whole true tokens own is = (subst (λ l. AllWhole (map lease_place l)) (sym is.1) (is.2, tt), ap (λ l. length (map lease_place l)) is.1)
own_whole false tokens own is = (subst (λ l. AllWhole (map lease_place l)) (sym is) tt, ap (λ l. length (map lease_place l)) is)

pub TakesBehind-lie : (place : Layout) (pool : PoolView) (block : Block) (ports : List (Option ℕ)) (stored : Bool) (tokens : List ℤ) (own leases : List LeaseView) (takes : TakesBehind place pool ports own leases) → IsStored stored tokens own → EachLies place block ports (map lease_place takes.more) → LieBehind place block stored ports (map lease_place leases)
TakesBehind-lie place pool block ports stored tokens own leases takes is lies =
    let whole = own_whole stored tokens own is in
    record {
      own = map lease_place own;
      whole = whole.0;
      count = whole.1;
      others = map lease_place takes.more;
      each = lies;
      all = ap (map lease_place) takes.all ∙ map-append lease_place own takes.more;
    }

-- where a port has an edge, nothing stands before the ports
pub port_alone : (b : Bool) (count : ℕ) (ports : List (Option ℕ)) (p e : ℕ) → length ports ≡ (if b then 0 else count) → get_or ports p None ≡ Some e → b ≡ false
port_alone true count [] p e long is = absurd (cc)
port_alone true count (port ∷ ports) p e long is = absurd (let bad : ⊥ = omega arith in bad)
port_alone false count ports p e long is = refl

pub no_own : (b : Bool) (own others places : List LeasePlace) → b ≡ false → length own ≡ (if b then 1 else 0) → places ≡ own ++ others → places ≡ others
no_own true own others places is count all = absurd (false≢true (sym is))
no_own false [] others places is count all = all
no_own false (p ∷ own) others places is count all = absurd (let bad : ⊥ = omega arith in bad)

pub LieBehind-at : (place : Layout) (block : Block) (stored : Bool) (count : ℕ) (ports : List (Option ℕ)) (places : List LeasePlace) (p e : ℕ) → length ports ≡ (if stored then 0 else count) → LieBehind place block stored ports places → get_or ports p None ≡ Some e → slice_get places p ≡ Some record { block = block; start = (place e).start; len = (place e).len }
LieBehind-at place block stored count ports places p e long lies is =
    let alone = no_own stored lies.own lies.others places (port_alone stored count ports p e long is) lies.count lies.all in
    ap (λ l. slice_get l p) alone ∙ EachLies-at place block ports lies.others p e lies.each is

length-both : (leases : List LeaseView) → lengths (map cells_of leases) ≡ map (λ (l : LeaseView). length l.cells) leases
length-both [] = refl
length-both (lease ∷ leases) = ap (λ l. length lease.cells ∷ l) (length-both leases)

-- the leases that stand before those of a node's ports
pub record HasBegun (j : JobView) (n : ℕ) (first_in first_out : List LeaseView) : Type 0 where
  pub read : IsStored (reads_stored (node_at j.compilation.graph.nodes n)) (stored_at j (node_at j.compilation.graph.nodes n)) first_in
  pub cells : List ℤ
  pub kept : IsStored (writes_stored (node_at j.compilation.graph.nodes n)) cells first_out
  pub long : writes_stored (node_at j.compilation.graph.nodes n) ≡ true → length cells ≡ slice_index (lens (graph_of j) n) 0

stored_as : (b : Bool) (tokens others : List ℤ) (first : List LeaseView) → (b ≡ true → tokens ≡ others) → IsStored b tokens first → IsStored b others first
stored_as true tokens others first same is = subst (λ t. IsStored true t first) (same refl) is
stored_as false tokens others first same is = is

-- ---- the claim

module _ (j : JobView) (p : Parts) (pool : PoolView) (outs left : List (List ℤ)) (keeps : Keeps j p pool outs left) (n : ℕ) (enabled : IsEnabled j n) where
  abbrev place : Layout
  place = buffer_at j.compilation.graph.edges j.compilation.placement.offsets

  abbrev count : ℕ
  count = length j.compilation.graph.edges

  abbrev row_in : List (Option ℕ)
  row_in = row_of p.entering n

  abbrev row_out : List (Option ℕ)
  row_out = row_of p.leaving n

  abbrev which : Node
  which = node_at j.compilation.graph.nodes n

  inside : n < length j.compilation.graph.nodes
  inside = enabled.ready.there

  laid : IsLaid j.compilation.graph.edges j.compilation.placement.offsets j.compilation.placement.height
  laid = laid_of j.compilation keeps.compiled

  can : CanClaim j.compilation.graph.edges j.marks n
  can = can_claim j n keeps.one_each enabled

  ports : ArePorts j.compilation.graph.edges n row_in row_out
  ports = ports_of (graph_of j) p.entering p.leaving n keeps.wired inside

  height_is : pool.block.len ≡ j.compilation.placement.height
  height_is = ap (λ (b : Block). b.len) keeps.cells.block ∙ keeps.cells.len

  few : j.compilation.placement.height ≤ pool.most
  few = omega (arith, keeps.cells.small, keeps.cells.most)

  facts : (places : Places) → Claims j.compilation.graph.edges j.compilation.placement.offsets j.compilation.placement.height laid j.marks keeps.order n can places row_in row_out ports pool.most few pool.out keeps.out
  facts places = claims j.compilation.graph.edges j.compilation.placement.offsets j.compilation.placement.height laid j.marks keeps.order n can places row_in row_out ports pool.most few pool.out keeps.out

  abbrev no_places : Places
  no_places = nowhere

  -- what the two takes ask
  pub record CanTakeBoth : Type 0 where
    pub ins_can : CanTake place count pool.block.len pool.most row_in pool.out
    pub outs_can : CanTake place count pool.block.len pool.most row_out (taken place row_in pool.out)

  pub can_take_both : CanTakeBoth
  can_take_both = record {
    ins_can = subst (λ h. CanTake place count h pool.most row_in pool.out) (sym height_is) (facts no_places).ins_can;
    outs_can = subst (λ h. CanTake place count h pool.most row_out (taken place row_in pool.out)) (sym height_is) (facts no_places).outs_can;
  }

  -- what lay ready for the node
  pub begun_here : (first_in first_out : List LeaseView) → IsStored (reads_stored which) (get_or p.stock n []) first_in → IsStored (writes_stored which) (get_or p.stock n []) first_out → HasBegun j n first_in first_out
  begun_here first_in first_out read kept =
      let lay = keeps.free n inside can.free in
      record {
        read = stored_as (reads_stored which) (get_or p.stock n []) (stored_at j which) first_in lay.read_are read;
        cells = get_or p.stock n [];
        kept = kept;
        long = lay.long;
      }

  -- what was taken behind that
  module _ (first_in first_out : List LeaseView) (here : HasBegun j n first_in first_out) (room : RoomSize) (in_leases out_leases : List LeaseView) (ins : TakesBehind place pool row_in first_in in_leases) (outs_taken : TakesBehind place (record pool { out = taken place row_in pool.out }) row_out first_out out_leases) where
    within_row : (P : ℕ → Type 0) → ((e : ℕ) → e < count → P e) → (EachEdge P row_in) × (EachEdge P row_out)
    within_row P each = (
      EachEdge-weaker (Enters j.compilation.graph.edges n) P (λ e is. each e is.0) row_in (enters_each j.compilation.graph.edges n 0 row_in ports.enters),
      EachEdge-weaker (Leaves j.compilation.graph.edges n) P (λ e is. each e is.0) row_out (leaves_each j.compilation.graph.edges n 0 row_out ports.leaves),
    )

    fitting : (e : ℕ) → e < count → (place e).start + (place e).len ≤ length pool.cells
    fitting e e_in = omega (arith, buffer_within j.compilation.graph.edges j.compilation.placement.offsets j.compilation.placement.height laid e e_in, keeps.cells.long)

    ins_lie : EachLies place pool.block row_in (map lease_place ins.more)
    ins_lie = taken_lie j.compilation.graph.edges j.compilation.placement.offsets pool row_in ins.more ins.each (within_row (λ e. (place e).start + (place e).len ≤ length pool.cells) fitting).0

    outs_lie : EachLies place pool.block row_out (map lease_place outs_taken.more)
    outs_lie = taken_lie j.compilation.graph.edges j.compilation.placement.offsets (record pool { out = taken place row_in pool.out }) row_out outs_taken.more outs_taken.each (within_row (λ e. (place e).start + (place e).len ≤ length pool.cells) fitting).1

    abbrev places : Places
    places = record { inputs = map lease_place in_leases; outputs = map lease_place out_leases; room = room }

    pub lie_right : LieRight j p n places
    lie_right = record {
      inputs = subst (λ b. LieBehind place b (reads_stored which) row_in (map lease_place in_leases)) keeps.cells.block (TakesBehind-lie place pool pool.block row_in (reads_stored which) (stored_at j which) first_in in_leases ins here.read ins_lie);
      outputs = subst (λ b. LieBehind place b (writes_stored which) row_out (map lease_place out_leases)) keeps.cells.block (TakesBehind-lie place (record pool { out = taken place row_in pool.out }) pool.block row_out (writes_stored which) here.cells first_out out_leases outs_taken here.kept outs_lie);
    }

    pub inputs_hold : map cells_of in_leases ≡ inputs (graph_of j) (values j.marks) n
    inputs_hold =
        TakesBehind-cells place pool row_in (reads_stored which) (stored_at j which) first_in in_leases ins here.read
        ∙ ap (λ rest. stored_part (reads_stored which) (stored_at j which) ++ rest)
        (taken_cells j.compilation.graph.edges j.compilation.placement.offsets pool (values j.marks) row_in ins.more ins.each
        (EachEdge-weaker (Enters j.compilation.graph.edges n) (λ e. window (place e).start (place e).len pool.cells ≡ on_edge (values j.marks) (edge_at j.compilation.graph.edges e))
        (λ e is. keeps.full e is.0 (entering_full j.compilation.graph.edges j.compilation.placement.offsets j.compilation.placement.height laid j.marks keeps.order n can no_places row_in row_out ports e is.0 is.1)) row_in (enters_each j.compilation.graph.edges n 0 row_in ports.enters)))
        ∙ sym (inputs_are j p.entering p.leaving n keeps.wired inside (values j.marks))

    lengths_by_kind : (b : Bool) → writes_stored which ≡ b → lengths (map cells_of out_leases) ≡ lens (graph_of j) n
    lengths_by_kind true is =
        let row : map (port_size j.compilation.graph.edges) row_out ≡ [] = keeps.wired.outs n inside ∙ ap (λ b. if b then [] else lens (graph_of j) n) is in
        let more : lengths (map cells_of outs_taken.more) ≡ [] = length-both outs_taken.more ∙ (EachLies-lengths j.compilation.graph.edges j.compilation.placement.offsets pool.block row_out outs_taken.more outs_lie ∙ row) in
        ap lengths (TakesBehind-cells place (record pool { out = taken place row_in pool.out }) row_out (writes_stored which) here.cells first_out out_leases outs_taken here.kept)
        ∙ (ap (λ b. lengths (stored_part b here.cells ++ map cells_of outs_taken.more)) is ∙ (ap (λ l. length here.cells ∷ l) more ∙ (ap (λ k. k ∷ []) (here.long is) ∙ sym (written_at_one (graph_of j) n is))))
    lengths_by_kind false is =
        let row : map (port_size j.compilation.graph.edges) row_out ≡ lens (graph_of j) n = keeps.wired.outs n inside ∙ ap (λ b. if b then [] else lens (graph_of j) n) is in
        ap lengths (TakesBehind-cells place (record pool { out = taken place row_in pool.out }) row_out (writes_stored which) here.cells first_out out_leases outs_taken here.kept)
        ∙ (ap (λ b. lengths (stored_part b here.cells ++ map cells_of outs_taken.more)) is ∙ (length-both outs_taken.more ∙ (EachLies-lengths j.compilation.graph.edges j.compilation.placement.offsets pool.block row_out outs_taken.more outs_lie ∙ row)))

    pub outputs_fit : lengths (map cells_of out_leases) ≡ lens (graph_of j) n
    outputs_fit = lengths_by_kind (writes_stored which) refl

    outs_long : (b : Bool) → writes_stored which ≡ b → length row_out ≡ (if writes_stored which then 0 else length (lens (graph_of j) n))
    outs_long b is = sym (length-map row_out (port_size j.compilation.graph.edges)) ∙ (ap length (keeps.wired.outs n inside) ∙ by b is)
      where
        by : (c : Bool) → writes_stored which ≡ c → length (if writes_stored which then [] else lens (graph_of j) n) ≡ (if writes_stored which then 0 else length (lens (graph_of j) n))
        by true eq = rw eq refl
        by false eq = rw eq refl

    pub lie_at_buffers : LieAtBuffers j n places
    lie_at_buffers = record {
      inputs = λ e e_in here. LieBehind-at place j.block (reads_stored which) (ports_in (graph_of j) which n) row_in (map lease_place in_leases) (edge_at j.compilation.graph.edges e).head_port e (keeps.wired.ins n inside) lie_right.inputs (ports.heads_at e e_in here);
      outputs = λ e e_in here. LieBehind-at place j.block (writes_stored which) (length (lens (graph_of j) n)) row_out (map lease_place out_leases) (edge_at j.compilation.graph.edges e).tail_port e (outs_long (writes_stored which) refl) lie_right.outputs (ports.tails_at e e_in here);
    }

    still_given : (m : ℕ) → flow_given (values j.marks m) ≡ flow_given (values (set j.marks n (Claimed places)) m)
    still_given m = ⊎_elim
        (λ (same : m ≡ n). subst (λ u. flow_given (values j.marks u) ≡ flow_given (values (set j.marks n (Claimed places)) u)) (sym same)
        (ap (λ (k : Mark). flow_given (value_of k)) enabled.unclaimed ∙ sym (ap (λ (k : Mark). flow_given (value_of k)) (mark_there j.marks n (Claimed places) can.there))))
        (λ (differs : m ≡ n → ⊥). ap (λ (k : Mark). flow_given (value_of k)) (sym (mark_elsewhere j.marks n m (Claimed places) differs)))
        (cases_eq m n)

    -- what stays of what lay ready for the node
    module _ (rest : List ℤ) where
      abbrev later_parts : Parts
      later_parts = record p { stock = set p.stock n rest }

      abbrev later_job : JobView
      later_job = record j { marks = set j.marks n (Claimed places) }

      others_free : (m : ℕ) → m < length j.compilation.graph.nodes → phase later_job.marks m ≡ IsFree → HasStock later_job later_parts m
      others_free m m_in free =
          let differs : m ≢ n = λ same.
          let claimed : phase later_job.marks m ≡ IsClaimed = subst (λ v. phase later_job.marks v ≡ IsClaimed) (sym same) (phase_there j.marks n (Claimed places) can.there) in
          let bad : IsClaimed ≡ IsFree = sym claimed ∙ free in absurd (cc) in
          subst (IsStock (node_at j.compilation.graph.nodes m) (stored_at j (node_at j.compilation.graph.nodes m)) (slice_index (lens (graph_of j) m) 0)) (sym (get_or-set_other p.stock n m rest [] differs))
          (keeps.free m m_in (ap phase_of (sym (mark_elsewhere j.marks n m (Claimed places) differs)) ∙ free))

      others_lie : (m : ℕ) (where_they_lie : Places) → mark_at later_job.marks m ≡ Claimed where_they_lie → LieRight later_job later_parts m where_they_lie
      others_lie m where_they_lie is = ⊎_elim
          (λ (same : m ≡ n).
          let own : Claimed places ≡ Claimed where_they_lie = sym (mark_there j.marks n (Claimed places) can.there) ∙ (ap (mark_at later_job.marks) (sym same) ∙ is) in
          let these : places ≡ where_they_lie = cc in
          subst (λ v. LieRight later_job later_parts v where_they_lie) (sym same) (subst (LieRight later_job later_parts n) these (record { inputs = lie_right.inputs; outputs = lie_right.outputs })))
          (λ (differs : m ≡ n → ⊥). let old = keeps.claimed m where_they_lie (sym (mark_elsewhere j.marks n m (Claimed places) differs) ∙ is) in record { inputs = old.inputs; outputs = old.outputs })
          (cases_eq m n)

      pub claim_keeps : Keeps later_job later_parts (record pool { out = taken place row_out (taken place row_in pool.out) }) outs left
      claim_keeps = record {
        compiled = keeps.compiled;
        lists = record { kinds = keeps.lists.kinds; args = keeps.lists.args; sources = keeps.lists.sources; stored = keeps.lists.stored };
        one_each = length-set j.marks n (Claimed places) ∙ keeps.one_each;
        wired = keeps.wired;
        order = claim_keeps_order j.compilation.graph.edges j.marks keeps.order n (Claimed places) can;
        cells = record { block = keeps.cells.block; pooled = keeps.cells.pooled; len = keeps.cells.len; long = keeps.cells.long; most = keeps.cells.most; small = keeps.cells.small };
        out = (facts places).after;
        full = claim_keeps_full j.compilation.graph.edges j.compilation.placement.offsets j.compilation.placement.height laid j.marks keeps.order n can places row_in row_out ports pool.cells keeps.full;
        stocked = length-set p.stock n rest ∙ keeps.stocked;
        free = others_free;
        rooms = λ m m_in. keeps.rooms m m_in;
        claimed = others_lie;
        outs_are = keeps.outs_are ∙ sunk_same j.compilation.graph.nodes (values j.marks) (values later_job.marks) still_given 0 j.compilation.level.sinks;
        left_are = keeps.left_are ∙ left_same j.compilation.graph.nodes (values j.marks) (values later_job.marks) still_given 0 j.compilation.level.links;
      }

-- ---- what the code took, by the values that it read

abbrev Read : Type 0
Read = List Edge × (List ℕ × List (Option ℕ))

module _ (j : JobView) (p : Parts) (pool : PoolView) (outs left : List (List ℤ)) (keeps : Keeps j p pool outs left) (n : ℕ) (enabled : IsEnabled j n) where
  pub record HasRead (edges : List Edge) (offsets : List ℕ) (ins outs_row : List (Option ℕ)) : Type 0 where
    pub edges_are : edges ≡ j.compilation.graph.edges
    pub offsets_are : offsets ≡ j.compilation.placement.offsets
    pub ins_are : ins ≡ row_of p.entering n
    pub outs_are : outs_row ≡ row_of p.leaving n

  module _ (edges : List Edge) (offsets : List ℕ) (ins outs_row : List (Option ℕ)) (read : HasRead edges offsets ins outs_row) where
    both : CanTakeBoth j p pool outs left keeps n enabled
    both = can_take_both j p pool outs left keeps n enabled

    pub can_take_ins : CanTake (buffer_at edges offsets) (length edges) pool.block.len pool.most ins pool.out
    can_take_ins =
        subst (λ (x : Read). CanTake (buffer_at x.0 x.1.0) (length x.0) pool.block.len pool.most x.1.1 pool.out)
        (sym (λ i. (read.edges_are i, (read.offsets_are i, read.ins_are i))))
        both.ins_can

    pub can_take_outs : (middle : PoolView) → middle ≡ record pool { out = taken (buffer_at edges offsets) ins pool.out } → CanTake (buffer_at edges offsets) (length edges) middle.block.len middle.most outs_row middle.out
    can_take_outs middle is =
        subst (λ (m : PoolView). CanTake (buffer_at edges offsets) (length edges) m.block.len m.most outs_row m.out) (sym is)
        (subst (λ (x : Read). CanTake (buffer_at x.0 x.1.0) (length x.0) pool.block.len pool.most outs_row (taken (buffer_at x.0 x.1.0) x.1.1 pool.out))
        (sym (λ i. (read.edges_are i, (read.offsets_are i, read.ins_are i))))
        (subst (λ r. CanTake (buffer_at j.compilation.graph.edges j.compilation.placement.offsets) (length j.compilation.graph.edges) pool.block.len pool.most r (taken (buffer_at j.compilation.graph.edges j.compilation.placement.offsets) (row_of p.entering n) pool.out)) (sym read.outs_are) both.outs_can))

    pub record HasTaken (first_in first_out in_leases out_leases : List LeaseView) (middle last : PoolView) : Type 0 where
      pub took_in : TakesBehind (buffer_at edges offsets) pool ins first_in in_leases
      pub middle_is : middle ≡ record pool { out = taken (buffer_at edges offsets) ins pool.out }
      pub took_out : TakesBehind (buffer_at edges offsets) middle outs_row first_out out_leases
      pub last_is : last ≡ record middle { out = taken (buffer_at edges offsets) outs_row middle.out }

    module _ (first_in first_out in_leases out_leases : List LeaseView) (middle last : PoolView) (took : HasTaken first_in first_out in_leases out_leases middle last) where
      abbrev where_placed : Layout
      where_placed = buffer_at j.compilation.graph.edges j.compilation.placement.offsets

      pub ins_taken : TakesBehind where_placed pool (row_of p.entering n) first_in in_leases
      ins_taken =
          subst (λ (x : Read). TakesBehind (buffer_at x.0 x.1.0) pool x.1.1 first_in in_leases)
          (λ i. (read.edges_are i, (read.offsets_are i, read.ins_are i)))
          took.took_in

      middle_canonical : middle ≡ record pool { out = taken where_placed (row_of p.entering n) pool.out }
      middle_canonical = took.middle_is ∙ λ i. record pool { out = taken (buffer_at (read.edges_are i) (read.offsets_are i)) (read.ins_are i) pool.out }

      pub outs_also_taken : TakesBehind where_placed (record pool { out = taken where_placed (row_of p.entering n) pool.out }) (row_of p.leaving n) first_out out_leases
      outs_also_taken =
          subst (λ m. TakesBehind where_placed m (row_of p.leaving n) first_out out_leases) middle_canonical
          (subst (λ (x : Read). TakesBehind (buffer_at x.0 x.1.0) middle x.1.1 first_out out_leases)
          (λ i. (read.edges_are i, (read.offsets_are i, read.outs_are i)))
          took.took_out)

      pub last_canonical : last ≡ record pool { out = taken where_placed (row_of p.leaving n) (taken where_placed (row_of p.entering n) pool.out) }
      last_canonical =
          took.last_is
          ∙ ((λ i. record middle { out = taken (buffer_at (read.edges_are i) (read.offsets_are i)) (read.outs_are i) middle.out })
          ∙ λ i. record (middle_canonical i) { out = taken where_placed (row_of p.leaving n) (middle_canonical i).out })
