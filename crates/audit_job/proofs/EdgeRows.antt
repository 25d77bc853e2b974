-- The edges of a graph by their nodes, edge by edge, and as they are read.
use Rattle.std.proofs.Common.{◌≡◌, ◌≢◌, ℕ, ◌<◌, ◌==◌, Bool, true, false, List, [], ◌∷◌, ◌++◌, length, set, get_or, Option, Some, sym, ap, ◌∙◌, subst, arith, ⊎_elim}
use Rattle.std.specs.Prelude.{All, Vec, cond, filter}
use Rattle.std.specs.Global.{Global}
use Rattle.std.proofs.lemmas.Bool.Decides.{eqb_tells}
use Rattle.std.proofs.lemmas.List.{append-nil, get_or-map, get_or-set_other, get_or-set_same, length-map, length-set}
use Rattle.std.proofs.lemmas.List.Elements.{All-filter, filter-append}
use Rattle.pisdf_model.specs.declared.graph.Graph.{Graph}
use Rattle.sdf_level.specs.Lists.{lists_of}
use Rattle.sdf_level.specs.declared.single_rate.Edge.{Edge}
use Rattle.audit_job.specs.Jobs.{IsJob, IsPrepared}
use Rattle.audit_job.specs.Marks.{answers}
use Rattle.audit_job.specs.Rows.{AreRows, HasRows, end_of}
use Rattle.audit_job.specs.declared.job.Job.{Job}
use Rattle.audit_job.specs.declared.job.Nodes.{Nodes}
use Rattle.audit_job.specs.declared.rows.Side.{Side}

abbrev pub no_edge : Edge
no_edge = record { tail = 0; tail_port = 0; head = 0; head_port = 0; size = 0 }

-- ---- edge by edge

module _ (side : Side) (nodes : ℕ) where
  module _ (edges : List Edge) (e : Edge) (lists : List (List Edge)) (are : AreRows side nodes edges lists) (there : end_of side e < nodes) where
    abbrev at : ℕ
    at = end_of side e

    abbrev later : List (List Edge)
    later = set lists at (get_or lists at [] ++ e ∷ [])

    abbrev has : ℕ → Edge → Bool
    has n x = end_of side x == n

    row_later : (n : ℕ) → n < nodes → (b : Bool) → (at == n) ≡ b → get_or later n [] ≡ get_or lists n [] ++ cond b (e ∷ []) [] → get_or later n [] ≡ filter (has n) (edges ++ e ∷ [])
    row_later n below b is now =
        now ∙ ap (λ l. l ++ cond b (e ∷ []) []) (are.each n below) ∙ ap (λ c. filter (has n) edges ++ cond c (e ∷ []) []) (sym is) ∙ sym (filter-append (has n) edges (e ∷ []))

    pub rows_more : AreRows side nodes (edges ++ e ∷ []) later
    rows_more = record {
      one_each = length-set lists at (get_or lists at [] ++ e ∷ []) ∙ are.one_each;
      each = λ n below. ⊎_elim
          (λ (s : ((at == n) ≡ true) × (at ≡ n)).
          let one = are.one_each in
          let inside : at < length lists = omega arith in
          row_later n below true s.0 (ap (λ k. get_or later k []) (sym s.1) ∙ get_or-set_same lists at (get_or lists at [] ++ e ∷ []) [] inside ∙ ap (λ k. get_or lists k [] ++ e ∷ []) s.1))
          (λ (s : ((at == n) ≡ false) × (at ≢ n)).
          row_later n below false s.0 (get_or-set_other lists at n (get_or lists at [] ++ e ∷ []) [] (λ same. s.1 (sym same)) ∙ sym (append-nil (get_or lists n []))))
          (eqb_tells at n);
    }

-- ---- as they are read

module _ (side : Side) (nodes : ℕ) (edges : List Edge) (rows : List (Vec Edge Global)) (are : AreRows side nodes edges (lists_of rows)) (n : ℕ) (below : n < nodes) where
  pub row_inside : n < length rows
  row_inside = let one = are.one_each in let long = length-map rows (λ (v : Vec Edge Global). v.items) in omega arith

  pub row_is : (row : Vec Edge Global) → row ≡ get_or rows n row → row.items ≡ filter (λ (e : Edge). end_of side e == n) edges
  row_is row at =
      ap (λ (v : Vec Edge Global). v.items) at
      ∙ sym (get_or-map (λ (v : Vec Edge Global). v.items) rows n row [] row_inside)
      ∙ are.each n below

  pub row_has : (P : Edge → Type 0) (row : List Edge) → row ≡ filter (λ (e : Edge). end_of side e == n) edges → All P edges → All P row
  row_has P row is all = subst (λ (l : List Edge). All P l) (sym is) (All-filter (λ (e : Edge). end_of side e == n) P edges all)

-- of other numbers and edges that are the same
pub made_rows : (side : Side) (n m : ℕ) (edges all : List Edge) (lists : List (List Edge)) → n ≡ m → edges ≡ all → AreRows side n edges lists → AreRows side m all lists
made_rows side n m edges all lists same same_edges are = subst (λ (k : ℕ). AreRows side k all lists) same (subst (λ (l : List Edge). AreRows side n l lists) same_edges are)

-- the nodes of a job have theirs
pub has_rows : (graphs : List Graph) (workers : ℕ) (job : Job) → IsJob graphs workers job → (nodes : Nodes) → job.nodes ≡ Some nodes → HasRows nodes
has_rows graphs workers job is nodes e =
    let so : IsPrepared graphs workers job.firing (answers job.marks.items) (Some nodes) = subst (λ (o : Option Nodes). IsPrepared graphs workers job.firing (answers job.marks.items) o) e is.prepared in
    so.1.made.rows
