use Rattle.std.proofs.Common.{◌≡◌, ◌<◌, ◌≤◌, ⊎_elim, ℕ, ℤ, List, [], ◌∷◌, ◌++◌, length, get_or, sym, ap, ◌∙◌, subst, arith}
use Rattle.std.specs.Prelude.{Option, None}
use Rattle.std.proofs.lemmas.Bool.{cases_lt}
use Rattle.std.proofs.lemmas.List.{get_or_push, get_or_append_left, length_push}
use Rattle.job_flow.specs.Graphs.{node_at}
use Rattle.one_job.specs.Ports.{port_size, row_of}
use Rattle.one_job.specs.Opening.{stored_in}
use Rattle.one_job.specs.Stock.{IsStock}
use Rattle.one_job.proofs.stock.make_stock.Goals as goal

pub stock_of-requires : goal.stock_of-requires
stock_of-requires c = λ e found.
    let row_is : c.row.result.now ≡ get_or c.args.entering.now c.loop-n.n [] = c.row.ensures in
    c.requires.there c.loop-n.n e (subst (λ row. get_or row 0 None ≡ Rattle.std.specs.Prelude.Some e) row_is found)

pub loop-n-preserved : goal.loop-n-preserved
loop-n-preserved c =
    let n = c.loop-n.n in
    let stock = c.loop-n.stock.items in
    let tokens = c.in_ok-ready.ready in
    let nodes = c.args.nodes.now in
    let entering = c.args.entering.now in
    let i = c.loop-n.invariant in
    let inside : n < length nodes = c.loop-n-test.true in
    let Is : ℕ → List ℤ → List ℤ → Type 0 = λ m read ts. IsStock (node_at nodes m) read (port_size c.args.edges.now (get_or (row_of entering m) 0 None)) ts in
    let Has : ℕ → List ℤ → Type 0 = λ m ts. Is m (stored_in c.args.sources.now c.args.stored.now (node_at nodes m)) ts in
    let row_is : c.row.result.now ≡ row_of entering n = c.row.ensures in
    let taken : Is n (stored_in c.loop-n.sources c.loop-n.stored (node_at nodes n)) tokens =
    subst (λ (row : List (Option ℕ)). IsStock (node_at nodes n) (stored_in c.loop-n.sources c.loop-n.stored (node_at nodes n)) (port_size c.args.edges.now (get_or row 0 None)) tokens) row_is c.in_ok-ready.ensures.stock in
    let one : Has n tokens = subst (λ (read : List ℤ). Is n read tokens) (i.rest n (omega arith) inside) taken in
    let items : c.push.new.self.items ≡ stock ++ tokens ∷ [] = c.in_ok-push.ensures.items in
    let long : length stock ≡ n = i.long in
    record {
      long = ap length items ∙ (length_push stock tokens ∙ omega (arith, long));
      each = λ m below. subst (λ (xs : List (List ℤ)). Has m (get_or xs m [])) (sym items)
          (⊎_elim
          (λ (before : m < n). subst (Has m) (sym (get_or_append_left stock (tokens ∷ []) [] m (omega (arith, before, long)))) (i.each m before))
          (λ (here : n ≤ m).
          let m_is : m ≡ n = omega (arith, here, below) in
          subst (Has m) (sym (get_or_push stock tokens [] m (omega (arith, m_is, long)))) (subst (λ k. Has k tokens) (sym m_is) one))
          (cases_lt m n));
      rest = λ m past there.
          c.in_ok-ready.ensures.others (node_at nodes m) (λ same. let e : m ≡ n = c.requires.once m n there inside same in omega (arith, e, past))
          ∙ i.rest m (omega (arith, past)) there;
    }
