use Rattle.std.proofs.Common.{ℕ, ◌≡◌, ◌<◌, ◌==◌, List, [], length, set, slice_index, slice_index_or, if◌then◌else◌, Vec, Global, ap, sym, ◌∙◌, arith}
use Rattle.std.proofs.lemmas.List.{map-set, length-map, get_or-map}
use Rattle.sdf_level.specs.Lists.{lists_of}
use Rattle.sdf_level.specs.declared.node.Node.{Node}
use Rattle.single_rate.specs.Nodes.{same}
use Rattle.single_rate.specs.Numbers.{row_of, column_of, number_in}
use Rattle.single_rate.proofs.NumberRows.{written}
use Rattle.single_rate.proofs.numbers.put.Goals as goal

pub returns : goal.returns
returns c = λ n.
    let rows : List (List ℕ) = lists_of c.add_rows.new.rows.items in
    let m : Node = c.args.node in
    let row : List ℕ = c.write.new.row.items in
    let inside : row_of m < length c.add_rows.new.rows.items = let h = c.in_ok-add_rows.ensures.many in let r = c.row-row.ensures in omega arith in
    let items = λ (v : Vec ℕ Global). v.items in
    let before : c.index_mut.result.now.items ≡ slice_index_or rows (row_of m) [] =
    ap items c.index_mut.ensures.value ∙ sym (get_or-map items c.add_rows.new.rows.items c.row-row.result c.index_mut.result.now [] (let r = c.row-row.ensures in omega arith)) ∙ ap (λ x. slice_index_or rows x []) c.row-row.ensures in
    let is : (k : ℕ) → slice_index row k ≡ (if k == column_of m then c.args.number else slice_index (slice_index_or rows (row_of m) []) k) = λ k.
    c.in_ok-write.ensures k ∙ ap (λ x. if k == x then c.args.number else slice_index c.index_mut.result.now.items k) c.column.ensures ∙ ap (λ (x : List ℕ). if k == column_of m then c.args.number else slice_index x k) before in
    ap (λ (x : List (List ℕ)). number_in x n) (map-set items c.add_rows.new.rows.items c.row-row.result c.write.new.row)
    ∙ ap (λ x. number_in (set rows x row) n) c.row-row.ensures
    ∙ written rows row m n c.args.number (let l = length-map c.add_rows.new.rows.items items in omega arith) is
    ∙ ap (λ x. if same n m then c.args.number else x) (ap (λ (x : List ℕ). slice_index x (column_of n)) (c.in_ok-add_rows.ensures.same (row_of n)))
