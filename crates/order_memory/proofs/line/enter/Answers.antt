use Rattle.std.proofs.Common.{ℕ, get_or, take}
use Rattle.std.proofs.lemmas.List.{take_more, take_all}
use Rattle.order_memory.proofs.OpenSets.{inserted, let_in, kept_out}
use Rattle.order_memory.proofs.line.enter.Goals as goal
use Rattle.order_memory.proofs.line.enter.Goals.{then-waiting-head-eq0+in_ok-insert, else-waiting-head-eq0}

pub loop-head-preserved : goal.loop-head-preserved
loop-head-preserved c =
    let i = c.loop-head.head-index in
    let heads = c.args.heads.now in
    let h : ℕ = get_or heads i 0 in
    let old = c.args.open_nodes.now.keys in
    let mid = c.loop-head.open_nodes.keys in
    elim c.if-waiting-head-eq0.branch [
      | then-waiting-head-eq0+in_ok-insert w ↦ rw (w.open_nodes-is, take_more heads i 0 c.loop-head-test.true)
          (λ n.
          let now = inserted c.loop-head.open_nodes w.insert.new.self h w.in_ok-insert.ensures.updates n in
          let entered = let_in old (take i heads) mid c.args.waiting.now h c.loop-head.invariant w.if-waiting-head-eq0.true n in
          ((λ at. entered.0 (now.0 at)), (λ is. now.1 (entered.1 is))))
      | else-waiting-head-eq0 w ↦ rw (w.open_nodes-is, take_more heads i 0 c.loop-head-test.true) (kept_out old (take i heads) mid c.args.waiting.now h c.loop-head.invariant (λ none. w.if-waiting-head-eq0.false none))
    ]

pub returns : goal.returns
returns c = λ n. rw (take_all c.loop-head.head-index c.args.heads.now c.loop-head-test.false) at (c.loop-head.invariant n)
