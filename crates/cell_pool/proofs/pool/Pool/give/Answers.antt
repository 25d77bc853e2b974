use Rattle.std.proofs.Common.{◌≡◌, ◌*◌, true, length, sym, ap, ap₂, ◌∙◌, subst, arith}
use denote.RawPtr.{◌+ₚ◌}
use Rattle.split_block.specs.Places.{Clear, has, without, write}
use Rattle.cell_pool.specs.View.{place_of}
use Rattle.cell_pool.proofs.Returns.{bounds, clear, ptr, kept}
use Rattle.cell_pool.proofs.pool.Pool.give.Goals as goal

pub into_pool-run-requires : goal.into_pool-run-requires
into_pool-run-requires c = record { pooled = ap (λ b. b.pooled) (c.requires.block ∙ sym (ap (λ v. v.block) c.self.view_is)) }

pub put-self-inside-requires : goal.put-self-inside-requires
put-self-inside-requires c =
    let p = c.self.inside in
    let l = c.args.lease in
    let run = c.into_pool-run.result.0 in
    let start = c.into_pool-run.result.1.start in
    let f = c.replace-free.result in
    let same = c.replace-free.ensures.value in
    let here : l.block ≡ record { ptr = p.base; len = p.size; pooled = true } = c.requires.block ∙ sym (ap (λ v. v.block) c.self.view_is) in
    let is_out : has (place_of l) p.free.out ≡ true = ap (λ v. has (place_of l) v.out) c.self.view_is ∙ c.requires.out in
    let place : place_of l ≡ record { start = start; len = length run.items } = λ i. record { start = sym c.into_pool-run.ensures.origin.1 i; len = length (sym c.into_pool-run.ensures.run.1 i) } in
    let b = bounds p l c.self.invariant here is_out in (
      c.into_pool-run.ensures.run.0 ∙ ap₂ (λ r k. r +ₚ (k * 8)) (ptr p l c.self.invariant here is_out ∙ sym (ap (λ g. g.ptr) same)) (sym c.into_pool-run.ensures.origin.1),
      omega (arith, b.1, c.self.invariant.len, ap (λ g. length g.cells) same, c.into_pool-run.ensures.origin.1, ap length c.into_pool-run.ensures.run.1),
      ap₂ (λ q o. has q o) (sym place) (ap (λ g. g.out) same) ∙ is_out,
      subst (λ o. Clear (record { start = start; len = length run.items }) (without (record { start = start; len = length run.items }) o)) (sym (ap (λ g. g.out) same))
          (subst (λ q. Clear q (without q p.free.out)) place (clear p l c.self.invariant here is_out)),
    )

pub invariant_of-self : goal.invariant_of-self
invariant_of-self c =
    let p = c.self.inside in
    let l = c.args.lease in
    let here : l.block ≡ record { ptr = p.base; len = p.size; pooled = true } = c.requires.block ∙ sym (ap (λ v. v.block) c.self.view_is) in
    let is_out : has (place_of l) p.free.out ≡ true = ap (λ v. has (place_of l) v.out) c.self.view_is ∙ c.requires.out in
    let same = c.replace-free.ensures.value in
    let e = c.put-self-inside.ensures in
    let start = c.into_pool-run.ensures.origin.1 in
    let items = c.into_pool-run.ensures.run.1 in
    kept p l c.self.invariant here is_out c.put-self-inside.result (e.0 ∙ ap (λ g. g.ptr) same)
    (e.1 ∙ λ i. write (start i) (items i) (same i).cells) (e.2 ∙ λ i. without (record { start = start i; len = length (items i) }) (same i).out)
