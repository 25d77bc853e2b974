-- A lease that comes back.
use Rattle.std.proofs.Common.{◌≡◌, ◌+◌, ◌<◌, ◌≤◌, ◌⊎◌, true, false, List, length, sym, ap, ◌∙◌, subst, arith}
use Rattle.split_block.specs.declared.free.Free.{Free}
use Rattle.split_block.specs.Places.{Place, AllApart, Clear, has, without, write}
use Rattle.split_block.specs.View.{Block, LeaseView}
use Rattle.cell_pool.specs.View.{place_of}
use Rattle.cell_pool.specs.Pooled.{IsPooled, EachWithin}
use Rattle.cell_pool.specs.declared.pool.Pool.TheInside.{Inside}
use Rattle.cell_pool.proofs.Outs.{clear_less, all_less, within_less, each_within, length-write}

module _ (p : Inside) (l : LeaseView) (ok : IsPooled p) (here : l.block ≡ record { ptr = p.base; len = p.size; pooled = true }) (is_out : has (place_of l) p.free.out ≡ true) where
  abbrev rest : List Place
  rest = without (place_of l) p.free.out

  pub bounds : (0 < length l.cells) × (l.start + length l.cells ≤ p.size)
  bounds = each_within (place_of l) p.size p.free.out ok.within is_out

  some : 0 < p.size
  some = omega (arith, bounds.0, bounds.1)

  pub clear : Clear (place_of l) rest
  clear = clear_less (place_of l) p.free.out ok.apart is_out

  pub ptr : l.block.ptr ≡ p.free.ptr
  ptr = ap (λ (b : Block). b.ptr) here ∙ sym (ok.ptr some)

  pub kept : (f : Free) → f.ptr ≡ p.free.ptr → f.cells ≡ write l.start l.cells p.free.cells → f.out ≡ rest → IsPooled (record p { free = f })
  kept f at holds outs = record {
    ptr = λ g. at ∙ ok.ptr g;
    len = ap length holds ∙ length-write l.start l.cells p.free.cells (omega (arith, bounds.1, ok.len)) ∙ ok.len;
    small = ok.small;
    apart = subst AllApart (sym outs) (all_less (place_of l) p.free.out ok.apart);
    within = subst (EachWithin p.size) (sym outs) (within_less (place_of l) p.size p.free.out ok.within);
    home = ok.home;
  }
