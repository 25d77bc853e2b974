-- What a configuration actor is fed, with one port more.
use Rattle.std.proofs.Common.{◌≡◌, ℕ, ◌+◌, ℤ, List, [], ◌∷◌, ◌++◌, sym, arith}
use Rattle.std.proofs.lemmas.List.FromFn.{map-range_with_len_more}
use Rattle.param_resolver.specs.EarlyCheck.{feeding}
use Rattle.pisdf_model.specs.declared.fifo.Fifo.{Fifo}
use Rattle.pisdf_model.specs.declared.graph.Graph.{Graph}
use Rattle.pisdf_meaning.specs.Configuring.{fed_to}
use Rattle.pisdf_meaning.specs.States.{tokens_at}

pub fed_more : (g : Graph) (inputs : List (List ℤ)) (a n : ℕ) (fifos : List Fifo) (interface : ℕ) (lists lists' : List (List ℤ)) (one : List ℤ) → fifos ≡ g.fifos →
    lists ≡ fed_to g inputs a n → interface ≡ feeding fifos a n → one ≡ tokens_at inputs interface → lists' ≡ lists ++ one ∷ [] → lists' ≡ fed_to g inputs a (n + 1)
fed_more g inputs a n fifos interface lists lists' one same were is reads now = rw (now, were, reads, is, same) (sym (map-range_with_len_more (λ p. tokens_at inputs (feeding g.fifos a p)) 0 n n (omega arith)))
