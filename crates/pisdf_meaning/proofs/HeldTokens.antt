-- States that hold no tokens, told by the numbers of tokens of all states.
use Rattle.std.proofs.Common.{◌≡◌, ℕ, zero, suc, ◌+◌, ◌-◌, ◌<◌, ◌≤◌, nat_lt, Bool, false, ℤ, List, [], length, map, get_or, ap, sym, ◌∙◌, ⊎_elim, subst, arith}
use Rattle.std.specs.Prelude.{slice_index}
use Rattle.std.specs.List.{list_any, range_with_len}
use Rattle.std.proofs.lemmas.Bool.{cases_lt, lt-ltb, ltb-false}
use Rattle.std.proofs.lemmas.List.{get_or_past, nil_from_length}
use Rattle.std.proofs.lemmas.List.FromFn.{get_or-map-range_with_len, length-map-range_with_len}
use Rattle.std.proofs.lemmas.List.Sums.{sum_by-le-sum_by}
use Rattle.std.proofs.lemmas.Option.{slice_get-get_or, slice_get_past}
use Rattle.pisdf_model.specs.Arrows.{to_of}
use Rattle.pisdf_model.specs.Hold.{capped_hold, hold, hold_over, in_line, initial_to, own_hold}
use Rattle.pisdf_model.specs.Nesting.{children, nesting_limit}
use Rattle.pisdf_model.specs.declared.actor.Actor.{Actor}
use Rattle.pisdf_model.specs.declared.actor.Body.{Body}
use Rattle.pisdf_model.specs.declared.actor.Body.TheVariants.{Kernel, Config, Child, ConfigChild}
use Rattle.pisdf_model.specs.declared.graph.Graph.{Graph}
use Rattle.pisdf_model.proofs.Holds.{held_tokens}
use Rattle.param_expr.specs.Tree.{Tree}
use Rattle.param_resolver.specs.Numbering.{has_state, state_size}
use Rattle.param_resolver.proofs.Passing.{none_any}
use Rattle.pisdf_meaning.specs.Held.{TellHolds, TellHoldsTo, TellHoldsToAll, names_graph}
use Rattle.pisdf_meaning.proofs.Beginning.{begins_absent}

-- ---- numbers that tell which states hold tokens

capped_some : (n : ℕ) → nat_lt 0 (capped_hold n) ≡ nat_lt 0 n
capped_some n = ⊎_elim
    (λ (some : 0 < n). lt-ltb 0 (capped_hold n) (omega arith) ∙ sym (lt-ltb 0 n some))
    (λ (none : n ≤ 0). ap (nat_lt 0) (omega arith))
    (cases_lt 0 n)

absent : (graphs : List Graph) (place : ℕ) → length graphs ≤ place → hold graphs place ≡ 0
absent graphs place past = ap (λ (state : List (List ℤ)). length (in_line state)) (begins_absent graphs nesting_limit place (slice_get_past graphs place past))

pub tell_holds : (graphs : List Graph) (holds : List ℕ) → holds ≡ map (λ place. capped_hold (hold graphs place)) (range_with_len 0 (length graphs)) → TellHolds graphs holds
tell_holds graphs holds are = record {
  each = λ place. ⊎_elim
      (λ (inside : place < length graphs). ap (nat_lt 0) (ap (λ (l : List ℕ). get_or l place 0) are ∙ get_or-map-range_with_len (λ k. capped_hold (hold graphs k)) 0 (length graphs) place place 0 inside (omega arith)) ∙ capped_some (hold graphs place))
      (λ (past : length graphs ≤ place).
      let long : length holds ≡ length graphs = ap (λ (l : List ℕ). length l) are ∙ length-map-range_with_len (λ k. capped_hold (hold graphs k)) 0 (length graphs) in
      ap (nat_lt 0) (get_or_past holds place 0 (omega arith) ∙ sym (absent graphs place past)))
      (cases_lt place (length graphs));
}

-- all of them tell of each actor
pub tell_to : (graphs : List Graph) (holds : List ℕ) → TellHolds graphs holds → (body : Body) → TellHoldsTo graphs holds body
tell_to graphs holds tell (Kernel kernel args ins outs) = tt
tell_to graphs holds tell (Config kernel args ins outs sets) = tt
tell_to graphs holds tell (Child place args) = tell
tell_to graphs holds tell (ConfigChild place args sets) = tell

pub told_at : (graphs : List Graph) (holds : List ℕ) (actors : List Actor) (i : ℕ) (x : Actor) → TellHoldsToAll graphs holds actors → i < length actors → x ≡ get_or actors i x → TellHoldsTo graphs holds x.body
told_at graphs holds actors i x told below is = subst (λ (y : Actor). TellHoldsTo graphs holds y.body) (sym is) (told i x below)

-- whether the actor of the level has a state
pub state_told : (graphs : List Graph) (holds : List ℕ) (actor : Actor) (place : ℕ) (args : List Tree) (b : Bool) → actor.body ≡ Child place args → TellHoldsTo graphs holds actor.body → b ≡ nat_lt 0 (slice_index holds place) → b ≡ has_state graphs actor
state_told graphs holds actor place args b is told read =
    let tell : TellHolds graphs holds = subst (λ (body : Body). TellHoldsTo graphs holds body) is told in
    read ∙ tell.each place ∙ sym (ap (λ (body : Body). nat_lt 0 (state_size graphs body)) is)

-- of actors that name no graph there is nothing to tell
none_named : (graphs : List Graph) (holds : List ℕ) (body : Body) → names_graph body ≡ false → TellHoldsTo graphs holds body
none_named graphs holds (Kernel kernel args ins outs) none = tt
none_named graphs holds (Config kernel args ins outs sets) none = tt
none_named graphs holds (Child place args) none = absurd cc
none_named graphs holds (ConfigChild place args sets) none = absurd cc

pub tell_none : (graphs : List Graph) (holds : List ℕ) (actors : List Actor) → list_any (λ (a : Actor). names_graph a.body) actors ≡ false → TellHoldsToAll graphs holds actors
tell_none graphs holds actors none i d below = none_named graphs holds (get_or actors i d).body (none_any (λ (a : Actor). names_graph a.body) actors none i (get_or actors i d) (slice_get-get_or actors i d below))

-- ---- states without tokens

-- over one more graph nested in the others a state doesn't hold fewer tokens
one_more : (own : List ℕ) (lists : List (List ℕ)) (n place : ℕ) → hold_over own lists n place ≤ hold_over own lists (suc n) place
unfolding hold_over
one_more own lists zero place = omega arith
one_more own lists (suc n) place =
    let below = sum_by-le-sum_by (hold_over own lists n) (hold_over own lists (suc n)) (to_of lists place) (one_more own lists n) in
    omega arith

more : (own : List ℕ) (lists : List (List ℕ)) (n d place : ℕ) → hold_over own lists n place ≤ hold_over own lists (d + n) place
more own lists n zero place = let P : ℕ → Type 0 = λ m. hold_over own lists n place ≤ hold_over own lists m place in subst P (let e : n ≡ zero + n = omega arith in e) (omega arith)
more own lists n (suc d) place =
    let so_far = more own lists n d place in
    let next = one_more own lists (d + n) place in
    let P : ℕ → Type 0 = λ m. hold_over own lists n place ≤ hold_over own lists m place in
    subst P (let e : suc (d + n) ≡ suc d + n = omega arith in e) (omega arith)

-- where the state holds none over all levels it holds none over fewer
pub line_without : (graphs : List Graph) (holds : List ℕ) (levels place : ℕ) → TellHolds graphs holds → levels ≤ 8 → false ≡ nat_lt 0 (slice_index holds place) → in_line (initial_to graphs levels place) ≡ []
line_without graphs holds levels place tell few none =
    let own = map own_hold graphs in
    let lists = map children graphs in
    let whole : hold graphs place ≤ 0 = ltb-false 0 (hold graphs place) (sym (tell.each place) ∙ sym none) in
    let all = held_tokens graphs nesting_limit place in
    let some = held_tokens graphs levels place in
    let below = more own lists levels (8 - levels) place in
    let P : ℕ → Type 0 = λ m. hold_over own lists levels place ≤ hold_over own lists m place in
    let within : hold_over own lists levels place ≤ hold_over own lists 8 place = subst P (let e : (8 - levels) + levels ≡ 8 = omega arith in e) below in
    nil_from_length (in_line (initial_to graphs levels place)) (omega arith)
