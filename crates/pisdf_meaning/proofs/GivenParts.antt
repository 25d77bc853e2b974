-- What a firing of a graph gives, actor by actor.
use Rattle.std.proofs.Common.{◌≡◌, ℕ, ◌+◌, ◌<◌, true, false, ℤ, List, [], ◌∷◌, ◌++◌, length, get_or, drop, refl, ap, sym, ◌∙◌, append_assoc, arith, Vec, Global}
use Rattle.std.specs.Prelude.{slice_index}
use Rattle.std.proofs.lemmas.List.{drop-drop, drop-map, get_or-drop}
use Rattle.param_resolver.specs.Numbering.{has_state}
use Rattle.pisdf_model.specs.InterfaceWires.{is_configuration}
use Rattle.pisdf_model.specs.declared.actor.Actor.{Actor}
use Rattle.pisdf_model.specs.declared.graph.Graph.{Graph}
use Rattle.sdf_level.specs.Lists.{lists_of}
use Rattle.pisdf_meaning.specs.Running.{HaveRows, Traces, actor_states, child_rows, state_of_first, trace_of_first, traces_below}
use Rattle.pisdf_meaning.specs.States.{tokens_at}
use Rattle.pisdf_meaning.specs.declared.firing.Configured.{Configured}
use Rattle.pisdf_meaning.specs.declared.outcome.TraceRow.{TraceRow}
use Rattle.pisdf_meaning.proofs.FileOrder.{from_here}

past : {X : Type 0} (xs : List X) (n m : ℕ) → m ≡ n + 1 → drop 1 (drop n xs) ≡ drop m xs
past xs n m e = drop-drop 1 n xs ∙ ap (λ k. drop k xs) (let f : n + 1 ≡ m = omega arith in f)

next : {X : Type 0} (before before' after : List X) (one : X) → before' ≡ before ++ one ∷ [] → before' ++ after ≡ before ++ one ∷ after
next before before' after one e = ap (λ l. l ++ after) e ∙ append_assoc before (one ∷ []) after

module _ (actors : List Actor) (i : ℕ) (x : Actor) (inside : i < length actors) (is : x ≡ get_or actors i x) where
  here : drop i actors ≡ x ∷ drop (i + 1) actors
  here = from_here actors i x inside ∙ ap (λ y. y ∷ drop (i + 1) actors) (sym is)

  -- ---- states

  module _ (graphs : List Graph) (configured : List Configured) (number : ℕ) (left state state' whole : List (List ℤ)) (one : List ℤ)
      (were : state ++ actor_states graphs (drop i actors) (drop number configured) left ≡ whole) (now : state' ≡ state ++ one ∷ []) where
    abbrev rest : List Configured → List (List ℤ) → List (List ℤ)
    rest c l = actor_states graphs (drop (i + 1) actors) c l

    pub configuration_state : is_configuration x.body ≡ true → one ≡ state_of_first (drop number configured) →
        (number' : ℕ) → number' ≡ number + 1 → (left' : List (List ℤ)) → left' ≡ left → state' ++ rest (drop number' configured) left' ≡ whole
    configuration_state holds e number' f left' g =
        next state state' (rest (drop number' configured) left') one now
        ∙ ap (λ t. state ++ t)
        (rw (e, g, ← past configured number number' f) (sym (ap (λ l. actor_states graphs l (drop number configured) left) here ∙ rw holds refl)))
        ∙ were

    pub link_state : is_configuration x.body ≡ false → has_state graphs x ≡ true → one ≡ tokens_at left 0 →
        (number' : ℕ) → number' ≡ number → (left' : List (List ℤ)) → left' ≡ drop 1 left → state' ++ rest (drop number' configured) left' ≡ whole
    link_state none holds e number' f left' g =
        next state state' (rest (drop number' configured) left') one now
        ∙ ap (λ t. state ++ t)
        (rw (e, g, f) (sym (ap (λ l. actor_states graphs l (drop number configured) left) here ∙ rw (none, holds) refl)))
        ∙ were

    pub no_state : is_configuration x.body ≡ false → has_state graphs x ≡ false → one ≡ [] →
        (number' : ℕ) → number' ≡ number → (left' : List (List ℤ)) → left' ≡ left → state' ++ rest (drop number' configured) left' ≡ whole
    no_state none also e number' f left' g =
        next state state' (rest (drop number' configured) left') one now
        ∙ ap (λ t. state ++ t)
        (rw (e, g, f) (sym (ap (λ l. actor_states graphs l (drop number configured) left) here ∙ rw (none, also) refl)))
        ∙ were

  -- ---- traces

  module _ (configured : List Configured) (number : ℕ) (rows rows' whole : List TraceRow) (counts : List ℕ) (traces : Traces) (b : ℕ)
      (were : rows ++ child_rows counts traces b (drop i actors) (drop number configured) ≡ whole) where
    pub configuration_rows : is_configuration x.body ≡ true → rows' ≡ rows ++ trace_of_first (drop number configured) →
        (number' : ℕ) → number' ≡ number + 1 → rows' ++ child_rows counts traces b (drop (i + 1) actors) (drop number' configured) ≡ whole
    configuration_rows holds e number' f =
        ap (λ l. l ++ child_rows counts traces b (drop (i + 1) actors) (drop number' configured)) e
        ∙ append_assoc rows (trace_of_first (drop number configured)) (child_rows counts traces b (drop (i + 1) actors) (drop number' configured))
        ∙ ap (λ t. rows ++ t)
        (rw (← past configured number number' f) (sym (ap (λ l. child_rows counts traces b l (drop number configured)) here ∙ rw holds refl)))
        ∙ were

    pub level_rows : is_configuration x.body ≡ false → rows' ≡ rows ++ traces_below (traces b) (slice_index counts b) →
        (number' : ℕ) → number' ≡ number → rows' ++ child_rows counts traces (b + 1) (drop (i + 1) actors) (drop number' configured) ≡ whole
    level_rows none e number' f =
        ap (λ l. l ++ child_rows counts traces (b + 1) (drop (i + 1) actors) (drop number' configured)) e
        ∙ append_assoc rows (traces_below (traces b) (slice_index counts b)) (child_rows counts traces (b + 1) (drop (i + 1) actors) (drop number' configured))
        ∙ ap (λ t. rows ++ t) (rw f (sym (ap (λ l. child_rows counts traces b l (drop number configured)) here ∙ rw none refl)))
        ∙ were

-- the first of the lists that are left is that of the actor
pub rows_here : (counts : List ℕ) (traces : Traces) (all own : List (Vec TraceRow Global)) (b : ℕ) → own ≡ drop b all → HaveRows counts traces (lists_of all) →
    get_or (lists_of own) 0 [] ≡ traces_below (traces b) (slice_index counts b)
rows_here counts traces all own b e have =
    ap (λ (l : List (Vec TraceRow Global)). get_or (lists_of l) 0 []) e ∙ ap (λ (l : List (List TraceRow)). get_or l 0 []) (sym (drop-map (λ (v : Vec TraceRow Global). v.items) b all)) ∙ get_or-drop b (lists_of all) 0 [] ∙ ap (λ k. get_or (lists_of all) k []) (let f : b + 0 ≡ b = omega arith in f) ∙ have b
