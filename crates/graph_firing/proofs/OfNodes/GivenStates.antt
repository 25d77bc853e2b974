-- What a running firing gives at its end, actor by actor.
use Rattle.std.proofs.Common.{◌≡◌, ℕ, zero, suc, ◌+◌, ◌<◌, Bool, true, false, ℤ, List, [], ◌∷◌, ◌++◌, length, map, get_or, drop, refl, ap, sym, ◌∙◌, append_assoc, arith, Vec, Global, if◌then◌else◌}
use Rattle.std.specs.Prelude.{slice_index}
use Rattle.std.specs.List.{filter}
use Rattle.std.proofs.lemmas.List.{drop-drop, drop-map, get_or-drop}
use Rattle.param_resolver.specs.Numbering.{fires, has_state}
use Rattle.pisdf_model.specs.InterfaceWires.{is_configuration}
use Rattle.pisdf_model.specs.declared.actor.Actor.{Actor}
use Rattle.pisdf_model.specs.declared.graph.Graph.{Graph}
use Rattle.sdf_level.specs.Lists.{lists_of}
use Rattle.pisdf_meaning.specs.Running.{Traces, actor_states, child_rows, state_of_first, trace_of_first, traces_below}
use Rattle.pisdf_meaning.specs.States.{tokens_at}
use Rattle.pisdf_meaning.specs.declared.firing.Configured.{Configured}
use Rattle.pisdf_meaning.specs.declared.outcome.TraceRow.{TraceRow}
use Rattle.pisdf_meaning.proofs.FileOrder.{from_here}
use Rattle.job_preparing.specs.Handing.{with_traces}
use Rattle.graph_firing.specs.Nodes.Parts.{HaveTraces, flat, row_at}

next : {X : Type 0} (before before' after : List X) (one : X) → before' ≡ before ++ one ∷ [] → before' ++ after ≡ before ++ one ∷ after
next before before' after one e = ap (λ l. l ++ after) e ∙ append_assoc before (one ∷ []) after

module _ (actors : List Actor) (i : ℕ) (x : Actor) (inside : i < length actors) (is : x ≡ get_or actors i x) where
  here : drop i actors ≡ x ∷ drop (i + 1) actors
  here = from_here actors i x inside ∙ ap (λ y. y ∷ drop (i + 1) actors) (sym is)

  -- ---- which actors fire in the level

  pub fires_config : is_configuration x.body ≡ true → filter fires (drop i actors) ≡ filter fires (drop (i + 1) actors)
  fires_config holds = ap (filter fires) here ∙ rw holds refl

  pub fires_level : is_configuration x.body ≡ false → filter fires (drop i actors) ≡ x ∷ filter fires (drop (i + 1) actors)
  fires_level none = ap (filter fires) here ∙ rw none refl

  pub keeps_level : (h : Actor → Bool) (keeps : List Bool) (n : ℕ) (d : Bool) → is_configuration x.body ≡ false → drop n keeps ≡ map h (filter fires (drop i actors)) → (get_or keeps n d ≡ h x) × (drop (n + 1) keeps ≡ map h (filter fires (drop (i + 1) actors)))
  keeps_level h keeps n d none e =
      let all : drop n keeps ≡ h x ∷ map h (filter fires (drop (i + 1) actors)) = e ∙ ap (map h) (fires_level none) in (
        (let z : n ≡ n + 0 = omega arith in ap (λ k. get_or keeps k d) z ∙ sym (get_or-drop n keeps 0 d) ∙ ap (λ l. get_or l 0 d) all),
        (let f : n + 1 ≡ n + 1 = refl in sym (drop-drop 1 n keeps) ∙ ap (drop 1) all),
      )

  -- ---- states

  module _ (graphs : List Graph) (configured : List Configured) (left state state' whole : List (List ℤ)) (one : List ℤ)
      (were : state ++ actor_states graphs (drop i actors) configured left ≡ whole) (now : state' ≡ state ++ one ∷ []) where
    pub config_state : is_configuration x.body ≡ true → one ≡ state_of_first configured → (configured' : List Configured) → configured' ≡ drop 1 configured → state' ++ actor_states graphs (drop (i + 1) actors) configured' left ≡ whole
    config_state holds e configured' f =
        next state state' (actor_states graphs (drop (i + 1) actors) configured' left) one now
        ∙ ap (λ t. state ++ t) (rw (e, f) (sym (ap (λ l. actor_states graphs l configured left) here ∙ rw holds refl)))
        ∙ were

    pub level_state : is_configuration x.body ≡ false → (b : Bool) → b ≡ has_state graphs x → one ≡ (if b then tokens_at left 0 else []) → (left' : List (List ℤ)) → left' ≡ (if b then drop 1 left else left) →
        state' ++ actor_states graphs (drop (i + 1) actors) configured left' ≡ whole
    level_state none true has e left' f =
        let h : has_state graphs x ≡ true = sym has in
        next state state' (actor_states graphs (drop (i + 1) actors) configured left') one now
        ∙ ap (λ t. state ++ t) (rw (e, f) (sym (ap (λ l. actor_states graphs l configured left) here ∙ rw (none, h) refl)))
        ∙ were
    level_state none false has e left' f =
        let h : has_state graphs x ≡ false = sym has in
        next state state' (actor_states graphs (drop (i + 1) actors) configured left') one now
        ∙ ap (λ t. state ++ t) (rw (e, f) (sym (ap (λ l. actor_states graphs l configured left) here ∙ rw (none, h) refl)))
        ∙ were

  -- ---- traces

  module _ (configured : List Configured) (rows rows' more whole : List TraceRow) (counts : List ℕ) (traces : Traces) (b : ℕ)
      (were : rows ++ child_rows counts traces b (drop i actors) configured ≡ whole) (now : rows' ≡ rows ++ more) where
    pub config_rows : is_configuration x.body ≡ true → more ≡ trace_of_first configured → (configured' : List Configured) → configured' ≡ drop 1 configured → rows' ++ child_rows counts traces b (drop (i + 1) actors) configured' ≡ whole
    config_rows holds e configured' f =
        ap (λ l. l ++ child_rows counts traces b (drop (i + 1) actors) configured') now
        ∙ append_assoc rows more (child_rows counts traces b (drop (i + 1) actors) configured')
        ∙ ap (λ t. rows ++ t) (rw (e, f) (sym (ap (λ l. child_rows counts traces b l configured) here ∙ rw holds refl)))
        ∙ were

    pub level_rows : is_configuration x.body ≡ false → more ≡ traces_below (traces b) (slice_index counts b) → rows' ++ child_rows counts traces (b + 1) (drop (i + 1) actors) configured ≡ whole
    level_rows none e =
        ap (λ l. l ++ child_rows counts traces (b + 1) (drop (i + 1) actors) configured) now
        ∙ append_assoc rows more (child_rows counts traces (b + 1) (drop (i + 1) actors) configured)
        ∙ ap (λ t. rows ++ t) (rw e (sym (ap (λ l. child_rows counts traces b l configured) here ∙ rw none refl)))
        ∙ were

-- ---- the traces of configuration actors

trace_first : (configured : List Configured) (traces : List (List TraceRow)) → length traces ≡ length configured → trace_of_first (with_traces configured traces) ≡ get_or traces 0 []
trace_first [] [] long = refl
trace_first [] (t ∷ traces) long = absurd (omega arith)
trace_first (one ∷ configured) [] long = absurd (omega arith)
trace_first (one ∷ configured) (t ∷ traces) long = refl

pub trace_at : (configured : List Configured) (traces : List (List TraceRow)) (n : ℕ) → length traces ≡ length configured → trace_of_first (drop n (with_traces configured traces)) ≡ get_or (drop n traces) 0 []
trace_at configured traces zero long = trace_first configured traces long
trace_at [] [] (suc n) long = refl
trace_at [] (t ∷ traces) (suc n) long = absurd (omega arith)
trace_at (one ∷ configured) [] (suc n) long = absurd (omega arith)
trace_at (one ∷ configured) (t ∷ traces) (suc n) long = trace_at configured traces n (omega arith)

-- the rows of an actor of the level, the first of those that are left
pub rows_here : (counts : List ℕ) (traces : Traces) (all own : List (Vec (List TraceRow) Global)) (b : ℕ) → own ≡ drop b all → HaveTraces counts traces all → flat (row_at own 0) ≡ traces_below (traces b) (slice_index counts b)
rows_here counts traces all own b e have =
    ap (λ (l : List (Vec (List TraceRow) Global)). flat (row_at l 0)) e
    ∙ ap (λ (l : List (List (List TraceRow))). flat (get_or l 0 [])) (sym (drop-map (λ (v : Vec (List TraceRow) Global). v.items) b all))
    ∙ ap flat (get_or-drop b (lists_of all) 0 [] ∙ ap (λ k. get_or (lists_of all) k []) (let f : b + 0 ≡ b = omega arith in f)) ∙ have b
