-- One firing of an actor, of a level or of configuration, that is moved to another path and among the other graphs.
use Rattle.std.proofs.Common.{◌≡◌, ℕ, Bool, if◌then◌else◌, codes, ℤ, List, [], ◌∷◌, ◌++◌, length, take, slice_index_or, Result, Ok, Err, IfOk, refl, ap, ◌∙◌, sym, subst}
use Rattle.std.specs.List.{AllByRecursion}
use Rattle.std.specs.Fmt.{decimal}
use Rattle.kernel_gate.specs.Value.{Answer, Gives, Faults}
use Rattle.kernel_gate.specs.Table.{the_value}
use Rattle.param_expr.specs.Tree.{Tree}
use Rattle.param_resolver.specs.EarlyView.{EarlyView}
use Rattle.param_resolver.specs.LevelOf.{out_rates}
use Rattle.param_resolver.specs.Numbering.{has_state}
use Rattle.pisdf_model.specs.Hold.{in_line, initial}
use Rattle.pisdf_model.specs.Parts.{input_count}
use Rattle.pisdf_model.specs.declared.actor.Actor.{Actor}
use Rattle.pisdf_model.specs.declared.actor.Body.{Body}
use Rattle.pisdf_model.specs.declared.actor.Body.TheVariants.{Kernel, Config, Child, ConfigChild}
use Rattle.pisdf_model.specs.declared.graph.Graph.{Graph}
use Rattle.pisdf_meaning.specs.Configuring.{Configuration, LeaveAll, Leaves, child_leaves, config_answer, config_firing, early_in, fed_to, kernel_leaves, with_first}
use Rattle.pisdf_meaning.specs.Endings.{End, Ends, Then, child_path}
use Rattle.pisdf_meaning.specs.Running.{FiresBody, child_fires, child_firing, kernel_fires}
use Rattle.pisdf_meaning.specs.Sound.{ChildWithin}
use Rattle.pisdf_meaning.specs.States.{actor_list, state_in, tokens_at}
use Rattle.pisdf_meaning.specs.declared.firing.Configured.{Configured}
use Rattle.pisdf_meaning.specs.declared.firing.Firing.{Firing}
use Rattle.pisdf_meaning.specs.declared.firing.Given.{Given}
use Rattle.pisdf_meaning.specs.declared.outcome.TraceRow.{TraceRow}
use Rattle.pisdf_meaning.specs.declared.refusal.Refusal.{Refusal}
use Rattle.firing_laws.specs.Moving.{AreMoved, DifferAt, GoesDown, IsBelow, IsMoved, at_path}
use Rattle.firing_laws.proofs.Checks.{early_same, has_state_same, initial_same, input_count_same, out_rates_same, state_in_same}
use Rattle.firing_laws.proofs.Moved.{moved_above, moved_empty}

-- what is given at an end can be given at another path, where these say how firings end
abbrev pub EndsMove : (ℕ → Type 0) → Ends → Ends → Type 0
EndsMove Below ends again = (firing : Firing) (path : List ℕ) (given : Given) → Below firing.graph → ends firing (Ok given) → (moved : Given) × again (at_path path firing) (Ok moved) × IsMoved firing.path path given moved

-- the same is left, but for the paths in the trace
pub record IsLeftMoved (path other : List ℕ) (left moved : Configured) : Type 0 where
  pub outs : moved.outs ≡ left.outs
  pub sets : moved.sets ≡ left.sets
  pub state : moved.state ≡ left.state
  pub trace : AreMoved path other left.trace moved.trace

abbrev pub AreLeftMoved : List ℕ → List ℕ → List Configured → List Configured → Type 0
AreLeftMoved path other [] [] = Unit {0}
AreLeftMoved path other [] (moved ∷ more) = ⊥
AreLeftMoved path other (left ∷ all) [] = ⊥
AreLeftMoved path other (left ∷ all) (moved ∷ more) = IsLeftMoved path other left moved × AreLeftMoved path other all more

-- the path of a child, past that of its parent
abbrev pub child_end : List ℕ → ℕ → List ℕ
child_end name k = codes "/" ++ (name ++ (codes ":" ++ decimal k))

pub child_goes_down : (name : List ℕ) (k : ℕ) (rest : List ℕ) → GoesDown (child_end name k ++ rest)
child_goes_down name k rest = refl

module _ (top : ℕ) (one other : List Graph) (differ : DifferAt top one other) (ends again : Ends) (moves : EndsMove (IsBelow one top) ends again) (firing : Firing) (path : List ℕ) where
  abbrev Names : Body → Type 0
  Names body = ChildWithin (IsBelow one top) body

  -- ---- actors of a level

  kernel_moved : (name : List ℕ) (k j : ℕ) (outs : List (List ℤ)) (value : Answer) → Ok outs ≡ kernel_fires firing.path name k value → Ok outs ≡ kernel_fires path name j value
  kernel_moved name k j outs (Gives made sets) is = is
  kernel_moved name k j outs (Faults code) is = absurd cc

  module _ (values args : List ℤ) (actor : Actor) (k j : ℕ) (trace : List TraceRow) (read outs : List (List ℤ)) where
    abbrev MovesBody : Body → Type 0
    MovesBody body = (moved : List TraceRow) × FiresBody other again (at_path path firing) values args actor body j moved read (Ok outs) × AreMoved (child_path firing.path actor.name k) (child_path path actor.name j) trace moved

    firing_same : (place : ℕ) → IsBelow one top place → Names actor.body →
        child_firing other (at_path path firing) actor.name j args (has_state other actor) place (input_count other actor.body) read
        ≡ at_path (child_path path actor.name j) (child_firing one firing actor.name k args (has_state one actor) place (input_count one actor.body) read)
    firing_same place below names =
        let made : Bool → ℕ → List (List ℤ) → List (List ℤ) → Firing = λ keeps n kept begun.
        record { path = child_path path actor.name j; graph = place; inherited = args; inputs = take n read; state = if keeps then kept else begun } in
        ap (λ keeps. made keeps (input_count other actor.body) (state_in other place (tokens_at read (input_count other actor.body))) (initial other place)) (has_state_same top one other differ actor names)
        ∙ ap (λ n. made (has_state one actor) n (state_in other place (tokens_at read n)) (initial other place)) (input_count_same top one other differ actor.body names)
        ∙ ap (λ kept. made (has_state one actor) (input_count one actor.body) kept (initial other place)) (state_in_same top one other differ place below (tokens_at read (input_count one actor.body)))
        ∙ ap (λ begun. made (has_state one actor) (input_count one actor.body) (state_in one place (tokens_at read (input_count one actor.body))) begun) (initial_same top one other differ place below)

    child_moved : (place : ℕ) (args' : List Tree) → IsBelow one top place → Names actor.body → (end : End) →
        ends (child_firing one firing actor.name k args (has_state one actor) place (input_count one actor.body) read) end →
        IfOk end (λ given. trace ≡ given.trace) → Ok outs ≡ child_fires (has_state one actor) end → MovesBody (Child place args')
    child_moved place args' below names (Err refusal) ended rows answer = absurd cc
    child_moved place args' below names (Ok given) ended rows answer =
        let m = moves (child_firing one firing actor.name k args (has_state one actor) place (input_count one actor.body) read) (child_path path actor.name j) given below ended in
        let made : Bool → List (List ℤ) → List (List ℤ) → Result (List (List ℤ)) Refusal = λ keeps outs state. Ok (outs ++ (if keeps then in_line state ∷ [] else [])) in (
          m.0.trace,
          (
            Ok m.0,
            subst (λ (f : Firing). again f (Ok m.0)) (sym (firing_same place below names)) m.1,
            refl,
            answer ∙ ap (λ keeps. made keeps given.outs given.state) (sym (has_state_same top one other differ actor names)) ∙ ap (λ o. made (has_state other actor) o given.state) (sym m.2.outs) ∙ ap (λ s. made (has_state other actor) m.0.outs s) (sym m.2.state),
          ),
          subst (λ (r : List TraceRow). AreMoved (child_path firing.path actor.name k) (child_path path actor.name j) r m.0.trace) (sym rows) m.2.trace,
        )

    pub body_moved : (body : Body) → Names actor.body → Names body → FiresBody one ends firing values args actor body k trace read (Ok outs) → MovesBody body
    body_moved (Kernel kernel exprs ins outs') names below fires = (
      [],
      (
        refl,
        kernel_moved actor.name k j outs (the_value kernel args read (out_rates one values actor.body) 0) fires.1
            ∙ ap (λ (rates : List ℕ). kernel_fires path actor.name j (the_value kernel args read rates 0)) (sym (out_rates_same top one other differ values actor.body names)),
      ),
      moved_empty (child_path firing.path actor.name k) (child_path path actor.name j) trace [] fires.0 refl,
    )
    body_moved (Child place exprs) names below fires = child_moved place exprs below names fires.0 fires.1 fires.2 fires.3
    body_moved (Config kernel exprs ins outs' sets) names below fires = absurd fires
    body_moved (ConfigChild place exprs sets) names below fires = absurd fires

  -- ---- configuration actors

  abbrev MovesLeft : (Result Configured Refusal → Type 0) → Configured → Type 0
  MovesLeft Leaves' left = (moved : Configured) × Leaves' (Ok moved) × IsLeftMoved firing.path path left moved

  module _ (g : Graph) (low : IsBelow one top firing.graph) where
    early_in_same : early_in other (at_path path firing) ≡ early_in one firing
    early_in_same = early_same top one other differ firing.graph low firing.inherited

    kernel_left_moved : (name : List ℕ) (left : Configured) (value again' : Answer) → again' ≡ value → Ok left ≡ kernel_leaves firing.path name value → MovesLeft (λ end. end ≡ kernel_leaves path name again') left
    kernel_left_moved name left (Gives outs sets) again' same is =
        let e : left ≡ record { outs = outs; sets = sets; state = []; trace = [] } = cc in (
          left,
          is ∙ ap (kernel_leaves path name) (sym same),
          record { outs = refl; sets = refl; state = refl; trace = moved_empty firing.path path left.trace left.trace (ap (λ (c : Configured). c.trace) e) (ap (λ (c : Configured). c.trace) e) },
        )
    kernel_left_moved name left (Faults code) again' same is = absurd cc

    config_firing_same : (c : Configuration) (place : ℕ) → IsBelow one top place → Names c.body → config_firing other g (at_path path firing) c place ≡ at_path (child_path path c.name 0) (config_firing one g firing c place)
    config_firing_same c place below names =
        let made : List ℤ → ℕ → List (List ℤ) → Firing = λ args n state. record { path = child_path path c.name 0; graph = place; inherited = args; inputs = fed_to g firing.inputs c.place n; state = state } in
        let line = actor_list g firing.state c.place in
        ap (λ (e : EarlyView). made (tokens_at e.args c.number) (input_count other c.body) (state_in other place line)) early_in_same
        ∙ ap (λ n. made (tokens_at (early_in one firing).args c.number) n (state_in other place line)) (input_count_same top one other differ c.body names)
        ∙ ap (λ s. made (tokens_at (early_in one firing).args c.number) (input_count one c.body) s) (state_in_same top one other differ place below line)

    child_left_moved : (c : Configuration) (place : ℕ) (exprs : List Tree) (sets : List ℕ) (left : Configured) → IsBelow one top place → Names c.body → (end : End) → ends (config_firing one g firing c place) end → Ok left ≡ child_leaves end →
        MovesLeft (Leaves other again g (at_path path firing) c (ConfigChild place exprs sets)) left
    child_left_moved c place exprs sets left below names (Err refusal) ended is = absurd cc
    child_left_moved c place exprs sets left below names (Ok given) ended is =
        let m = moves (config_firing one g firing c place) (child_path path c.name 0) given below ended in
        let e : left ≡ record { outs = given.outs; sets = given.exports; state = in_line given.state; trace = given.trace } = cc in
        let moved : Configured = record { outs = m.0.outs; sets = m.0.exports; state = in_line m.0.state; trace = m.0.trace } in (
          moved,
          (Ok m.0, subst (λ (f : Firing). again f (Ok m.0)) (sym (config_firing_same c place below names)) m.1, refl),
          subst (λ (l : Configured). IsLeftMoved firing.path path l moved) (sym e)
              record { outs = m.2.outs; sets = m.2.exports; state = ap in_line m.2.state; trace = moved_above firing.path path (child_end c.name 0) given.trace m.0.trace (child_goes_down c.name 0) m.2.trace },
        )

    config_answer_same : (c : Configuration) (kernel ins sets : ℕ) → config_answer other g (at_path path firing) c kernel ins sets ≡ config_answer one g firing c kernel ins sets
    config_answer_same c kernel ins sets =
        ap (λ (e : EarlyView). the_value kernel (tokens_at e.args c.number) (fed_to g firing.inputs c.place ins) (slice_index_or e.outs c.number []) sets) early_in_same

    left_moved : (c : Configuration) (body : Body) (left : Configured) → Names c.body → Names body → Leaves one ends g firing c body (Ok left) → MovesLeft (Leaves other again g (at_path path firing) c body) left
    left_moved c (Kernel kernel args ins outs) left names below leaves = absurd leaves
    left_moved c (Child place args) left names below leaves = absurd leaves
    left_moved c (Config kernel args ins outs sets) left names below leaves =
        kernel_left_moved c.name left (config_answer one g firing c kernel (length ins) (length sets)) (config_answer other g (at_path path firing) c kernel (length ins) (length sets)) (config_answer_same c kernel (length ins) (length sets)) leaves
    left_moved c (ConfigChild place args sets) left names below leaves = child_left_moved c place args sets left below names leaves.0 leaves.1 leaves.2

    -- ---- all of them

    abbrev MovesAll : List Configuration → List Configured → Type 0
    MovesAll cs all = (moved : List Configured) × LeaveAll other again g (at_path path firing) cs (Ok moved) × AreLeftMoved firing.path path all moved

    module _ (c : Configuration) (cs : List Configuration) (names : Names c.body) (rest : (all : List Configured) → LeaveAll one ends g firing cs (Ok all) → MovesAll cs all) where
      others_moved : (left : Configured) → MovesLeft (Leaves other again g (at_path path firing) c c.body) left → (others : Result (List Configured) Refusal) (all : List Configured) → LeaveAll one ends g firing cs others → Ok all ≡ with_first left others → MovesAll (c ∷ cs) all
      others_moved left m (Err refusal) all leave is = absurd cc
      others_moved left m (Ok more) all leave is =
          let after = rest more leave in
          let e : all ≡ left ∷ more = cc in (
            m.0 ∷ after.0,
            (Ok m.0, m.1, (Ok after.0, after.1, refl)),
            subst (λ (l : List Configured). AreLeftMoved firing.path path l (m.0 ∷ after.0)) (sym e) (m.2, after.2),
          )

      first_moved : (left : Result Configured Refusal) (all : List Configured) → Leaves one ends g firing c c.body left →
          Then (λ one' all'. (others : Result (List Configured) Refusal) × LeaveAll one ends g firing cs others × (all' ≡ with_first one' others)) left (Ok all) → MovesAll (c ∷ cs) all
      first_moved (Err refusal) all leaves goes = absurd cc
      first_moved (Ok left) all leaves goes = others_moved left (left_moved c c.body left names names leaves) goes.0 all goes.1 goes.2

    pub all_moved : (cs : List Configuration) → AllByRecursion (λ (c : Configuration). ChildWithin (IsBelow one top) c.body) cs → (all : List Configured) → LeaveAll one ends g firing cs (Ok all) → MovesAll cs all
    all_moved [] names all leave =
        let e : all ≡ [] = cc in
        ([], refl, subst (λ (l : List Configured). AreLeftMoved firing.path path l []) (sym e) tt)
    all_moved (c ∷ cs) names all leave = first_moved c cs names.0 (λ more left. all_moved cs names.1 more left) leave.0 all leave.1 leave.2
