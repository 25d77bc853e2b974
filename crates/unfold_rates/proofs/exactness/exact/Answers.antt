use Rattle.std.proofs.Common.{◌≡◌, ℕ, ◌*◌, ◌≤◌, true, false, List, [], slice_get, Some, Result, Ok, Err, IfOk, slice_index_or, refl, ap, sym, ◌∙◌, subst}
use Rattle.std.specs.List.{All}
use Rattle.std.proofs.lemmas.Option.{slice_get-get_or}
use Rattle.level_schedule.specs.declared.scheduling.LevelSchedule.{LevelSchedule}
use Rattle.param_resolver.specs.EarlyCheck.{early_of}
use Rattle.param_resolver.specs.EarlyView.{EarlyView}
use Rattle.pisdf_model.specs.InterfaceWires.{is_configuration}
use Rattle.pisdf_model.specs.declared.actor.Actor.{Actor}
use Rattle.pisdf_model.specs.declared.fifo.Fifo.{Fifo}
use Rattle.pisdf_model.specs.declared.graph.Graph.{Graph}
use Rattle.sdf_level.specs.Invariants.{rate_limit}
use Rattle.sdf_level.specs.View.{LevelView}
use Rattle.unfold_rates.specs.Exact.{BeginsOnce, IsExact, IsExactSchedule}
use Rattle.unfold_rates.proofs.exactness.exact.Goals as goal

if_ok : {T E : Type 0} (r : Result T E) (P Q : T → Type 0) → ((x : T) → P x → Q x) → IfOk r P → IfOk r Q
if_ok (Ok x) P Q turn holds = turn x holds
if_ok (Err e) P Q turn holds = tt

pub returns-then-not-are_rates-clause-refused : goal.returns-then-not-are_rates-clause-refused
returns-then-not-are_rates-clause-refused c = λ is exact.
    let P : List ℕ → Type 0 = λ rates. All (λ r. c.args.times * r ≤ rate_limit) rates in
    let rates : c.items-4.result.now ≡ (early_of c.args.graphs.now.graphs c.args.graphs.now.top []).inputs = c.items-4.ensures ∙ ap (λ (e : EarlyView). e.inputs) c.known.view_is ∙ ap (λ (e : EarlyView). e.inputs) c.in_ok-known.ensures.early in
    let yes : c.are_rates.result ≡ true = c.are_rates.ensures.1 (subst P (sym rates) exact.inputs) in
    let never = c.if-not-are_rates.true in
    cc

pub returns-clause-exact : goal.returns-clause-exact
returns-clause-exact c =
    let graphs = c.args.graphs.now in
    let g = c.index-items-graphs.result in
    let all : c.items.result.now ≡ c.args.graphs.now.graphs = c.items.ensures in
    let here : slice_get c.args.graphs.now.graphs c.args.graphs.now.top ≡ Some c.index-items-graphs.result =
    slice_get-get_or c.args.graphs.now.graphs c.args.graphs.now.top c.index-items-graphs.result c.requires.valid.in_range.top
    ∙ ap (λ (x : Graph). Some x) (ap (λ (l : List Graph). slice_index_or l c.args.graphs.now.top c.index-items-graphs.result) (sym all) ∙ sym c.index-items-graphs.is) in
    let A : List Actor → Type 0 = λ l. All (λ (a : Actor). is_configuration a.body ≡ false) l in
    let B : List Fifo → Type 0 = λ l. All BeginsOnce l in
    let R : List ℕ → Type 0 = λ rates. All (λ r. c.args.times * r ≤ rate_limit) rates in
    let ins : c.items-4.result.now ≡ (early_of graphs.graphs graphs.top []).inputs = c.items-4.ensures ∙ ap (λ (e : EarlyView). e.inputs) c.known.view_is ∙ ap (λ (e : EarlyView). e.inputs) c.in_ok-known.ensures.early in
    let outs : c.items-5.result.now ≡ (early_of graphs.graphs graphs.top []).outputs = c.items-5.ensures ∙ ap (λ (e : EarlyView). e.outputs) c.known.view_is ∙ ap (λ (e : EarlyView). e.outputs) c.in_ok-known.ensures.early in
    let L : LevelView → LevelSchedule → Type 0 = λ level s. IsExactSchedule level c.args.times s in
    if_ok c.exact_schedule.result (IsExactSchedule c.in_ok-set.set.level c.args.times) (λ schedule. (x : IsExact c.args.graphs.now c.args.times) × (x.schedule ≡ schedule)) (λ s is. (
      record {
        top = c.index-items-graphs.result;
        top_is = here;
        configures_nothing = subst A c.items-2.ensures (c.configures_nothing.ensures.0 c.if-not-configures_nothing.false);
        begins_once = subst B c.items-3.ensures (c.all_begin_once.ensures.0 c.if-not-all_begin_once.false);
        early = c.in_ok-known.ensures.sound;
        rates = c.in_ok-set.ensures.sound c.index-items-graphs.result here;
        schedule = s;
        is_exact = subst (λ (level : LevelView). L level s) (c.in_ok-set.ensures.level c.index-items-graphs.result here) is;
        inputs = subst R ins (c.are_rates.ensures.0 c.if-not-are_rates.false);
        outputs = subst R outs (c.are_rates-2.ensures.0 c.if-not-are_rates-2.false);
      },
      refl,
    )) c.exact_schedule.ensures.exact
