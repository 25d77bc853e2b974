use Rattle.std.proofs.Common.{◌≡◌, ◌<◌, ℕ, List, [], length, get_or, sym, ap, ◌∙◌, subst, arith}
use Rattle.std.proofs.lemmas.List.{get_or_read, length-map}
use Rattle.std.proofs.lemmas.List.FromFn.{length-range_with_len}
use Rattle.kernel_gate.specs.Signed.{unnamed}
use Rattle.param_resolver.specs.EarlyView.{EarlyView}
use Rattle.pisdf_model.specs.declared.actor.Actor.{Actor}
use Rattle.pisdf_model.specs.declared.graph.Graph.{Graph}
use Rattle.pisdf_model.specs.declared.actor.Body.TheVariants.{Config}
use Rattle.pisdf_meaning.specs.Configuring.{Configuration, config_args, config_rates, fed_to}
use Rattle.pisdf_meaning.specs.Nested.{configuration_at}
use Rattle.pisdf_meaning.specs.Kernels.{FitsKernel}
use Rattle.pisdf_meaning.specs.Sound.{actor_at, no_actor}
use Rattle.pisdf_meaning.specs.States.{tokens_at}
use Rattle.job_preparing.proofs.Asked.{sets_few}
use Rattle.audit_job.proofs.KindTasks.{config_fires}
use Rattle.audit_job.proofs.configuring.config_answer.Goals as goal

actor_is : (g : Graph) (items : List Actor) (place : ℕ) (x : Actor) → items ≡ g.actors → place < length g.actors → x ≡ get_or items place x → actor_at g place ≡ x
actor_is g items place x e inside is = sym (get_or_read items place x (subst (λ (l : List Actor). place < length l) (sym e) inside) is no_actor ∙ ap (λ (l : List Actor). get_or l place no_actor) e)

pub overflow_cast-items : goal.overflow_cast-items
overflow_cast-items g c =
    let own = actor_is c.args.graph.now c.items.result.now c.args.place c.index-items-place.result c.items.ensures c.requires.is.inside c.index-items-place.is in
    let few = sets_few c.args.graphs.now c.requires.valid.in_range c.requires.valid.well_formed c.args.firing.now c.args.graph.now c.requires.here c.args.number c.args.place c.requires.is
    (Config c.in-Config.kernel c.in-Config.args c.in-Config.ins c.in-Config.outs c.in-Config.sets) (ap (λ (x : Actor). x.body) own ∙ c.in-Config.is) in
    let same = ap (λ (l : List ℕ). length l) c.items-in-Config-2.ensures in
    omega arith

pub fire_config-requires : goal.fire_config-requires
fire_config-requires g c =
    let own = actor_is c.args.graph.now c.items.result.now c.args.place c.index-items-place.result c.items.ensures c.requires.is.inside c.index-items-place.is in
    let body = ap (λ (x : Actor). x.body) own ∙ c.in-Config.is in
    let k : Configuration = configuration_at c.args.graph.now c.args.number c.args.place in
    let task = config_fires c.args.graphs.now.graphs c.args.graph.now c.args.firing.now k k.body c.in-Config.kernel c.in-Config.args c.in-Config.ins c.in-Config.outs c.in-Config.sets body in
    let fits = c.requires.fits _ _ task in
    let ins = ap (λ (l : List (List ℕ)). length l) c.items-in-Config.ensures in
    let sets = ap (λ (l : List ℕ). length l) c.items-in-Config-2.ensures in
    let signatures = unnamed (g.K.Gate.kernels c.args.gate.now) in
    let firing = c.args.firing.now in
    let all = c.args.graphs.now.graphs in
    let fed : length (fed_to c.args.graph.now firing.inputs c.args.place (length c.in-Config.ins)) ≡ length c.in-Config.ins = length-map _ _ ∙ length-range_with_len 0 (length c.in-Config.ins) in
    let E : EarlyView → Type 0 = λ e. FitsKernel signatures c.in-Config.kernel (length (tokens_at e.args c.args.number)) (length c.items-in-Config.result.now) (length (get_or e.outs c.args.number [])) (length c.items-in-Config-2.result.now) in
    let N : ℕ → Type 0 = λ n. FitsKernel signatures c.in-Config.kernel (length (config_args all firing c.args.number)) n (length (config_rates all firing c.args.number)) (length c.items-in-Config-2.result.now) in
    let M : ℕ → Type 0 = λ n. FitsKernel signatures c.in-Config.kernel (length (config_args all firing c.args.number)) (length (fed_to c.args.graph.now firing.inputs c.args.place (length c.in-Config.ins))) (length (config_rates all firing c.args.number)) n in
    subst E (sym c.requires.early) (subst N (fed ∙ sym ins) (subst M (sym sets) fits))
