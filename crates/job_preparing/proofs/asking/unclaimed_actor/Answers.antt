use Rattle.std.proofs.Common.{◌≡◌, ◌<◌, ℕ, List, length, get_or, slice_get, Option, Some, sym, ap, ◌∙◌, subst, arith}
use Rattle.std.proofs.lemmas.List.{get_or_read}
use Rattle.nested_jobs.specs.Rules.{Task, Work}
use Rattle.pisdf_model.specs.declared.actor.Actor.{Actor}
use Rattle.pisdf_model.specs.declared.graph.Graph.{Graph}
use Rattle.pisdf_model.specs.declared.actor.Body.TheVariants.{Config}
use Rattle.pisdf_meaning.specs.Configuring.{Configuration, config_rates, configurations}
use Rattle.pisdf_meaning.specs.Sound.{actor_at, no_actor}
use Rattle.pisdf_meaning.specs.declared.firing.Configured.{Configured}
use Rattle.pisdf_meaning.specs.declared.firing.Firing.{Firing}
use Rattle.pisdf_meaning.specs.declared.outcome.TraceRow.{TraceRow}
use Rattle.job_rules.specs.Words as words
use Rattle.job_preparing.specs.Unclaimed.{kernel_work}
use Rattle.job_preparing.specs.Standing.{StandsRight}
use Rattle.job_preparing.specs.View.{task_of}
use Rattle.job_preparing.specs.declared.asking.Unclaimed.{Unclaimed}
use Rattle.job_preparing.proofs.Asked.{kernel_task, sets_few}
use Rattle.job_preparing.proofs.Reading.{ok_more}
use Rattle.job_preparing.proofs.asking.unclaimed_actor.Goals as goal

actor_is : (g : Graph) (items : List Actor) (place : ℕ) (x : Actor) → items ≡ g.actors → place < length g.actors → x ≡ get_or items place x → actor_at g place ≡ x
actor_is g items place x e inside is = sym (get_or_read items place x (subst (λ (l : List Actor). place < length l) (sym e) inside) is no_actor ∙ ap (λ (l : List Actor). get_or l place no_actor) e)

pub overflow_cast-items : goal.overflow_cast-items
overflow_cast-items c =
    let own = actor_is c.args.graph.now c.items.result.now c.args.place c.index-items-place.result c.items.ensures c.requires.is.inside c.index-items-place.is in
    let few = sets_few c.args.graphs.now c.requires.valid.in_range c.requires.valid.well_formed c.args.firing.now c.args.graph.now c.requires.here c.args.number c.args.place c.requires.is
    (Config c.in-Config.kernel c.in-Config.args c.in-Config.ins c.in-Config.outs c.in-Config.sets) (ap (λ (x : Actor). x.body) own ∙ c.in-Config.is) in
    let same = ap (λ (l : List ℕ). length l) c.items-in-Config-3.ensures in
    omega arith

pub returns-in-Config-clause-stands : goal.returns-in-Config-clause-stands
returns-in-Config-clause-stands c =
    let G = c.args.graphs.now.graphs in
    let g = c.args.graph.now in
    let firing = c.args.firing.now in
    let own = actor_is g c.items.result.now c.args.place c.index-items-place.result c.items.ensures c.requires.is.inside c.index-items-place.is in
    let ins : length c.items-in-Config-2.result.now ≡ length c.in-Config.ins = ap (λ (l : List (List ℕ)). length l) c.items-in-Config-2.ensures in
    let sets : length c.items-in-Config-3.result.now ≡ length c.in-Config.sets = ap (λ (l : List ℕ). length l) c.items-in-Config-3.ensures in
    let T : Option Configuration → Option (Task Firing words.Work) = λ o. task_of G g firing o in
    let task : T (slice_get (configurations g) c.args.number) ≡ Some (Work (kernel_work G g firing c.args.number c.args.place c.index-items-place.result.name c.in-Config.kernel (length c.items-in-Config-2.result.now) (length c.items-in-Config-3.result.now))) =
    ap T c.requires.configuration
    ∙ kernel_task G g firing c.args.number c.args.place c.in-Config.kernel c.in-Config.args c.in-Config.ins c.in-Config.outs c.in-Config.sets (ap (λ (x : Actor). x.body) own ∙ c.in-Config.is)
    ∙ ap (λ (x : Actor). Some (Work (kernel_work G g firing c.args.number c.args.place x.name c.in-Config.kernel (length c.in-Config.ins) (length c.in-Config.sets)))) own
    ∙ ap (λ (n : ℕ). Some (Work (kernel_work G g firing c.args.number c.args.place c.index-items-place.result.name c.in-Config.kernel n (length c.in-Config.sets)))) (sym ins)
    ∙ ap (λ (n : ℕ). Some (Work (kernel_work G g firing c.args.number c.args.place c.index-items-place.result.name c.in-Config.kernel (length c.items-in-Config-2.result.now) n))) (sym sets) in
    let Q : Unclaimed → Type 0 = λ s. (one : Configured) (trace : List TraceRow) → StandsRight G (T (slice_get (configurations g) c.args.number)) (config_rates G firing c.args.number) s.stage s.frame one trace in
    ok_more _ Q c.unclaimed_kernel.result
    (λ s stands. λ one trace.
    let P : Option (Task Firing words.Work) → Type 0 = λ t. StandsRight G t (config_rates G firing c.args.number) s.stage s.frame one trace in
    let R : List Graph → Type 0 = λ gs. StandsRight gs (Some (Work (kernel_work gs g firing c.args.number c.args.place c.index-items-place.result.name c.in-Config.kernel (length c.items-in-Config-2.result.now) (length c.items-in-Config-3.result.now)))) (config_rates G firing c.args.number) s.stage s.frame one trace in
    subst P (sym task) (subst R c.items-in-Config.ensures (stands (config_rates G firing c.args.number) one trace)))
    c.unclaimed_kernel.ensures.waits
