-- The walk over an actor reads just what the actor's JSON value states.
use Rattle.std.proofs.Common.{◌≡◌, ℕ, ◌&&◌, List, [], Bool, true, false, cond, Result, Ok, Err, refl, subst}
use Rattle.std.specs.Prelude.{codes}
use Rattle.serde_json.specs.Data.{Data}
use Rattle.param_expr.specs.Named.{NamedTree}
use Rattle.graph_format.specs.Pointer.{pointer_text}
use Rattle.graph_format.specs.Walk.{has_form, formed, member_at, says, list_at}
use Rattle.graph_format.specs.Texts.{name_at, kernel_at, expression_at}
use Rattle.graph_format.specs.Objects.{port_at, input_at, kernel_members_at, kernel_keys, config_ports_at, config_members_at, config_keys, child_members_at, child_keys, config_child_members_at, config_child_keys, has_exports, actor_at}
use Rattle.graph_format.specs.Values.{HasMember, IsList, IsText, StatesName, StatesKernel, StatesExpression}
use Rattle.graph_format.specs.States.{StatesPort, StatesInput, StatesActor}
use Rattle.graph_format.proofs.Walked.{ReadsJust, goes, and_both, if_ok, name_reads, kernel_reads, expression_reads, list_reads, member_found, member_again}
use Rattle.graph_format.proofs.Stated.{says_found, says_again, port_reads, input_reads}
use Rattle.graph_format.specs.declared.port.FilePort.{FilePort}
use Rattle.graph_format.specs.declared.actor.FileActor.{FileActor}
use Rattle.graph_format.specs.declared.actor.FileBody.{FileBody}
use Rattle.graph_format.specs.declared.actor.FileBody.TheVariants.{Kernel, Config, Child, ConfigChild}

exprs_reads : ReadsJust (list_at expression_at) (IsList StatesExpression)
exprs_reads = list_reads expression_at StatesExpression expression_reads

pub ports_reads : ReadsJust (list_at port_at) (IsList StatesPort)
ports_reads = list_reads port_at StatesPort port_reads

inputs_reads : ReadsJust (list_at input_at) (IsList StatesInput)
inputs_reads = list_reads input_at StatesInput input_reads

pub names_reads : ReadsJust (list_at name_at) (IsList StatesName)
names_reads = list_reads name_at StatesName name_reads

abbrev actor_done : FileActor → Result FileActor (List ℕ)
actor_done actor = Ok actor

-- ---- kernels

kernel_found : (version : ℕ) (at : List ℕ) (d : Data) (actor : FileActor) → has_form kernel_keys [] d ≡ true → HasMember IsText d (codes "kind") (codes "kernel") → kernel_members_at at d ≡ Ok actor → StatesActor version d actor
unfolding kernel_members_at
kernel_found version at d actor members kind e =
    let name = goes (member_at name_at at (codes "name") d) _ actor e in
    let kernel = goes (member_at kernel_at at (codes "kernel") d) _ actor name.after in
    let args = goes (member_at (list_at expression_at) at (codes "args") d) _ actor kernel.after in
    let ins = goes (member_at (list_at port_at) at (codes "ins") d) _ actor args.after in
    let outs = goes (member_at (list_at port_at) at (codes "outs") d) (λ outs. Ok (record { name = name.read; body = Kernel kernel.read args.read ins.read outs })) actor ins.after in
    let same : actor_done (record { name = name.read; body = Kernel kernel.read args.read ins.read outs.read }) ≡ Ok actor = outs.after in
    let is : record { name = name.read; body = Kernel kernel.read args.read ins.read outs.read } ≡ actor = cc in
    subst (StatesActor version d) is (record {
      members = members;
      name = member_found name_at StatesName name_reads at d (codes "name") name.read name.first;
      kind = kind;
      body = record {
        kernel = member_found kernel_at StatesKernel kernel_reads at d (codes "kernel") kernel.read kernel.first;
        args = member_found (list_at expression_at) (IsList StatesExpression) exprs_reads at d (codes "args") args.read args.first;
        ins = member_found (list_at port_at) (IsList StatesPort) ports_reads at d (codes "ins") ins.read ins.first;
        outs = member_found (list_at port_at) (IsList StatesPort) ports_reads at d (codes "outs") outs.read outs.first;
      };
    })

kernel_again : (version : ℕ) (at : List ℕ) (d : Data) (name kernel : List ℕ) (args : List NamedTree) (ins outs : List FilePort) → StatesActor version d (record { name = name; body = Kernel kernel args ins outs }) → actor_at version at d ≡ Ok (record { name = name; body = Kernel kernel args ins outs })
unfolding actor_at kernel_members_at
kernel_again version at d name kernel args ins outs f =
    rw (
      says_again (codes "kind") (codes "kernel") (codes "kernel") d true refl f.kind,
      f.members,
      member_again name_at StatesName name_reads at d (codes "name") name f.name,
      member_again kernel_at StatesKernel kernel_reads at d (codes "kernel") kernel f.body.kernel,
      member_again (list_at expression_at) (IsList StatesExpression) exprs_reads at d (codes "args") args f.body.args,
      member_again (list_at port_at) (IsList StatesPort) ports_reads at d (codes "ins") ins f.body.ins,
      member_again (list_at port_at) (IsList StatesPort) ports_reads at d (codes "outs") outs f.body.outs,
    ) refl

-- ---- configuration kernels

config_found : (version : ℕ) (at : List ℕ) (d : Data) (actor : FileActor) → has_form config_keys [] d ≡ true → HasMember IsText d (codes "kind") (codes "config") → config_members_at at d ≡ Ok actor → StatesActor version d actor
unfolding config_members_at config_ports_at
config_found version at d actor members kind e =
    let name = goes (member_at name_at at (codes "name") d) _ actor e in
    let kernel = goes (member_at kernel_at at (codes "kernel") d) _ actor name.after in
    let args = goes (member_at (list_at expression_at) at (codes "args") d) _ actor kernel.after in
    let ins = goes (member_at (list_at input_at) at (codes "ins") d) _ actor args.after in
    let outs = goes (member_at (list_at port_at) at (codes "outs") d) _ actor ins.after in
    let sets = goes (member_at (list_at name_at) at (codes "sets") d) (λ sets. Ok (record { name = name.read; body = Config kernel.read args.read ins.read outs.read sets })) actor outs.after in
    let same : actor_done (record { name = name.read; body = Config kernel.read args.read ins.read outs.read sets.read }) ≡ Ok actor = sets.after in
    let is : record { name = name.read; body = Config kernel.read args.read ins.read outs.read sets.read } ≡ actor = cc in
    subst (StatesActor version d) is (record {
      members = members;
      name = member_found name_at StatesName name_reads at d (codes "name") name.read name.first;
      kind = kind;
      body = record {
        kernel = member_found kernel_at StatesKernel kernel_reads at d (codes "kernel") kernel.read kernel.first;
        args = member_found (list_at expression_at) (IsList StatesExpression) exprs_reads at d (codes "args") args.read args.first;
        ins = member_found (list_at input_at) (IsList StatesInput) inputs_reads at d (codes "ins") ins.read ins.first;
        outs = member_found (list_at port_at) (IsList StatesPort) ports_reads at d (codes "outs") outs.read outs.first;
        sets = member_found (list_at name_at) (IsList StatesName) names_reads at d (codes "sets") sets.read sets.first;
      };
    })

config_again : (version : ℕ) (at : List ℕ) (d : Data) (name kernel : List ℕ) (args : List NamedTree) (ins : List (List ℕ)) (outs : List FilePort) (sets : List (List ℕ)) → StatesActor version d (record { name = name; body = Config kernel args ins outs sets }) → actor_at version at d ≡ Ok (record { name = name; body = Config kernel args ins outs sets })
unfolding actor_at config_members_at config_ports_at
config_again version at d name kernel args ins outs sets f =
    rw (
      says_again (codes "kind") (codes "config") (codes "kernel") d false refl f.kind,
      says_again (codes "kind") (codes "config") (codes "config") d true refl f.kind,
      f.members,
      member_again name_at StatesName name_reads at d (codes "name") name f.name,
      member_again kernel_at StatesKernel kernel_reads at d (codes "kernel") kernel f.body.kernel,
      member_again (list_at expression_at) (IsList StatesExpression) exprs_reads at d (codes "args") args f.body.args,
      member_again (list_at input_at) (IsList StatesInput) inputs_reads at d (codes "ins") ins f.body.ins,
      member_again (list_at port_at) (IsList StatesPort) ports_reads at d (codes "outs") outs f.body.outs,
      member_again (list_at name_at) (IsList StatesName) names_reads at d (codes "sets") sets f.body.sets,
    ) refl

-- ---- hierarchical actors

child_found : (version : ℕ) (at : List ℕ) (d : Data) (actor : FileActor) → has_form child_keys [] d ≡ true → HasMember IsText d (codes "kind") (codes "graph") → child_members_at at d ≡ Ok actor → StatesActor version d actor
unfolding child_members_at
child_found version at d actor members kind e =
    let name = goes (member_at name_at at (codes "name") d) _ actor e in
    let graph = goes (member_at name_at at (codes "graph") d) _ actor name.after in
    let args = goes (member_at (list_at expression_at) at (codes "args") d) (λ args. Ok (record { name = name.read; body = Child graph.read args })) actor graph.after in
    let same : actor_done (record { name = name.read; body = Child graph.read args.read }) ≡ Ok actor = args.after in
    let is : record { name = name.read; body = Child graph.read args.read } ≡ actor = cc in
    subst (StatesActor version d) is (record {
      members = members;
      name = member_found name_at StatesName name_reads at d (codes "name") name.read name.first;
      kind = kind;
      body = record {
        graph = member_found name_at StatesName name_reads at d (codes "graph") graph.read graph.first;
        args = member_found (list_at expression_at) (IsList StatesExpression) exprs_reads at d (codes "args") args.read args.first;
      };
    })

child_again : (version : ℕ) (at : List ℕ) (d : Data) (name graph : List ℕ) (args : List NamedTree) → StatesActor version d (record { name = name; body = Child graph args }) → actor_at version at d ≡ Ok (record { name = name; body = Child graph args })
unfolding actor_at child_members_at
child_again version at d name graph args f =
    rw (
      says_again (codes "kind") (codes "graph") (codes "kernel") d false refl f.kind,
      says_again (codes "kind") (codes "graph") (codes "config") d false refl f.kind,
      says_again (codes "kind") (codes "graph") (codes "graph") d true refl f.kind,
      f.members,
      member_again name_at StatesName name_reads at d (codes "name") name f.name,
      member_again name_at StatesName name_reads at d (codes "graph") graph f.body.graph,
      member_again (list_at expression_at) (IsList StatesExpression) exprs_reads at d (codes "args") args f.body.args,
    ) refl

-- ---- hierarchical configuration actors

config_child_found : (version : ℕ) (at : List ℕ) (d : Data) (actor : FileActor) → has_exports version ≡ true → has_form config_child_keys [] d ≡ true → HasMember IsText d (codes "kind") (codes "setgraph") → config_child_members_at at d ≡ Ok actor → StatesActor version d actor
unfolding config_child_members_at
config_child_found version at d actor there members kind e =
    let name = goes (member_at name_at at (codes "name") d) _ actor e in
    let graph = goes (member_at name_at at (codes "graph") d) _ actor name.after in
    let args = goes (member_at (list_at expression_at) at (codes "args") d) _ actor graph.after in
    let sets = goes (member_at (list_at name_at) at (codes "sets") d) (λ sets. Ok (record { name = name.read; body = ConfigChild graph.read args.read sets })) actor args.after in
    let same : actor_done (record { name = name.read; body = ConfigChild graph.read args.read sets.read }) ≡ Ok actor = sets.after in
    let is : record { name = name.read; body = ConfigChild graph.read args.read sets.read } ≡ actor = cc in
    subst (StatesActor version d) is (record {
      members = members;
      name = member_found name_at StatesName name_reads at d (codes "name") name.read name.first;
      kind = kind;
      body = record {
        is_there = there;
        graph = member_found name_at StatesName name_reads at d (codes "graph") graph.read graph.first;
        args = member_found (list_at expression_at) (IsList StatesExpression) exprs_reads at d (codes "args") args.read args.first;
        sets = member_found (list_at name_at) (IsList StatesName) names_reads at d (codes "sets") sets.read sets.first;
      };
    })

config_child_again : (version : ℕ) (at : List ℕ) (d : Data) (name graph : List ℕ) (args : List NamedTree) (sets : List (List ℕ)) → StatesActor version d (record { name = name; body = ConfigChild graph args sets }) → actor_at version at d ≡ Ok (record { name = name; body = ConfigChild graph args sets })
unfolding actor_at config_child_members_at
config_child_again version at d name graph args sets f =
    rw (
      says_again (codes "kind") (codes "setgraph") (codes "kernel") d false refl f.kind,
      says_again (codes "kind") (codes "setgraph") (codes "config") d false refl f.kind,
      says_again (codes "kind") (codes "setgraph") (codes "graph") d false refl f.kind,
      f.body.is_there,
      says_again (codes "kind") (codes "setgraph") (codes "setgraph") d true refl f.kind,
      f.members,
      member_again name_at StatesName name_reads at d (codes "name") name f.name,
      member_again name_at StatesName name_reads at d (codes "graph") graph f.body.graph,
      member_again (list_at expression_at) (IsList StatesExpression) exprs_reads at d (codes "args") args f.body.args,
      member_again (list_at name_at) (IsList StatesName) names_reads at d (codes "sets") sets f.body.sets,
    ) refl

-- ---- actors

abbrev pub of_kind : Bool → Bool → Bool → Bool → List ℕ → Data → Result FileActor (List ℕ)
of_kind kernel config child config_child at d =
    cond kernel (formed kernel_keys [] kernel_members_at at d)
    (cond config (formed config_keys [] config_members_at at d)
    (cond child (formed child_keys [] child_members_at at d)
    (cond config_child (formed config_child_keys [] config_child_members_at at d)
    (Err (pointer_text at)))))

kind_found : (version : ℕ) (at : List ℕ) (d : Data) (actor : FileActor) (kernel config child config_child : Bool) → says (codes "kind") (codes "kernel") d ≡ kernel → says (codes "kind") (codes "config") d ≡ config → says (codes "kind") (codes "graph") d ≡ child → (has_exports version && says (codes "kind") (codes "setgraph") d) ≡ config_child
    → of_kind kernel config child config_child at d ≡ Ok actor → StatesActor version d actor
kind_found version at d actor true config child config_child k c g s e =
    let object = if_ok (has_form kernel_keys [] d) (kernel_members_at at d) (pointer_text at) actor e in
    kernel_found version at d actor object.0 (says_found (codes "kind") (codes "kernel") d k) object.1
kind_found version at d actor false true child config_child k c g s e =
    let object = if_ok (has_form config_keys [] d) (config_members_at at d) (pointer_text at) actor e in
    config_found version at d actor object.0 (says_found (codes "kind") (codes "config") d c) object.1
kind_found version at d actor false false true config_child k c g s e =
    let object = if_ok (has_form child_keys [] d) (child_members_at at d) (pointer_text at) actor e in
    child_found version at d actor object.0 (says_found (codes "kind") (codes "graph") d g) object.1
kind_found version at d actor false false false true k c g s e =
    let object = if_ok (has_form config_child_keys [] d) (config_child_members_at at d) (pointer_text at) actor e in
    let both = and_both (has_exports version) (says (codes "kind") (codes "setgraph") d) s in
    config_child_found version at d actor both.0 object.0 (says_found (codes "kind") (codes "setgraph") d both.1) object.1
kind_found version at d actor false false false false k c g s e = absurd cc

actor_found : (version : ℕ) (at : List ℕ) (d : Data) (actor : FileActor) → actor_at version at d ≡ Ok actor → StatesActor version d actor
unfolding actor_at
actor_found version at d actor e = kind_found version at d actor (says (codes "kind") (codes "kernel") d) (says (codes "kind") (codes "config") d) (says (codes "kind") (codes "graph") d) (has_exports version && says (codes "kind") (codes "setgraph") d) refl refl refl refl e

body_again : (version : ℕ) (at : List ℕ) (d : Data) (name : List ℕ) (body : FileBody) → StatesActor version d (record { name = name; body = body }) → actor_at version at d ≡ Ok (record { name = name; body = body })
body_again version at d name (Kernel kernel args ins outs) f = kernel_again version at d name kernel args ins outs f
body_again version at d name (Config kernel args ins outs sets) f = config_again version at d name kernel args ins outs sets f
body_again version at d name (Child graph args) f = child_again version at d name graph args f
body_again version at d name (ConfigChild graph args sets) f = config_child_again version at d name graph args sets f

pub actor_reads : (version : ℕ) → ReadsJust (actor_at version) (StatesActor version)
actor_reads version = record { found = actor_found version; again = λ at d actor f. body_again version at d actor.name actor.body f }
