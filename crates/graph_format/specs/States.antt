-- Which file a JSON value states, by the table of the format's objects: an object has the members of its row and no others, and a member that is left out stands for its default.
use Rattle.std.specs.Prelude.{◌≡◌, ℕ, ◌≤◌, pos, List, [], ◌∷◌, Bool, true, false, Some, codes}
use Rattle.serde_json.specs.Data.{Data}
use Rattle.serde_json.specs.Find.{get}
use Rattle.param_expr.specs.Named.{NamedTree}
use Rattle.graph_format.specs.Walk.{has_form, whole_of}
use Rattle.graph_format.specs.Values.{HasMember, StatesOr, IsList, IsWhole, IsWithin, IsText, StatesName, StatesKernel, StatesExpression, StatesEnd}
use Rattle.graph_format.specs.Objects.{derived_keys, given_keys, optional_param_keys, port_keys, kernel_keys, config_keys, child_keys, config_child_keys, fifo_keys, optional_fifo_keys, graph_keys, file_keys, greatest_bound, has_exports}
use Rattle.pisdf_model.specs.declared.fifo.Life.{Life}
use Rattle.pisdf_model.specs.declared.fifo.Life.TheVariants.{Firing, Permanent}
use Rattle.graph_format.specs.declared.param.FileParam.{FileParam}
use Rattle.graph_format.specs.declared.param.FileParamKind.{FileParamKind}
use Rattle.graph_format.specs.declared.param.FileParamKind.TheVariants.{Inherited, Derived, Chosen}
use Rattle.graph_format.specs.declared.port.FilePort.{FilePort}
use Rattle.graph_format.specs.declared.actor.FileActor.{FileActor}
use Rattle.graph_format.specs.declared.actor.FileBody.{FileBody}
use Rattle.graph_format.specs.declared.actor.FileBody.TheVariants.{Kernel, Config, Child, ConfigChild}
use Rattle.graph_format.specs.declared.fifo.FileDelay.{FileDelay}
use Rattle.graph_format.specs.declared.fifo.FileDelay.TheVariants.{Zeros, Tokens}
use Rattle.graph_format.specs.declared.fifo.FileFifo.{FileFifo}
use Rattle.graph_format.specs.declared.file.FileGraph.{FileGraph}
use Rattle.graph_format.specs.declared.file.File.{File}

-- ---- parameters

abbrev pub kind_text : FileParamKind → List ℕ
kind_text Inherited = codes "in"
kind_text (Derived expr) = codes "is"
kind_text Chosen = codes "set"

-- an expression stands exactly where the kind is `is`
abbrev pub param_keys : FileParamKind → List (List ℕ)
param_keys Inherited = given_keys
param_keys (Derived expr) = derived_keys
param_keys Chosen = given_keys

abbrev pub StatesRule : Data → FileParamKind → Type 0
StatesRule d Inherited = Unit {0}
StatesRule d (Derived expr) = HasMember StatesExpression d (codes "expr") expr
StatesRule d Chosen = Unit {0}

pub record StatesParam (d : Data) (param : FileParam) : Type 0 where
  pub members : has_form (param_keys param.kind) optional_param_keys d ≡ true
  pub name : HasMember StatesName d (codes "name") param.name
  pub kind : HasMember IsText d (codes "kind") (kind_text param.kind)
  pub expr : StatesRule d param.kind
  pub low : StatesOr (IsWithin (pos 0) greatest_bound) (pos 0) (get (codes "low") d) param.low
  pub high : StatesOr (IsWithin param.low greatest_bound) greatest_bound (get (codes "high") d) param.high

-- ---- interfaces and ports

pub record StatesPort (d : Data) (port : FilePort) : Type 0 where
  pub members : has_form port_keys [] d ≡ true
  pub name : HasMember StatesName d (codes "name") port.name
  pub rate : HasMember StatesExpression d (codes "rate") port.rate

-- an input of a configuration actor, which has a name alone
pub record StatesInput (d : Data) (input : List ℕ) : Type 0 where
  pub members : has_form (codes "name" ∷ []) [] d ≡ true
  pub name : HasMember StatesName d (codes "name") input

-- ---- actors

abbrev pub body_text : FileBody → List ℕ
body_text (Kernel kernel args ins outs) = codes "kernel"
body_text (Config kernel args ins outs sets) = codes "config"
body_text (Child graph args) = codes "graph"
body_text (ConfigChild graph args sets) = codes "setgraph"

abbrev pub body_keys : FileBody → List (List ℕ)
body_keys (Kernel kernel args ins outs) = kernel_keys
body_keys (Config kernel args ins outs sets) = config_keys
body_keys (Child graph args) = child_keys
body_keys (ConfigChild graph args sets) = config_child_keys

pub record StatesKernelBody (d : Data) (k : List ℕ) (exprs : List NamedTree) (inputs outputs : List FilePort) : Type 0 where
  pub kernel : HasMember StatesKernel d (codes "kernel") k
  pub args : HasMember (IsList StatesExpression) d (codes "args") exprs
  pub ins : HasMember (IsList StatesPort) d (codes "ins") inputs
  pub outs : HasMember (IsList StatesPort) d (codes "outs") outputs

pub record StatesConfigBody (d : Data) (k : List ℕ) (exprs : List NamedTree) (inputs : List (List ℕ)) (outputs : List FilePort) (params : List (List ℕ)) : Type 0 where
  pub kernel : HasMember StatesKernel d (codes "kernel") k
  pub args : HasMember (IsList StatesExpression) d (codes "args") exprs
  pub ins : HasMember (IsList StatesInput) d (codes "ins") inputs
  pub outs : HasMember (IsList StatesPort) d (codes "outs") outputs
  pub sets : HasMember (IsList StatesName) d (codes "sets") params

pub record StatesChildBody (d : Data) (child : List ℕ) (exprs : List NamedTree) : Type 0 where
  pub graph : HasMember StatesName d (codes "graph") child
  pub args : HasMember (IsList StatesExpression) d (codes "args") exprs

pub record StatesConfigChildBody (version : ℕ) (d : Data) (child : List ℕ) (exprs : List NamedTree) (params : List (List ℕ)) : Type 0 where
  pub is_there : has_exports version ≡ true
  pub graph : HasMember StatesName d (codes "graph") child
  pub args : HasMember (IsList StatesExpression) d (codes "args") exprs
  pub sets : HasMember (IsList StatesName) d (codes "sets") params

abbrev pub StatesBody : ℕ → Data → FileBody → Type 0
StatesBody version d (Kernel kernel args ins outs) = StatesKernelBody d kernel args ins outs
StatesBody version d (Config kernel args ins outs sets) = StatesConfigBody d kernel args ins outs sets
StatesBody version d (Child graph args) = StatesChildBody d graph args
StatesBody version d (ConfigChild graph args sets) = StatesConfigChildBody version d graph args sets

pub record StatesActor (version : ℕ) (d : Data) (actor : FileActor) : Type 0 where
  pub members : has_form (body_keys actor.body) [] d ≡ true
  pub name : HasMember StatesName d (codes "name") actor.name
  pub kind : HasMember IsText d (codes "kind") (body_text actor.body)
  pub body : StatesBody version d actor.body

-- ---- FIFOs

-- a number of tokens 0, or a list of tokens
abbrev pub StatesDelay : Data → FileDelay → Type 0
StatesDelay d (Zeros count) = IsWhole d (pos count)
StatesDelay d (Tokens tokens) = IsList IsWhole d tokens

abbrev pub life_text : Life → List ℕ
life_text Firing = codes "firing"
life_text Permanent = codes "permanent"

abbrev pub StatesLife : Data → Life → Type 0
StatesLife d life = IsText d (life_text life)

pub record StatesFifo (version : ℕ) (d : Data) (fifo : FileFifo) : Type 0 where
  pub members : has_form fifo_keys (optional_fifo_keys version) d ≡ true
  pub from : HasMember StatesEnd d (codes "from") fifo.from
  pub to : HasMember StatesEnd d (codes "to") fifo.to
  pub delay : StatesOr StatesDelay (Zeros 0) (get (codes "delay") d) fifo.delay
  pub life : StatesOr StatesLife Firing (get (codes "life") d) fifo.life

-- ---- graphs

-- the exports of a graph, where the version has them
abbrev pub StatesExports : Bool → Data → List (List ℕ) → Type 0
StatesExports true d exports = HasMember (IsList StatesName) d (codes "exports") exports
StatesExports false d exports = exports ≡ []

pub record StatesGraph (version : ℕ) (d : Data) (graph : FileGraph) : Type 0 where
  pub members : has_form (graph_keys version) [] d ≡ true
  pub name : HasMember StatesName d (codes "name") graph.name
  pub params : HasMember (IsList StatesParam) d (codes "params") graph.params
  pub inputs : HasMember (IsList StatesPort) d (codes "inputs") graph.inputs
  pub outputs : HasMember (IsList StatesPort) d (codes "outputs") graph.outputs
  pub actors : HasMember (IsList (StatesActor version)) d (codes "actors") graph.actors
  pub fifos : HasMember (IsList (StatesFifo version)) d (codes "fifos") graph.fifos
  pub exports : StatesExports (has_exports version) d graph.exports

-- the whole number that is the version
pub record StatesVersion (version : ℕ) (d : Data) (stated : ℕ) : Type 0 where
  pub number : whole_of d ≡ Some (pos stated)
  pub is_version : stated ≡ version

-- the value states the file in this version of the format
pub record StatesIn (version : ℕ) (d : Data) (file : File) : Type 0 where
  pub members : has_form file_keys [] d ≡ true
  pub pisdf : HasMember (StatesVersion version) d (codes "pisdf") file.version
  pub top : HasMember StatesName d (codes "top") file.top
  pub graphs : HasMember (IsList (StatesGraph version)) d (codes "graphs") file.graphs

-- the value states the file, in one of the versions of the format
pub record States (d : Data) (file : File) : Type 0 where
  pub first_version : 1 ≤ file.version
  pub last_version : file.version ≤ 3
  pub states : StatesIn file.version d file
