-- The walk over FIFOs, graphs and the root reads just what their JSON values state.
use Rattle.std.proofs.Common.{◌≡◌, ℕ, ◌==◌, ℤ, pos, negsuc, Bool, true, false, cond, bytes_eq, List, [], Option, Some, None, Result, Ok, refl, sym, ap, ◌∙◌, subst, arith}
use Rattle.std.specs.Prelude.{codes}
use Rattle.std.specs.Cmp.Lexicographic.{bytes_decides}
use Rattle.std.proofs.lemmas.Bool.Decides.{nat_tests}
use Rattle.serde_json.specs.Data.{Data, null, boolean, number, string, array, object, Items}
use Rattle.serde_json.specs.Find.{as_array, as_str}
use Rattle.graph_format.specs.Pointer.{pointer_text}
use Rattle.graph_format.specs.Walk.{has_form, member_at, member_or, items_at, list_at, whole_of, whole_at}
use Rattle.graph_format.specs.Texts.{name_at, end_at}
use Rattle.graph_format.specs.Objects.{param_at, port_at, actor_at, zeros_from, tokens_or_zeros_at, delay_at, life_from, life_at, fifo_members_at, fifo_keys, optional_fifo_keys, fifo_at, has_exports, exports_at, graph_parts_at, graph_members_at, graph_keys, graph_at, version_from, version_at, file_members_at, file_keys, file_at}
use Rattle.graph_format.specs.Values.{IsList, IsWhole, StatesName, StatesEnd}
use Rattle.graph_format.specs.States.{StatesParam, StatesPort, StatesActor, StatesDelay, StatesLife, life_text, StatesFifo, StatesExports, StatesGraph, StatesVersion, StatesIn}
use Rattle.graph_format.proofs.Walked.{ReadsJust, goes, shaped_ok, and_then_some, tested, if_ok, whole_reads, name_reads, end_reads, list_reads, values_found, values_again, member_found, member_again, or_found, or_again}
use Rattle.graph_format.proofs.Stated.{param_reads}
use Rattle.graph_format.proofs.StatedActors.{ports_reads, names_reads, actor_reads}
use Rattle.pisdf_model.specs.declared.fifo.Life.{Life}
use Rattle.pisdf_model.specs.declared.fifo.Life.TheVariants.{Firing, Permanent}
use Rattle.graph_format.specs.declared.fifo.FileDelay.{FileDelay}
use Rattle.graph_format.specs.declared.fifo.FileDelay.TheVariants.{Zeros, Tokens}
use Rattle.graph_format.specs.declared.fifo.FileFifo.{FileFifo}
use Rattle.graph_format.specs.declared.file.FileGraph.{FileGraph}
use Rattle.graph_format.specs.declared.file.File.{File}

-- ---- delays

-- a whole number is no list
whole_no_array : (d : Data) (z : ℤ) → whole_of d ≡ Some z → as_array d ≡ None
whole_no_array null z e = refl
whole_no_array (boolean b) z e = refl
whole_no_array (number n) z e = refl
whole_no_array (string s) z e = refl
whole_no_array (array ds) z e = absurd cc
whole_no_array (object ms) z e = refl

zeros_found : (d : Data) (z : ℤ) (delay : FileDelay) → whole_of d ≡ Some z → zeros_from z ≡ Some delay → StatesDelay d delay
zeros_found d (pos n) delay is e = let same : Zeros n ≡ delay = cc in subst (StatesDelay d) same is
zeros_found d (negsuc n) delay is e = absurd cc

abbrev delay_done : FileDelay → Result FileDelay (List ℕ)
delay_done delay = Ok delay

values_or_zeros : (at : List ℕ) (d : Data) (delay : FileDelay) (values : Option Items) → as_array d ≡ values → tokens_or_zeros_at at d values ≡ Ok delay → StatesDelay d delay
values_or_zeros at d delay None is e =
    let o = and_then_some zeros_from (whole_of d) delay (shaped_ok at _ delay e) in
    zeros_found d o.0 delay o.1 o.2
values_or_zeros at d delay (Some values) is e =
    let tokens = goes (items_at whole_at at 0 values) (λ tokens. Ok (Tokens tokens)) delay e in
    let done : delay_done (Tokens tokens.read) ≡ Ok delay = tokens.after in
    let same : Tokens tokens.read ≡ delay = cc in
    subst (StatesDelay d) same (values_found whole_at IsWhole whole_reads at d values tokens.read is tokens.first)

delay_found : (at : List ℕ) (d : Data) (delay : FileDelay) → delay_at at d ≡ Ok delay → StatesDelay d delay
unfolding delay_at
delay_found at d delay e = values_or_zeros at d delay (as_array d) refl e

delay_again : (at : List ℕ) (d : Data) (delay : FileDelay) → StatesDelay d delay → delay_at at d ≡ Ok delay
unfolding delay_at
delay_again at d (Zeros n) h = rw (whole_no_array d (pos n) h, h) refl
delay_again at d (Tokens tokens) l = rw (l.is_array, values_again whole_at IsWhole whole_reads at d tokens l) refl

delay_reads : ReadsJust delay_at StatesDelay
delay_reads = record { found = delay_found; again = delay_again }

-- ---- lives

life_of_text : (text : List ℕ) (life : Life) (firing permanent : Bool) → bytes_eq text (codes "firing") ≡ firing → bytes_eq text (codes "permanent") ≡ permanent → cond firing (Some Firing) (cond permanent (Some Permanent) None) ≡ Some life → text ≡ life_text life
life_of_text text life true permanent f p e =
    let same : Firing ≡ life = cc in
    (bytes_decides text (codes "firing")).0 f ∙ ap life_text same
life_of_text text life false true f p e =
    let same : Permanent ≡ life = cc in
    (bytes_decides text (codes "permanent")).0 p ∙ ap life_text same
life_of_text text life false false f p e = absurd cc

life_found : (at : List ℕ) (d : Data) (life : Life) → life_at at d ≡ Ok life → StatesLife d life
life_found at d life e =
    let o = and_then_some life_from (as_str d) life (shaped_ok at _ life e) in
    o.1 ∙ ap (λ t. Some t) (life_of_text o.0 life (bytes_eq o.0 (codes "firing")) (bytes_eq o.0 (codes "permanent")) refl refl o.2)

life_again : (at : List ℕ) (d : Data) (life : Life) → StatesLife d life → life_at at d ≡ Ok life
life_again at d Firing h = rw h refl
life_again at d Permanent h = rw h refl

life_reads : ReadsJust life_at StatesLife
life_reads = record { found = life_found; again = life_again }

-- ---- FIFOs

abbrev fifo_done : FileFifo → Result FileFifo (List ℕ)
fifo_done fifo = Ok fifo

fifo_found : (version : ℕ) (at : List ℕ) (d : Data) (fifo : FileFifo) → fifo_at version at d ≡ Ok fifo → StatesFifo version d fifo
unfolding fifo_at fifo_members_at
fifo_found version at d fifo e =
    let object = if_ok (has_form fifo_keys (optional_fifo_keys version) d) (fifo_members_at at d) (pointer_text at) fifo e in
    let from = goes (member_at end_at at (codes "from") d) _ fifo object.1 in
    let to = goes (member_at end_at at (codes "to") d) _ fifo from.after in
    let delay = goes (member_or (Zeros 0) delay_at at (codes "delay") d) _ fifo to.after in
    let life = goes (member_or Firing life_at at (codes "life") d) (λ life. Ok (record { from = from.read; to = to.read; delay = delay.read; life = life })) fifo delay.after in
    let done : fifo_done (record { from = from.read; to = to.read; delay = delay.read; life = life.read }) ≡ Ok fifo = life.after in
    let same : record { from = from.read; to = to.read; delay = delay.read; life = life.read } ≡ fifo = cc in
    subst (StatesFifo version d) same (record {
      members = object.0;
      from = member_found end_at StatesEnd end_reads at d (codes "from") from.read from.first;
      to = member_found end_at StatesEnd end_reads at d (codes "to") to.read to.first;
      delay = or_found delay_at StatesDelay delay_reads (Zeros 0) at d (codes "delay") delay.read delay.first;
      life = or_found life_at StatesLife life_reads Firing at d (codes "life") life.read life.first;
    })

fifo_again : (version : ℕ) (at : List ℕ) (d : Data) (fifo : FileFifo) → StatesFifo version d fifo → fifo_at version at d ≡ Ok fifo
unfolding fifo_at fifo_members_at
fifo_again version at d fifo f =
    rw (
      f.members,
      member_again end_at StatesEnd end_reads at d (codes "from") fifo.from f.from,
      member_again end_at StatesEnd end_reads at d (codes "to") fifo.to f.to,
      or_again delay_at StatesDelay delay_reads (Zeros 0) at d (codes "delay") fifo.delay f.delay,
      or_again life_at StatesLife life_reads Firing at d (codes "life") fifo.life f.life,
    ) refl

fifo_reads : (version : ℕ) → ReadsJust (fifo_at version) (StatesFifo version)
fifo_reads version = record { found = fifo_found version; again = fifo_again version }

-- ---- graphs

params_reads : ReadsJust (list_at param_at) (IsList StatesParam)
params_reads = list_reads param_at StatesParam param_reads

actors_reads : (version : ℕ) → ReadsJust (list_at (actor_at version)) (IsList (StatesActor version))
actors_reads version = list_reads (actor_at version) (StatesActor version) (actor_reads version)

fifos_reads : (version : ℕ) → ReadsJust (list_at (fifo_at version)) (IsList (StatesFifo version))
fifos_reads version = list_reads (fifo_at version) (StatesFifo version) (fifo_reads version)

-- where the version has exports or not
exports_found_by : (exporting : Bool) (at : List ℕ) (d : Data) (exports : List (List ℕ)) → cond exporting (member_at (list_at name_at) at (codes "exports") d) (Ok []) ≡ Ok exports → StatesExports exporting d exports
exports_found_by true at d exports e = member_found (list_at name_at) (IsList StatesName) names_reads at d (codes "exports") exports e
exports_found_by false at d exports e = cc

exports_again_by : (exporting : Bool) (at : List ℕ) (d : Data) (exports : List (List ℕ)) → StatesExports exporting d exports → cond exporting (member_at (list_at name_at) at (codes "exports") d) (Ok []) ≡ Ok exports
exports_again_by true at d exports s = member_again (list_at name_at) (IsList StatesName) names_reads at d (codes "exports") exports s
exports_again_by false at d exports s = ap (λ es. Ok es) (sym s)

abbrev graph_done : FileGraph → Result FileGraph (List ℕ)
graph_done graph = Ok graph

graph_found : (version : ℕ) (at : List ℕ) (d : Data) (graph : FileGraph) → graph_at version at d ≡ Ok graph → StatesGraph version d graph
unfolding graph_at graph_members_at graph_parts_at
graph_found version at d graph e =
    let object = if_ok (has_form (graph_keys version) [] d) (graph_members_at version at d) (pointer_text at) graph e in
    let name = goes (member_at name_at at (codes "name") d) _ graph object.1 in
    let params = goes (member_at (list_at param_at) at (codes "params") d) _ graph name.after in
    let inputs = goes (member_at (list_at port_at) at (codes "inputs") d) _ graph params.after in
    let outputs = goes (member_at (list_at port_at) at (codes "outputs") d) _ graph inputs.after in
    let actors = goes (member_at (list_at (actor_at version)) at (codes "actors") d) _ graph outputs.after in
    let fifos = goes (member_at (list_at (fifo_at version)) at (codes "fifos") d) _ graph actors.after in
    let exports = goes (exports_at version at d) (λ exports. Ok (record { name = name.read; params = params.read; inputs = inputs.read; outputs = outputs.read; actors = actors.read; fifos = fifos.read; exports = exports })) graph fifos.after in
    let done : graph_done (record { name = name.read; params = params.read; inputs = inputs.read; outputs = outputs.read; actors = actors.read; fifos = fifos.read; exports = exports.read }) ≡ Ok graph = exports.after in
    let same : record { name = name.read; params = params.read; inputs = inputs.read; outputs = outputs.read; actors = actors.read; fifos = fifos.read; exports = exports.read } ≡ graph = cc in
    subst (StatesGraph version d) same (record {
      members = object.0;
      name = member_found name_at StatesName name_reads at d (codes "name") name.read name.first;
      params = member_found (list_at param_at) (IsList StatesParam) params_reads at d (codes "params") params.read params.first;
      inputs = member_found (list_at port_at) (IsList StatesPort) ports_reads at d (codes "inputs") inputs.read inputs.first;
      outputs = member_found (list_at port_at) (IsList StatesPort) ports_reads at d (codes "outputs") outputs.read outputs.first;
      actors = member_found (list_at (actor_at version)) (IsList (StatesActor version)) (actors_reads version) at d (codes "actors") actors.read actors.first;
      fifos = member_found (list_at (fifo_at version)) (IsList (StatesFifo version)) (fifos_reads version) at d (codes "fifos") fifos.read fifos.first;
      exports = exports_found_by (has_exports version) at d exports.read exports.first;
    })

graph_again : (version : ℕ) (at : List ℕ) (d : Data) (graph : FileGraph) → StatesGraph version d graph → graph_at version at d ≡ Ok graph
unfolding graph_at graph_members_at graph_parts_at
graph_again version at d graph f =
    rw (
      f.members,
      member_again name_at StatesName name_reads at d (codes "name") graph.name f.name,
      member_again (list_at param_at) (IsList StatesParam) params_reads at d (codes "params") graph.params f.params,
      member_again (list_at port_at) (IsList StatesPort) ports_reads at d (codes "inputs") graph.inputs f.inputs,
      member_again (list_at port_at) (IsList StatesPort) ports_reads at d (codes "outputs") graph.outputs f.outputs,
      member_again (list_at (actor_at version)) (IsList (StatesActor version)) (actors_reads version) at d (codes "actors") graph.actors f.actors,
      member_again (list_at (fifo_at version)) (IsList (StatesFifo version)) (fifos_reads version) at d (codes "fifos") graph.fifos f.fifos,
      exports_again_by (has_exports version) at d graph.exports f.exports,
    ) refl

graph_reads : (version : ℕ) → ReadsJust (graph_at version) (StatesGraph version)
graph_reads version = record { found = graph_found version; again = graph_again version }

graphs_reads : (version : ℕ) → ReadsJust (list_at (graph_at version)) (IsList (StatesGraph version))
graphs_reads version = list_reads (graph_at version) (StatesGraph version) (graph_reads version)

-- ---- the root

same_number : (m n : ℕ) → (m == n) ≡ true → m ≡ n
same_number m n e = grind (arith, nat_tests)

number_found : (version : ℕ) (d : Data) (z : ℤ) (stated : ℕ) → whole_of d ≡ Some z → version_from version z ≡ Some stated → StatesVersion version d stated
number_found version d (pos n) stated is e =
    let t = tested (n == version) version stated e in
    record { number = is ∙ ap (λ m. Some (pos m)) (same_number n version t.0 ∙ t.1); is_version = sym t.1 }
number_found version d (negsuc n) stated is e = absurd cc

version_found : (version : ℕ) (at : List ℕ) (d : Data) (stated : ℕ) → version_at version at d ≡ Ok stated → StatesVersion version d stated
version_found version at d stated e =
    let o = and_then_some (version_from version) (whole_of d) stated (shaped_ok at _ stated e) in
    number_found version d o.0 stated o.1 o.2

same_again : (m n : ℕ) → m ≡ n → (m == n) ≡ true
same_again m n e = grind (arith, nat_tests)

version_again : (version : ℕ) (at : List ℕ) (d : Data) (stated : ℕ) → StatesVersion version d stated → version_at version at d ≡ Ok stated
version_again version at d stated h = rw (h.number, same_again stated version h.is_version) (ap (λ n. Ok n) (sym h.is_version))

version_reads : (version : ℕ) → ReadsJust (version_at version) (StatesVersion version)
version_reads version = record { found = version_found version; again = version_again version }

abbrev file_done : File → Result File (List ℕ)
file_done file = Ok file

file_found : (version : ℕ) (at : List ℕ) (d : Data) (file : File) → file_at version at d ≡ Ok file → StatesIn version d file
unfolding file_at file_members_at
file_found version at d file e =
    let object = if_ok (has_form file_keys [] d) (file_members_at version at d) (pointer_text at) file e in
    let stated = goes (member_at (version_at version) at (codes "pisdf") d) _ file object.1 in
    let top = goes (member_at name_at at (codes "top") d) _ file stated.after in
    let graphs = goes (member_at (list_at (graph_at version)) at (codes "graphs") d) (λ graphs. Ok (record { version = stated.read; top = top.read; graphs = graphs })) file top.after in
    let done : file_done (record { version = stated.read; top = top.read; graphs = graphs.read }) ≡ Ok file = graphs.after in
    let same : record { version = stated.read; top = top.read; graphs = graphs.read } ≡ file = cc in
    subst (StatesIn version d) same (record {
      members = object.0;
      pisdf = member_found (version_at version) (StatesVersion version) (version_reads version) at d (codes "pisdf") stated.read stated.first;
      top = member_found name_at StatesName name_reads at d (codes "top") top.read top.first;
      graphs = member_found (list_at (graph_at version)) (IsList (StatesGraph version)) (graphs_reads version) at d (codes "graphs") graphs.read graphs.first;
    })

file_again : (version : ℕ) (at : List ℕ) (d : Data) (file : File) → StatesIn version d file → file_at version at d ≡ Ok file
unfolding file_at file_members_at
file_again version at d file f =
    rw (
      f.members,
      member_again (version_at version) (StatesVersion version) (version_reads version) at d (codes "pisdf") file.version f.pisdf,
      member_again name_at StatesName name_reads at d (codes "top") file.top f.top,
      member_again (list_at (graph_at version)) (IsList (StatesGraph version)) (graphs_reads version) at d (codes "graphs") file.graphs f.graphs,
    ) refl

-- The walk from the root finds the file exactly where the value states it.
pub file_reads : (version : ℕ) → ReadsJust (file_at version) (StatesIn version)
file_reads version = record { found = file_found version; again = file_again version }
