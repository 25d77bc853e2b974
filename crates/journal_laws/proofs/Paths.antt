-- The paths of jobs of graphs whose names are names have no comma and no line feed.
use Rattle.std.proofs.Common.{◌≡◌, ℕ, zero, suc, ◌+◌, ◌<◌, ℤ, Bool, true, false, ◌&&◌, ◌||◌, ◌==◌, nat_le, nat_lt, not, if◌then◌else◌, Option, Some, None, List, [], ◌∷◌, ◌++◌, codes, length, map, slice_get, slice_index_or, refl, subst, arith}
use Rattle.std.specs.List.{AllByRecursion, filter, list_all}
use Rattle.std.specs.Fmt.{decimal}
use Rattle.std.proofs.lemmas.Bool.{and_parts, eqb-true, leb-true}
use Rattle.std.proofs.lemmas.List.Elements.{recursion_from_All}
use Rattle.param_expr.specs.Limits.{most_name_bytes}
use Rattle.param_expr.specs.Words.{IsName, is_letter, is_reserved, is_word_byte, starts_with_letter}
use Rattle.pisdf_model.specs.Details.{from_number, of_each}
use Rattle.pisdf_model.specs.InterfaceWires.{is_configuration}
use Rattle.pisdf_model.specs.Names.{actor_walk, graph_walk, names_of, scoped}
use Rattle.pisdf_model.specs.Parts.{interface_names}
use Rattle.pisdf_model.specs.Valid.{AreNamed}
use Rattle.pisdf_model.specs.declared.actor.Actor.{Actor}
use Rattle.pisdf_model.specs.declared.actor.Body.{Body}
use Rattle.pisdf_model.specs.declared.actor.Body.TheVariants.{Kernel, Config, Child, ConfigChild}
use Rattle.pisdf_model.specs.declared.graph.Graph.{Graph}
use Rattle.pisdf_model.specs.declared.graph.Graphs.{Graphs}
use Rattle.pisdf_model.specs.declared.names.Scope.TheVariants as scope
use Rattle.pisdf_model.specs.declared.names.ScopedName.{ScopedName}
use Rattle.param_resolver.specs.Numbering.{acting, fires}
use Rattle.sdf_level.specs.declared.node.Node.{Node}
use Rattle.sdf_level.specs.declared.node.Node.TheVariants as node
use Rattle.pisdf_meaning.specs.Configuring.{Configuration, configurations, configurations_from}
use Rattle.pisdf_meaning.specs.Endings.{child_path}
use Rattle.pisdf_meaning.specs.declared.firing.Configured.{Configured}
use Rattle.pisdf_meaning.specs.declared.firing.Firing.{Firing}
use Rattle.nested_jobs.specs.Rules.{Call, Task, Values}
use Rattle.job_rules.specs.Items.{Prepared, actor_task, compile_rule, config_task, edges_in, firing_task, graph_of, is_ready_by, job_graph, left_in, no_graph, node_rule, node_task, node_values, nodes_in, prepared_in, rule, rule_from, values_in}
use Rattle.job_flow.specs.Frames as flow
use Rattle.job_flow.specs.Frames.{inputs, lens}
use Rattle.job_flow.specs.Graphs.{node_at}
use Rattle.pisdf_meaning.specs.declared.refusal.Refusal.{Refusal}
use Rattle.job_rules.specs.Words as words
use Rattle.job_rules.specs.Words.{Answer}
use Rattle.journal_laws.specs.Lines.{IsPlain}
use Rattle.journal_laws.proofs.Bytes.{above_append, above_so, decimal_above}

-- ---- names

letter_after : (b : ℕ) → is_letter b ≡ true → 44 < b
letter_after b h = go (nat_le 97 b) (nat_le b 122) (nat_le 65 b) (nat_le b 90) (b == 95) refl refl refl h
  where
    go : (l m n o e : Bool) → nat_le 97 b ≡ l → nat_le 65 b ≡ n → (b == 95) ≡ e → ((l && m) || (n && o) || e) ≡ true → 44 < b
    go true m n o e is_l is_n is_e h = let t = leb-true 97 b is_l in omega arith
    go false m true o e is_l is_n is_e h = let t = leb-true 65 b is_n in omega arith
    go false m false o true is_l is_n is_e h = let t = eqb-true b 95 is_e in omega arith
    go false m false o false is_l is_n is_e h = absurd (cc)

word_after : (b : ℕ) → is_word_byte b ≡ true → 44 < b
word_after b h = go (is_letter b) (nat_le 48 b) (nat_le b 57) refl refl h
  where
    go : (l d e : Bool) → is_letter b ≡ l → nat_le 48 b ≡ d → (l || (d && e)) ≡ true → 44 < b
    go true d e is_l is_d h = letter_after b is_l
    go false true e is_l is_d h = let t = leb-true 48 b is_d in omega arith
    go false false e is_l is_d h = absurd (cc)

words_plain : (text : List ℕ) → list_all is_word_byte text ≡ true → IsPlain text
words_plain [] h = tt
words_plain (b ∷ text) h = let t = and_parts (is_word_byte b) (list_all is_word_byte text) h in (word_after b t.0, words_plain text t.1)

name_plain : (text : List ℕ) → IsName text → IsPlain text
name_plain text h =
    let a = and_parts (starts_with_letter text && list_all is_word_byte text && nat_le (length text) most_name_bytes) (not (is_reserved text)) h in
    let b = and_parts (starts_with_letter text && list_all is_word_byte text) (nat_le (length text) most_name_bytes) a.0 in
    let c = and_parts (starts_with_letter text) (list_all is_word_byte text) b.0 in
    words_plain text c.1

-- ---- graphs

abbrev ActorNamed : Actor → Type 0
ActorNamed actor = IsPlain actor.name

pub record IsNamed (g : Graph) : Type 0 where
  pub name : IsPlain g.name
  pub actors : AllByRecursion ActorNamed g.actors

abbrev Named : ScopedName → Type 0
Named name = IsName name.name

back_part : (xs ys : List ScopedName) → AllByRecursion Named (xs ++ ys) → AllByRecursion Named ys
back_part [] ys h = h
back_part (x ∷ xs) ys h = back_part xs ys h.1

front_part : (xs ys : List ScopedName) → AllByRecursion Named (xs ++ ys) → AllByRecursion Named xs
front_part [] ys h = tt
front_part (x ∷ xs) ys h = (h.0, front_part xs ys h.1)

actors_named : (n a : ℕ) (actors : List Actor) → AllByRecursion Named (from_number a (λ (a : ℕ) (actor : Actor). actor_walk n a actor) actors) → AllByRecursion ActorNamed actors
actors_named n a [] h = tt
actors_named n a (actor ∷ actors) h = (name_plain actor.name h.0, actors_named n (a + 1) actors (back_part (actor_walk n a actor) (from_number (a + 1) (λ (a : ℕ) (actor : Actor). actor_walk n a actor) actors) h))

graph_named : (n : ℕ) (g : Graph) → AllByRecursion Named (graph_walk n g) → IsNamed g
graph_named n g h =
    let s = scope.Parts n in
    let actors : List ScopedName = of_each (λ (a : ℕ) (actor : Actor). actor_walk n a actor) g.actors in
    let outputs : List ScopedName = scoped s (interface_names g.outputs) in
    let inputs : List ScopedName = scoped s (interface_names g.inputs) in
    let one = back_part (scoped s (map (λ p. p.name) g.params)) (inputs ++ (outputs ++ actors)) h.1 in
    let two = back_part inputs (outputs ++ actors) one in
    let three = back_part outputs actors two in
    record { name = name_plain g.name h.0; actors = actors_named n 0 g.actors three }

graphs_named : (n : ℕ) (graphs : List Graph) → AllByRecursion Named (from_number n (λ (n : ℕ) (g : Graph). graph_walk n g) graphs) → AllByRecursion IsNamed graphs
graphs_named n [] h = tt
graphs_named n (g ∷ graphs) h =
    let rest : List ScopedName = from_number (n + 1) (λ (n : ℕ) (g : Graph). graph_walk n g) graphs in
    (graph_named n g (front_part (graph_walk n g) rest h), graphs_named (n + 1) graphs (back_part (graph_walk n g) rest h))

at_index : (graphs : List Graph) (n : ℕ) → AllByRecursion IsNamed graphs → IsNamed (slice_index_or graphs n no_graph)
at_index [] n h = record { name = tt; actors = tt }
at_index (g ∷ graphs) zero h = h.0
at_index (g ∷ graphs) (suc n) h = at_index graphs n h.1

pub each_named : (graphs : Graphs) → AreNamed graphs → (n : ℕ) → IsNamed (slice_index_or graphs.graphs n no_graph)
each_named graphs named n = at_index graphs.graphs n (graphs_named 0 graphs.graphs (recursion_from_All Named (names_of graphs) named))

-- ---- calls

path_plain : (path name : List ℕ) (k : ℕ) → IsPlain path → IsPlain name → IsPlain (child_path path name k)
path_plain path name k h g =
    above_append 44 path (codes "/" ++ (name ++ (codes ":" ++ decimal k))) h
    (above_append 44 (codes "/") (name ++ (codes ":" ++ decimal k)) (above_so 44 (codes "/") refl)
    (above_append 44 name (codes ":" ++ decimal k) g (above_append 44 (codes ":") (decimal k) (above_so 44 (codes ":") refl) (decimal_above k))))

abbrev pub HasPath : Firing → Type 0
HasPath job = IsPlain job.path

module _ (graphs : List Graph) (g : Graph) (named : IsNamed g) (job : Firing) (plain : HasPath job) (v : Values Answer) where
  abbrev IsCall : Option (Task Firing words.Work) → Firing → Type 0
  IsCall o d = o ≡ Some (Call d)

  some_call : (c d : Firing) → IsCall (Some (Call c)) d → HasPath c → HasPath d
  some_call c d e h = let same : c ≡ d = cc in subst HasPath same h

  config_call : (c : Configuration) (body : Body) (d : Firing) → IsPlain c.name → IsCall (config_task graphs g job c body) d → HasPath d
  config_call c (Kernel kernel args ins outs) d name e = absurd (cc)
  config_call c (Child place args) d name e = absurd (cc)
  config_call c (Config kernel args ins outs sets) d name e = absurd (cc)
  config_call c (ConfigChild place args sets) d name e = some_call _ d e (path_plain job.path c.name 0 plain name)

  firing_call : (ints : List ℤ) (a k : ℕ) (read : List (List ℤ)) (actor : Actor) (body : Body) (d : Firing) → IsPlain actor.name → IsCall (firing_task graphs g job ints a k read actor body) d → HasPath d
  firing_call ints a k read actor (Kernel kernel exprs ins outs) d name e = absurd (cc)
  firing_call ints a k read actor (Child place exprs) d name e = some_call _ d e (path_plain job.path actor.name k plain name)
  firing_call ints a k read actor (Config kernel exprs ins outs sets) d name e = absurd (cc)
  firing_call ints a k read actor (ConfigChild place exprs sets) d name e = absurd (cc)

  pick_named : (b : Bool) (x : Actor) (xs : List Actor) → ActorNamed x → AllByRecursion ActorNamed xs → AllByRecursion ActorNamed (if b then x ∷ xs else xs)
  pick_named true x xs h more = (h, more)
  pick_named false x xs h more = more

  acting_named : (xs : List Actor) → AllByRecursion ActorNamed xs → AllByRecursion ActorNamed (filter fires xs)
  acting_named [] h = tt
  acting_named (x ∷ xs) h = pick_named (fires x) x (filter fires xs) h.0 (acting_named xs h.1)

  actor_call : (ints : List ℤ) (a k : ℕ) (read : List (List ℤ)) (xs : List Actor) (i : ℕ) (d : Firing) → AllByRecursion ActorNamed xs → IsCall (actor_task graphs g job ints a k read (slice_get xs i)) d → HasPath d
  actor_call ints a k read [] i d h e = absurd (cc)
  actor_call ints a k read (x ∷ xs) zero d h e = firing_call ints a k read x x.body d h.0 e
  actor_call ints a k read (x ∷ xs) (suc i) d h e = actor_call ints a k read xs i d h.1 e

  node_call : (ints : List ℤ) (n : Node) (read : List (List ℤ)) (lengths : List ℕ) (d : Firing) → IsCall (node_task graphs g job ints n read lengths) d → HasPath d
  node_call ints (node.Source s) read lengths d e = absurd (cc)
  node_call ints (node.Init l) read lengths d e = absurd (cc)
  node_call ints (node.Firing a k) read lengths d e = actor_call ints a k read (acting g) a d (acting_named g.actors named.actors) e
  node_call ints (node.Broadcast l) read lengths d e = absurd (cc)
  node_call ints (node.Fork l i) read lengths d e = absurd (cc)
  node_call ints (node.Join l j) read lengths d e = absurd (cc)
  node_call ints (node.Round l) read lengths d e = absurd (cc)
  node_call ints (node.End l) read lengths d e = absurd (cc)
  node_call ints (node.Sink t) read lengths d e = absurd (cc)

  if_call : (b : Bool) (o : Option (Task Firing words.Work)) (d : Firing) → (IsCall o d → HasPath d) → IsCall (if b then o else None) d → HasPath d
  if_call true o d has e = has e
  if_call false o d has e = absurd (cc)

  nodes_call : (n : ℕ) (o : Option Prepared) (d : Firing) → IsCall (node_rule graphs g job v n o) d → HasPath d
  nodes_call n None d e = absurd (cc)
  nodes_call n (Some p) d e =
      let values : flow.Values ℤ Refusal = node_values graphs g job p v in
      let ints : List ℤ = values_in g job p in
      let n_th : Node = node_at (nodes_in graphs g job p) n in
      let read : List (List ℤ) = inputs (job_graph graphs g job p) values n in
      let lengths : List ℕ = lens (job_graph graphs g job p) n in
      if_call (nat_lt n (length (nodes_in graphs g job p)) && is_ready_by (edges_in graphs g job p) values n) (node_task graphs g job ints n_th read lengths) d (λ h. node_call ints n_th read lengths d h) e

  compile_call : (o : Option (List Configured)) (d : Firing) → IsCall (compile_rule job o) d → HasPath d
  compile_call None d e = absurd (cc)
  compile_call (Some left) d e = absurd (cc)

  abbrev ConfigNamed : Configuration → Type 0
  ConfigNamed c = IsPlain c.name

  pick_config : (b : Bool) (x : Configuration) (xs ys : List Configuration) → ConfigNamed x → AllByRecursion ConfigNamed xs → AllByRecursion ConfigNamed ys → AllByRecursion ConfigNamed (if b then x ∷ xs else ys)
  pick_config true x xs ys h more other = (h, more)
  pick_config false x xs ys h more other = other

  configs_named : (c a : ℕ) (xs : List Actor) → AllByRecursion ActorNamed xs → AllByRecursion ConfigNamed (configurations_from c a xs)
  configs_named c a [] h = tt
  configs_named c a (x ∷ xs) h =
      pick_config (is_configuration x.body) record { number = c; place = a; name = x.name; body = x.body } (configurations_from (c + 1) (a + 1) xs) (configurations_from c (a + 1) xs) h.0 (configs_named (c + 1) (a + 1) xs h.1) (configs_named c (a + 1) xs h.1)

  call_from : (cs : List Configuration) (i : ℕ) (d : Firing) → AllByRecursion ConfigNamed cs → IsCall (rule_from graphs g job v cs i) d → HasPath d
  call_from [] zero d h e = compile_call (left_in g v) d e
  call_from [] (suc n) d h e = nodes_call n (prepared_in g v) d e
  call_from (c ∷ cs) zero d h e = config_call c c.body d h.0 e
  call_from (c ∷ cs) (suc i) d h e = call_from cs i d h.1 e

-- what a job calls has a path that is plain, where its own is
pub calls_plain : (graphs : Graphs) → AreNamed graphs → (job : Firing) (v : Values Answer) (i : ℕ) (d : Firing) → HasPath job → rule graphs.graphs job v i ≡ Some (Call d) → HasPath d
calls_plain graphs named job v i d plain e =
    let g : Graph = graph_of graphs.graphs job in
    let is = each_named graphs named job.graph in
    call_from graphs.graphs g is job plain v (configurations g) i d (configs_named graphs.graphs g is job plain v 0 0 g.actors is.actors) e
