-- A firing reads as many tokens as its actor's rates say.
use Rattle.std.proofs.Common.{◌≡◌, ℕ, zero, suc, ◌+◌, ◌*◌, ◌<◌, ◌≤◌, true, false, ◌==◌, ⊎_elim, List, [], ◌∷◌, ◌++◌, map, length, take, drop, slice_index, slice_index_or, refl, ap, sym, ◌∙◌, subst, arith}
use Rattle.std.proofs.lemmas.Bool.{cases_Bool, cases_lt, eqb-true}
use Rattle.std.proofs.lemmas.List.{length-append, length-take, length-drop, get_or_past, map-append}
use Rattle.sdf_level.specs.View.{LevelView}
use Rattle.sdf_level.specs.Invariants.{how_many, is_into_port}
use Rattle.sdf_level.specs.Links.{OfInner, EachInner, OfOuter, EachOuter}
use Rattle.sdf_level.specs.Repetition.{AgreesOnZero}
use Rattle.sdf_level.specs.Firings.{firings, actors_of, EachFiring, IsReady, CanFire}
use Rattle.sdf_level.specs.Run.{read, input, inputs_below, head_rate, is_into_actor}
use Rattle.sdf_level.specs.Told.{Made, sent, line_of, lines_of, reads_after}
use Rattle.sdf_level.specs.LevelRun.{HaveRates, HaveDelays}
use Rattle.sdf_level.specs.declared.link.Link.{Link}
use Rattle.sdf_level.specs.declared.link.Tail.{Tail}
use Rattle.sdf_level.specs.declared.link.Head.{Head}
use Rattle.sdf_level.specs.declared.link.Tail.TheVariants as tail
use Rattle.sdf_level.specs.declared.link.Head.TheVariants as head
use Rattle.sdf_level.specs.declared.node.Node.{Node}
use Rattle.sdf_level.specs.declared.node.Node.TheVariants as node
use Rattle.sdf_level.specs.declared.token_name.TokenName.{TokenName}
use Rattle.sdf_level.specs.declared.turn.Turn.{Turn}
use Rattle.sdf_level.proofs.Windows.{length-sent}
use Rattle.single_rate.specs.Nodes.{kind}
use Rattle.single_rate.specs.Names.{names}
use Rattle.single_rate.specs.Flow.{IsFlow}
use Rattle.single_rate.specs.Delivers.{arrivals, at_firing}
use Rattle.single_rate.specs.Expanded.{by_nodes}
use Rattle.single_rate.specs.Laws.{HasOneFlow, IsGiven, GraphsHaveOneFlow, FlowsDeliver, graph}
use Rattle.single_rate.specs.Tiers.{node_at, first_firing}
use Rattle.single_rate.proofs.Given.{length-repeated}
use Rattle.single_rate.proofs.Law.{next-firing}
use Rattle.single_rate.proofs.Unique.{and-left}
use Rattle.job_flow.specs.GraphLaws.{GraphLaws}
use Rattle.job_flow.specs.Graphs.{JobGraph, IsJobGraph}
use Rattle.job_flow.specs.Frames.{arriving_below, input_rate, input_rates_below, input_rates, lengths_read, in_lens}
use Rattle.job_flow.proofs.Collected.{arrives_at-is}
use Rattle.job_flow.proofs.Sized.{length-at}
use Rattle.job_flow.proofs.Flows.{IsNumbered}
use Rattle.job_flow.proofs.Jobs.{numbered, graph-is}
use Rattle.job_flow.proofs.Slots.{sized-below}

firings-front : (a : ℕ) (xs ys : List ℕ) → firings a xs ≤ firings a (xs ++ ys)
firings-front a [] ys = omega arith
firings-front a (x ∷ xs) ys = let e = firings-front a xs ys in omega arith

-- what an actor reads that finds its tokens
module _ {T : Type 0} (level : LevelView) (sources : List (List T)) (made : Made T) (fired : ℕ → ℕ) (b : ℕ) (gives : (s : ℕ) → length (slice_index_or sources s []) ≡ slice_index level.sources s) where
  abbrev Reads : Tail → Head → ℕ → List T → Type 0
  Reads t h d start = length (read sources (fired b) (head_rate h) t (line_of made fired t start)) ≡ head_rate h

  length-window : (c m : ℕ) (line : List T) → m + c ≤ length line → length (take c (drop m line)) ≡ c
  length-window c m line h = rw (length-take, length-drop) (omega arith)

  link-reads : (port : ℕ) (t : Tail) (h : Head) (d : ℕ) (start : List T) → is_into_port b port record { tail = t; head = h; delay = d } ≡ true → OfInner (IsReady fired b) t h d → OfOuter AgreesOnZero level t h → length start ≡ d →
      ((a j : ℕ) → j < fired a → HaveRates a (made a j) (record { tail = t; head = h; delay = d } ∷ [])) → Reads t h d start
  link-reads port t (head.Sink u) d start own ready agrees long rates = absurd (cc)
  link-reads port (tail.Source s) (head.Port b' j c) d start own ready agrees long rates =
      let g = gives s in ⊎_elim
      (λ (some : 0 < length (slice_index_or sources s [])). length-repeated (slice_index_or sources s []) (fired b * c) c some)
      (λ (none : length (slice_index_or sources s []) ≤ 0). let z : c ≡ 0 = agrees.0 (omega arith) in rw z refl)
      (cases_lt 0 (length (slice_index_or sources s [])))
  link-reads port (tail.Port a p r) (head.Port b' j c) d start own ready agrees long rates =
      let is : b' ≡ b = eqb-true b' b (and-left (b' == b) (j == port) own) in
      let has : c * (fired b' + 1) ≤ d + r * fired a = ready is in
      let has_b : c * (fired b + 1) ≤ d + r * fired a = rw is at has in
      let of_tail = length-sent (made a) p r (fired a) (λ i h. (rates a i h).0 refl) in
      let all = length-append start (sent (made a) p (fired a)) in
      let e : c * (fired b + 1) ≡ fired b * c + c = grind arith in
      length-window c (fired b * c) (start ++ sent (made a) p (fired a)) (omega arith)

  port-reads : (port : ℕ) (links : List Link) (starts : List (List T)) → EachInner (IsReady fired b) links → EachOuter AgreesOnZero level links → HaveDelays links starts → ((a j : ℕ) → j < fired a → HaveRates a (made a j) links) →
      length (input sources b (fired b) port links (lines_of made fired links starts)) ≡ input_rate b port links
  port-reads port [] [] ready agrees delays rates = refl
  port-reads port [] (start ∷ starts) ready agrees delays rates = absurd delays
  port-reads port (link ∷ links) [] ready agrees delays rates = absurd delays
  port-reads port (link ∷ links) (start ∷ starts) ready agrees delays rates =
      let later = port-reads port links starts ready.1 agrees.1 delays.1 (λ a j h. (rates a j h).1) in ⊎_elim
      (λ (own : is_into_port b port link ≡ true). let here : Reads link.tail link.head link.delay start = link-reads port link.tail link.head link.delay start own ready.0 agrees.0 delays.0 (λ a j h. ((rates a j h).0, tt)) in rw own here)
      (λ (other : is_into_port b port link ≡ false). rw other later)
      (cases_Bool (is_into_port b port link))

  all-read : (ports : ℕ) (links : List Link) (starts : List (List T)) → EachInner (IsReady fired b) links → EachOuter AgreesOnZero level links → HaveDelays links starts → ((a j : ℕ) → j < fired a → HaveRates a (made a j) links) →
      map length (inputs_below sources b (fired b) ports links (lines_of made fired links starts)) ≡ input_rates_below links b ports
  all-read zero links starts ready agrees delays rates = refl
  all-read (suc port) links starts ready agrees delays rates =
      map-append length (inputs_below sources b (fired b) port links (lines_of made fired links starts)) (input sources b (fired b) port links (lines_of made fired links starts) ∷ [])
      ∙ rw (all-read port links starts ready agrees delays rates, port-reads port links starts ready agrees delays rates) refl

module _ (known : GraphLaws) (one_flow : GraphsHaveOneFlow TokenName) (delivers : FlowsDeliver TokenName) {T : Type 0} (q : List ℕ) (turns : List Turn) (job : JobGraph T) (is : IsJobGraph q turns job) where
  num : IsNumbered job.level turns job.nodes job.edges
  num = numbered known q turns job is

  fits : IsGiven job.level q turns (names job.level)
  fits = record { level_kept = is.level_kept; repetition = is.repetition; order = is.order; lengths = known.names_fit job.level q is.level_kept }

  named : HasOneFlow (names job.level) (graph job.level q turns)
  named = one_flow job.level q turns (names job.level) fits

  flow : IsFlow (names job.level) (by_nodes job.nodes job.edges) named.on
  flow = rw (graph-is known q turns job is) (named.flows)

  below-arrivals : (n : ℕ) (m : Node) → n < length job.nodes → node_at job.nodes n ≡ m → (ports : ℕ) → arriving_below job.edges named.on n ports ≡ arrivals (by_nodes job.nodes job.edges) named.on m ports
  below-arrivals n m inside at zero = refl
  below-arrivals n m inside at (suc port) = rw (below-arrivals n m inside at port, ← arrives_at-is job.nodes num.once n port inside job.edges num.ends named.on, at) refl

  firing-at : (before after : List ℕ) (b : ℕ) → actors_of turns ≡ before ++ b ∷ after → map length (at_firing job.level (by_nodes job.nodes job.edges) named.on b (firings b before)) ≡ input_rates job.level.links b
  firing-at before after b list_is =
      let arrived = delivers job.level q turns (names job.level) named.on (actors_of turns) fits named.flows is.order.order.admissible in
      let Fed : List ℕ → ℕ → Type 0 = λ at c. reads_after job.level (names job.level).sources (names job.level).delays (names job.level).made at c ≡ at_firing job.level (graph job.level q turns) named.on c (firings c at) in
      let A : List ℕ → Type 0 = λ l. EachFiring Fed [] l in
      let B : List ℕ → Type 0 = λ l. EachFiring (CanFire job.level) [] l in
      let fed : Fed before b = next-firing Fed [] before after b (subst A list_is arrived.firings) in
      let ready : CanFire job.level before b = next-firing (CanFire job.level) [] before after b (subst B list_is is.order.order.admissible.each) in
      let within : (a : ℕ) → firings a before ≤ slice_index q a = λ a. let f = firings-front a before (b ∷ after) in let c = is.order.order.admissible.counts a in let e : firings a (actors_of turns) ≡ firings a (before ++ b ∷ after) = ap (firings a) list_is in omega arith in
      let sources_fit : (s : ℕ) → length (slice_index_or (names job.level).sources s []) ≡ slice_index job.level.sources s = λ s. length-at (names job.level).sources s ∙ ap (λ (l : List ℕ). slice_index l s) fits.lengths.sources in
      let all = all-read job.level (names job.level).sources (names job.level).made (λ a. firings a before) b sources_fit (how_many (is_into_actor b) job.level.links) job.level.links (names job.level).delays ready is.repetition.agree fits.lengths.delays (λ a j h. fits.lengths.made a j (let w = within a in omega arith)) in
      rw (graph-is known q turns job is) (ap (λ (x : List (List TokenName)). map length x) (sym fed) ∙ all)

  pub firing-reads-rates : (n b k : ℕ) → node_at job.nodes n ≡ node.Firing b k → in_lens job n ≡ input_rates job.level.links b
  firing-reads-rates n b k at =
      let there = num.all n (ap kind at) in
      let s = there.stands in
      let p = s.place_is in
      let number = there.number in
      let again : node_at job.nodes n ≡ node.Firing s.actor (firings s.actor s.before) = ap (node_at job.nodes) (let e : n ≡ first_firing job.level + length s.before = omega arith in e) ∙ num.stands s.before s.after s.actor s.list_is in
      let same_actor : s.actor ≡ b = let e : node.Firing b k ≡ node.Firing s.actor (firings s.actor s.before) = sym at ∙ again in cc in
      let inside : n < length job.nodes = ⊎_elim (λ (lt : n < length job.nodes). lt) (λ (ge : length job.nodes ≤ n). absurd (let z = ap kind (get_or_past job.nodes n (node.Source 0) ge) in let f = ap kind at in omega arith)) (cases_lt n (length job.nodes)) in
      let L : Node → Type 0 = λ m. lengths_read job m n ≡ input_rates job.level.links s.actor in
      let ports : ℕ = how_many (is_into_actor s.actor) job.level.links in
      let own : L (node.Firing s.actor (firings s.actor s.before)) =
      sym (sized-below job.nodes job.edges named.on n ports flow.sizes) ∙ ap (λ (x : List (List TokenName)). map length x) (below-arrivals n (node.Firing s.actor (firings s.actor s.before)) inside again ports) ∙ firing-at s.before s.after s.actor s.list_is in
      let all : L (node_at job.nodes n) = subst L (sym again) own in
      all ∙ ap (input_rates job.level.links) same_actor
