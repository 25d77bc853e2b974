-- Queues feed what arrives over the edges.
use Rattle.std.proofs.Common.{◌≡◌, ℕ, zero, suc, ◌+◌, ◌-◌, ◌*◌, ◌<◌, ◌≤◌, true, false, ◌&&◌, ◌==◌, ⊎_elim, List, [], ◌∷◌, ◌++◌, length, slice_index, refl, ap, sym, ◌∙◌, arith}
use Rattle.std.specs.List.{AllByRecursion}
use Rattle.std.proofs.lemmas.Bool.{cases_eq, cases_lt, cases_Bool, eq-eqb, ne_eqb}
use Rattle.std.proofs.lemmas.List.{append-nil, length-append}
use Rattle.sdf_level.specs.View.{LevelView}
use Rattle.sdf_level.specs.Invariants.{how_many, is_into_port, is_into_sink, HeadIsThere, IsLevel}
use Rattle.sdf_level.specs.Links.{OfInner, EachInner}
use Rattle.sdf_level.specs.Firings.{firings, IsReady, CanFire, EachFiring}
use Rattle.sdf_level.specs.Orders.{IsAdmissible}
use Rattle.sdf_level.specs.Interfaces.{last}
use Rattle.sdf_level.specs.Run.{read, input, inputs_below, head_rate, is_into_actor}
use Rattle.sdf_level.specs.LevelRun.{written, kept_at, left_on, left_of, end_of}
use Rattle.sdf_level.proofs.FiringLists.{firings-moved, firings-own}
use Rattle.sdf_level.specs.Told.{sent, line_of, lines_of, lines_after, reads_after}
use Rattle.sdf_level.proofs.Lines.{lines_same}
use Rattle.sdf_level.proofs.Windows.{window_same, length-sent}
use Rattle.sdf_level.specs.declared.link.Link.{Link}
use Rattle.sdf_level.specs.declared.link.Tail.{Tail}
use Rattle.sdf_level.specs.declared.link.Head.{Head}
use Rattle.sdf_level.specs.declared.link.Tail.TheVariants as tail
use Rattle.sdf_level.specs.declared.link.Head.TheVariants as head
use Rattle.sdf_level.specs.declared.node.Node.{Node}
use Rattle.sdf_level.specs.declared.node.Node.TheVariants as node
use Rattle.single_rate.specs.Nodes.{same}
use Rattle.single_rate.specs.Wires.{wires_at, wires_from, wires}
use Rattle.single_rate.specs.declared.wire.Wire.{Wire}
use Rattle.single_rate.specs.Flow.{Given, arrives_at}
use Rattle.single_rate.specs.Delivers.{arrivals, at_firing, at_sinks, at_ends, Delivers}
use Rattle.single_rate.proofs.Picked.{picked}
use Rattle.single_rate.proofs.Readers.{at_port}
use Rattle.single_rate.proofs.EachLink.{full, FitsAt, gets, link-firing, link-sink, link-end}
use Rattle.single_rate.proofs.AllLinks.{gathered-link, AllFit, ranges_on}

enough : (c k d r n : ℕ) → c * (k + 1) ≤ d + r * n → k * c + c ≤ d + r * n
enough c k d r n h = grind arith

more : (d r n m : ℕ) → n ≤ m → d + r * n ≤ d + r * m
more d r n m h = grind arith

module _ {T : Type 0} (level : LevelView) (q : List ℕ) (given : Given T) where
  -- what arrives at a port: over the first link, and over the others
  arrives-more : (l : ℕ) (link : Link) (links : List Link) (start : List T) (starts : List (List T)) (n : Node) (port : ℕ) →
      arrives_at (wires_from level q l (link ∷ links)) (ranges_on level q given l (link ∷ links) (start ∷ starts)) n port ≡ picked (full level q given link.tail link.head start) (λ w. at_port n port w.head) (wires_at level q l link.tail link.head link.delay) ++ arrives_at (wires_from level q (l + 1) links) (ranges_on level q given (l + 1) links starts) n port
  arrives-more l link links start starts n port = gathered-link (full level q given link.tail link.head start) (λ w. at_port n port w.head) (wires_at level q l link.tail link.head link.delay) (wires_from level q (l + 1) links) (ranges_on level q given (l + 1) links starts)

  module _ (b k : ℕ) (within : k < slice_index q b) where
    no_link : (port l : ℕ) (links : List Link) (starts : List (List T)) → AllFit level q given l links starts → how_many (is_into_port b port) links ≡ 0 → arrives_at (wires_from level q l links) (ranges_on level q given l links starts) (node.Firing b k) port ≡ []
    no_link port l [] starts fits none = refl
    no_link port l (link ∷ links) [] fits none = absurd fits
    no_link port l (link ∷ links) (start ∷ starts) fits none = ⊎_elim
        (λ (e : is_into_port b port link ≡ true). absurd (let m = rw e at none in omega arith))
        (λ (e : is_into_port b port link ≡ false).
        let here = link-firing level q given l link.tail link.head link.delay start fits.0 b port k within in
        let rest : how_many (is_into_port b port) links ≡ 0 = let m = rw e at none in omega arith in
        arrives-more l link links start starts (node.Firing b k) port ∙ rw (here, e) (no_link port (l + 1) links starts fits.1 rest))
        (cases_Bool (is_into_port b port link))

    module _ (f : ℕ → ℕ) (own : f b ≡ k) (below : (a : ℕ) → f a ≤ slice_index q a) where
      -- a firing reads of the line so far what it would read of the whole line
      read-whole : (l : ℕ) (t : Tail) (h : Head) (d port : ℕ) (start : List T) → FitsAt level q given l t h d start → OfInner (IsReady f b) t h d → is_into_port b port record { tail = t; head = h; delay = d } ≡ true →
          read given.sources k (head_rate h) t (line_of given.made f t start) ≡ gets level q given t h start k
      read-whole l t (head.Sink s) d port start fits ready into = absurd (cc)
      read-whole l (tail.Source s) (head.Port x j c) d port start fits ready into = refl
      read-whole l (tail.Port a p r) (head.Port x j c) d port start fits ready into =
          let same_actor : x ≡ b = actor x j into in
          let room : k * c + c ≤ d + r * f a = enough c k d r (f a) (rw (same_actor, own) at (ready same_actor)) in
          let long_f : length (start ++ sent (given.made a) p (f a)) ≡ d + r * f a = rw (length-append, fits.long, length-sent (given.made a) p r (f a) (λ i g. fits.gives i (let w = below a in omega arith))) refl in
          let long_q : length (start ++ sent (given.made a) p (slice_index q a)) ≡ d + r * slice_index q a = rw (length-append, fits.long, length-sent (given.made a) p r (slice_index q a) fits.gives) refl in
          let grows = more d r (f a) (slice_index q a) (below a) in
          let e : (k * c + c) - k * c ≡ c = omega arith in
          rw e (window_same (given.made a) start p (f a) (slice_index q a) c (k * c) (omega arith) (omega arith))
        where
          actor : (x j : ℕ) → ((x == b) && (j == port)) ≡ true → x ≡ b
          actor x j into = ⊎_elim
              (λ (e : x ≡ b). e)
              (λ (n : x ≡ b → ⊥). absurd (let m = rw (ne_eqb x b n) at into in cc))
              (cases_eq x b)

      reads : (port l : ℕ) (links : List Link) (starts : List (List T)) → AllFit level q given l links starts → EachInner (IsReady f b) links → how_many (is_into_port b port) links ≤ 1 →
          input given.sources b k port links (lines_of given.made f links starts) ≡ arrives_at (wires_from level q l links) (ranges_on level q given l links starts) (node.Firing b k) port
      reads port l [] starts fits ready once = refl
      reads port l (link ∷ links) [] fits ready once = absurd fits
      reads port l (link ∷ links) (start ∷ starts) fits ready once =
          let here = link-firing level q given l link.tail link.head link.delay start fits.0 b port k within in
          ⊎_elim
          (λ (e : is_into_port b port link ≡ true).
          let rest : how_many (is_into_port b port) links ≡ 0 = let m = rw e at once in omega arith in
          let whole = read-whole l link.tail link.head link.delay port start fits.0 ready.0 e in
          rw (e, whole) (sym (arrives-more l link links start starts (node.Firing b k) port ∙ rw (here, e, no_link port (l + 1) links starts fits.1 rest) (append-nil (gets level q given link.tail link.head start k)))))
          (λ (e : is_into_port b port link ≡ false).
          let rest : how_many (is_into_port b port) links ≤ 1 = let m = rw e at once in omega arith in
          rw e (reads port (l + 1) links starts fits.1 ready.1 rest ∙ sym (arrives-more l link links start starts (node.Firing b k) port ∙ rw (here, e) refl)))
          (cases_Bool (is_into_port b port link))

      all-reads : (links : List Link) (starts : List (List T)) (l ports : ℕ) → AllFit level q given l links starts → EachInner (IsReady f b) links → ((port : ℕ) → how_many (is_into_port b port) links ≤ 1) →
          inputs_below given.sources b k ports links (lines_of given.made f links starts) ≡ arrivals (wires_from level q l links) (ranges_on level q given l links starts) (node.Firing b k) ports
      all-reads links starts l zero fits ready once = refl
      all-reads links starts l (suc port) fits ready once = rw (all-reads links starts l port fits ready once, reads port l links starts fits ready (once port)) refl

  -- the sinks
  no_sink : (s l : ℕ) (links : List Link) (starts : List (List T)) → AllFit level q given l links starts → how_many (is_into_sink s) links ≡ 0 → arrives_at (wires_from level q l links) (ranges_on level q given l links starts) (node.Sink s) 0 ≡ []
  no_sink s l [] starts fits none = refl
  no_sink s l (link ∷ links) [] fits none = absurd fits
  no_sink s l (link ∷ links) (start ∷ starts) fits none = ⊎_elim
      (λ (e : is_into_sink s link ≡ true). absurd (let m = rw e at none in omega arith))
      (λ (e : is_into_sink s link ≡ false).
      let here = link-sink level q given l link.tail link.head link.delay start fits.0 s in
      let rest : how_many (is_into_sink s) links ≡ 0 = let m = rw e at none in omega arith in
      arrives-more l link links start starts (node.Sink s) 0 ∙ rw (here, e) (no_sink s (l + 1) links starts fits.1 rest))
      (cases_Bool (is_into_sink s link))

  abbrev counts : ℕ → ℕ
  counts a = slice_index q a

  whole : (l s : ℕ) (t : Tail) (h : Head) (d : ℕ) (start : List T) → FitsAt level q given l t h d start → is_into_sink s record { tail = t; head = h; delay = d } ≡ true → line_of given.made counts t start ≡ full level q given t h start
  whole l s (tail.Source x) (head.Sink t) d start fits into = absurd (fits.ends)
  whole l s (tail.Source x) (head.Port b j c) d start fits into = absurd (cc)
  whole l s (tail.Port a p r) h d start fits into = refl

  sink-keeps : (s l : ℕ) (links : List Link) (starts : List (List T)) → AllFit level q given l links starts → how_many (is_into_sink s) links ≤ 1 →
      last (slice_index level.sinks s) (written s links (lines_of given.made counts links starts)) ≡ arrives_at (wires_from level q l links) (ranges_on level q given l links starts) (node.Sink s) 0
  sink-keeps s l [] starts fits once = last-none (slice_index level.sinks s)
    where
      last-none : (r : ℕ) → last {T = T} r [] ≡ []
      last-none r = let e : 0 - r ≡ 0 = omega arith in rw e refl
  sink-keeps s l (link ∷ links) [] fits once = absurd fits
  sink-keeps s l (link ∷ links) (start ∷ starts) fits once =
      let here = link-sink level q given l link.tail link.head link.delay start fits.0 s in
      ⊎_elim
      (λ (e : is_into_sink s link ≡ true).
      let rest : how_many (is_into_sink s) links ≡ 0 = let m = rw e at once in omega arith in
      let line = whole l s link.tail link.head link.delay start fits.0 e in
      rw (e, line) (sym (arrives-more l link links start starts (node.Sink s) 0 ∙ rw (here, e, no_sink s (l + 1) links starts fits.1 rest) (append-nil (last (slice_index level.sinks s) (full level q given link.tail link.head start))))))
      (λ (e : is_into_sink s link ≡ false).
      let rest : how_many (is_into_sink s) links ≤ 1 = let m = rw e at once in omega arith in
      rw e (sink-keeps s (l + 1) links starts fits.1 rest ∙ sym (arrives-more l link links start starts (node.Sink s) 0 ∙ rw (here, e) refl)))
      (cases_Bool (is_into_sink s link))

  sinks-keep : (starts : List (List T)) (t : ℕ) (sinks : List ℕ) → AllFit level q given 0 level.links starts → ((s : ℕ) → how_many (is_into_sink s) level.links ≤ 1) → ((i : ℕ) → slice_index sinks i ≡ slice_index level.sinks (t + i)) →
      kept_at t sinks level.links (lines_of given.made counts level.links starts) ≡ at_sinks (wires level q) (ranges_on level q given 0 level.links starts) t sinks
  sinks-keep starts t [] fits once at = refl
  sinks-keep starts t (r ∷ sinks) fits once at =
      let e : t + 0 ≡ t = omega arith in
      let rate : r ≡ slice_index level.sinks t = let a = at 0 in let f = rw e at a in f in
      let later = sinks-keep starts (t + 1) sinks fits once (λ i. let a = at (suc i) in let f : t + suc i ≡ (t + 1) + i = omega arith in rw f at a) in
      rw (later, rate, sink-keeps t 0 level.links starts fits (once t)) refl

  -- the ends
  ends-past : (x l : ℕ) (links : List Link) (starts : List (List T)) → AllFit level q given l links starts → x < l → arrives_at (wires_from level q l links) (ranges_on level q given l links starts) (node.End x) 0 ≡ []
  ends-past x l [] starts fits past = refl
  ends-past x l (link ∷ links) [] fits past = absurd fits
  ends-past x l (link ∷ links) (start ∷ starts) fits past =
      arrives-more l link links start starts (node.End x) 0 ∙ rw (link-end level q given l link.tail link.head link.delay start fits.0 x, ne_eqb x l (λ e. omega arith)) (ends-past x (l + 1) links starts fits.1 (omega arith))

  end_line : (l : ℕ) (t : Tail) (h : Head) (d : ℕ) (start : List T) → FitsAt level q given l t h d start → left_on q t h (line_of given.made counts t start) ≡ left_on q t h (full level q given t h start)
  end_line l (tail.Source x) h d start fits = refl
  end_line l (tail.Port a p r) h d start fits = refl

  ends-left : (all : List Wire) (on : List (List T)) (l : ℕ) (links : List Link) (starts : List (List T)) → AllFit level q given l links starts → ((x : ℕ) → l ≤ x → arrives_at all on (node.End x) 0 ≡ arrives_at (wires_from level q l links) (ranges_on level q given l links starts) (node.End x) 0) →
      left_of q links (lines_of given.made counts links starts) ≡ at_ends all on l links
  ends-left all on l [] starts fits same = refl
  ends-left all on l (link ∷ links) [] fits same = absurd fits
  ends-left all on l (link ∷ links) (start ∷ starts) fits same =
      let here : arrives_at all on (node.End l) 0 ≡ left_on q link.tail link.head (full level q given link.tail link.head start) =
      same l (omega arith) ∙ arrives-more l link links start starts (node.End l) 0 ∙ rw (link-end level q given l link.tail link.head link.delay start fits.0 l, eq-eqb l l refl, ends-past l (l + 1) links starts fits.1 (omega arith)) (append-nil (left_on q link.tail link.head (full level q given link.tail link.head start))) in
      let later = ends-left all on (l + 1) links starts fits.1 (λ x h. same x (omega arith) ∙ arrives-more l link links start starts (node.End x) 0 ∙ rw (link-end level q given l link.tail link.head link.delay start fits.0 x, ne_eqb x l (λ e. omega arith)) refl) in
      rw (later, end_line l link.tail link.head link.delay start fits.0, here) refl

  -- so queues feed what arrives, over any edges at which this arrives
  module _ (sound : IsLevel level) (fits : AllFit level q given 0 level.links given.delays) (all : List Wire) (on : List (List T))
      (same : (n : Node) (port : ℕ) → arrives_at (wires level q) (ranges_on level q given 0 level.links given.delays) n port ≡ arrives_at all on n port) where
    arrivals-same : (n : Node) (ports : ℕ) → arrivals (wires level q) (ranges_on level q given 0 level.links given.delays) n ports ≡ arrivals all on n ports
    arrivals-same n zero = refl
    arrivals-same n (suc port) = rw (arrivals-same n port, same n port) refl

    sinks-same : (t : ℕ) (sinks : List ℕ) → at_sinks (wires level q) (ranges_on level q given 0 level.links given.delays) t sinks ≡ at_sinks all on t sinks
    sinks-same t [] = refl
    sinks-same t (r ∷ sinks) = rw (sinks-same (t + 1) sinks, same (node.Sink t) 0) refl

    ends-same : (l : ℕ) (links : List Link) → at_ends (wires level q) (ranges_on level q given 0 level.links given.delays) l links ≡ at_ends all on l links
    ends-same l [] = refl
    ends-same l (link ∷ links) = rw (ends-same (l + 1) links, same (node.End l) 0) refl

    fed : (before rest : List ℕ) → ((a : ℕ) → firings a before + firings a rest ≤ slice_index q a) → EachFiring (CanFire level) before rest → EachFiring (λ at b. reads_after level given.sources given.delays given.made at b ≡ at_firing level all on b (firings b at)) before rest
    fed before [] within each = tt
    fed before (b ∷ rest) within each =
        let k : ℕ = firings b before in
        let one_more : firings b (b ∷ rest) ≡ 1 + firings b rest = firings-own b rest in
        let left : k < slice_index q b = let w = within b in omega arith in (
          all-reads b k left (λ a. firings a before) refl (λ a. let w = within a in omega arith) level.links given.delays 0 (how_many (is_into_actor b) level.links) fits each.0 (λ port. sound.inputs_once b port)
              ∙ arrivals-same (node.Firing b k) (how_many (is_into_actor b) level.links),
          fed (before ++ b ∷ []) rest (λ a. let w = within a in let m = firings-moved a b before rest in omega arith) each.1,
        )

    -- a sink that isn't there has no link
    not_there : (s : ℕ) (links : List Link) → length level.sinks ≤ s → AllByRecursion (λ link. HeadIsThere level link.head) links → how_many (is_into_sink s) links ≡ 0
    not_there s [] past there = refl
    not_there s (link ∷ links) past there = let e = one link.head there.0 in rw e (let none = not_there s links past there.1 in omega arith)
      where
        one : (h : Head) → HeadIsThere level h → is_into_sink s record { tail = link.tail; head = h; delay = link.delay } ≡ false
        one (head.Sink t) there = ne_eqb t s (λ e. omega arith)
        one (head.Port b j c) there = refl

    sinks_once : (s : ℕ) → how_many (is_into_sink s) level.links ≤ 1
    sinks_once s = ⊎_elim
        (λ (lt : s < length level.sinks). let e = sound.sinks_at_one s lt in omega arith)
        (λ (ge : length level.sinks ≤ s). let e = not_there s level.links ge sound.heads_there in omega arith)
        (cases_lt s (length level.sinks))

    pub feeds : (list : List ℕ) → IsAdmissible level q list → Delivers level q given all on list
    feeds list admissible =
        let at_end : lines_after level given.delays given.made list ≡ lines_of given.made counts level.links given.delays = lines_same given.made given.made (λ a. firings a list) counts level.links given.delays (λ a. admissible.counts a) (λ a j h. refl) in
        record {
          firings = fed [] list (λ a. let c = admissible.counts a in omega arith) admissible.each;
          ends = ap (end_of level q) at_end
              ∙ rw (← sinks-same 0 level.sinks, ← ends-same 0 level.links, sinks-keep given.delays 0 level.sinks fits sinks_once (λ i. ap (slice_index level.sinks) (omega arith)), ends-left (wires level q) (ranges_on level q given 0 level.links given.delays) 0 level.links given.delays fits (λ x h. refl)) refl;
        }
