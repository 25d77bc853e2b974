-- A link of a level, whatever stands at its ends.
use Rattle.std.proofs.Common.{◌≡◌, ℕ, ◌+◌, ◌*◌, ◌<◌, ◌≤◌, ◌==◌, ⊎_elim, List, [], ◌++◌, length, slice_index, slice_index_or, if◌then◌else◌, refl, sym, ◌∙◌, arith}
use Rattle.std.proofs.lemmas.Bool.{cases_eq, eq-eqb, ne_eqb}
use Rattle.sdf_level.specs.View.{LevelView}
use Rattle.sdf_level.specs.Invariants.{HasSoundDelay, is_into_port, is_into_sink}
use Rattle.sdf_level.specs.Interfaces.{repeated, last}
use Rattle.sdf_level.specs.LevelRun.{left_on}
use Rattle.sdf_level.specs.Told.{sent}
use Rattle.sdf_level.specs.declared.link.Tail.{Tail}
use Rattle.sdf_level.specs.declared.link.Head.{Head}
use Rattle.sdf_level.specs.declared.link.Tail.TheVariants as tail
use Rattle.sdf_level.specs.declared.link.Head.TheVariants as head
use Rattle.sdf_level.specs.declared.node.Node.TheVariants as node
use Rattle.single_rate.specs.Wires.{wires_at}
use Rattle.single_rate.specs.Flow.{Given, Sends}
use Rattle.single_rate.proofs.Spans.{span}
use Rattle.single_rate.proofs.Picked.{Every, if-same, carried, picked}
use Rattle.single_rate.proofs.Readers.{at_port}
use Rattle.single_rate.proofs.Copied.{Copied, cut_copied}
use Rattle.single_rate.proofs.InnerLink as inner
use Rattle.single_rate.proofs.SourceLink as source
use Rattle.single_rate.proofs.SinkLink as sink

module _ {T : Type 0} (level : LevelView) (q : List ℕ) (given : Given T) where
  -- all tokens that a link ever holds
  abbrev pub full : Tail → Head → List T → List T
  full (tail.Source s) (head.Sink t) start = []
  full (tail.Source s) (head.Port b j c) start = repeated (slice_index_or given.sources s []) 0 (slice_index q b * c)
  full (tail.Port a p r) h start = start ++ sent (given.made a) p (slice_index q a)

  abbrev pub TailFits : Tail → Type 0
  TailFits (tail.Source s) = length (slice_index_or given.sources s []) ≡ slice_index level.sources s
  TailFits (tail.Port a p r) = (i : ℕ) → i < slice_index q a → length (slice_index_or (given.made a i) p []) ≡ r

  abbrev pub EndsFit : Tail → Head → Type 0
  EndsFit (tail.Source s) (head.Sink t) = ⊥
  EndsFit (tail.Source s) (head.Port b j c) = (slice_index level.sources s ≤ slice_index q b * c) × (slice_index level.sources s ≡ 0 → c ≡ 0)
  EndsFit (tail.Port a p r) (head.Sink t) = slice_index level.sinks t ≤ slice_index q a * r
  EndsFit (tail.Port a p r) (head.Port b j c) = slice_index q a * r ≡ slice_index q b * c

  pub record FitsAt (l : ℕ) (t : Tail) (h : Head) (d : ℕ) (start : List T) : Type 0 where
    pub is : slice_index_or given.delays l [] ≡ start
    pub long : length start ≡ d
    pub no_delay : HasSoundDelay t h d
    pub gives : TailFits t
    pub ends : EndsFit t h

  pub link-within : (l : ℕ) (t : Tail) (h : Head) (d : ℕ) (start : List T) → FitsAt l t h d start → Every (λ w. w.place + w.size ≤ length (full t h start)) (wires_at level q l t h d)
  link-within l (tail.Source s) (head.Sink t) d start fits = tt
  link-within l (tail.Source s) (head.Port b j c) d start fits = source.source-within given l s (slice_index level.sources s) b j c (slice_index q b) fits.gives fits.ends.0 fits.ends.1
  link-within l (tail.Port a p r) (head.Sink t) d start fits = sink.sink-within given l a p r (slice_index q a) t (slice_index level.sinks t) start (fits.long ∙ fits.no_delay) fits.gives fits.ends
  link-within l (tail.Port a p r) (head.Port b j c) d start fits = inner.inner-within given l a p r (slice_index q a) b j c (slice_index q b) d start fits.is fits.long fits.gives fits.ends

  pub link-sends : (l : ℕ) (t : Tail) (h : Head) (d : ℕ) (start : List T) → FitsAt l t h d start → Every (λ w. Sends given w.tail.node w.tail.port (carried (full t h start) w)) (wires_at level q l t h d)
  link-sends l (tail.Source s) (head.Sink t) d start fits = tt
  link-sends l (tail.Source s) (head.Port b j c) d start fits = source.source-sends given l s (slice_index level.sources s) b j c (slice_index q b) fits.gives fits.ends.0 fits.ends.1
  link-sends l (tail.Port a p r) (head.Sink t) d start fits = sink.sink-sends given l a p r (slice_index q a) t (slice_index level.sinks t) start (fits.long ∙ fits.no_delay) fits.gives fits.ends
  link-sends l (tail.Port a p r) (head.Port b j c) d start fits = inner.inner-sends given l a p r (slice_index q a) b j c (slice_index q b) d start fits.is fits.long fits.gives fits.ends

  pub link-copied : (l : ℕ) (t : Tail) (h : Head) (d : ℕ) (start : List T) → FitsAt l t h d start → Copied (full t h start) l (wires_at level q l t h d)
  link-copied l (tail.Source s) (head.Sink t) d start fits = absurd (fits.ends)
  link-copied l (tail.Source s) (head.Port b j c) d start fits = source.source-copied given l s (slice_index level.sources s) b j c (slice_index q b) fits.gives fits.ends.0 fits.ends.1
  link-copied l (tail.Port a p r) (head.Sink t) d start fits = sink.sink-copied given l a p r (slice_index q a) t (slice_index level.sinks t) start (fits.long ∙ fits.no_delay) fits.gives fits.ends
  link-copied l (tail.Port a p r) (head.Port b j c) d start fits =
      cut_copied (start ++ sent (given.made a) p (slice_index q a)) l (inner.writers given l a p r (slice_index q a) b j c (slice_index q b) d start fits.is fits.long fits.gives fits.ends) (inner.readers given l a p r (slice_index q a) b j c (slice_index q b) d start fits.is fits.long fits.gives fits.ends)
      (inner.inner-writers given l a p r (slice_index q a) b j c (slice_index q b) d start fits.is fits.long fits.gives fits.ends)
      (inner.inner-readers given l a p r (slice_index q a) b j c (slice_index q b) d start fits.is fits.long fits.gives fits.ends)
      (inner.same_total given l a p r (slice_index q a) b j c (slice_index q b) d start fits.is fits.long fits.gives fits.ends)

  -- what firing k of the head reads of the whole line
  abbrev pub gets : Tail → Head → List T → ℕ → List T
  gets (tail.Source s) (head.Sink t) start k = []
  gets (tail.Source s) (head.Port b j c) start k = repeated (slice_index_or given.sources s []) (k * c) c
  gets (tail.Port a p r) (head.Sink t) start k = []
  gets (tail.Port a p r) (head.Port b j c) start k = span (start ++ sent (given.made a) p (slice_index q a)) (k * c) (k * c + c)

  pub link-firing : (l : ℕ) (t : Tail) (h : Head) (d : ℕ) (start : List T) → FitsAt l t h d start → (b0 port k0 : ℕ) → k0 < slice_index q b0 →
      picked (full t h start) (λ w. at_port (node.Firing b0 k0) port w.head) (wires_at level q l t h d) ≡ (if is_into_port b0 port record { tail = t; head = h; delay = d } then gets t h start k0 else [])
  link-firing l (tail.Source s) (head.Sink t) d start fits b0 port k0 within = refl
  link-firing l (tail.Source s) (head.Port b j c) d start fits b0 port k0 within = source.source-firing given l s (slice_index level.sources s) b j c (slice_index q b) fits.gives fits.ends.0 fits.ends.1 b0 port k0 (λ e. rw e within)
  link-firing l (tail.Port a p r) (head.Sink t) d start fits b0 port k0 within = sink.sink-reads given l a p r (slice_index q a) t (slice_index level.sinks t) start (fits.long ∙ fits.no_delay) fits.gives fits.ends (node.Firing b0 k0) port (omega arith)
  link-firing l (tail.Port a p r) (head.Port b j c) d start fits b0 port k0 within = inner.inner-firing given l a p r (slice_index q a) b j c (slice_index q b) d start fits.is fits.long fits.gives fits.ends b0 port k0 (λ e. rw e within)

  pub link-sink : (l : ℕ) (t : Tail) (h : Head) (d : ℕ) (start : List T) → FitsAt l t h d start → (s0 : ℕ) →
      picked (full t h start) (λ w. at_port (node.Sink s0) 0 w.head) (wires_at level q l t h d) ≡ (if is_into_sink s0 record { tail = t; head = h; delay = d } then last (slice_index level.sinks s0) (full t h start) else [])
  link-sink l (tail.Source s) (head.Sink t) d start fits s0 = absurd (fits.ends)
  link-sink l (tail.Source s) (head.Port b j c) d start fits s0 = source.source-other given l s (slice_index level.sources s) b j c (slice_index q b) fits.gives fits.ends.0 fits.ends.1 (node.Sink s0) (omega arith) (λ i. refl)
  link-sink l (tail.Port a p r) (head.Sink t) d start fits s0 =
      sink.sink-reads given l a p r (slice_index q a) t (slice_index level.sinks t) start (fits.long ∙ fits.no_delay) fits.gives fits.ends (node.Sink s0) 0 (omega arith)
      ∙ ⊎_elim
      (λ (e : t ≡ s0). rw (eq-eqb t s0 e, eq-eqb s0 t (sym e), e) refl)
      (λ (n : t ≡ s0 → ⊥). rw (ne_eqb t s0 n, ne_eqb s0 t (λ e. n (sym e))) refl)
      (cases_eq t s0)
  link-sink l (tail.Port a p r) (head.Port b j c) d start fits s0 = inner.inner-sink given l a p r (slice_index q a) b j c (slice_index q b) d start fits.is fits.long fits.gives fits.ends s0

  pub link-end : (l : ℕ) (t : Tail) (h : Head) (d : ℕ) (start : List T) → FitsAt l t h d start → (l0 : ℕ) →
      picked (full t h start) (λ w. at_port (node.End l0) 0 w.head) (wires_at level q l t h d) ≡ (if l0 == l then left_on q t h (full t h start) else [])
  link-end l (tail.Source s) (head.Sink t) d start fits l0 = absurd (fits.ends)
  link-end l (tail.Source s) (head.Port b j c) d start fits l0 = source.source-other given l s (slice_index level.sources s) b j c (slice_index q b) fits.gives fits.ends.0 fits.ends.1 (node.End l0) (omega arith) (λ i. refl) ∙ sym (if-same (l0 == l) [])
  link-end l (tail.Port a p r) (head.Sink t) d start fits l0 = sink.sink-reads given l a p r (slice_index q a) t (slice_index level.sinks t) start (fits.long ∙ fits.no_delay) fits.gives fits.ends (node.End l0) 0 (omega arith) ∙ sym (if-same (l0 == l) [])
  link-end l (tail.Port a p r) (head.Port b j c) d start fits l0 = inner.inner-end given l a p r (slice_index q a) b j c (slice_index q b) d start fits.is fits.long fits.gives fits.ends l0
