-- What a finish keeps.
use Rattle.std.proofs.Common.{◌≡◌, ℕ, zero, suc, ℤ, ◌<◌, ◌⊎◌, inl, inr, ⊎_elim, List, [], ◌∷◌, length, map, set, get_or, refl, sym, ap, ◌∙◌, subst, arith}
use Rattle.std.specs.Prelude.{◌≢◌, Option, Some, None, slice_index_or}
use Rattle.std.proofs.lemmas.Bool.{cases_eq}
use Rattle.sdf_level.specs.declared.single_rate.Edge.{Edge}
use Rattle.split_block.specs.Places.{Apart, window}
use Rattle.split_block.specs.View.{Block, LeaseView, lease_place, cells_of}
use Rattle.cell_pool.specs.View.{PoolView}
use Rattle.job_flow.specs.Frames.{given as flow_given}
use Rattle.one_job.specs.Marks.{Mark, Free, Claimed, Finished, Failed, mark_at, IsFree, IsClaimed, IsFinished, IsFailed, phase, phase_of, value_of}
use Rattle.one_job.specs.Places.{edge_at, buffer_at}
use Rattle.one_job.specs.Live.{InOrder, IsFull, IsLent, AreOut, HoldFull}
use Rattle.one_job.specs.Ports.{EachLies}
use Rattle.one_job.specs.Taking.{Layout, AreDue, with_leases}
use Rattle.one_job.proofs.Phases.{inside_of, mark_there, mark_elsewhere, phase_there, phase_elsewhere, claimed_not_free, claimed_not_finished}
use Rattle.one_job.proofs.Order.{IsLaid, buffer_within, live_apart, lent_live, full_live}
use Rattle.one_job.proofs.Outs.{AreOut-same}
use Rattle.one_job.proofs.Lending.{In, NotIn, NotIn-cases, NotIn-In, EachEdge, EachEdge-weaker, AreActive, EachWritten, Gives, gives}
use Rattle.one_job.proofs.Claiming.{Enters, Leaves, enters_each, leaves_each, enters_fresh, leaves_fresh, In-enters, In-leaves, ArePorts, all_in, all_out, lent_active}

-- at a port the cells hold what the lease held
pub EachWritten-at : (place : Layout) (cells : List ℤ) (ports : List (Option ℕ)) (leases : List LeaseView) (p e : ℕ) → length leases ≡ length ports → EachWritten place cells ports leases → get_or ports p None ≡ Some e → window (place e).start (place e).len cells ≡ slice_index_or (map cells_of leases) p []
EachWritten-at place cells [] leases p e long each is = absurd (cc)
EachWritten-at place cells (port ∷ ports) [] p e long each is = absurd (let bad : ⊥ = omega arith in bad)
EachWritten-at place cells (None ∷ ports) (lease ∷ leases) zero e long each is = absurd (cc)
EachWritten-at place cells (Some f ∷ ports) (lease ∷ leases) zero e long each is = let same : f ≡ e = cc in subst (λ g. window (place g).start (place g).len cells ≡ lease.cells) same each.0
EachWritten-at place cells (None ∷ ports) (lease ∷ leases) (suc p) e long each is = EachWritten-at place cells ports leases p e (omega arith) each is
EachWritten-at place cells (Some f ∷ ports) (lease ∷ leases) (suc p) e long each is = EachWritten-at place cells ports leases p e (omega arith) each.1 is

pub EachLies-length : (place : Layout) (block : Block) (ports : List (Option ℕ)) (leases : List LeaseView) → EachLies place block ports (map lease_place leases) → length leases ≡ length ports
EachLies-length place block [] [] each = refl
EachLies-length place block [] (lease ∷ leases) each = absurd each
EachLies-length place block (port ∷ ports) [] each = absurd each
EachLies-length place block (port ∷ ports) (lease ∷ leases) each = omega (arith, EachLies-length place block ports leases each.1)

-- what a node becomes when it is finished
pub record IsEnd (m : Mark) : Type 0 where
  pub not_free : phase_of m ≢ IsFree
  pub not_claimed : phase_of m ≢ IsClaimed

pub end_cases : (m : Mark) → IsEnd m → (phase_of m ≡ IsFinished) ⊎ (phase_of m ≡ IsFailed)
end_cases Free end = absurd (end.not_free refl)
end_cases (Claimed places) end = absurd (end.not_claimed refl)
end_cases (Finished outs) end = inl refl
end_cases (Failed code) end = inr refl

module _ (edges : List Edge) (offsets : List ℕ) (height : ℕ) (laid : IsLaid edges offsets height) (marks : List Mark) (order : InOrder edges marks) (n : ℕ) (running : phase marks n ≡ IsClaimed) (m : Mark) (end : IsEnd m) (ins outs : List (Option ℕ)) (ports : ArePorts edges n ins outs) where
  abbrev later : List Mark
  later = set marks n m

  abbrev place : Layout
  place = buffer_at edges offsets

  inside_n : n < length marks
  inside_n = inside_of marks n (claimed_not_free (phase marks n) running)

  now : phase later n ≡ phase_of m
  now = phase_there marks n m inside_n

  other_phase : (v : ℕ) → v ≢ n → phase later v ≡ phase marks v
  other_phase v differs = phase_elsewhere marks n v m differs

  claimed_later : (v : ℕ) → phase later v ≡ IsClaimed → v ≢ n
  claimed_later v is same = end.not_claimed (sym now ∙ subst (λ u. phase later u ≡ IsClaimed) same is)

  -- no edge leads from the node to itself, or from it to a claimed node
  tail_not_given : (e : ℕ) → e < length edges → (edge_at edges e).tail ≡ n → phase marks (edge_at edges e).head ≢ IsFree → ⊥
  tail_not_given e inside here claimed = claimed_not_finished (phase marks n) running (subst (λ u. phase marks u ≡ IsFinished) here (order e inside claimed))

  -- before the node there is no claimed node
  head_given : (e : ℕ) → e < length edges → (edge_at edges e).head ≡ n → phase marks (edge_at edges e).tail ≡ IsFinished
  head_given e inside here = order e inside (subst (λ u. phase marks u ≢ IsFree) (sym here) (claimed_not_free (phase marks n) running))

  abbrev Own : ℕ → Type 0
  Own e = (e < length edges) × IsLent edges marks e

  ins_lent : EachEdge Own ins
  ins_lent = EachEdge-weaker (Enters edges n) Own (λ e is. (is.0, inr (subst (λ v. phase marks v ≡ IsClaimed) (sym is.1) running))) ins (enters_each edges n 0 ins ports.enters)

  abbrev Left : ℕ → Type 0
  Left e = IsLent edges marks e × NotIn e ins

  outs_left : EachEdge (λ e. (e < length edges) × Left e) outs
  outs_left = EachEdge-weaker (Leaves edges n) (λ e. (e < length edges) × Left e) (λ e is. (
    is.0,
    (
      inl (subst (λ v. phase marks v ≡ IsClaimed) (sym is.1) running),
      ⊎_elim (λ (not : NotIn e ins). not) (λ (in_ins : In e ins). absurd (tail_not_given e is.0 is.1 (subst (λ u. phase marks u ≢ IsFree) (sym (In-enters edges n 0 e ins ports.enters in_ins).1) (claimed_not_free (phase marks n) running)))) (NotIn-cases e ins),
    ),
  )) outs (leaves_each edges n 0 outs ports.leaves)

  active : AreActive place (length edges) height (IsLent edges marks)
  active = lent_active edges offsets height marks laid order

  active_left : AreActive place (length edges) height Left
  active_left = record { some = active.some; within = active.within; apart = λ e f e_in f_in differ one other. active.apart e f e_in f_in differ one.0 other.0 }

  module _ (pool : PoolView) (block : Block) (block_is : pool.block ≡ block) (long : length pool.cells ≡ height) (out_are : AreOut place (length edges) (IsLent edges marks) pool.out)
      (in_leases out_leases : List LeaseView) (ins_lie : EachLies place block ins (map lease_place in_leases)) (outs_lie : EachLies place block outs (map lease_place out_leases)) where
    abbrev middle : PoolView
    middle = with_leases in_leases pool

    abbrev last : PoolView
    last = with_leases out_leases middle

    first : Gives place (length edges) height (IsLent edges marks) active pool block block_is long out_are ins in_leases
    first = gives place (length edges) height (IsLent edges marks) active pool block block_is long out_are ins in_leases ins_lie (enters_fresh edges n 0 ins ports.enters) ins_lent

    second : Gives place (length edges) height Left active_left middle block (first.back.block ∙ block_is) (first.back.long ∙ long) first.back.out outs out_leases
    second = gives place (length edges) height Left active_left middle block (first.back.block ∙ block_is) (first.back.long ∙ long) first.back.out outs out_leases outs_lie (leaves_fresh edges n 0 outs ports.leaves) outs_left

    not_ended : (e : ℕ) → e < length edges → IsLent edges later e → (edge_at edges e).head ≢ n
    not_ended e inside lent same = ⊎_elim
        (λ (t : phase later (edge_at edges e).tail ≡ IsClaimed).
        let before = sym (other_phase (edge_at edges e).tail (claimed_later (edge_at edges e).tail t)) ∙ t in
        claimed_not_finished (phase marks (edge_at edges e).tail) before (head_given e inside same))
        (λ (h : phase later (edge_at edges e).head ≡ IsClaimed). claimed_later (edge_at edges e).head h same)
        lent

    not_begun : (e : ℕ) → e < length edges → IsLent edges later e → (edge_at edges e).tail ≢ n
    not_begun e inside lent same = ⊎_elim
        (λ (t : phase later (edge_at edges e).tail ≡ IsClaimed). claimed_later (edge_at edges e).tail t same)
        (λ (h : phase later (edge_at edges e).head ≡ IsClaimed).
        let before = sym (other_phase (edge_at edges e).head (claimed_later (edge_at edges e).head h)) ∙ h in
        tail_not_given e inside same (claimed_not_free (phase marks (edge_at edges e).head) before))
        lent

    still_lent : (e : ℕ) → e < length edges → IsLent edges later e → Left e × NotIn e outs
    still_lent e inside lent =
        let old : IsLent edges marks e = ⊎_elim
        (λ (t : phase later (edge_at edges e).tail ≡ IsClaimed). inl (sym (other_phase (edge_at edges e).tail (claimed_later (edge_at edges e).tail t)) ∙ t))
        (λ (h : phase later (edge_at edges e).head ≡ IsClaimed). inr (sym (other_phase (edge_at edges e).head (claimed_later (edge_at edges e).head h)) ∙ h))
        lent in
        let not_ins : NotIn e ins = ⊎_elim (λ (not : NotIn e ins). not) (λ (is : In e ins). absurd (not_ended e inside lent (In-enters edges n 0 e ins ports.enters is).1)) (NotIn-cases e ins) in
        let not_outs : NotIn e outs = ⊎_elim (λ (not : NotIn e outs). not) (λ (is : In e outs). absurd (not_begun e inside lent (In-leaves edges n 0 e outs ports.leaves is).1)) (NotIn-cases e outs) in
        ((old, not_ins), not_outs)

    lent_still : (e : ℕ) → e < length edges → Left e × NotIn e outs → IsLent edges later e
    lent_still e inside is =
        let head_other : (edge_at edges e).head ≢ n = λ same. NotIn-In e ins is.0.1 (all_in edges n ins outs ports e inside same) in
        let tail_other : (edge_at edges e).tail ≢ n = λ same. NotIn-In e outs is.1 (all_out edges n ins outs ports e inside same) in
        ⊎_elim
        (λ (t : phase marks (edge_at edges e).tail ≡ IsClaimed). inl (other_phase (edge_at edges e).tail tail_other ∙ t))
        (λ (h : phase marks (edge_at edges e).head ≡ IsClaimed). inr (other_phase (edge_at edges e).head head_other ∙ h))
        is.0.0

    -- a full buffer of other nodes is apart from those that come back
    full_apart : (e : ℕ) → e < length edges → IsFull edges marks e → (edge_at edges e).head ≢ n → (edge_at edges e).tail ≢ n → (list : List (Option ℕ)) → EachEdge Own list → EachEdge (λ f. ((edge_at edges f).head ≡ n) ⊎ ((edge_at edges f).tail ≡ n)) list → EachEdge (λ f. Apart (place e) (place f)) list
    full_apart e inside full no_head no_tail [] own ends = tt
    full_apart e inside full no_head no_tail (None ∷ list) own ends = full_apart e inside full no_head no_tail list own ends
    full_apart e inside full no_head no_tail (Some f ∷ list) own ends = (
      live_apart edges offsets height laid marks order e f inside own.0.0
          (λ same. ⊎_elim (λ (h : (edge_at edges f).head ≡ n). no_head (subst (λ g. (edge_at edges g).head ≡ n) (sym same) h)) (λ (t : (edge_at edges f).tail ≡ n). no_tail (subst (λ g. (edge_at edges g).tail ≡ n) (sym same) t)) ends.0)
          (full_live edges marks order e full) (lent_live edges marks order f own.0.0 own.0.1),
      full_apart e inside full no_head no_tail list own.1 ends.1,
    )

    keeps_full : HoldFull edges offsets marks pool.cells → ((tokens : List (List ℤ)) → m ≡ Finished tokens → (e : ℕ) → e < length edges → (edge_at edges e).tail ≡ n → slice_index_or tokens (edge_at edges e).tail_port [] ≡ slice_index_or (map cells_of out_leases) (edge_at edges e).tail_port []) → HoldFull edges offsets later last.cells
    keeps_full full given e inside is =
        let no_head : (edge_at edges e).head ≢ n = λ same. ⊎_elim
        (λ (done : phase_of m ≡ IsFinished). is.unfinished (subst (λ u. phase later u ≡ IsFinished) (sym same) (now ∙ done)))
        (λ (failed : phase_of m ≡ IsFailed). is.unfailed (subst (λ u. phase later u ≡ IsFailed) (sym same) (now ∙ failed)))
        (end_cases m end) in
        ⊎_elim
        (λ (here : (edge_at edges e).tail ≡ n). own_full m refl full given e inside is here)
        (λ (no_tail : (edge_at edges e).tail ≡ n → ⊥).
        let before : IsFull edges marks e = record {
          given = sym (other_phase (edge_at edges e).tail no_tail) ∙ is.given;
          unfinished = λ done. is.unfinished (other_phase (edge_at edges e).head no_head ∙ done);
          unfailed = λ failed. is.unfailed (other_phase (edge_at edges e).head no_head ∙ failed);
        } in
        let own_outs = EachEdge-weaker (λ f. (f < length edges) × Left f) Own (λ f l. (l.0, l.1.0)) outs outs_left in
        let within = buffer_within edges offsets height laid e inside in
        second.back.kept (place e) (omega (arith, within, first.back.long, long)) (full_apart e inside before no_head no_tail outs own_outs (EachEdge-weaker (Leaves edges n) (λ f. ((edge_at edges f).head ≡ n) ⊎ ((edge_at edges f).tail ≡ n)) (λ f l. inr l.1) outs (leaves_each edges n 0 outs ports.leaves)))
        ∙ (first.back.kept (place e) (omega (arith, within, long)) (full_apart e inside before no_head no_tail ins ins_lent (EachEdge-weaker (Enters edges n) (λ f. ((edge_at edges f).head ≡ n) ⊎ ((edge_at edges f).tail ≡ n)) (λ f l. inl l.1) ins (enters_each edges n 0 ins ports.enters)))
        ∙ (full e inside before ∙ ap (λ (k : Mark). slice_index_or (flow_given (value_of k)) (edge_at edges e).tail_port []) (sym (mark_elsewhere marks n (edge_at edges e).tail m no_tail)))))
        (cases_eq (edge_at edges e).tail n)
      where
        own_full : (k : Mark) → m ≡ k → HoldFull edges offsets marks pool.cells → ((tokens : List (List ℤ)) → m ≡ Finished tokens → (f : ℕ) → f < length edges → (edge_at edges f).tail ≡ n → slice_index_or tokens (edge_at edges f).tail_port [] ≡ slice_index_or (map cells_of out_leases) (edge_at edges f).tail_port []) → (f : ℕ) → f < length edges → IsFull edges later f → (edge_at edges f).tail ≡ n
            → window (place f).start (place f).len last.cells ≡ slice_index_or (flow_given (value_of (mark_at later (edge_at edges f).tail))) (edge_at edges f).tail_port []
        own_full Free same full given f f_in is_full here = absurd (end.not_free (ap phase_of same))
        own_full (Claimed places) same full given f f_in is_full here = absurd (end.not_claimed (ap phase_of same))
        own_full (Failed code) same full given f f_in is_full here =
            let p : phase later n ≡ IsFinished = subst (λ u. phase later u ≡ IsFinished) here is_full.given in
            let q : phase_of m ≡ IsFinished = sym now ∙ p in
            let r : IsFailed ≡ IsFinished = sym (ap phase_of same) ∙ q in
            absurd (cc)
        own_full (Finished tokens) same full given f f_in is_full here =
            EachWritten-at place last.cells outs out_leases (edge_at edges f).tail_port f (EachLies-length place block outs out_leases outs_lie) second.back.written (ports.tails_at f f_in here)
            ∙ (sym (given tokens same f f_in here)
            ∙ ap (λ (k : Mark). slice_index_or (flow_given (value_of k)) (edge_at edges f).tail_port []) (sym same ∙ sym (mark_there marks n m inside_n) ∙ ap (mark_at later) (sym here)))

    pub record Finishes : Type 0 where
      pub ins_due : AreDue in_leases pool
      pub outs_due : AreDue out_leases middle
      pub after : AreOut place (length edges) (IsLent edges later) last.out
      pub same_block : last.block ≡ pool.block
      pub same_most : last.most ≡ pool.most
      pub same_long : length last.cells ≡ length pool.cells

    pub finishes : Finishes
    finishes = record {
      ins_due = first.due;
      outs_due = second.due;
      after = AreOut-same place (length edges) (λ e. Left e × NotIn e outs) last.out second.back.out (IsLent edges later) lent_still still_lent;
      same_block = second.back.block ∙ first.back.block;
      same_most = second.back.most ∙ first.back.most;
      same_long = second.back.long ∙ first.back.long;
    }

    pub finish_keeps_full : HoldFull edges offsets marks pool.cells → ((tokens : List (List ℤ)) → m ≡ Finished tokens → (e : ℕ) → e < length edges → (edge_at edges e).tail ≡ n → slice_index_or tokens (edge_at edges e).tail_port [] ≡ slice_index_or (map cells_of out_leases) (edge_at edges e).tail_port []) → HoldFull edges offsets later last.cells
    finish_keeps_full = keeps_full
