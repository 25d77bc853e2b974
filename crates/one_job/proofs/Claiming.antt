-- What a claim keeps.
use Rattle.std.proofs.Common.{◌≡◌, ℕ, zero, suc, ℤ, ◌+◌, ◌<◌, ◌≤◌, ◌⊎◌, inl, inr, ⊎_elim, List, [], ◌∷◌, length, set, get_or, sym, ap, ◌∙◌, subst, arith}
use Rattle.std.specs.Prelude.{◌≢◌, Option, Some, None, slice_index_or}
use Rattle.std.proofs.lemmas.Bool.{cases_eq}
use Rattle.sdf_level.specs.declared.single_rate.Edge.{Edge}
use Rattle.split_block.specs.Places.{Place}
use Rattle.kernel_gate.specs.Value.{Places}
use Rattle.job_flow.specs.Frames.{given as flow_given}
use Rattle.one_job.specs.Marks.{Mark, Claimed, IsClaimed, IsFinished, IsFailed, phase, value_of}
use Rattle.one_job.specs.Places.{edge_at, buffer_at}
use Rattle.one_job.specs.Live.{InOrder, IsFull, IsLent, AreOut, HoldFull}
use Rattle.one_job.specs.Ports.{EachEnters, EachLeaves}
use Rattle.one_job.specs.Taking.{Layout, CanTake, taken}
use Rattle.one_job.proofs.Phases.{mark_elsewhere, phase_there, phase_elsewhere, claimed_not_free, claimed_not_finished, free_not_finished, free_not_failed, free_not_claimed}
use Rattle.one_job.proofs.Order.{IsLaid, buffer_within, live_apart, lent_live, CanClaim, claim_keeps_order}
use Rattle.one_job.proofs.Outs.{AreOut-same}
use Rattle.one_job.proofs.Lending.{In, NotIn, NotIn-cases, Fresh, EachEdge, EachEdge-in, EachEdge-weaker, AreActive, Takes, takes}

-- ---- ports

-- the edge has this end
abbrev pub Enters : List Edge → ℕ → ℕ → Type 0
Enters edges n e = (e < length edges) × ((edge_at edges e).head ≡ n)

abbrev pub Leaves : List Edge → ℕ → ℕ → Type 0
Leaves edges n e = (e < length edges) × ((edge_at edges e).tail ≡ n)

pub enters_each : (edges : List Edge) (n p : ℕ) (ports : List (Option ℕ)) → EachEnters edges n p ports → EachEdge (Enters edges n) ports
enters_each edges n p [] each = tt
enters_each edges n p (None ∷ ports) each = enters_each edges n (p + 1) ports each
enters_each edges n p (Some e ∷ ports) each = ((each.0, each.1), enters_each edges n (p + 1) ports each.3)

pub leaves_each : (edges : List Edge) (n p : ℕ) (ports : List (Option ℕ)) → EachLeaves edges n p ports → EachEdge (Leaves edges n) ports
leaves_each edges n p [] each = tt
leaves_each edges n p (None ∷ ports) each = leaves_each edges n (p + 1) ports each
leaves_each edges n p (Some e ∷ ports) each = ((each.0, each.1), leaves_each edges n (p + 1) ports each.3)

-- an edge at an earlier port stands at none of these
enters_later : (edges : List Edge) (n p e : ℕ) (ports : List (Option ℕ)) → (edge_at edges e).head_port < p → EachEnters edges n p ports → NotIn e ports
enters_later edges n p e [] before each = tt
enters_later edges n p e (None ∷ ports) before each = enters_later edges n (p + 1) e ports (omega arith) each
enters_later edges n p e (Some f ∷ ports) before each =
    ((λ same. let at : (edge_at edges e).head_port ≡ p = subst (λ g. (edge_at edges g).head_port ≡ p) (sym same) each.2 in let bad : ⊥ = omega arith in bad), enters_later edges n (p + 1) e ports (omega arith) each.3)

leaves_later : (edges : List Edge) (n p e : ℕ) (ports : List (Option ℕ)) → (edge_at edges e).tail_port < p → EachLeaves edges n p ports → NotIn e ports
leaves_later edges n p e [] before each = tt
leaves_later edges n p e (None ∷ ports) before each = leaves_later edges n (p + 1) e ports (omega arith) each
leaves_later edges n p e (Some f ∷ ports) before each =
    ((λ same. let at : (edge_at edges e).tail_port ≡ p = subst (λ g. (edge_at edges g).tail_port ≡ p) (sym same) each.2 in let bad : ⊥ = omega arith in bad), leaves_later edges n (p + 1) e ports (omega arith) each.3)

pub enters_fresh : (edges : List Edge) (n p : ℕ) (ports : List (Option ℕ)) → EachEnters edges n p ports → Fresh ports
enters_fresh edges n p [] each = tt
enters_fresh edges n p (None ∷ ports) each = enters_fresh edges n (p + 1) ports each
enters_fresh edges n p (Some e ∷ ports) each = (let at = each.2 in enters_later edges n (p + 1) e ports (omega arith) each.3, enters_fresh edges n (p + 1) ports each.3)

pub leaves_fresh : (edges : List Edge) (n p : ℕ) (ports : List (Option ℕ)) → EachLeaves edges n p ports → Fresh ports
leaves_fresh edges n p [] each = tt
leaves_fresh edges n p (None ∷ ports) each = leaves_fresh edges n (p + 1) ports each
leaves_fresh edges n p (Some e ∷ ports) each = (let at = each.2 in leaves_later edges n (p + 1) e ports (omega arith) each.3, leaves_fresh edges n (p + 1) ports each.3)

-- an edge at a port stands among them
pub In-at : (ports : List (Option ℕ)) (p e : ℕ) → get_or ports p None ≡ Some e → In e ports
In-at [] p e is = absurd (cc)
In-at (None ∷ ports) zero e is = absurd (cc)
In-at (Some f ∷ ports) zero e is = inl (cc)
In-at (None ∷ ports) (suc p) e is = In-at ports p e is
In-at (Some f ∷ ports) (suc p) e is = inr (In-at ports p e is)

-- an edge among the ports has the node at its end
pub In-enters : (edges : List Edge) (n p e : ℕ) (ports : List (Option ℕ)) → EachEnters edges n p ports → In e ports → Enters edges n e
In-enters edges n p e [] each is = absurd is
In-enters edges n p e (None ∷ ports) each is = In-enters edges n (p + 1) e ports each is
In-enters edges n p e (Some f ∷ ports) each is = ⊎_elim
    (λ (same : e ≡ f). subst (Enters edges n) (sym same) (each.0, each.1))
    (λ (later : In e ports). In-enters edges n (p + 1) e ports each.3 later)
    is

pub In-leaves : (edges : List Edge) (n p e : ℕ) (ports : List (Option ℕ)) → EachLeaves edges n p ports → In e ports → Leaves edges n e
In-leaves edges n p e [] each is = absurd is
In-leaves edges n p e (None ∷ ports) each is = In-leaves edges n (p + 1) e ports each is
In-leaves edges n p e (Some f ∷ ports) each is = ⊎_elim
    (λ (same : e ≡ f). subst (Leaves edges n) (sym same) (each.0, each.1))
    (λ (later : In e ports). In-leaves edges n (p + 1) e ports each.3 later)
    is

-- the ports of a node: all edges that enter or leave it
pub record ArePorts (edges : List Edge) (n : ℕ) (ins outs : List (Option ℕ)) : Type 0 where
  pub enters : EachEnters edges n 0 ins
  pub leaves : EachLeaves edges n 0 outs
  pub heads_at : (e : ℕ) → e < length edges → (edge_at edges e).head ≡ n → get_or ins (edge_at edges e).head_port None ≡ Some e
  pub tails_at : (e : ℕ) → e < length edges → (edge_at edges e).tail ≡ n → get_or outs (edge_at edges e).tail_port None ≡ Some e

pub all_in : (edges : List Edge) (n : ℕ) (ins outs : List (Option ℕ)) → ArePorts edges n ins outs → (e : ℕ) → e < length edges → (edge_at edges e).head ≡ n → In e ins
all_in edges n ins outs ports e inside here = In-at ins (edge_at edges e).head_port e (ports.heads_at e inside here)

pub all_out : (edges : List Edge) (n : ℕ) (ins outs : List (Option ℕ)) → ArePorts edges n ins outs → (e : ℕ) → e < length edges → (edge_at edges e).tail ≡ n → In e outs
all_out edges n ins outs ports e inside here = In-at outs (edge_at edges e).tail_port e (ports.tails_at e inside here)

-- ---- lent edges

-- active are those that are lent
pub lent_active : (edges : List Edge) (offsets : List ℕ) (height : ℕ) (marks : List Mark) → IsLaid edges offsets height → InOrder edges marks → AreActive (buffer_at edges offsets) (length edges) height (IsLent edges marks)
lent_active edges offsets height marks laid order = record {
  some = laid.some;
  within = buffer_within edges offsets height laid;
  apart = λ e f e_in f_in differ one other. live_apart edges offsets height laid marks order e f e_in f_in differ (lent_live edges marks order e e_in one) (lent_live edges marks order f f_in other);
}

module _ (edges : List Edge) (offsets : List ℕ) (height : ℕ) (laid : IsLaid edges offsets height) (marks : List Mark) (order : InOrder edges marks) (n : ℕ) (can : CanClaim edges marks n) (places : Places) (ins outs : List (Option ℕ)) (ports : ArePorts edges n ins outs) where
  abbrev later : List Mark
  later = set marks n (Claimed places)

  abbrev place : Layout
  place = buffer_at edges offsets

  now_claimed : phase later n ≡ IsClaimed
  now_claimed = phase_there marks n (Claimed places) can.there

  other_phase : (v : ℕ) → v ≢ n → phase later v ≡ phase marks v
  other_phase v differs = phase_elsewhere marks n v (Claimed places) differs

  -- a node that was claimed is another one
  claimed_other : (v : ℕ) → phase marks v ≡ IsClaimed → v ≢ n
  claimed_other v is same = free_not_claimed (phase marks n) can.free (subst (λ u. phase marks u ≡ IsClaimed) same is)

  finished_other : (v : ℕ) → phase marks v ≡ IsFinished → v ≢ n
  finished_other v is same = free_not_finished (phase marks n) can.free (subst (λ u. phase marks u ≡ IsFinished) same is)

  pub lent_later : (e : ℕ) → IsLent edges marks e → IsLent edges later e
  lent_later e lent = ⊎_elim
      (λ (t : phase marks (edge_at edges e).tail ≡ IsClaimed). inl (other_phase (edge_at edges e).tail (claimed_other (edge_at edges e).tail t) ∙ t))
      (λ (h : phase marks (edge_at edges e).head ≡ IsClaimed). inr (other_phase (edge_at edges e).head (claimed_other (edge_at edges e).head h) ∙ h))
      lent

  -- no buffer of the node is lent yet
  head_not_lent : (e : ℕ) → e < length edges → (edge_at edges e).head ≡ n → IsLent edges marks e → ⊥
  head_not_lent e inside here lent = ⊎_elim
      (λ (t : phase marks (edge_at edges e).tail ≡ IsClaimed). claimed_not_finished (phase marks (edge_at edges e).tail) t (can.before e inside here))
      (λ (h : phase marks (edge_at edges e).head ≡ IsClaimed). claimed_other (edge_at edges e).head h here)
      lent

  tail_not_lent : (e : ℕ) → e < length edges → (edge_at edges e).tail ≡ n → IsLent edges marks e → ⊥
  tail_not_lent e inside here lent = ⊎_elim
      (λ (t : phase marks (edge_at edges e).tail ≡ IsClaimed). claimed_other (edge_at edges e).tail t here)
      (λ (h : phase marks (edge_at edges e).head ≡ IsClaimed). finished_other (edge_at edges e).tail (order e inside (claimed_not_free (phase marks (edge_at edges e).head) h)) here)
      lent

  order_later : InOrder edges later
  order_later = claim_keeps_order edges marks order n (Claimed places) can

  abbrev Active : ℕ → Type 0
  Active e = (e < length edges) × IsLent edges later e

  ins_active : EachEdge Active ins
  ins_active = EachEdge-weaker (Enters edges n) Active (λ e is. (is.0, inr (subst (λ v. phase later v ≡ IsClaimed) (sym is.1) now_claimed))) ins (enters_each edges n 0 ins ports.enters)

  outs_active : EachEdge Active outs
  outs_active = EachEdge-weaker (Leaves edges n) Active (λ e is. (is.0, inl (subst (λ v. phase later v ≡ IsClaimed) (sym is.1) now_claimed))) outs (leaves_each edges n 0 outs ports.leaves)

  not_in : (P : ℕ → Type 0) (list : List (Option ℕ)) (e : ℕ) → (In e list → ⊥) → NotIn e list
  not_in P list e never = ⊎_elim (λ (not : NotIn e list). not) (λ (is : In e list). absurd (never is)) (NotIn-cases e list)

  module _ (most : ℕ) (few : height ≤ most) (out : List Place) (out_are : AreOut place (length edges) (IsLent edges marks) out) where
    pub record Claims : Type 0 where
      pub ins_can : CanTake place (length edges) height most ins out
      pub outs_can : CanTake place (length edges) height most outs (taken place ins out)
      pub after : AreOut place (length edges) (IsLent edges later) (taken place outs (taken place ins out))

    first : Takes place (length edges) height most (IsLent edges later) (lent_active edges offsets height later laid order_later) few ins (IsLent edges marks) out
    first = takes place (length edges) height most (IsLent edges later) (lent_active edges offsets height later laid order_later) few ins (IsLent edges marks) out out_are
        (λ f inside lent. lent_later f lent)
        (λ f inside lent. not_in (IsLent edges marks) ins f (λ is. head_not_lent f inside (In-enters edges n 0 f ins ports.enters is).1 lent))
        (enters_fresh edges n 0 ins ports.enters) ins_active

    abbrev Middle : ℕ → Type 0
    Middle e = IsLent edges marks e ⊎ In e ins

    middle_lent : (f : ℕ) → Middle f → IsLent edges later f
    middle_lent f is = ⊎_elim (λ (old : IsLent edges marks f). lent_later f old) (λ (new : In f ins). (EachEdge-in Active ins f ins_active new).1) is

    second : Takes place (length edges) height most (IsLent edges later) (lent_active edges offsets height later laid order_later) few outs Middle (taken place ins out)
    second = takes place (length edges) height most (IsLent edges later) (lent_active edges offsets height later laid order_later) few outs Middle (taken place ins out) first.after
        (λ f inside is. middle_lent f is)
        (λ f inside is. not_in (IsLent edges marks) outs f (λ leaves.
        let tail_here = (In-leaves edges n 0 f outs ports.leaves leaves).1 in
        ⊎_elim
        (λ (old : IsLent edges marks f). tail_not_lent f inside tail_here old)
        (λ (new : In f ins). finished_other (edge_at edges f).tail (can.before f inside (In-enters edges n 0 f ins ports.enters new).1) tail_here)
        is))
        (leaves_fresh edges n 0 outs ports.leaves) outs_active

    -- what is lent then was lent before, or is the node's
    from_later : (e : ℕ) → e < length edges → IsLent edges later e → Middle e ⊎ In e outs
    from_later e inside lent = ⊎_elim
        (λ (here : (edge_at edges e).head ≡ n). inl (inr (all_in edges n ins outs ports e inside here)))
        (λ (no_head : (edge_at edges e).head ≡ n → ⊥). ⊎_elim
        (λ (here : (edge_at edges e).tail ≡ n). inr (all_out edges n ins outs ports e inside here))
        (λ (no_tail : (edge_at edges e).tail ≡ n → ⊥). inl (inl (⊎_elim
        (λ (t : phase later (edge_at edges e).tail ≡ IsClaimed). inl (sym (other_phase (edge_at edges e).tail no_tail) ∙ t))
        (λ (h : phase later (edge_at edges e).head ≡ IsClaimed). inr (sym (other_phase (edge_at edges e).head no_head) ∙ h))
        lent)))
        (cases_eq (edge_at edges e).tail n))
        (cases_eq (edge_at edges e).head n)

    pub claims : Claims
    claims = record {
      ins_can = first.can;
      outs_can = second.can;
      after = AreOut-same place (length edges) (λ e. Middle e ⊎ In e outs) (taken place outs (taken place ins out)) second.after (IsLent edges later)
          (λ e inside is. ⊎_elim (λ (m : Middle e). middle_lent e m) (λ (o : In e outs). (EachEdge-in Active outs e outs_active o).1) is)
          from_later;
    }

  -- full buffers hold what they held
  pub claim_keeps_full : (cells : List ℤ) → HoldFull edges offsets marks cells → HoldFull edges offsets later cells
  claim_keeps_full cells full e inside is =
      let tail_other : (edge_at edges e).tail ≢ n = λ same. claimed_not_finished (phase later n) now_claimed (subst (λ v. phase later v ≡ IsFinished) same is.given) in
      full e inside (record {
        given = sym (other_phase (edge_at edges e).tail tail_other) ∙ is.given;
        unfinished = λ done. is.unfinished (other_phase (edge_at edges e).head (finished_other (edge_at edges e).head done) ∙ done);
        unfailed = λ failed. is.unfailed (other_phase (edge_at edges e).head (λ same. free_not_failed (phase marks n) can.free (subst (λ v. phase marks v ≡ IsFailed) same failed)) ∙ failed);
      }) ∙ ap (λ (m : Mark). slice_index_or (flow_given (value_of m)) (edge_at edges e).tail_port []) (sym (mark_elsewhere marks n (edge_at edges e).tail (Claimed places) tail_other))

  -- the inputs of the node are full before its claim
  pub entering_full : (e : ℕ) → e < length edges → (edge_at edges e).head ≡ n → IsFull edges marks e
  entering_full e inside here = record {
    given = can.before e inside here;
    unfinished = λ done. finished_other (edge_at edges e).head done here;
    unfailed = λ failed. free_not_failed (phase marks n) can.free (subst (λ v. phase marks v ≡ IsFailed) here failed);
  }
