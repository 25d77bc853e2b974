use Rattle.std.proofs.Common.{◌≡◌, ℕ, ◌+◌, ◌-◌, ◌<◌, ◌≤◌, List, length, set, get_or, refl, sym, ◌∙◌, subst}
use Rattle.std.specs.Prelude.{Vec, slice_index, vec_capacity}
use Rattle.std.specs.Global.{Global}
use Rattle.std.proofs.lemmas.List.{get_or_default}
use Rattle.std.proofs.lemmas.List.Elements.{All-get_or}
use Rattle.sdf_level.specs.declared.single_rate.Edge.{Edge}
use Rattle.audit_job.specs.Candidates.{Adds, IsReleased, waiting_in}
use Rattle.audit_job.proofs.AddedSoFar.{none_released, released_more}
use Rattle.audit_job.proofs.EdgeRows.{no_edge}
use Rattle.audit_job.proofs.ReleasedEdges.{IsBetween, passed, released_one}
use Rattle.audit_job.proofs.wires.release.Goals as goal
use Rattle.audit_job.proofs.wires.release.Goals.{then-edge-node, else-edge-node}

pub loop-edge-init : goal.loop-edge-init
loop-edge-init c = record {
  each = λ n below. refl;
  enough = c.requires.enough;
  added = none_released c.args.first (length c.args.waits.now) c.args.waits.now c.args.candidates.now;
  room = c.requires.room;
}

pub loop-edge-preserved : goal.loop-edge-preserved
loop-edge-preserved c =
    let edges = c.args.edges.now in
    let node = c.args.node in
    let before = c.args.waits.now in
    let i = c.loop-edge.edge-index in
    let waits = c.loop-edge.waits in
    let e : Edge = get_or edges i no_edge in
    let inside = c.loop-edge-test.true in
    let is : get_or edges i e ≡ e = get_or_default edges i e no_edge inside in
    let inv = c.loop-edge.invariant in
    let so_far : IsBetween edges node before i waits = record { each = inv.each; enough = inv.enough } in
    let long : length waits ≡ length before = c.loop-edge.auto.waits in
    elim c.if-edge-node.branch [
      | then-edge-node w ↦
          let there : e.head < length before = All-get_or (λ (x : Edge). x.head < length before) edges i no_edge inside c.requires.there in
          let waits_are : c.if-edge-node.waits ≡ set waits e.head (slice_index waits e.head - 1) = w.waits-is ∙ w.release_one.ensures.waits in
          let later = subst (λ (l : List ℕ). IsBetween edges node before (i + 1) l) (sym waits_are) (released_one edges node before i e inside is waits so_far w.if-edge-node.true there long) in
          let two = subst (λ (k : ℕ). Adds c.args.first k (IsReleased waits w.release_one.new.waits) c.loop-edge.candidates w.release_one.new.candidates) long w.release_one.ensures.added in
          let both = released_more c.args.first (length before) before waits w.release_one.new.waits c.args.candidates.now c.loop-edge.candidates w.release_one.new.candidates inv.added two in
          record {
            each = later.each;
            enough = later.enough;
            added = subst (λ (v : Vec ℕ Global). Adds c.args.first (length before) (IsReleased before c.if-edge-node.waits) c.args.candidates.now v) (sym w.candidates-is)
                (subst (λ (l : List ℕ). Adds c.args.first (length before) (IsReleased before l) c.args.candidates.now w.release_one.new.candidates) (sym w.waits-is) both);
            room = subst (λ (v : Vec ℕ Global). length v.items + waiting_in c.if-edge-node.waits ≤ vec_capacity v) (sym w.candidates-is)
                (subst (λ (l : List ℕ). length w.release_one.new.candidates.items + waiting_in l ≤ vec_capacity w.release_one.new.candidates) (sym w.waits-is) w.release_one.ensures.room);
          }
      | else-edge-node w ↦
          let later = subst (λ (l : List ℕ). IsBetween edges node before (i + 1) l) (sym w.waits-is) (passed edges node before i e inside is waits so_far w.if-edge-node.false) in
          record {
            each = later.each;
            enough = later.enough;
            added = subst (λ (v : Vec ℕ Global). Adds c.args.first (length before) (IsReleased before c.if-edge-node.waits) c.args.candidates.now v) (sym w.candidates-is)
                (subst (λ (l : List ℕ). Adds c.args.first (length before) (IsReleased before l) c.args.candidates.now c.loop-edge.candidates) (sym w.waits-is) inv.added);
            room = subst (λ (v : Vec ℕ Global). length v.items + waiting_in c.if-edge-node.waits ≤ vec_capacity v) (sym w.candidates-is)
                (subst (λ (l : List ℕ). length c.loop-edge.candidates.items + waiting_in l ≤ vec_capacity c.loop-edge.candidates) (sym w.waits-is) inv.room);
          }
    ]
