use Rattle.std.proofs.Common.{◌≡◌, ◌<◌, ◌++◌, ℕ, [], length, take, drop, arith, sym, ap, ◌∙◌, Vec, Global}
use Rattle.std.proofs.lemmas.List.{length-map}
use Rattle.std.proofs.lemmas.Grind.{common_steps}
use Rattle.worker_mapping.specs.Graph.{nodes_after}
use Rattle.worker_mapping.specs.Release.{Releases}
use Rattle.worker_mapping.proofs.Adjacent.{AreAfter-at}
use Rattle.worker_mapping.proofs.Stepping.{entry_there, heads_there, heads_wait, one_fewer, released_there, Schedules-entered}
use Rattle.worker_mapping.proofs.growing.Growing.enter.Goals as goal

pub bounds-work-entry : goal.bounds-work-entry
bounds-work-entry c =
    let there = entry_there c.args.work.now c.args.entry c.args.self.now c.requires.work c.requires.taken in
    let long = c.requires.work.after.one_each in
    let same = length-map c.args.work.now.after.now (λ (v : Vec ℕ Global). v.items) in
    omega arith

pub release-requires-clause-there : goal.release-requires-clause-there
release-requires-clause-there c =
    let there : c.args.entry.node < c.args.work.now.nodes = entry_there c.args.work.now c.args.entry c.args.self.now c.requires.work c.requires.taken in
    let heads : c.deref.result.now ≡ nodes_after c.args.work.now.edges.now c.args.entry.node = c.deref.ensures.value ∙ ap (λ (v : Vec ℕ Global). v.items) (sym c.index-work-entry.is) ∙ AreAfter-at c.args.work.now.nodes c.args.work.now.edges.now c.args.work.now.after.now c.args.entry.node c.index-work-entry.result c.requires.work.after there c.index-work-entry.is in
    rw (heads, c.deref_mut.ensures.value, c.deref_mut-2.ensures.value) (heads_there c.args.work.now c.args.entry c.args.self.now c.requires.work c.requires.taken)

pub release-requires-clause-enough : goal.release-requires-clause-enough
release-requires-clause-enough c =
    let there : c.args.entry.node < c.args.work.now.nodes = entry_there c.args.work.now c.args.entry c.args.self.now c.requires.work c.requires.taken in
    let heads : c.deref.result.now ≡ nodes_after c.args.work.now.edges.now c.args.entry.node = c.deref.ensures.value ∙ ap (λ (v : Vec ℕ Global). v.items) (sym c.index-work-entry.is) ∙ AreAfter-at c.args.work.now.nodes c.args.work.now.edges.now c.args.work.now.after.now c.args.entry.node c.index-work-entry.result c.requires.work.after there c.index-work-entry.is in
    rw (heads, c.deref_mut.ensures.value) (heads_wait c.args.work.now c.args.entry c.args.self.now c.requires.work c.requires.taken)

pub queue-requires : goal.queue-requires
queue-requires c =
    let there : c.args.entry.node < c.args.work.now.nodes = entry_there c.args.work.now c.args.entry c.args.self.now c.requires.work c.requires.taken in
    let heads : c.deref.result.now ≡ nodes_after c.args.work.now.edges.now c.args.entry.node = c.deref.ensures.value ∙ ap (λ (v : Vec ℕ Global). v.items) (sym c.index-work-entry.is) ∙ AreAfter-at c.args.work.now.nodes c.args.work.now.edges.now c.args.work.now.after.now c.args.entry.node c.index-work-entry.result c.requires.work.after there c.index-work-entry.is in
    let released : Releases (nodes_after c.args.work.now.edges.now c.args.entry.node) c.args.entry.end c.args.self.now.waiting.items c.args.self.now.ready.items [] c.release.new.waiting c.release.new.ready c.release.new.candidates.items = rw (heads, c.deref_mut.ensures.value, c.deref_mut-2.ensures.value, c.requires.taken.none) at c.in_ok-release.ensures in
    let ready_long = released.ready_long in
    let ready_whole : take c.args.self.now.ready.len (c.release.new.ready ++ drop (length c.release.new.ready) c.args.self.now.ready.items) ≡ c.release.new.ready = grind (arith, common_steps) in
    rw (c.deref-2.ensures.value, ready_whole) (released_there c.args.work.now c.args.entry c.args.self.now c.requires.work c.requires.taken c.release.new.waiting c.release.new.ready c.release.new.candidates.items released)

pub returns-clause-grows : goal.returns-clause-grows
returns-clause-grows c =
    let there : c.args.entry.node < c.args.work.now.nodes = entry_there c.args.work.now c.args.entry c.args.self.now c.requires.work c.requires.taken in
    let heads : c.deref.result.now ≡ nodes_after c.args.work.now.edges.now c.args.entry.node = c.deref.ensures.value ∙ ap (λ (v : Vec ℕ Global). v.items) (sym c.index-work-entry.is) ∙ AreAfter-at c.args.work.now.nodes c.args.work.now.edges.now c.args.work.now.after.now c.args.entry.node c.index-work-entry.result c.requires.work.after there c.index-work-entry.is in
    let released : Releases (nodes_after c.args.work.now.edges.now c.args.entry.node) c.args.entry.end c.args.self.now.waiting.items c.args.self.now.ready.items [] c.release.new.waiting c.release.new.ready c.release.new.candidates.items = rw (heads, c.deref_mut.ensures.value, c.deref_mut-2.ensures.value, c.requires.taken.none) at c.in_ok-release.ensures in
    let ready_long = released.ready_long in
    let ready_whole : take c.args.self.now.ready.len (c.release.new.ready ++ drop (length c.release.new.ready) c.args.self.now.ready.items) ≡ c.release.new.ready = grind (arith, common_steps) in
    let waiting_long = released.waiting_long in
    let waiting_whole : take c.args.self.now.waiting.len (c.release.new.waiting ++ drop (length c.release.new.waiting) c.args.self.now.waiting.items) ≡ c.release.new.waiting = grind (arith, common_steps) in
    record {
      so_far = rw (waiting_whole, ready_whole, c.in_ok-push.ensures.items) (Schedules-entered c.args.work.now c.args.entry c.args.self.now c.requires.work c.requires.taken c.release.new.waiting c.release.new.ready c.release.new.candidates.items released c.queue.new.later.keys (rw (c.deref-2.ensures.value, ready_whole) at c.in_ok-queue.ensures.queued));
      none = c.in_ok-queue.ensures.emptied;
    }

pub returns-clause-fewer : goal.returns-clause-fewer
returns-clause-fewer c = rw c.in_ok-push.ensures.items (one_fewer c.args.work.now c.args.entry c.args.self.now c.requires.work c.requires.taken)
