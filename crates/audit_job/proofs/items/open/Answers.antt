use Rattle.std.proofs.Common.{◌≡◌, ◌+◌, ◌++◌, ℕ, List, [], length, refl, sym, ap, ◌∙◌, subst, arith}
use Rattle.std.specs.Prelude.{replicate}
use Rattle.std.proofs.lemmas.List.{length-append, length-replicate}
use Rattle.audit_job.specs.declared.answer.Mark.{Mark}
use Rattle.audit_job.specs.declared.answer.Mark.TheVariants as stands
use Rattle.audit_job.specs.Marks.{mark_of}
use Rattle.audit_job.proofs.ConfigItems.{graph_found}
use Rattle.audit_job.proofs.OpenedJob.{AllFree, all_first, both_free, copies_free, is_job}
use Rattle.audit_job.proofs.items.open.Goals as goal

-- the marks of a job at its start
abbrev start : ℕ → List Mark
start n = replicate n stands.Free ++ replicate 1 stands.Free

pub start_free : (n : ℕ) → AllFree (start n)
start_free n = both_free (replicate n stands.Free) (replicate 1 stands.Free) (copies_free n) (copies_free 1)

pub start_long : (n : ℕ) → length (start n) ≡ n + 1
start_long n =
    let all = length-append (replicate n stands.Free) (replicate 1 stands.Free) in
    let first = length-replicate n stands.Free in
    let last = length-replicate 1 stands.Free in
    omega arith

pub marks_are : (m0 m1 m2 : List Mark) (n : ℕ) → m0 ≡ [] → m1 ≡ m0 ++ replicate n stands.Free → m2 ≡ m1 ++ replicate 1 stands.Free → m2 ≡ start n
marks_are m0 m1 m2 n none one two = two ∙ ap (λ l. l ++ replicate 1 stands.Free) (one ∙ ap (λ l. l ++ replicate n stands.Free) none)

pub returns-clause-is : goal.returns-clause-is
returns-clause-is c = λ workers.
    let firing = c.args.firing in
    let graphs = c.args.graphs.now.graphs in
    let marks = marks_are c.new-marks.result.items c.push_free.new.marks.items c.push_free-2.new.marks.items c.len.result c.new-marks.ensures.items c.in_ok-push_free.ensures c.in_ok-push_free-2.ensures in
    let graph = graph_found graphs firing c.requires.fit c.items.result.now firing.graph c.index-items-firing.result c.items.ensures refl c.index-items-firing.is in
    let long = ap (λ (l : List Mark). length l) marks ∙ start_long c.len.result in
    is_job graphs workers firing c.in_ok-early.early c.in_ok-places.places c.push_free-2.new.marks c.index-items-firing.result c.requires.fit c.in_ok-early.ensures graph c.in_ok-places.ensures (subst AllFree (sym marks) (start_free c.len.result)) (omega arith)
    c.add_first.new.candidates (all_first c.push_free-2.new.marks.items (length c.in_ok-places.places.items) c.len-2.result c.new-candidates.result c.add_first.new.candidates c.new-candidates.ensures.items c.in_ok-add_first.ensures (omega (arith, c.push_free-2.new.marks.ok.0)) (omega (arith, c.push_free-2.new.marks.ok.0, c.in_ok-places.places.ok.0)))

pub returns-clause-free : goal.returns-clause-free
returns-clause-free c = λ i.
    let marks = marks_are c.new-marks.result.items c.push_free.new.marks.items c.push_free-2.new.marks.items c.len.result c.new-marks.ensures.items c.in_ok-push_free.ensures c.in_ok-push_free-2.ensures in
    ap mark_of ((subst AllFree (sym marks) (start_free c.len.result)) i)
