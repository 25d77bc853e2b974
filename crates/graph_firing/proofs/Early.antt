-- Configuration actors as items of their job, and the compilation.
use Rattle.std.proofs.Common.{◌≡◌, ℕ, ◌+◌, ◌<◌, length, sym, ◌∙◌, arith}
use Rattle.nested_jobs.specs.Marks.{Free}
use Rattle.pisdf_model.specs.declared.graph.Graph.{Graph}
use Rattle.job_rules.specs.Items.{compile_number, compile_rule, left_in, node_base}
use Rattle.job_preparing.specs.Handing.{mark_at}
use Rattle.job_preparing.specs.View as preparing
use Rattle.job_preparing.specs.View.{ConfiguringView}
use Rattle.graph_firing.specs.View.{IsOfferedCall, IsOfferedWork, OpenView, answered, left_if_ready, task}
use Rattle.graph_firing.specs.Invariants.{compile_mark, node_marks, view_with}
use Rattle.graph_firing.specs.declared.stage.Stage.{Stage}
use Rattle.graph_firing.proofs.Cut.{read_before, read_seam, read_after}
use Rattle.graph_firing.proofs.Rules as rules
use Rattle.graph_firing.proofs.Rules.{rule_at, rule_before}

module _ (c : ConfiguringView) (workers : ℕ) (stage : Stage) (long : length c.marks ≡ compile_number (preparing.graph_in c)) where
  abbrev pub v : OpenView
  v = view_with c workers stage

  abbrev pub g : Graph
  g = preparing.graph_in c

  pub mark_before : (i : ℕ) → i < compile_number g → mark_at v.marks i ≡ mark_at c.marks i
  mark_before i below = read_before c.marks (compile_mark stage) (node_marks stage) Free i (omega arith)

  pub mark_here : mark_at v.marks (compile_number g) ≡ compile_mark stage
  mark_here = read_seam c.marks (compile_mark stage) (node_marks stage) Free (compile_number g) long

  pub mark_after : (n : ℕ) → mark_at v.marks (node_base g + n) ≡ mark_at (node_marks stage) n
  mark_after n = read_after c.marks (compile_mark stage) (node_marks stage) Free (node_base g) n (omega arith)

  pub task_before : (i : ℕ) → i < compile_number g → task v i ≡ preparing.task c i
  task_before i below = rule_before c.graphs.graphs c.firing (answered v) i below

  pub task_here : task v (compile_number g) ≡ compile_rule c.firing (left_in g (answered v))
  task_here = rule_at c.graphs.graphs c.firing (answered v)

  pub left_same : left_if_ready v ≡ preparing.left_if_ready c
  left_same = rules.left_is c.graphs.graphs c.firing c.marks (compile_mark stage) (node_marks stage) long

  -- ---- what is offered of configuration actors

  pub work_before : (i : ℕ) → i < compile_number g → IsOfferedWork v i → preparing.IsOfferedWork c i
  work_before i below offered = record { free = sym (mark_before i below) ∙ offered.free; work = offered.work; task_is = sym (task_before i below) ∙ offered.task_is }

  pub work_of : (i : ℕ) → i < compile_number g → preparing.IsOfferedWork c i → IsOfferedWork v i
  work_of i below offered = record { free = mark_before i below ∙ offered.free; work = offered.work; task_is = task_before i below ∙ offered.task_is }

  pub call_before : (i : ℕ) → i < compile_number g → IsOfferedCall v i → preparing.IsOfferedCall c i
  call_before i below offered = record { free = sym (mark_before i below) ∙ offered.free; job = offered.job; task_is = sym (task_before i below) ∙ offered.task_is }

  pub call_of : (i : ℕ) → i < compile_number g → preparing.IsOfferedCall c i → IsOfferedCall v i
  call_of i below offered = record { free = mark_before i below ∙ offered.free; job = offered.job; task_is = task_before i below ∙ offered.task_is }
