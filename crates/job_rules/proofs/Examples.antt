-- Jobs of small graphs, evaluated.
use Rattle.std.proofs.Common.{◌≡◌, ℕ, zero, suc, ℤ, pos, List, [], ◌∷◌, ◌++◌, slice_get, Option, Some, None, codes, refl}
use Rattle.param_expr.specs.Tree.{number, param}
use Rattle.param_resolver.specs.Assignment.{values_after}
use Rattle.param_resolver.specs.EarlyCheck.{check_to}
use Rattle.pisdf_model.specs.Hold.{initial_to}
use Rattle.pisdf_model.specs.declared.actor.Body.TheVariants.{Kernel, Config, ConfigChild}
use Rattle.pisdf_model.specs.declared.fifo.End.TheVariants.{Interface, Port}
use Rattle.pisdf_model.specs.declared.fifo.Life.TheVariants as life
use Rattle.pisdf_model.specs.declared.graph.Graph.{Graph}
use Rattle.pisdf_model.specs.declared.param.ParamKind.TheVariants.{Chosen}
use Rattle.sdf_level.specs.declared.node.Node.TheVariants as node
use Rattle.level_schedule.specs.declared.scheduling.LevelSchedule.{LevelSchedule}
use Rattle.pisdf_meaning.specs.Endings.{child_path}
use Rattle.pisdf_meaning.specs.Run.{top_firing}
use Rattle.pisdf_meaning.specs.declared.firing.Firing.{Firing}
use Rattle.pisdf_meaning.specs.declared.refusal.Cause.TheVariants as cause
use Rattle.nested_jobs.specs.Rules.{Work, Call, Values}
use Rattle.job_rules.specs.Words as words
use Rattle.job_rules.specs.Words.{Answer, Gives, Refuses, given_outs}
use Rattle.job_rules.specs.Items.{count, outcome, rule}

-- the answers of the first items
abbrev answers : List Answer → Values Answer
answers list i = slice_get list i

abbrev no_outs : List (List ℤ) → Answer
no_outs outs = Gives (given_outs outs)

-- what sets these values
abbrev sets : List ℤ → Answer
sets values = Gives record { outs = []; state = []; trace = []; exports = values }

-- ---- a parameter n, which `read_param` sets to the token of k; a sums n tokens of d, so that it fires twice where n is 2

abbrev sums : Graph
sums = record {
  name = codes "g";
  params = record { name = codes "n"; kind = Chosen; low = pos 1; high = pos 4 } ∷ [];
  inputs = record { name = codes "k"; rate = number (pos 1) } ∷ record { name = codes "d"; rate = number (pos 4) } ∷ [];
  outputs = record { name = codes "y"; rate = number (pos 1) } ∷ [];
  actors =
      record { name = codes "c"; body = Config 23 [] (codes "i" ∷ []) [] (0 ∷ []) }
      ∷ record { name = codes "a"; body = Kernel 10 [] (record { name = codes "i"; rate = param 0 } ∷ []) (record { name = codes "o"; rate = number (pos 1) } ∷ []) }
      ∷ [];
  fifos =
      record { tail = Interface 0; head = Port 0 0; delay = []; life = life.Firing }
      ∷ record { tail = Interface 1; head = Port 1 0; delay = []; life = life.Firing }
      ∷ record { tail = Port 1 1; head = Interface 2; delay = []; life = life.Firing }
      ∷ [];
  exports = [];
}

abbrev fired : Firing
fired = top_firing sums 0 ((pos 2 ∷ []) ∷ (pos 1 ∷ pos 2 ∷ pos 3 ∷ pos 4 ∷ []) ∷ []) ([] ∷ [] ∷ [] ∷ [] ∷ [] ∷ [])

abbrev twice : LevelSchedule
twice = record { counts = 2 ∷ []; order = record { actor = 0; turn = 0 } ∷ record { actor = 0; turn = 1 } ∷ [] }

abbrev compiled : List Answer
compiled = sets (pos 2 ∷ []) ∷ words.Schedules twice ∷ []

-- the configuration actor reads the whole interface, and the compilation waits for it
actor_first : rule (sums ∷ []) fired (answers []) 0 ≡ Some (Work (words.Fires record { path = codes "g"; name = codes "c"; turn = 0 } record { kind = 23; args = []; inputs = (pos 2 ∷ []) ∷ []; lens = []; sets = 1 }))
unfolding check_to values_after
actor_first = refl

compile_waits : rule (sums ∷ []) fired (answers []) 1 ≡ None
compile_waits = refl

compile_next : rule (sums ∷ []) fired (answers (sets (pos 2 ∷ []) ∷ [])) 1 ≡ Some (Work (words.Compiles fired (record { outs = []; sets = pos 2 ∷ []; state = []; trace = [] } ∷ [])))
compile_next = refl

-- then there are six nodes: a Source, two firings, a Fork, a Round and a Sink
items_then : count (sums ∷ []) fired (answers compiled) ≡ 8
unfolding check_to values_after
items_then = refl

abbrev halfway : List Answer
halfway = sets (pos 2 ∷ []) ∷ words.Schedules twice ∷ no_outs ((pos 1 ∷ pos 2 ∷ pos 3 ∷ pos 4 ∷ []) ∷ []) ∷ []

-- the firings wait for the Fork
firing_waits : rule (sums ∷ []) fired (answers halfway) 4 ≡ None
unfolding check_to values_after
firing_waits = refl

fork_next : rule (sums ∷ []) fired (answers halfway) 5 ≡ Some (Work (words.Copies (node.Fork 0 0) ((pos 1 ∷ pos 2 ∷ pos 3 ∷ pos 4 ∷ []) ∷ []) (2 ∷ 2 ∷ [])))
unfolding check_to values_after
fork_next = refl

-- the second firing needn't wait for the first
abbrev given_at : List (Option Answer) → Values Answer
given_at [] i = None
given_at (o ∷ list) zero = o
given_at (o ∷ list) (suc i) = given_at list i

abbrev forked : Values Answer
forked = given_at (Some (sets (pos 2 ∷ [])) ∷ Some (words.Schedules twice) ∷ Some (no_outs ((pos 1 ∷ pos 2 ∷ pos 3 ∷ pos 4 ∷ []) ∷ [])) ∷ None ∷ None ∷ Some (no_outs ((pos 1 ∷ pos 2 ∷ []) ∷ (pos 3 ∷ pos 4 ∷ []) ∷ [])) ∷ [])

firing_next : rule (sums ∷ []) fired forked 4 ≡ Some (Work (words.Fires record { path = codes "g"; name = codes "a"; turn = 1 } record { kind = 10; args = []; inputs = (pos 3 ∷ pos 4 ∷ []) ∷ []; lens = 1 ∷ []; sets = 0 }))
unfolding check_to values_after
firing_next = refl

-- the Round keeps the last of what the firings give, and the trace tells the parameter
abbrev all : Values Answer
all = answers (compiled ++ no_outs ((pos 1 ∷ pos 2 ∷ pos 3 ∷ pos 4 ∷ []) ∷ []) ∷ no_outs ((pos 3 ∷ []) ∷ []) ∷ no_outs ((pos 7 ∷ []) ∷ []) ∷ no_outs ((pos 1 ∷ pos 2 ∷ []) ∷ (pos 3 ∷ pos 4 ∷ []) ∷ []) ∷ no_outs ((pos 7 ∷ []) ∷ []) ∷ no_outs ((pos 7 ∷ []) ∷ []) ∷ [])

sums_end : outcome (sums ∷ []) fired all ≡ Gives record { outs = (pos 7 ∷ []) ∷ []; state = [] ∷ [] ∷ [] ∷ [] ∷ [] ∷ []; trace = record { path = codes "g"; name = codes "n"; value = pos 2 } ∷ []; exports = [] }
unfolding check_to values_after
sums_end = refl

-- two firings that fault: the first of one thread, whichever was finished
abbrev faulty : ℕ → Answer
faulty k = Refuses record { path = codes "g"; cause = cause.Kernel (codes "a") k 1 }

both_faults : outcome (sums ∷ []) fired (answers (compiled ++ no_outs ((pos 1 ∷ pos 2 ∷ pos 3 ∷ pos 4 ∷ []) ∷ []) ∷ faulty 0 ∷ faulty 1 ∷ no_outs ((pos 1 ∷ pos 2 ∷ []) ∷ (pos 3 ∷ pos 4 ∷ []) ∷ []) ∷ [])) ≡ faulty 0
unfolding check_to values_after
both_faults = refl

-- ---- a graph that sets its parameter m to what the graph below it exports, which is what `read_param` sets there

abbrev exporter : Graph
exporter = record {
  name = codes "h";
  params = record { name = codes "n"; kind = Chosen; low = pos 1; high = pos 8 } ∷ [];
  inputs = record { name = codes "k"; rate = number (pos 1) } ∷ [];
  outputs = [];
  actors = record { name = codes "c"; body = Config 23 [] (codes "i" ∷ []) [] (0 ∷ []) } ∷ [];
  fifos = record { tail = Interface 0; head = Port 0 0; delay = []; life = life.Firing } ∷ [];
  exports = 0 ∷ [];
}

abbrev setter : Graph
setter = record {
  name = codes "g";
  params = record { name = codes "m"; kind = Chosen; low = pos 1; high = pos 4 } ∷ [];
  inputs = record { name = codes "k"; rate = number (pos 1) } ∷ record { name = codes "d"; rate = number (pos 4) } ∷ [];
  outputs = record { name = codes "y"; rate = number (pos 1) } ∷ [];
  actors =
      record { name = codes "b"; body = ConfigChild 0 [] (0 ∷ []) }
      ∷ record { name = codes "a"; body = Kernel 10 [] (record { name = codes "i"; rate = param 0 } ∷ []) (record { name = codes "o"; rate = number (pos 1) } ∷ []) }
      ∷ [];
  fifos =
      record { tail = Interface 0; head = Port 0 0; delay = []; life = life.Firing }
      ∷ record { tail = Interface 1; head = Port 1 0; delay = []; life = life.Firing }
      ∷ record { tail = Port 1 1; head = Interface 2; delay = []; life = life.Firing }
      ∷ [];
  exports = [];
}

abbrev two : List Graph
two = exporter ∷ setter ∷ []

abbrev set_fired : Firing
set_fired = top_firing setter 1 ((pos 2 ∷ []) ∷ (pos 1 ∷ pos 2 ∷ pos 3 ∷ pos 4 ∷ []) ∷ []) ([] ∷ [] ∷ [] ∷ [] ∷ [] ∷ [])

abbrev called : Firing
called = record { path = child_path (codes "g") (codes "b") 0; graph = 0; inherited = []; inputs = (pos 2 ∷ []) ∷ []; state = [] ∷ [] ∷ [] }

child_called : rule two set_fired (answers []) 0 ≡ Some (Call called)
unfolding check_to values_after initial_to
child_called = refl

-- the child's job: its actor, its compilation, and no node
child_items : count two called (answers (sets (pos 2 ∷ []) ∷ words.Schedules record { counts = []; order = [] } ∷ [])) ≡ 2
unfolding check_to values_after
child_items = refl

abbrev exported : Answer
exported = Gives record { outs = []; state = [] ∷ [] ∷ []; trace = record { path = child_path (codes "g") (codes "b") 0; name = codes "n"; value = pos 2 } ∷ []; exports = pos 2 ∷ [] }

child_end : outcome two called (answers (sets (pos 2 ∷ []) ∷ words.Schedules record { counts = []; order = [] } ∷ [])) ≡ exported
unfolding check_to values_after
child_end = refl

-- whose exports the compilation of the job above it takes
above_next : rule two set_fired (answers (exported ∷ [])) 1 ≡ Some (Work (words.Compiles set_fired (record { outs = []; sets = pos 2 ∷ []; state = []; trace = record { path = child_path (codes "g") (codes "b") 0; name = codes "n"; value = pos 2 } ∷ [] } ∷ [])))
above_next = refl

-- ---- a graph whose actor passes the token of x on to y

abbrev pub passes : Graph
passes = record {
  name = codes "g";
  params = [];
  inputs = record { name = codes "x"; rate = number (pos 1) } ∷ [];
  outputs = record { name = codes "y"; rate = number (pos 1) } ∷ [];
  actors = record { name = codes "a"; body = Kernel 0 [] (record { name = codes "i"; rate = number (pos 1) } ∷ []) (record { name = codes "o"; rate = number (pos 1) } ∷ []) } ∷ [];
  fifos =
      record { tail = Interface 0; head = Port 0 0; delay = []; life = life.Firing }
      ∷ record { tail = Port 0 1; head = Interface 1; delay = []; life = life.Firing }
      ∷ [];
  exports = [];
}

abbrev passed : Firing
passed = top_firing passes 0 ((pos 5 ∷ []) ∷ []) ([] ∷ [] ∷ [] ∷ [])

compile_first : rule (passes ∷ []) passed (answers []) 0 ≡ Some (Work (words.Compiles passed []))
compile_first = refl
