-- The file of `soak`'s graphs: it is read as graphs, which are read again from what is written of them, and whose inputs take 1 and 64 tokens.
use Rattle.std.proofs.Common.{◌≡◌, ℕ, ◌+◌, ◌<◌, ◌≤◌, List, [], ◌∷◌, length, map, slice_index_or, Bool, true, false, Option, Some, None, Result, Ok, Err, refl, sym, ap, ◌∙◌, arith}
use Rattle.std.specs.Prelude.{if◌then◌else◌, IfErr, ◌==◌, ◌&&◌}
use Rattle.std.specs.List.{range_with_len}
use Rattle.std.proofs.lemmas.List.{get_or-map}
use Rattle.std.proofs.lemmas.List.FromFn.{get_or-range_with_len}
use Rattle.std.proofs.lemmas.Str.{IsUtf8-from_is_utf8}
use Rattle.serde_json.specs.Data.{Data}
use Rattle.serde_json.specs.Read.{read}
use Rattle.kernel_gate.specs.Table.{the_signatures}
use Rattle.param_expr.specs.Print.{Differ}
use Rattle.param_resolver.specs.EarlyCheck.{early_faults}
use Rattle.pisdf_model.specs.declared.graph.Graphs.{Graphs}
use Rattle.pisdf_meaning.specs.Run.{top_needs}
use Rattle.graph_format.specs.Kernels.{kernel_names}
use Rattle.graph_format.specs.Reads.{AreReadAs, reading}
use Rattle.graph_format.specs.declared.graph_fault.GraphFault.{GraphFault}
use Rattle.graph_writer.specs.ReadAgain.{WasRead}
use Rattle.json.specs.Json.{items, members, value}
use Rattle.json.specs.Lex.{lex, punctuate}
use Rattle.json.specs.Text.{code_unit, content, short_escape}
use Rattle.json.specs.Word.{after_number, word}
use Rattle.serde_json.specs.Read.{number_of}
use Rattle.std.specs.Float.Numeral.{scan_numeral}
use Rattle.std.specs.Fmt.{digits}
use Rattle.std.specs.Str.{chars, is_utf8}
use lib.Utf8.{encode}
use Rattle.param_expr.specs.Machine.{answer_of, run, tallied}
use Rattle.param_expr.specs.Tokens.{tokens_from}
use Rattle.pisdf_model.specs.Arrows.{leads_below}
use Rattle.pisdf_model.specs.Hold.{initial_to}
use Rattle.pisdf_model.specs.Nesting.{nesting_to}
use Rattle.pisdf_model.specs.ParamOrder.{is_late}
use Rattle.param_resolver.specs.EarlyCheck.{check_to}
use Rattle.graph_format.specs.Objects.{actor_at, child_members_at, config_child_members_at, config_members_at, config_ports_at, delay_at, derived_members_at, fifo_at, fifo_members_at, file_at, file_members_at, given_members_at, graph_at, graph_members_at, graph_parts_at, input_at, kernel_members_at, param_at, port_at, port_members_at, ranged_at}
use Rattle.graph_format.specs.Walk.{has_form, items_at}
use Rattle.pisdf_program.specs.Soak.{soak_file}
use Rattle.pisdf_program.specs.Result.{graphs_in_json, graphs_in_reading, json_of, read_graphs}
use Rattle.pisdf_program.specs.Loaded.{NoFault, Settles, is_answer}
use Rattle.pisdf_program.specs.declared.status.Status.{Status}
use Rattle.pisdf_program.specs.declared.status.Status.TheVariants.{Done, GraphRefused, JournalRefused, ReadFault, RunRefused, TokensRefused, Usage, WantOfMemory, WriteFault}
use Rattle.pisdf_program.proofs.Reading.{graphs_read, read_graphs_short}

-- ---- the names of the table's kernels

is_same : List ℕ → List ℕ → Bool
is_same [] [] = true
is_same [] (y ∷ ys) = false
is_same (x ∷ xs) [] = false
is_same (x ∷ xs) (y ∷ ys) = x == y && is_same xs ys

place_in : List ℕ → List (List ℕ) → ℕ
place_in name [] = 0
place_in name (other ∷ names) = if is_same name other then 0 else place_in name names + 1

names_of_table : List (List ℕ)
names_of_table = kernel_names the_signatures

each_at_its_own : map (λ (name : List ℕ). place_in name names_of_table) names_of_table ≡ range_with_len 0 26
unfolding names_of_table place_in is_same
each_at_its_own = refl

as_many : length names_of_table ≡ 26
unfolding names_of_table
as_many = refl

own_place : (i : ℕ) → i < length names_of_table → place_in (slice_index_or names_of_table i []) names_of_table ≡ i
own_place i inside =
    let at : ℕ → List ℕ → ℕ = λ n list. slice_index_or list n 0 in
    sym (get_or-map (λ (name : List ℕ). place_in name names_of_table) names_of_table i [] 0 inside) ∙ ap (at i) each_at_its_own ∙ get_or-range_with_len 0 26 i 0 (let l = as_many in omega arith) ∙ (omega arith)

names_differ : Differ names_of_table
names_differ i j first second same = sym (own_place i first) ∙ ap (λ (name : List ℕ). place_in name names_of_table) same ∙ own_place j second

-- ---- graphs that were read

read_as : (bytes : List ℕ) (graphs : Graphs) (b : Bool) (d : Option Data) → is_utf8 bytes ≡ b → read bytes ≡ d → graphs_in_json (if b then d else None) ≡ Ok graphs → AreReadAs the_signatures bytes (Ok graphs)
read_as bytes graphs false d text json h = absurd cc
read_as bytes graphs true None text json h = absurd cc
read_as bytes graphs true (Some d) text json h = (d, (IsUtf8-from_is_utf8 bytes text, json), unread (reading the_signatures d) h)
  where
    unread : (r : Result Graphs GraphFault) → graphs_in_reading r ≡ Ok graphs → r ≡ Ok graphs
    unread (Ok other) h = let same : other ≡ graphs = cc in ap (λ (g : Graphs). Ok g) same
    unread (Err fault) h = absurd cc

pub was_read : (bytes : List ℕ) (graphs : Graphs) → graphs_in_json (json_of bytes) ≡ Ok graphs → WasRead the_signatures bytes graphs
unfolding names_of_table
was_read bytes graphs h = record { reads = read_as bytes graphs (is_utf8 bytes) (read bytes) refl refl h; names_differ = names_differ }

-- ---- the graphs of the file, which are computed

-- what their early check says: how many faults there are, and the rates of the inputs
early_facts : Result Graphs Status → List ℕ
early_facts (Ok graphs) = length (early_faults graphs.graphs graphs.top []) ∷ top_needs graphs
early_facts (Err status) = []

facts_are : early_facts (read_graphs soak_file) ≡ 0 ∷ 1 ∷ 64 ∷ []
unfolding early_facts read_graphs soak_file is_utf8 chars encode value items members lex punctuate code_unit content short_escape after_number word number_of scan_numeral digits answer_of run tallied tokens_from leads_below initial_to nesting_to is_late check_to actor_at child_members_at config_child_members_at config_members_at config_ports_at delay_at derived_members_at fifo_at fifo_members_at file_at file_members_at given_members_at graph_at graph_members_at graph_parts_at input_at kernel_members_at param_at port_at port_members_at ranged_at has_form items_at
facts_are = refl

facts_of : (graphs : Graphs) → read_graphs soak_file ≡ Ok graphs → length (early_faults graphs.graphs graphs.top []) ∷ top_needs graphs ≡ 0 ∷ 1 ∷ 64 ∷ []
unfolding early_facts
facts_of graphs h = ap early_facts (sym h) ∙ facts_are

pub soak_needs : (graphs : Graphs) → read_graphs soak_file ≡ Ok graphs → top_needs graphs ≡ 1 ∷ 64 ∷ []
soak_needs graphs h = let e = facts_of graphs h in cc

none_of : {X : Type 0} (xs : List X) → length xs ≡ 0 → xs ≡ []
none_of [] e = refl
none_of (x ∷ xs) e = absurd (omega arith)

pub soak_sound : (graphs : Graphs) → read_graphs soak_file ≡ Ok graphs → early_faults graphs.graphs graphs.top [] ≡ []
soak_sound graphs h = let e = facts_of graphs h in none_of (early_faults graphs.graphs graphs.top []) cc

no_facts : (status : Status) → early_facts (Err status) ≡ []
unfolding early_facts
no_facts status = refl

not_both : (facts : List ℕ) → facts ≡ [] → facts ≡ 0 ∷ 1 ∷ 64 ∷ [] → ⊥
not_both facts none some = absurd (let l : 0 ≡ 3 = ap length (sym none ∙ some) in omega arith)

-- reading them is not refused
soak_reads : (status : Status) → read_graphs soak_file ≡ Err status → ⊥
soak_reads status h = not_both (early_facts (read_graphs soak_file)) (ap early_facts h ∙ no_facts status) facts_are

-- so that want of memory alone is answered
pub only_memory : (s : Status) → NoFault s → (is_answer s ≡ true → read_graphs soak_file ≡ Err s) → s ≡ WantOfMemory
only_memory Done ok h = absurd (soak_reads Done (h refl))
only_memory Usage ok h = absurd (soak_reads Usage (h refl))
only_memory (GraphRefused cause) ok h = absurd (soak_reads (GraphRefused cause) (h refl))
only_memory (TokensRefused cause) ok h = absurd (soak_reads (TokensRefused cause) (h refl))
only_memory (RunRefused refusal) ok h = absurd (soak_reads (RunRefused refusal) (h refl))
only_memory (ReadFault which) ok h = absurd ok
only_memory WriteFault ok h = absurd ok
only_memory WantOfMemory ok h = refl
only_memory (JournalRefused cause) ok h = absurd (soak_reads (JournalRefused cause) (h refl))

pub only_memories : (r : Result Graphs Status) → IfErr r NoFault → Settles (read_graphs soak_file) r → IfErr r (λ s. s ≡ WantOfMemory)
only_memories (Ok graphs) ok h = tt
only_memories (Err s) ok h = only_memory s ok h

soak_short : length soak_file ≤ 4194304
unfolding soak_file
soak_short = let e : length soak_file ≡ 950 = refl in omega arith

-- what is written of them is read as they were
pub read_again : (bytes : List ℕ) (graphs : Graphs) → read_graphs soak_file ≡ Ok graphs → (WasRead the_signatures soak_file graphs → AreReadAs the_signatures bytes (Ok graphs)) → graphs_in_json (json_of bytes) ≡ read_graphs soak_file
read_again bytes graphs h again =
    graphs_read bytes graphs (again (was_read soak_file graphs (sym (read_graphs_short soak_file soak_short) ∙ h))) ∙ sym h
