-- Reading the files.
use Rattle.std.proofs.Common.{◌≡◌, ◌≢◌, ℕ, ◌≤◌, ◌<◌, ℤ, List, [], length, Bool, true, false, Option, Some, None, Ok, Err, refl, sym, ap, ◌∙◌, arith, inl, inr}
use Rattle.std.specs.Prelude.{nat_lt, if◌then◌else◌, IsUtf8}
use Rattle.std.specs.Str.{is_utf8}
use Rattle.std.proofs.lemmas.Bool.Decides.{nat_tests}
use Rattle.std.proofs.lemmas.Str.{IsUtf8-from_is_utf8, is_utf8-from_IsUtf8}
use Rattle.std.proofs.lemmas.List.{length-map}
use Rattle.serde_json.specs.Data.{Data}
use Rattle.serde_json.specs.Read.{read}
use Rattle.kernel_gate.specs.Table.{the_signatures}
use Rattle.graph_format.specs.Reads.{AreReadAs, IsJson, Reads}
use Rattle.graph_format.specs.declared.graph_fault.GraphFault.{GraphFault}
use Rattle.graph_format.specs.declared.graph_fault.GraphFault.TheVariants.{Memory}
use Rattle.token_text.specs.Streams.{read_of, fault_or, first_fault, streams_of}
use Rattle.token_text.specs.Records.{records_of}
use Rattle.token_text.specs.declared.fault.TokenFault.{TokenFault}
use Rattle.pisdf_model.specs.declared.graph.Graphs.{Graphs}
use Rattle.pisdf_program.specs.Result.{graphs_in_json, graphs_in_reading, json_of, read_graphs, read_journal, read_streams, streams_in}
use Rattle.quiescent_driver.specs.Top.{top_of}
use Rattle.pisdf_program.specs.Inputs.{input_names}
use Rattle.pisdf_program.specs.declared.status.Status.TheVariants.{GraphRefused, TokensRefused, JournalRefused}
use Rattle.pisdf_program.specs.declared.status.GraphCause.TheVariants as graph
use Rattle.pisdf_program.specs.declared.status.TokenCause.TheVariants as tokens
use Rattle.pisdf_program.specs.declared.status.JournalCause.TheVariants as journal

pub same_some : {A : Type 0} (x y : A) → Some x ≡ Some y → x ≡ y
same_some x y h = cc

-- ---- bytes as JSON

pub json_some : (bytes : List ℕ) (d : Data) → IsUtf8 bytes → read bytes ≡ Some d → json_of bytes ≡ Some d
json_some bytes d text h = ap (λ b. if b then read bytes else None) (is_utf8-from_IsUtf8 bytes text) ∙ h

json_at : (b : Bool) (bytes : List ℕ) → is_utf8 bytes ≡ b → (IsUtf8 bytes → read bytes ≡ None) → (if b then read bytes else None) ≡ None
json_at true bytes e h = h (IsUtf8-from_is_utf8 bytes e)
json_at false bytes e h = refl

pub json_none : (bytes : List ℕ) → (IsUtf8 bytes → read bytes ≡ None) → json_of bytes ≡ None
json_none bytes h = json_at (is_utf8 bytes) bytes refl h

no_json : (bytes : List ℕ) → ((d : Data) → IsJson bytes d → ⊥) → json_of bytes ≡ None
no_json bytes none = json_none bytes (λ text. read_nothing bytes text (read bytes) refl none)
  where
    read_nothing : (bytes : List ℕ) → IsUtf8 bytes → (o : Option Data) → read bytes ≡ o → ((d : Data) → IsJson bytes d → ⊥) → read bytes ≡ None
    read_nothing bytes text None is none = is
    read_nothing bytes text (Some d) is none = absurd (none d (text, is))

-- ---- what is read

pub graphs_read : (bytes : List ℕ) (graphs : Graphs) → AreReadAs the_signatures bytes (Ok graphs) → graphs_in_json (json_of bytes) ≡ Ok graphs
graphs_read bytes graphs h = ap graphs_in_json (json_some bytes h.0 h.1.0 h.1.1) ∙ ap graphs_in_reading h.2

pub fault_read : (bytes : List ℕ) (fault : GraphFault) → Reads the_signatures bytes (Err fault) → fault ≢ Memory → graphs_in_json (json_of bytes) ≡ Err (GraphRefused (graph.Fault fault))
fault_read bytes fault (inl memory) not_memory = absurd (not_memory memory)
fault_read bytes fault (inr (inl not_json)) not_memory = ap graphs_in_json (no_json bytes not_json.1) ∙ ap (λ f. Err (GraphRefused (graph.Fault f))) (sym not_json.0)
fault_read bytes fault (inr (inr h)) not_memory = ap graphs_in_json (json_some bytes h.0 h.1.0 h.1.1) ∙ ap graphs_in_reading h.2

-- ---- lengths

pub read_graphs_short : (bytes : List ℕ) → length bytes ≤ 4194304 → read_graphs bytes ≡ graphs_in_json (json_of bytes)
unfolding read_graphs
read_graphs_short bytes le =
    let no : nat_lt 4194304 (length bytes) ≡ false = grind (arith, nat_tests) in
    ap (λ b. if b then Err (GraphRefused graph.TooLong) else graphs_in_json (json_of bytes)) no

pub read_graphs_long : (bytes : List ℕ) → 4194304 < length bytes → read_graphs bytes ≡ Err (GraphRefused graph.TooLong)
unfolding read_graphs
read_graphs_long bytes lt =
    let yes : nat_lt 4194304 (length bytes) ≡ true = grind (arith, nat_tests) in
    ap (λ b. if b then Err (GraphRefused graph.TooLong) else graphs_in_json (json_of bytes)) yes

pub read_streams_short : (g : Graphs) (bytes : List ℕ) → length bytes ≤ 67108864 → read_streams g bytes ≡ streams_in (read_of bytes (input_names g))
unfolding read_streams
read_streams_short g bytes le =
    let no : nat_lt 67108864 (length bytes) ≡ false = grind (arith, nat_tests) in
    ap (λ b. if b then Err (TokensRefused tokens.TooLong) else streams_in (read_of bytes (input_names g))) no

pub read_streams_long : (g : Graphs) (bytes : List ℕ) → 67108864 < length bytes → read_streams g bytes ≡ Err (TokensRefused tokens.TooLong)
unfolding read_streams
read_streams_long g bytes lt =
    let yes : nat_lt 67108864 (length bytes) ≡ true = grind (arith, nat_tests) in
    ap (λ b. if b then Err (TokensRefused tokens.TooLong) else streams_in (read_of bytes (input_names g))) yes

pub read_journal_short : (bytes : List ℕ) → length bytes ≤ 67108864 → read_journal bytes ≡ Ok bytes
unfolding read_journal
read_journal_short bytes le =
    let no : nat_lt 67108864 (length bytes) ≡ false = grind (arith, nat_tests) in
    ap (λ b. if b then Err (JournalRefused journal.TooLong) else Ok bytes) no

pub read_journal_long : (bytes : List ℕ) → 67108864 < length bytes → read_journal bytes ≡ Err (JournalRefused journal.TooLong)
unfolding read_journal
read_journal_long bytes lt =
    let yes : nat_lt 67108864 (length bytes) ≡ true = grind (arith, nat_tests) in
    ap (λ b. if b then Err (JournalRefused journal.TooLong) else Ok bytes) yes

-- ---- a stream for each name

fault_or_ok : (f : Option TokenFault) (s t : List (List ℤ)) → fault_or f s ≡ Ok t → s ≡ t
fault_or_ok (Some fault) s t h = absurd cc
fault_or_ok None s t h = cc

length_streams : (names : List (List ℕ)) (bytes : List ℕ) → length (streams_of names (records_of bytes)) ≡ length names
unfolding streams_of
length_streams names bytes = simp length-map

pub length_read : (bytes : List ℕ) (names : List (List ℕ)) (s : List (List ℤ)) → read_of bytes names ≡ Ok s → length s ≡ length names
length_read bytes names s h =
    let is = fault_or_ok (first_fault names [] 1 (records_of bytes)) (streams_of names (records_of bytes)) s h in
    ap (length) (sym is) ∙ length_streams names bytes

pub length_names : (g : Graphs) → length (input_names g) ≡ length (top_of g).inputs
length_names g = simp length-map
