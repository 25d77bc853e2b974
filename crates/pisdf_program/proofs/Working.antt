-- What a call of the program has done, from what its parts did.
use Rattle.std.proofs.Common.{◌≡◌, ◌≢◌, inl, inr, ℕ, ◌+◌, ◌-◌, ◌≤◌, ℤ, List, [], ◌∷◌, ◌++◌, length, length-append, take, true, false, Option, Some, None, Result, Ok, Err, String, Global, string_bytes, refl, sym, ap, ◌∙◌, subst, arith}
use Rattle.std.specs.Prelude.{IfErr}
use Rattle.std.proofs.lemmas.List.{append-nil, take-append-le}
use Rattle.std.proofs.Math.Seq.{take-append_seam}
use Rattle.outer_world.specs.Faults.{Rose}
use Rattle.outer_world.specs.Sink.{Grows}
use Rattle.pisdf_model.specs.declared.graph.Graphs.{Graphs}
use Rattle.pisdf_model.specs.declared.graph.Interface.{Interface}
use Rattle.pisdf_meaning.specs.Run as run
use Rattle.pisdf_meaning.specs.declared.outcome.Iteration.{Iteration}
use Rattle.pisdf_meaning.specs.declared.refusal.Refusal.{Refusal}
use Rattle.quiescent_driver.specs.Runs.{GrowsPartly, EndsRun, RanTo, HasBegun, text_of}
use Rattle.quiescent_driver.specs.Iterated.{HaveIterated}
use Rattle.pisdf_program.specs.Loaded.{is_answer, FaultsOnly, NoFault, StopsReading}
use Rattle.pisdf_program.specs.Result.{Outcome, refused, told, read_graphs, read_streams, outcome_of, short_of, status_of, line_of_end, input_in, ReadsTokens, ReadsFiles, GoesOn, FromFiles, Runs, RunsFile, TellsStop, ComesTo, Upgrades, file_of, latest, upgrade_graphs, AreTold, IsTold, IsToldAfter, Knows}
use Rattle.quiescent_driver.specs.Top.{top_of}
use Rattle.quiescent_driver.specs.Texts.{iteration_text, joined, texts_from}
use Rattle.pisdf_program.specs.Lines.{line_of, memory_line, read_line}
use Rattle.pisdf_program.specs.Words.{Command}
use Rattle.pisdf_program.specs.Written.{Wrote, WroteFirst, WrotePartly, exactly}
use Rattle.pisdf_program.specs.Worked.{FilesRose, ReadsNothing, StopsWith, file_among, Reports, Decided, Stopped, Works, IsThere, PutsLine, Concludes, CountRose, Completes, MayTell, Ended, RoseAt}
use Rattle.quiescent_driver.specs.declared.end.RunEnd.{RunEnd}
use Rattle.quiescent_driver.specs.declared.end.RunEnd.TheVariants as end
use Rattle.pisdf_program.specs.declared.load.Input.{Input}
use Rattle.quiescent_driver.specs.declared.stop.Stop.{Stop}
use Rattle.quiescent_driver.specs.declared.stop.Stop.TheVariants as stop
use Rattle.pisdf_program.specs.declared.status.Status.{Status}
use Rattle.pisdf_program.specs.declared.status.Status.TheVariants.{Done, Usage, GraphRefused, TokensRefused, RunRefused, ReadFault, WriteFault, WantOfMemory, JournalRefused}
use Rattle.pisdf_program.specs.declared.status.Which.{Which}
use Rattle.pisdf_program.specs.declared.status.Which.TheVariants as which_file
use Rattle.pisdf_program.proofs.Written.{all_first, wrote, wrote_first, wrote_nothing, wrote_partly}
use Rattle.quiescent_driver.proofs.Runs.{grows_none, grows_as, grows_partly_as, rose_since, joined-append}
use Rattle.pisdf_program.proofs.OneRun.{run_begins, one_run}

abbrev Expected : Type 1
Expected = Outcome → Type 0

abbrev File : Type 0
File = Option (List ℕ)

-- ---- statuses

no_write : (s : Status) → is_answer s ≡ true → s ≢ WriteFault
no_write s a = λ e. let t : is_answer WriteFault ≡ true = ap is_answer (sym e) ∙ a in absurd cc

no_memory : (s : Status) → is_answer s ≡ true → s ≢ WantOfMemory
no_memory s a = λ e. let t : is_answer WantOfMemory ≡ true = ap is_answer (sym e) ∙ a in absurd cc

no_read : (s : Status) (which : Which) → is_answer s ≡ true → s ≢ ReadFault which
no_read s which a = λ e. let t : is_answer (ReadFault which) ≡ true = ap is_answer (sym e) ∙ a in absurd cc

pub not_answer : (s t : Status) → s ≡ t → is_answer t ≡ false → is_answer s ≡ true → ⊥
not_answer s t e non holds = let k : is_answer t ≡ true = ap is_answer (sym e) ∙ holds in absurd cc

-- ---- what stops a command before its iterations

refused_as : (o : Outcome) (s : Status) (w : File) → o ≡ refused s → (o.status ≡ s) × (o.line ≡ line_of s) × Wrote w w o.texts
refused_as o s w e =
    (ap (λ (p : Outcome). p.status) e, ap (λ (p : Outcome). p.line) e, subst (λ (p : Outcome). Wrote w w p.texts) (sym e) ([], tt, grows_none w))

pub stops : (expected : Expected) (w : File) (f : ℕ) (s : Status) → StopsReading s → ((o : Outcome) → expected o → is_answer s ≡ true → o ≡ refused s) → Stopped expected w w f f s
stops expected w f Done ok h = absurd ok
stops expected w f Usage ok h = absurd ok
stops expected w f (GraphRefused cause) ok h = λ o e. refused_as o (GraphRefused cause) w (h o e refl)
stops expected w f (TokensRefused cause) ok h = λ o e. refused_as o (TokensRefused cause) w (h o e refl)
stops expected w f (RunRefused refusal) ok h = absurd ok
stops expected w f (ReadFault x) ok h = grows_none w
stops expected w f WriteFault ok h = absurd ok
stops expected w f WantOfMemory ok h = λ o e. wrote_nothing w w o.texts (grows_none w)
stops expected w f (JournalRefused cause) ok h = λ o e. refused_as o (JournalRefused cause) w (h o e refl)

-- there was no memory before anything was put
pub starved_first : (expected : Expected) (w : File) (f : ℕ) → Stopped expected w w f f WantOfMemory
starved_first expected w f = λ o e. wrote_nothing w w o.texts (grows_none w)

-- a command whose words decide its status
pub refused_by : (s : Status) (w : File) (o : Outcome) → o ≡ refused s → (o.status ≡ s) × (o.line ≡ line_of s) × Wrote w w o.texts
refused_by s w o e = refused_as o s w e

-- ---- the two files

abbrev Next : Type 1
Next = Input → Outcome → Type 0

-- a status is what reading them gives, where it is an answer
abbrev pub Refuses : File → File → Status → Type 0
Refuses graph tokens s = (read : Result Input Status) → ReadsFiles graph tokens read → is_answer s ≡ true → read ≡ Err s

-- this is what reading them gives
abbrev pub Gives : File → File → Input → Type 0
Gives graph tokens input = (read : Result Input Status) → ReadsFiles graph tokens read → read ≡ Ok input

pub files_stop : (next : Next) (graph tokens w : File) (f : ℕ) (s : Status) → StopsReading s → Refuses graph tokens s → Stopped (FromFiles next graph tokens) w w f f s
files_stop next graph tokens w f s ok h = stops (FromFiles next graph tokens) w f s ok (λ o e a. subst (λ r. GoesOn next r o) (h e.0 e.1 a) e.2)

tokens_read : (g : Result Graphs Status) (tokens : File) → IsToldAfter g tokens → (read : Result Input Status) × ReadsTokens g tokens read
tokens_read (Err s) tokens t = (Err s, refl)
tokens_read (Ok g) None t = absurd t
tokens_read (Ok g) (Some bytes) t = (input_in g (read_streams g bytes), refl)

files_read : (graph tokens : File) → AreTold graph tokens → (read : Result Input Status) × ReadsFiles graph tokens read
files_read None tokens t = absurd t
files_read (Some bytes) tokens t = tokens_read (read_graphs bytes) tokens t

pub files_there : (next : Next) (graph tokens : File) (s : Status) → Refuses graph tokens s → IsThere (AreTold graph tokens) (FromFiles next graph tokens) (Err s)
files_there next graph tokens s h = λ t a.
    let read = files_read graph tokens t in
    (refused s, (read.0, read.1, subst (λ r. GoesOn next r (refused s)) (sym (h read.0 read.1 a)) refl))

pub goes_on : (next : Next) (graph tokens : File) (input : Input) → Gives graph tokens input → (o : Outcome) → FromFiles next graph tokens o → next input o
goes_on next graph tokens input h o e = subst (λ r. GoesOn next r o) (h e.0 e.1) e.2

pub reads_input : (graph tokens : File) (input : Input) → Gives graph tokens input → AreTold graph tokens → ReadsFiles graph tokens (Ok input)
reads_input graph tokens input h t =
    let read = files_read graph tokens t in
    subst (ReadsFiles graph tokens) (h read.0 read.1) read.1

pub comes_from : (next : Next) (graph tokens : File) (input : Input) → Gives graph tokens input → AreTold graph tokens → (o : Outcome) → next input o → FromFiles next graph tokens o
comes_from next graph tokens input h t o e =
    let read = files_read graph tokens t in
    (read.0, read.1, subst (λ r. GoesOn next r o) (sym (h read.0 read.1)) e)

-- ---- reading one after the other

graph_reads : (graph tokens : File) (g : Result Graphs Status) → ((told : List ℕ) → graph ≡ Some told → read_graphs told ≡ g) → (read : Result Input Status) → ReadsFiles graph tokens read → ReadsTokens g tokens read
graph_reads None tokens g h read r = absurd r
graph_reads (Some bytes) tokens g h read r = subst (λ x. ReadsTokens x tokens read) (h bytes refl) r

pub graph_refuses : (graph tokens : File) (s : Status) → ((told : List ℕ) → graph ≡ Some told → is_answer s ≡ true → read_graphs told ≡ Err s) → Refuses graph tokens s
graph_refuses graph tokens s h = λ read r a. graph_reads graph tokens (Err s) (λ told e. h told e a) read r

tokens_give : (g : Graphs) (tokens : File) (streams : Result (List (List ℤ)) Status) → ((told : List ℕ) → tokens ≡ Some told → read_streams g told ≡ streams) → (read : Result Input Status) → ReadsTokens (Ok g) tokens read → read ≡ input_in g streams
tokens_give g None streams h read r = absurd r
tokens_give g (Some bytes) streams h read r = r ∙ ap (input_in g) (h bytes refl)

pub tokens_refuse : (graph tokens : File) (g : Graphs) (s : Status) → ((told : List ℕ) → graph ≡ Some told → read_graphs told ≡ Ok g)
    → ((told : List ℕ) → tokens ≡ Some told → is_answer s ≡ true → read_streams g told ≡ Err s) → Refuses graph tokens s
tokens_refuse graph tokens g s hg h = λ read r a. tokens_give g tokens (Err s) (λ told e. h told e a) read (graph_reads graph tokens (Ok g) hg read r)

pub both_give : (graph tokens : File) (input : Input) → ((told : List ℕ) → graph ≡ Some told → read_graphs told ≡ Ok input.graphs)
    → ((told : List ℕ) → tokens ≡ Some told → read_streams input.graphs told ≡ Ok input.streams) → Gives graph tokens input
both_give graph tokens input hg hs = λ read r. tokens_give input.graphs tokens (Ok input.streams) hs read (graph_reads graph tokens (Ok input.graphs) hg read r)

pub stops_reading : (which : Which) (before now : ℕ) (s : Status) → FaultsOnly which before now s → StopsReading s
stops_reading which before now Done h = h
stops_reading which before now Usage h = h
stops_reading which before now (GraphRefused cause) h = tt
stops_reading which before now (TokensRefused cause) h = tt
stops_reading which before now (RunRefused refusal) h = h
stops_reading which before now (ReadFault w) h = tt
stops_reading which before now WriteFault h = h
stops_reading which before now WantOfMemory h = tt
stops_reading which before now (JournalRefused cause) h = tt

-- ---- a run that went through its iterations

-- each outcome is that of a run
abbrev pub Decides : Expected → Graphs → List (List ℤ) → ℕ → Type 0
Decides expected g streams n = (o : Outcome) → expected o → (r : run.Run) × run.IsRun g streams n r × (o ≡ outcome_of g r)

pub run_decides : (graph tokens : File) (n : ℕ) (input : Input) → Gives graph tokens input → Decides (RunsFile graph n tokens) input.graphs input.streams n
run_decides graph tokens n input h = goes_on (Runs n) graph tokens input h

module _ (graph tokens : File) (n : ℕ) (input : Input) (h : Gives graph tokens input) where
  run_there : (r : run.Run) → run.IsRun input.graphs input.streams n r → AreTold graph tokens → (o : Outcome) × RunsFile graph n tokens o
  run_there r is t = (outcome_of input.graphs r, comes_from (Runs n) graph tokens input h t (outcome_of input.graphs r) (r, is, refl))

  pub ended_there : (had has : File) (b now : ℕ) (e : RunEnd) (result : Result (String Global) Status) → EndsRun input.graphs input.streams n had has b now e → Reports input.graphs e result
      → IsThere (AreTold graph tokens) (RunsFile graph n tokens) result
  ended_there had has b now (end.Done left) (Ok text) ends rep = λ t. run_there ends.0 ends.1 t
  ended_there had has b now (end.Done left) (Err s) ends rep = λ t a. run_there ends.0 ends.1 t
  ended_there had has b now (end.Short stream held needs) (Ok text) ends rep = absurd rep
  ended_there had has b now (end.Short stream held needs) (Err s) ends rep = λ t a. run_there ends.0 ends.1 t
  ended_there had has b now (end.Refused refusal) (Ok text) ends rep = absurd rep
  ended_there had has b now (end.Refused refusal) (Err s) ends rep = λ t a. run_there ends.0 ends.1 t
  ended_there had has b now end.WriteFault (Ok text) ends rep = absurd rep
  ended_there had has b now end.WriteFault (Err s) ends rep = λ t a. absurd (not_answer s WriteFault rep refl a)
  ended_there had has b now end.Memory (Ok text) ends rep = absurd rep
  ended_there had has b now end.Memory (Err s) ends rep = λ t a. absurd (not_answer s WantOfMemory rep refl a)

abbrev texts_of : Graphs → List Iteration → List (List ℕ)
texts_of g its = texts_from 0 (top_of g).outputs its

texts-append : (n : ℕ) (outputs : List Interface) (a b : List Iteration) → (more : List (List ℕ)) × (texts_from n outputs (a ++ b) ≡ texts_from n outputs a ++ more)
texts-append n outputs [] b = (texts_from n outputs b, refl)
texts-append n outputs (i ∷ a) b = let t = texts-append (n + 1) outputs a b in (t.0, ap (λ x. iteration_text n outputs i ∷ x) t.1)

-- what is known of an outcome's texts, where these iterations are the first of the run
begun_texts : (g : Graphs) (streams : List (List ℤ)) (n k : ℕ) (its : List Iteration) (s : List (List ℤ)) (r : run.Run) → k ≤ n
    → HaveIterated g streams k its s → run.IsRun g streams n r → (more : List (List ℕ)) × (texts_of g r.iterations ≡ texts_of g its ++ more)
begun_texts g streams n k its s r le h is =
    let m : n ≡ k + (n - k) = omega (arith, le) in
    let begins = run_begins g streams k (n - k) its s r h (subst (λ q. run.IsRun g streams q r) m is) in
    let texts = texts-append 0 (top_of g).outputs its begins.0.iterations in
    (texts.0, ap (λ (q : run.Run). texts_of g q.iterations) begins.2 ∙ texts.1)

first_of : (had has : File) (all first more : List (List ℕ)) → all ≡ first ++ more → Grows had has (joined first) → WroteFirst had has (exactly all)
first_of had has all first more is grows =
    let front : take (length first) all ≡ first = ap (take (length first)) is ∙ take-append_seam first more in
    wrote_first had has all (length first) (grows_as had has _ _ (ap joined (sym front)) grows)

part_of : (had has : File) (all first more : List (List ℕ)) → all ≡ first ++ more → GrowsPartly had has (joined first) → GrowsPartly had has (joined all)
part_of had has all first more is partly =
    let whole : joined all ≡ joined first ++ joined more = ap joined is ∙ joined-append first more in
    grows_partly_as had has _ _ (sym whole) (longer (joined first) (joined more) partly)
  where
    longer : (text more : List ℕ) → GrowsPartly had has text → GrowsPartly had has (text ++ more)
    longer text more (kept, le, grows) = (kept, omega (arith, le, length-append text more), grows_as had has _ _ (sym (take-append-le kept text more le)) grows)

begun : (expected : Expected) (g : Graphs) (streams : List (List ℤ)) (n : ℕ) (had has : File) → Decides expected g streams n
    → HasBegun g streams n (λ its. Grows had has (text_of g its)) → (o : Outcome) → expected o → WroteFirst had has o.texts
begun expected g streams n had has h (k, le, its, s, done, grows) o e =
    let r = h o e in
    let texts = begun_texts g streams n k its s r.0 le done r.1 in
    subst (λ (p : Outcome). WroteFirst had has p.texts) (sym r.2) (first_of had has (texts_of g r.0.iterations) (texts_of g its) texts.0 texts.1 grows)

begun_partly : (expected : Expected) (g : Graphs) (streams : List (List ℤ)) (n : ℕ) (had has : File) → Decides expected g streams n
    → HasBegun g streams n (λ its. GrowsPartly had has (text_of g its)) → (o : Outcome) → expected o → WrotePartly had has o.texts
begun_partly expected g streams n had has h (k, le, its, s, done, grows) o e =
    let r = h o e in
    let texts = begun_texts g streams n k its s r.0 le done r.1 in
    subst (λ (p : Outcome). WrotePartly had has p.texts) (sym r.2) (wrote_partly had has (texts_of g r.0.iterations) (part_of had has (texts_of g r.0.iterations) (texts_of g its) texts.0 texts.1 grows))

-- a run that ended so is the one of each outcome
same_run : (expected : Expected) (g : Graphs) (streams : List (List ℤ)) (n : ℕ) (r : run.Run) → Decides expected g streams n → run.IsRun g streams n r
    → (o : Outcome) → expected o → o ≡ outcome_of g r
same_run expected g streams n r h is o e =
    let other = h o e in
    other.2 ∙ ap (outcome_of g) (one_run g streams n other.0 r other.1 is)

starved_run : (expected : Expected) (had has : File) (b n : ℕ) (s : Status) → ((o : Outcome) → expected o → WroteFirst had has o.texts) → s ≡ WantOfMemory → Stopped expected had has b n s
starved_run expected had has b n s first is = subst (Stopped expected had has b n) (sym is) first

decided_run : (expected : Expected) (g : Graphs) (streams : List (List ℤ)) (n : ℕ) (had has : File) (e : run.RunEnd) (line : List ℕ) (s : Status) → Decides expected g streams n
    → RanTo g streams n had has e → status_of g e ≡ s → line_of_end g e ≡ line → Decided expected had has line s
decided_run expected g streams n had has e line s h (r, is, ends, grows) status text = λ o x.
    let same = same_run expected g streams n r h is o x in (
      ap (λ (p : Outcome). p.status) same ∙ ap (status_of g) ends ∙ status,
      ap (λ (p : Outcome). p.line) same ∙ ap (line_of_end g) ends ∙ text,
      subst (λ (p : Outcome). Wrote had has p.texts) (sym same) (wrote had has (texts_of g r.iterations) grows),
    )

all_put : (expected : Expected) (g : Graphs) (streams : List (List ℤ)) (n : ℕ) (had has : File) (e : run.RunEnd) → Decides expected g streams n → RanTo g streams n had has e
    → (o : Outcome) → expected o → WroteFirst had has o.texts
all_put expected g streams n had has e h (r, is, ends, grows) o x =
    let same = same_run expected g streams n r h is o x in
    all_first had has o.texts (subst (λ (p : Outcome). Wrote had has p.texts) (sym same) (wrote had has (texts_of g r.iterations) grows))

pub works_run : (expected : Expected) (g : Graphs) (streams : List (List ℤ)) (k : ℕ) (had has : File) (b n : ℕ) (e : RunEnd) (result : Result (String Global) Status) → Decides expected g streams k → EndsRun g streams k had has b n e → Reports g e result → Works expected had has b n result
works_run expected g streams k had has b n (end.Done left) (Ok text) h ends rep = decided_run expected g streams k had has _ (string_bytes text) Done h ends refl (sym rep)
works_run expected g streams k had has b n (end.Done left) (Err s) h ends rep = starved_run expected had has b n s (all_put expected g streams k had has _ h ends) rep
works_run expected g streams k had has b n (end.Short stream held needs) (Ok text) h ends rep = absurd rep
works_run expected g streams k had has b n (end.Short stream held needs) (Err s) h ends (inl is) =
    subst (Stopped expected had has b n) (sym is) (decided_run expected g streams k had has _ _ _ h ends refl refl)
works_run expected g streams k had has b n (end.Short stream held needs) (Err s) h ends (inr is) = starved_run expected had has b n s (all_put expected g streams k had has _ h ends) is
works_run expected g streams k had has b n (end.Refused refusal) (Ok text) h ends rep = absurd rep
works_run expected g streams k had has b n (end.Refused refusal) (Err s) h ends rep =
    subst (Stopped expected had has b n) (sym rep) (decided_run expected g streams k had has _ _ _ h ends refl refl)
works_run expected g streams k had has b n end.WriteFault (Ok text) h ends rep = absurd rep
works_run expected g streams k had has b n end.WriteFault (Err s) h (rose, begins) rep =
    subst (Stopped expected had has b n) (sym rep) (rose, begun_partly expected g streams k had has h begins)
works_run expected g streams k had has b n end.Memory (Ok text) h ends rep = absurd rep
works_run expected g streams k had has b n end.Memory (Err s) h ends rep = starved_run expected had has b n s (begun expected g streams k had has h ends) rep

-- ---- statuses that tell nothing of reading files

abbrev Worked : Type 0
Worked = Result (String Global) Status

abbrev stopped_by : Status → Worked
stopped_by s = Err s

no_usage : (s t : Status) → s ≡ t → t ≢ Usage → stopped_by s ≢ Err Usage
no_usage s t is non = λ e. let same : s ≡ Usage = cc in non (sym is ∙ same)

pub unread_as : (s t : Status) → s ≡ t → ReadsNothing t → ReadsNothing s
unread_as s t is h = subst ReadsNothing (sym is) h

pub unread_short : (g : Graphs) (lack : run.Lack) → ReadsNothing (short_of g lack)
unread_short g lack = (λ w e. absurd cc, λ e. absurd cc)

pub unread_refused : (refusal : Refusal) → ReadsNothing (RunRefused refusal)
unread_refused refusal = (λ w e. absurd cc, λ e. absurd cc)

pub unread_memory : ReadsNothing WantOfMemory
unread_memory = (λ w e. absurd cc, λ e. absurd cc)

pub unread_write : ReadsNothing WriteFault
unread_write = (λ w e. absurd cc, λ e. absurd cc)

pub unread_refusal : (s : Status) → NoFault s → ReadsNothing s
unread_refusal Done h = absurd h
unread_refusal Usage h = absurd h
unread_refusal (GraphRefused cause) h = (λ w e. absurd cc, λ e. absurd cc)
unread_refusal (TokensRefused cause) h = (λ w e. absurd cc, λ e. absurd cc)
unread_refusal (RunRefused refusal) h = absurd h
unread_refusal (ReadFault w) h = absurd h
unread_refusal WriteFault h = absurd h
unread_refusal WantOfMemory h = unread_memory
unread_refusal (JournalRefused cause) h = (λ w e. absurd cc, λ e. absurd cc)

pub unread_report : (g : Graphs) (e : RunEnd) (r : Worked) → Reports g e r → IfErr r ReadsNothing
unread_report g e (Ok text) h = tt
unread_report g (end.Done left) (Err s) h = unread_as s WantOfMemory h unread_memory
unread_report g (end.Short stream held needs) (Err s) (inl h) = unread_as s _ h (unread_short g record { stream = stream; has = held; needs = needs })
unread_report g (end.Short stream held needs) (Err s) (inr h) = unread_as s WantOfMemory h unread_memory
unread_report g (end.Refused refusal) (Err s) h = unread_as s (RunRefused refusal) h (unread_refused refusal)
unread_report g end.WriteFault (Err s) h = unread_as s WriteFault h unread_write
unread_report g end.Memory (Err s) h = unread_as s WantOfMemory h unread_memory

pub rose_unread : (graph tokens : List ℕ) (before now : List ℕ → ℕ) (r : Worked) → IfErr r ReadsNothing → IfErr r (FilesRose graph tokens before now)
rose_unread graph tokens before now (Ok text) h = tt
rose_unread graph tokens before now (Err s) h = λ w e. absurd (h.0 w e)

pub count_unread : (cmd : Option Command) (before now : List ℕ → ℕ) (r : Worked) → IfErr r ReadsNothing → IfErr r (CountRose cmd before now)
count_unread cmd before now (Ok text) h = tt
count_unread cmd before now (Err s) h = λ w e. absurd (h.0 w e)

pub usage_unread : (r : Worked) → IfErr r ReadsNothing → r ≢ Err Usage
usage_unread (Ok text) h = λ e. absurd cc
usage_unread (Err s) h = λ e. let same : s ≡ Usage = cc in h.1 same

pub usage_stops : (s : Status) → StopsReading s → stopped_by s ≢ Err Usage
usage_stops s h = λ e. let same : s ≡ Usage = cc in subst StopsReading same h

-- ---- fewer outcomes

-- what was done for some outcomes was done for fewer
pub works_for : (wide narrow : Expected) (had has : File) (b n : ℕ) (r : Result (String Global) Status) → ((o : Outcome) → narrow o → wide o) → Works wide had has b n r → Works narrow had has b n r
works_for wide narrow had has b n (Ok text) fewer h = λ o e. h o (fewer o e)
works_for wide narrow had has b n (Err Done) fewer h = h
works_for wide narrow had has b n (Err Usage) fewer h = λ o e. h o (fewer o e)
works_for wide narrow had has b n (Err (GraphRefused cause)) fewer h = λ o e. h o (fewer o e)
works_for wide narrow had has b n (Err (TokensRefused cause)) fewer h = λ o e. h o (fewer o e)
works_for wide narrow had has b n (Err (RunRefused refusal)) fewer h = λ o e. h o (fewer o e)
works_for wide narrow had has b n (Err (ReadFault which)) fewer h = h
works_for wide narrow had has b n (Err WriteFault) fewer h = (h.0, λ o e. h.1 o (fewer o e))
works_for wide narrow had has b n (Err WantOfMemory) fewer h = λ o e. h o (fewer o e)
works_for wide narrow had has b n (Err (JournalRefused cause)) fewer h = λ o e. h o (fewer o e)

-- one text was put, whole or in part
pub told_whole : (expected : Expected) (had has : File) (text line : List ℕ) → ((o : Outcome) → expected o → o ≡ told text) → line ≡ [] → Grows had has text → Decided expected had has line Done
told_whole expected had has text line same none grows = λ o e. (
  ap (λ (p : Outcome). p.status) (same o e),
  ap (λ (p : Outcome). p.line) (same o e) ∙ sym none,
  subst (λ (p : Outcome). Wrote had has p.texts) (sym (same o e)) (wrote had has (text ∷ []) (grows_as had has _ _ (sym (append-nil text)) grows)),
)

pub told_partly : (expected : Expected) (had has : File) (text : List ℕ) → ((o : Outcome) → expected o → o ≡ told text) → GrowsPartly had has text → (o : Outcome) → expected o → WrotePartly had has o.texts
told_partly expected had has text same partly = λ o e. subst (λ (p : Outcome). WrotePartly had has p.texts) (sym (same o e)) (wrote_partly had has (text ∷ []) (grows_partly_as had has _ _ (sym (append-nil text)) partly))

-- nothing was put, and the status is this one
pub stop_works : (g : Graphs) (w : File) (f : ℕ) (stop : Stop) (s : Status) → StopsWith g stop s → Stopped (TellsStop g stop) w w f f s
stop_works g w f (stop.Short stream has needs) s (inl is) = subst (Stopped (TellsStop g (stop.Short stream has needs)) w w f f) (sym is) (λ o e. refused_as o (short_of g record { stream = stream; has = has; needs = needs }) w e)
stop_works g w f (stop.Short stream has needs) s (inr is) = subst (Stopped (TellsStop g (stop.Short stream has needs)) w w f f) (sym is) (λ o e. wrote_nothing w w o.texts (grows_none w))
stop_works g w f (stop.Refused refusal) s is = subst (Stopped (TellsStop g (stop.Refused refusal)) w w f f) (sym is) (λ o e. refused_as o (RunRefused refusal) w e)
stop_works g w f stop.Memory s is = subst (Stopped (TellsStop g stop.Memory) w w f f) (sym is) (λ o e. wrote_nothing w w o.texts (grows_none w))

pub stop_there : (g : Graphs) (stop : Stop) (s : Status) → is_answer s ≡ true → (o : Outcome) × TellsStop g stop o
stop_there g (stop.Short stream has needs) s a = (refused (short_of g record { stream = stream; has = has; needs = needs }), refl)
stop_there g (stop.Refused refusal) s a = (refused (RunRefused refusal), refl)
stop_there g stop.Memory s a = (refused s, tt)

pub stop_unread : (g : Graphs) (stop : Stop) (s : Status) → StopsWith g stop s → ReadsNothing s
stop_unread g (stop.Short stream has needs) s (inl is) = unread_as s _ is (unread_short g record { stream = stream; has = has; needs = needs })
stop_unread g (stop.Short stream has needs) s (inr is) = unread_as s WantOfMemory is unread_memory
stop_unread g (stop.Refused refusal) s is = unread_as s (RunRefused refusal) is (unread_refused refusal)
stop_unread g stop.Memory s is = unread_as s WantOfMemory is unread_memory

-- ---- the whole call

abbrev First : Expected → Option (List ℕ) → Option (List ℕ) → Type 0
First expected oh on = (o : Outcome) → expected o → WroteFirst oh on o.texts

cut_by : (expected : Expected) (oh on eh en : Option (List ℕ)) (ob onow eb enow : ℕ) (s : Status) (line : List ℕ) → ((o : Outcome) → expected o → MayTell o oh on line)
    → s ≡ WriteFault → Rose eb enow → GrowsPartly eh en line → Ended expected oh on eh en ob onow eb enow s
cut_by expected oh on eh en ob onow eb enow s line may is rose partly = record {
  result = λ o e a. absurd (not_answer s WriteFault is refl a);
  memory = λ o e m. absurd (let t : WriteFault ≡ WantOfMemory = sym is ∙ m in cc);
  write = λ h. inr rose;
  cut = λ o e h. inr (line, may o e, partly);
  unread = λ which h. absurd (let t : WriteFault ≡ ReadFault which = sym is ∙ h in cc);
}

memory_by : (expected : Expected) (oh on eh en : Option (List ℕ)) (ob onow eb enow : ℕ) (s : Status) → First expected oh on
    → PutsLine memory_line WantOfMemory eh en eb enow s → Ended expected oh on eh en ob onow eb enow s
memory_by expected oh on eh en ob onow eb enow s first (inl (is, grows)) = record {
  result = λ o e a. absurd (not_answer s WantOfMemory is refl a);
  memory = λ o e m. record { out = first o e; err = grows };
  write = λ h. absurd (let t : WantOfMemory ≡ WriteFault = sym is ∙ h in cc);
  cut = λ o e h. absurd (let t : WantOfMemory ≡ WriteFault = sym is ∙ h in cc);
  unread = λ which h. absurd (let t : WantOfMemory ≡ ReadFault which = sym is ∙ h in cc);
}
memory_by expected oh on eh en ob onow eb enow s first (inr (is, rose, partly)) =
    cut_by expected oh on eh en ob onow eb enow s memory_line (λ o e. inr (inl (refl, first o e))) is rose partly

answered_by : (expected : Expected) (oh on eh en : Option (List ℕ)) (ob onow eb enow : ℕ) (s told : Status) (line : List ℕ) → is_answer told ≡ true → Decided expected oh on line told
    → PutsLine line told eh en eb enow s → Ended expected oh on eh en ob onow eb enow s
answered_by expected oh on eh en ob onow eb enow s told line a d (inl (is, grows)) = record {
  result = λ o e b. record { status = is ∙ sym (d o e).0; out = (d o e).2; err = grows_as eh en _ _ (sym (d o e).1) grows };
  memory = λ o e m. absurd (no_memory told a (sym is ∙ m));
  write = λ h. absurd (no_write told a (sym is ∙ h));
  cut = λ o e h. absurd (no_write told a (sym is ∙ h));
  unread = λ which h. absurd (no_read told which a (sym is ∙ h));
}
answered_by expected oh on eh en ob onow eb enow s told line a d (inr (is, rose, partly)) =
    cut_by expected oh on eh en ob onow eb enow s line (λ o e. inl (sym (d o e).1, (d o e).2)) is rose partly

read_by : (expected : Expected) (oh on eh en : Option (List ℕ)) (ob onow eb enow : ℕ) (s : Status) (which : Which) → Grows oh on []
    → PutsLine (read_line which) (ReadFault which) eh en eb enow s → Ended expected oh on eh en ob onow eb enow s
read_by expected oh on eh en ob onow eb enow s which none (inl (is, grows)) = record {
  result = λ o e a. absurd (not_answer s (ReadFault which) is refl a);
  memory = λ o e m. absurd (let t : ReadFault which ≡ WantOfMemory = sym is ∙ m in cc);
  write = λ h. absurd (let t : ReadFault which ≡ WriteFault = sym is ∙ h in cc);
  cut = λ o e h. absurd (let t : ReadFault which ≡ WriteFault = sym is ∙ h in cc);
  unread = λ w h. let t : ReadFault which ≡ ReadFault w = sym is ∙ h in let same : which ≡ w = cc in record { out = none; err = grows_as eh en _ _ (ap read_line same) grows };
}
read_by expected oh on eh en ob onow eb enow s which none (inr (is, rose, partly)) =
    cut_by expected oh on eh en ob onow eb enow s (read_line which) (λ o e. inr (inr (which, refl, none))) is rose partly

decided_by : (expected : Expected) (oh on eh en : Option (List ℕ)) (ob onow eb enow : ℕ) (s told : Status) → is_answer told ≡ true → Decided expected oh on (line_of told) told
    → Concludes (Err told) eh en eb enow s → Ended expected oh on eh en ob onow eb enow s
decided_by expected oh on eh en ob onow eb enow s told a d (inl (is, same, rest)) = absurd (no_write told a is)
decided_by expected oh on eh en ob onow eb enow s told a d (inr (non, inl p)) = answered_by expected oh on eh en ob onow eb enow s told (line_of told) a d p
decided_by expected oh on eh en ob onow eb enow s told a d (inr (non, inr p)) =
    memory_by expected oh on eh en ob onow eb enow s (λ o e. all_first oh on o.texts (d o e).2) p

pub ended : (expected : Expected) (oh on eh en : Option (List ℕ)) (ob onow eb enow : ℕ) (s : Status) (worked : Result (String Global) Status)
    → Works expected oh on ob onow worked → Concludes worked eh en eb enow s → Ended expected oh on eh en ob onow eb enow s
ended expected oh on eh en ob onow eb enow s (Ok text) w c = answered_by expected oh on eh en ob onow eb enow s Done (string_bytes text) refl w c
ended expected oh on eh en ob onow eb enow s (Err Done) w c = absurd w
ended expected oh on eh en ob onow eb enow s (Err Usage) w c = decided_by expected oh on eh en ob onow eb enow s Usage refl w c
ended expected oh on eh en ob onow eb enow s (Err (GraphRefused cause)) w c = decided_by expected oh on eh en ob onow eb enow s (GraphRefused cause) refl w c
ended expected oh on eh en ob onow eb enow s (Err (TokensRefused cause)) w c = decided_by expected oh on eh en ob onow eb enow s (TokensRefused cause) refl w c
ended expected oh on eh en ob onow eb enow s (Err (RunRefused refusal)) w c = decided_by expected oh on eh en ob onow eb enow s (RunRefused refusal) refl w c
ended expected oh on eh en ob onow eb enow s (Err (JournalRefused cause)) w c = decided_by expected oh on eh en ob onow eb enow s (JournalRefused cause) refl w c
ended expected oh on eh en ob onow eb enow s (Err (ReadFault which)) w (inl (is, same, rest)) = absurd cc
ended expected oh on eh en ob onow eb enow s (Err (ReadFault which)) w (inr (non, inl p)) = read_by expected oh on eh en ob onow eb enow s which w p
ended expected oh on eh en ob onow eb enow s (Err (ReadFault which)) w (inr (non, inr p)) = memory_by expected oh on eh en ob onow eb enow s (λ o e. wrote_nothing oh on o.texts w) p
ended expected oh on eh en ob onow eb enow s (Err WantOfMemory) w (inl (is, same, rest)) = absurd cc
ended expected oh on eh en ob onow eb enow s (Err WantOfMemory) w (inr (non, inl p)) = memory_by expected oh on eh en ob onow eb enow s w p
ended expected oh on eh en ob onow eb enow s (Err WantOfMemory) w (inr (non, inr p)) = memory_by expected oh on eh en ob onow eb enow s w p
ended expected oh on eh en ob onow eb enow s (Err WriteFault) w (inl (is, same, none)) = record {
  result = λ o e a. absurd (not_answer s WriteFault same refl a);
  memory = λ o e m. absurd (let t : WriteFault ≡ WantOfMemory = sym same ∙ m in cc);
  write = λ h. inl w.0;
  cut = λ o e h. inl (w.1 o e, none);
  unread = λ which h. absurd (let t : WriteFault ≡ ReadFault which = sym same ∙ h in cc);
}
ended expected oh on eh en ob onow eb enow s (Err WriteFault) w (inr (non, rest)) = absurd (non refl)

-- ---- the counts of the files

pub rose_graph : (graph tokens : List ℕ) (before now : List ℕ → ℕ) (s : Status) → FaultsOnly which_file.Graph (before graph) (now graph) s → FilesRose graph tokens before now s
rose_graph graph tokens before now s h = λ w e.
    let f = subst (FaultsOnly which_file.Graph (before graph) (now graph)) e h in
    subst (λ (v : Which). RoseAt before now (file_among graph tokens v)) (sym f.0) f.1

pub rose_tokens : (graph tokens : List ℕ) (before mid now : List ℕ → ℕ) (s : Status) → before tokens ≤ mid tokens → FaultsOnly which_file.Tokens (mid tokens) (now tokens) s → FilesRose graph tokens before now s
rose_tokens graph tokens before mid now s le h = λ w e.
    let f = subst (FaultsOnly which_file.Tokens (mid tokens) (now tokens)) e h in
    subst (λ (v : Which). RoseAt before now (file_among graph tokens v)) (sym f.0) (rose_since (before tokens) (mid tokens) (now tokens) le f.1)

none_rose : (cmd : Option Command) (before now : List ℕ → ℕ) (s t : Status) → s ≡ t → ((w : Which) → t ≢ ReadFault w) → CountRose cmd before now s
none_rose cmd before now s t is non = λ w e. absurd (non w (sym is ∙ e))

-- ---- the command in the words

abbrev Files : Type 0
Files = List ℕ → Option (List ℕ)

pub works_as : (a b : Option Command) (files : Files) (had has : File) (f n : ℕ) (r : Result (String Global) Status) → a ≡ b → Works (ComesTo a files) had has f n r → Works (ComesTo b files) had has f n r
works_as a b files had has f n r e h = subst (λ (c : Option Command). Works (ComesTo c files) had has f n r) e h

pub there_as : (a b : Option Command) (files : Files) (r : Result (String Global) Status) → a ≡ b → IsThere (Knows a files) (ComesTo a files) r → IsThere (Knows b files) (ComesTo b files) r
there_as a b files r e h = subst (λ (c : Option Command). IsThere (Knows c files) (ComesTo c files) r) e h

-- a command that is refused by its words
abbrev pub IsRefusedAs : Option Command → Files → Status → Type 0
IsRefusedAs a files s = ((o : Outcome) → ComesTo a files o → o ≡ refused s) × ComesTo a files (refused s)

pub decided_as : (a b : Option Command) (files : Files) (w : File) (s : Status) → a ≡ b → IsRefusedAs a files s → Decided (ComesTo b files) w w (line_of s) s
decided_as a b files w s e h = λ o x. refused_by s w o (h.0 o (subst (λ (c : Option Command). ComesTo c files o) (sym e) x))

pub refused_there : (a b : Option Command) (files : Files) (s : Status) → a ≡ b → IsRefusedAs a files s → IsThere (Knows b files) (ComesTo b files) (Err s)
refused_there a b files s e h = λ t x. (refused s, subst (λ (c : Option Command). ComesTo c files (refused s)) e h.1)

pub rose_as : (a b : Option Command) (before now : List ℕ → ℕ) (r : Result (String Global) Status) → a ≡ b → IfErr r (CountRose a before now) → IfErr r (CountRose b before now)
rose_as a b before now r e h = subst (λ (c : Option Command). IfErr r (CountRose c before now)) e h

pub rose_never : (cmd : Option Command) (before now : List ℕ → ℕ) (s : Status) → is_answer s ≡ true → CountRose cmd before now s
rose_never cmd before now s a = λ w e. absurd (no_read s w a e)

-- the status that was told is the one that was worked out, unless it is no fault of reading
pub rose_told : (cmd : Option Command) (before now : List ℕ → ℕ) (worked : Result (String Global) Status) (eh en : Option (List ℕ)) (eb enow : ℕ) (s : Status)
    → IfErr worked (CountRose cmd before now) → Concludes worked eh en eb enow s → CountRose cmd before now s
rose_told cmd before now (Ok text) eh en eb enow s h (inl (is, rest)) = none_rose cmd before now s Done is (λ w n. absurd cc)
rose_told cmd before now (Ok text) eh en eb enow s h (inr (is, rose, rest)) = none_rose cmd before now s WriteFault is (λ w n. absurd cc)
rose_told cmd before now (Err told) eh en eb enow s h (inl (a, is, rest)) = none_rose cmd before now s WriteFault is (λ w n. absurd cc)
rose_told cmd before now (Err told) eh en eb enow s h (inr (non, inl (inl (is, rest)))) = subst (CountRose cmd before now) (sym is) h
rose_told cmd before now (Err told) eh en eb enow s h (inr (non, inl (inr (is, rose, rest)))) = none_rose cmd before now s WriteFault is (λ w n. absurd cc)
rose_told cmd before now (Err told) eh en eb enow s h (inr (non, inr (inl (is, rest)))) = none_rose cmd before now s WantOfMemory is (λ w n. absurd cc)
rose_told cmd before now (Err told) eh en eb enow s h (inr (non, inr (inr (is, rose, rest)))) = none_rose cmd before now s WriteFault is (λ w n. absurd cc)

-- ---- completeness

pub completes : (expected : Expected) (cmd : Option Command) (before now : List ℕ → ℕ) (oh on eh en : Option (List ℕ)) (ob onow eb enow : ℕ) (s : Status)
    → Ended expected oh on eh en ob onow eb enow s → CountRose cmd before now s → Completes expected cmd before now ob onow eb enow s
completes expected cmd before now oh on eh en ob onow eb enow Done e r = λ o h. inl (e.result o h refl).status
completes expected cmd before now oh on eh en ob onow eb enow Usage e r = λ o h. inl (e.result o h refl).status
completes expected cmd before now oh on eh en ob onow eb enow (GraphRefused cause) e r = λ o h. inl (e.result o h refl).status
completes expected cmd before now oh on eh en ob onow eb enow (TokensRefused cause) e r = λ o h. inl (e.result o h refl).status
completes expected cmd before now oh on eh en ob onow eb enow (RunRefused refusal) e r = λ o h. inl (e.result o h refl).status
completes expected cmd before now oh on eh en ob onow eb enow (ReadFault which) e r = λ o h. inr (inr (inr (which, refl, r which refl)))
completes expected cmd before now oh on eh en ob onow eb enow WriteFault e r = λ o h. inr (inr (inl (refl, e.write refl)))
completes expected cmd before now oh on eh en ob onow eb enow WantOfMemory e r = λ o h. inr (inl refl)
completes expected cmd before now oh on eh en ob onow eb enow (JournalRefused cause) e r = λ o h. inl (e.result o h refl).status

-- usage is told only where it was worked out
pub usage_told : (worked : Result (String Global) Status) (eh en : Option (List ℕ)) (eb enow : ℕ) (s : Status) → Concludes worked eh en eb enow s → s ≡ Usage → worked ≡ stopped_by Usage
usage_told (Ok text) eh en eb enow s (inl (is, rest)) u = absurd (let t : Done ≡ Usage = sym is ∙ u in cc)
usage_told (Ok text) eh en eb enow s (inr (is, rose, rest)) u = absurd (let t : WriteFault ≡ Usage = sym is ∙ u in cc)
usage_told (Err told) eh en eb enow s (inl (a, is, rest)) u = absurd (let t : WriteFault ≡ Usage = sym is ∙ u in cc)
usage_told (Err told) eh en eb enow s (inr (non, inl (inl (is, rest)))) u = ap stopped_by (sym is ∙ u)
usage_told (Err told) eh en eb enow s (inr (non, inl (inr (is, rose, rest)))) u = absurd (let t : WriteFault ≡ Usage = sym is ∙ u in cc)
usage_told (Err told) eh en eb enow s (inr (non, inr (inl (is, rest)))) u = absurd (let t : WantOfMemory ≡ Usage = sym is ∙ u in cc)
usage_told (Err told) eh en eb enow s (inr (non, inr (inr (is, rose, rest)))) u = absurd (let t : WriteFault ≡ Usage = sym is ∙ u in cc)

-- ---- that there is a result

pub upgrade_there : (file : File) (worked : Result (String Global) Status) → IsThere (IsTold file) (Upgrades file) worked
upgrade_there None (Ok text) = λ t. absurd t
upgrade_there None (Err s) = λ t a. absurd t
upgrade_there (Some bytes) (Ok text) = λ t. (upgrade_graphs (read_graphs bytes), refl)
upgrade_there (Some bytes) (Err s) = λ t a. (upgrade_graphs (read_graphs bytes), refl)

pub upgrade_told : (file : File) (graphs : Graphs) (text : List ℕ) → ((bytes : List ℕ) → file ≡ Some bytes → read_graphs bytes ≡ Ok graphs) → text ≡ file_of (latest graphs) → (o : Outcome) → Upgrades file o → o ≡ told text
upgrade_told None graphs text h is o u = absurd u
upgrade_told (Some bytes) graphs text h is o u = u ∙ ap upgrade_graphs (h bytes refl) ∙ ap told (sym is)

pub usage_there : (a : Option Command) (files : Files) → a ≡ None → IsThere (Knows a files) (ComesTo a files) (Err Usage)
usage_there a files is = there_as None a files (Err Usage) (sym is) (λ t h. (refused Usage, refl))

pub there : (told : Type 0) (expected : Expected) (worked : Result (String Global) Status) (eh en : File) (eb enow : ℕ) (s : Status) → IsThere told expected worked → Concludes worked eh en eb enow s
    → told → is_answer s ≡ true → (o : Outcome) × expected o
there told expected (Ok text) eh en eb enow s h c t a = h t
there told expected (Err status) eh en eb enow s h (inl (same, is, rest)) t a = absurd (not_answer s WriteFault is refl a)
there told expected (Err status) eh en eb enow s h (inr (non, inl (inl (is, rest)))) t a = h t (ap is_answer (sym is) ∙ a)
there told expected (Err status) eh en eb enow s h (inr (non, inl (inr (is, rose, rest)))) t a = absurd (not_answer s WriteFault is refl a)
there told expected (Err status) eh en eb enow s h (inr (non, inr (inl (is, rest)))) t a = absurd (not_answer s WantOfMemory is refl a)
there told expected (Err status) eh en eb enow s h (inr (non, inr (inr (is, rose, rest)))) t a = absurd (not_answer s WriteFault is refl a)
