-- One edge more, which leads to a port of the node.
use Rattle.std.proofs.Common.{◌≡◌, ◌≢◌, ℕ, ◌<◌, ◌==◌, ◌&&◌, true, false, ℤ, List, [], ◌++◌, length, set, get_or, sym, ap, ◌∙◌, arith, ⊎_elim, if◌then◌else◌}
use Rattle.std.specs.Prelude.{Vec}
use Rattle.std.specs.Global.{Global}
use Rattle.std.proofs.lemmas.Bool.{eq-eqb}
use Rattle.std.proofs.lemmas.Bool.Decides.{eqb_tells}
use Rattle.std.proofs.lemmas.List.{append-nil, get_or-set_other, get_or-set_same, length-map, length-set, map-set}
use Rattle.job_flow.specs.Frames as flow
use Rattle.pisdf_meaning.specs.declared.refusal.Refusal.{Refusal}
use Rattle.sdf_level.specs.Lists.{lists_of}
use Rattle.sdf_level.specs.declared.single_rate.Edge.{Edge}
use Rattle.audit_job.specs.Flowing.{Arrives}

map_set : (lines : List (Vec ℤ Global)) (p : ℕ) (x : Vec ℤ Global) → lists_of (set lines p x) ≡ set (lists_of lines) p x.items
map_set lines p x = map-set (λ (w : Vec ℤ Global). w.items) lines p x

pub arrives_here : (v : flow.Values ℤ Refusal) (edge : Edge) (n : ℕ) (lines : List (Vec ℤ Global)) (x : Vec ℤ Global) → edge.head ≡ n → edge.head_port < length lines →
    x.items ≡ get_or (lists_of lines) edge.head_port [] ++ flow.on_edge v edge → Arrives v edge n (lists_of lines) (lists_of (set lines edge.head_port x))
arrives_here v edge n lines x head inside is =
    let long = length-map lines (λ (w : Vec ℤ Global). w.items) in
    let longer = length-map (set lines edge.head_port x) (λ (w : Vec ℤ Global). w.items) in
    let same = length-set lines edge.head_port x in
    record {
      same_length = omega arith;
      each = λ port below. ⊎_elim
          (λ (s : ((edge.head_port == port) ≡ true) × (edge.head_port ≡ port)).
          let here : get_or (set (lists_of lines) edge.head_port x.items) edge.head_port [] ≡ x.items = get_or-set_same (lists_of lines) edge.head_port x.items [] (omega arith) in
          ap (λ l. get_or l port []) (map_set lines edge.head_port x) ∙ ap (λ k. get_or (set (lists_of lines) edge.head_port x.items) k []) (sym s.1) ∙ here ∙ is
          ∙ ap (λ k. get_or (lists_of lines) k [] ++ flow.on_edge v edge) s.1
          ∙ ap (λ b. get_or (lists_of lines) port [] ++ (if b then flow.on_edge v edge else [])) (sym (brings port s.0)))
          (λ (s : ((edge.head_port == port) ≡ false) × (edge.head_port ≢ port)).
          ap (λ l. get_or l port []) (map_set lines edge.head_port x)
          ∙ get_or-set_other (lists_of lines) edge.head_port port x.items [] (λ e. s.1 (sym e))
          ∙ sym (append-nil (get_or (lists_of lines) port []))
          ∙ ap (λ b. get_or (lists_of lines) port [] ++ (if b then flow.on_edge v edge else [])) (sym (brings_not port s.0)))
          (eqb_tells edge.head_port port);
    }
  where
    brings : (port : ℕ) → (edge.head_port == port) ≡ true → ((edge.head == n) && (edge.head_port == port)) ≡ true
    brings port hit = rw (eq-eqb edge.head n head) hit

    brings_not : (port : ℕ) → (edge.head_port == port) ≡ false → ((edge.head == n) && (edge.head_port == port)) ≡ false
    brings_not port miss = rw (eq-eqb edge.head n head) miss
