-- What arrives at the ports of a node, edge by edge.
use Rattle.std.proofs.Common.{◌≡◌, ℕ, zero, suc, ◌+◌, ◌<◌, ◌≤◌, ◌==◌, ◌&&◌, List, [], ◌∷◌, ◌++◌, length, map, take, get_or, refl, sym, ap, ◌∙◌, arith, if◌then◌else◌, ⊎_elim}
use Rattle.std.proofs.lemmas.Bool.{cases_lt}
use Rattle.std.proofs.lemmas.List.{append-nil, append_assoc, get_or_append_left, length-append, length-map, map-append, get_or_default, same_lists, take_all, take_more}
use Rattle.std.proofs.Math.Seq.{get_or-append_seam}
use Rattle.job_flow.specs.Frames.{arriving, arriving_below}
use Rattle.sdf_level.specs.declared.single_rate.Edge.{Edge}

module _ {T : Type 0} where
  -- what one edge brings to a port
  abbrev pub brought : Edge → List T → ℕ → ℕ → List T
  brought e here n port = if (e.head == n) && (e.head_port == port) then here else []

  pub arriving_more : (edges : List Edge) (tokens : List (List T)) (e : Edge) (here : List T) (n port : ℕ) → length tokens ≡ length edges →
      arriving (edges ++ e ∷ []) (tokens ++ here ∷ []) n port ≡ arriving edges tokens n port ++ brought e here n port
  arriving_more [] [] e here n port same = append-nil (brought e here n port)
  arriving_more [] (t ∷ tokens) e here n port same = absurd (omega arith)
  arriving_more (d ∷ edges) [] e here n port same = absurd (omega arith)
  arriving_more (d ∷ edges) (t ∷ tokens) e here n port same =
      ap (λ l. brought d t n port ++ l) (arriving_more edges tokens e here n port (omega arith))
      ∙ sym (append_assoc (brought d t n port) (arriving edges tokens n port) (brought e here n port))

  -- and over the first edges of a list, with what stands on each
  pub arriving_next : (edges : List Edge) (on : Edge → List T) (k : ℕ) (d : Edge) (n port : ℕ) → k < length edges →
      arriving (take (k + 1) edges) (map on (take (k + 1) edges)) n port ≡ arriving (take k edges) (map on (take k edges)) n port ++ brought (get_or edges k d) (on (get_or edges k d)) n port
  arriving_next edges on k d n port inside =
      let e : Edge = get_or edges k d in
      let more : take (k + 1) edges ≡ take k edges ++ e ∷ [] = take_more edges k d inside in
      ap (λ (l : List Edge). arriving l (map on l) n port) more
      ∙ ap (λ (l : List (List T)). arriving (take k edges ++ e ∷ []) l n port) (map-append on (take k edges) (e ∷ []))
      ∙ arriving_more (take k edges) (map on (take k edges)) e (on e) n port (length-map (take k edges) on)

  pub length_below : (edges : List Edge) (tokens : List (List T)) (n ports : ℕ) → length (arriving_below edges tokens n ports) ≡ ports
  length_below edges tokens n zero = refl
  length_below edges tokens n (suc ports) =
      let again = length_below edges tokens n ports in
      let l = length-append (arriving_below edges tokens n ports) (arriving edges tokens n ports ∷ []) in
      omega arith

  pub port_below : (edges : List Edge) (tokens : List (List T)) (n ports port : ℕ) (d : List T) → port < ports → get_or (arriving_below edges tokens n ports) port d ≡ arriving edges tokens n port
  port_below edges tokens n zero port d below = absurd (omega arith)
  port_below edges tokens n (suc ports) port d below =
      let long = length_below edges tokens n ports in
      ⊎_elim
      (λ (less : port < ports). get_or_append_left (arriving_below edges tokens n ports) (arriving edges tokens n ports ∷ []) d port (omega arith) ∙ port_below edges tokens n ports port d less)
      (λ more.
      let e : port ≡ length (arriving_below edges tokens n ports) = omega arith in
      let f : ports ≡ port = omega arith in
      ap (λ k. get_or (arriving_below edges tokens n (suc ports)) k d) e ∙ get_or-append_seam (arriving_below edges tokens n ports) (arriving edges tokens n ports) [] d ∙ ap (λ k. arriving edges tokens n k) f)
      (cases_lt port ports)

  -- lists that have at each port what arrives there over the edges so far, which are all
  pub filled : (edges : List Edge) (on : Edge → List T) (k n ports : ℕ) (lists : List (List T)) → length edges ≤ k → length lists ≡ ports →
      ((port : ℕ) → port < ports → get_or lists port [] ≡ arriving (take k edges) (map on (take k edges)) n port) → lists ≡ arriving_below edges (map on edges) n ports
  filled edges on k n ports lists past many each =
      let whole = take_all k edges past in
      let long = length_below edges (map on edges) n ports in
      same_lists lists (arriving_below edges (map on edges) n ports) (omega arith)
      (λ port d below.
      let inside : port < ports = omega arith in
      get_or_default lists port d [] below ∙ each port inside ∙ ap (λ (l : List Edge). arriving l (map on l) n port) whole
      ∙ sym (port_below edges (map on edges) n ports port d inside))
