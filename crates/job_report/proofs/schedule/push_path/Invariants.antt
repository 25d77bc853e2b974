use Rattle.std.proofs.Common.{◌≡◌, ◌++◌, ◌∷◌, drop, codes, string_bytes}
use Rattle.std.specs.Fmt.{decimal}
use Rattle.std.specs.List.{flat_map}
use Rattle.token_text.specs.Rows.{comma}
use Rattle.job_report.proofs.schedule.push_path.Given as goal

-- the fields so far, and those of the nodes that are left, are all
abbrev pub invariant-loop-node : goal.invariant-loop-node
invariant-loop-node l =
    string_bytes l.text ++ flat_map (λ n. comma ∷ decimal n) (drop l.node-index l.path) ≡ string_bytes l.fn.text ++ (codes "path" ++ flat_map (λ n. comma ∷ decimal n) l.path)
