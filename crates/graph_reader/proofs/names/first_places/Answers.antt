use Rattle.std.proofs.Common.{◌≡◌, ◌+◌, ◌-◌, ◌<◌, ℕ, List, [], length, get_or, Some, Bor, sym, ap, ◌∙◌, arith}
use Rattle.std.proofs.lemmas.List.{get_or-map, length-map}
use Rattle.std.proofs.lemmas.Map.Text.{btree_map_updates_str}
use Rattle.graph_reader.specs.Lent.{lent, place_in}
use Rattle.graph_reader.proofs.Indexed.{all_noted, first_from, one_before}
use Rattle.graph_reader.proofs.names.first_places.Goals as goal

pub loop-behind-preserved : goal.loop-behind-preserved
loop-behind-preserved c = λ text.
    let names = c.args.names.now in
    let behind = c.loop-behind.behind in
    let left : behind < length names = c.loop-behind-test.true in
    let place = length names - 1 - behind in
    let inside : place < length names = omega arith in
    let nothing : Bor (List ℕ) = record { ref_ptr = (0, 0); now = [] } in
    let name : List ℕ = (get_or names place nothing).now in
    let is : name ≡ get_or (lent names) place name = sym (get_or-map (λ (n : Bor (List ℕ)). n.now) names place nothing name inside) in
    let within : place < length (lent names) = rw (length-map names (λ (n : Bor (List ℕ)). n.now)) inside in
    let old = c.loop-behind.places in
    let before : length names - behind ≡ place + 1 = omega arith in
    let now : place ≡ length names - (behind + 1) = omega arith in
    btree_map_updates_str name old c.insert.new.self (Some place) c.in_ok-insert.ensures.updates text
    ∙ one_before (lent names) place name (place_in old text) text within is (c.loop-behind.invariant text ∙ ap (λ i. first_from i (lent names) text) before)
    ∙ ap (λ i. first_from i (lent names) text) now

pub returns : goal.returns
returns c = λ text.
    let names = c.args.names.now in
    let done : length names - c.loop-behind.behind ≡ 0 = let past = c.loop-behind-test.false in omega (arith, past) in
    c.loop-behind.invariant text ∙ ap (λ i. first_from i (lent names) text) done ∙ all_noted (lent names) text
