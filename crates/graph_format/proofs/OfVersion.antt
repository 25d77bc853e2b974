-- What is stated in a version of the format has nothing that the version doesn't have.
use Rattle.std.proofs.Common.{◌≡◌, ◌⊎◌, inl, inr, ℕ, ◌≤◌, Bool, true, false, List, [], ◌∷◌, All, refl, arith}
use Rattle.std.proofs.lemmas.Bool.Decides.{nat_tests}
use Rattle.std.proofs.lemmas.List.Elements.{All-nil, All-cons}
use Rattle.serde_json.specs.Data.{Data, Items, no_items, item}
use Rattle.graph_format.specs.Objects.{has_exports}
use Rattle.graph_format.specs.States.{StatesActor, StatesBody, StatesExports, States, StatesGraph}
use Rattle.graph_format.specs.Values.{AreItems}
use Rattle.graph_format.specs.Versions.{IsActorOf, IsBodyOf, IsGraphOf, IsOfVersion}
use Rattle.graph_format.specs.declared.actor.FileBody.{FileBody}
use Rattle.graph_format.specs.declared.actor.FileBody.TheVariants.{Kernel, Config, Child, ConfigChild}
use Rattle.graph_format.specs.declared.file.File.{File}
use Rattle.graph_format.specs.declared.file.FileGraph.{FileGraph}

each_stated : {A : Type 0} (R : Data → A → Type 0) (P : A → Type 0) → ((d : Data) (x : A) → R d x → P x) → (ds : Items) (xs : List A) → AreItems R ds xs → All P xs
each_stated R P one no_items [] items = All-nil P
each_stated R P one no_items (x ∷ xs) items = absurd items
each_stated R P one (item d ds) [] items = absurd items
each_stated R P one (item d ds) (x ∷ xs) items = All-cons P x xs (one d x items.0) (each_stated R P one ds xs items.1)

module _ (version : ℕ) (last : version ≤ 3) where
  is_last : has_exports version ≡ true → version ≡ 3
  is_last exporting =
      let least : 3 ≤ version = grind (arith, nat_tests, exporting) in
      omega arith

  body_of : (d : Data) (b : FileBody) → StatesBody version d b → IsBodyOf version b
  body_of d (Kernel kernel args ins outs) h = tt
  body_of d (Config kernel args ins outs sets) h = tt
  body_of d (Child graph args) h = tt
  body_of d (ConfigChild graph args sets) h = is_last h.is_there

  exporting_of : (exporting : Bool) (d : Data) (exports : List (List ℕ)) → has_exports version ≡ exporting → StatesExports exporting d exports → (version ≡ 3) ⊎ (exports ≡ [])
  exporting_of true d exports is h = inl (is_last is)
  exporting_of false d exports is h = inr h

  graph_of : (d : Data) (g : FileGraph) → StatesGraph version d g → IsGraphOf version g
  graph_of d g h = record {
    actors = each_stated (StatesActor version) (IsActorOf version) (λ d a states. body_of d a.body states.body) h.actors.states.values g.actors h.actors.states.items;
    exporting = exporting_of (has_exports version) d g.exports refl h.exports;
  }

pub stated_of_version : (d : Data) (file : File) → States d file → IsOfVersion file
stated_of_version d file f = record {
  first_version = f.first_version;
  last_version = f.last_version;
  graphs = each_stated (StatesGraph file.version) (IsGraphOf file.version) (graph_of file.version f.last_version) f.states.graphs.states.values file.graphs f.states.graphs.states.items;
}
