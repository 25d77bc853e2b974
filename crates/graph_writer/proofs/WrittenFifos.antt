-- The canonical value of a FIFO, by what is written of it.
use Rattle.std.proofs.Common.{◌≡◌, ℕ, ◌==◌, ◌≤◌, ◌&&◌, Bool, true, false, codes, if◌then◌else◌, refl, ap, arith}
use Rattle.std.proofs.lemmas.Bool.Decides.{nat_tests}
use Rattle.serde_json.specs.Data.{Data, member, object}
use Rattle.pisdf_model.specs.declared.fifo.Life.{Life}
use Rattle.pisdf_model.specs.declared.fifo.Life.TheVariants.{Firing}
use Rattle.graph_format.specs.Canonical.{delay_value, end_members, fifo_value, is_no_delay}
use Rattle.graph_format.specs.Named.{stated_life}
use Rattle.graph_format.specs.Objects.{has_lives}
use Rattle.graph_format.specs.Values.{end_text}
use Rattle.graph_format.specs.declared.fifo.FileFifo.{FileFifo}

none_stated : (b : Bool) → (b && false) ≡ false
none_stated true = refl
none_stated false = refl

pub without_delay : (version : ℕ) (f : FileFifo) → is_no_delay f.delay ≡ true → object (end_members false Firing (end_text f.from) (end_text f.to)) ≡ fifo_value version f
unfolding fifo_value
without_delay version f none = rw (none, none_stated (has_lives version)) refl

pub without_life : (version : ℕ) (f : FileFifo) → is_no_delay f.delay ≡ false → has_lives version ≡ false
    → object (member (codes "delay") (delay_value f.delay) (end_members false Firing (end_text f.from) (end_text f.to))) ≡ fifo_value version f
unfolding fifo_value
without_life version f some old = rw (some, old) refl

pub living : (version : ℕ) (f : FileFifo) → is_no_delay f.delay ≡ false → has_lives version ≡ true
    → object (member (codes "delay") (delay_value f.delay) (end_members true f.life (end_text f.from) (end_text f.to))) ≡ fifo_value version f
unfolding fifo_value
living version f some has = rw (some, has) refl

-- a version that states lives states them as they are
pub stated_as_it_is : (version : ℕ) (life : Life) → 2 ≤ version → stated_life version life ≡ life
stated_as_it_is version life later =
    let not_first : (version == 1) ≡ false = grind (arith, nat_tests) in
    ap (λ b. if b then Firing else life) not_first
