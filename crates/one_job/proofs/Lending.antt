-- The buffers of a node's ports go out with its claim, and come back with its finish.
use Rattle.std.proofs.Common.{◌≡◌, ℕ, ℤ, ◌+◌, ◌<◌, ◌≤◌, ◌⊎◌, inl, inr, ⊎_elim, true, List, [], ◌∷◌, length, map, refl, sym, ap, ◌∙◌, subst, arith}
use Rattle.std.specs.Prelude.{◌≢◌, Option, Some, None}
use Rattle.std.proofs.lemmas.Bool.{eq-eqb, ne_eqb, cases_eq}
use Rattle.split_block.specs.View.{Block, LeaseView, LeasePlace, lease_place}
use Rattle.split_block.specs.Places.{Place, Apart, Clear, has, without, window, write}
use Rattle.cell_pool.specs.View.{PoolView, place_of}
use Rattle.one_job.specs.Live.{AreOut}
use Rattle.one_job.specs.Ports.{Lies, EachLies}
use Rattle.one_job.specs.Taking.{Layout, taken, IsOpen, CanTake, with_lease, with_leases, AreDue}
use Rattle.one_job.proofs.Order.{turned}
use Rattle.one_job.proofs.Cells.{length-write, window-write_same, window-write_apart}
use Rattle.one_job.proofs.Outs.{Clear-from_each, places_few, AreOut-same, AreOut-more, AreOut-less}

-- this edge has one of the ports, or none of them
abbrev pub In : ℕ → List (Option ℕ) → Type 0
In f [] = ⊥
In f (None ∷ ports) = In f ports
In f (Some e ∷ ports) = (f ≡ e) ⊎ In f ports

abbrev pub NotIn : ℕ → List (Option ℕ) → Type 0
NotIn f [] = Unit {0}
NotIn f (None ∷ ports) = NotIn f ports
NotIn f (Some e ∷ ports) = (f ≢ e) × NotIn f ports

-- no edge has two of them
abbrev pub Fresh : List (Option ℕ) → Type 0
Fresh [] = Unit {0}
Fresh (None ∷ ports) = Fresh ports
Fresh (Some e ∷ ports) = NotIn e ports × Fresh ports

abbrev pub EachEdge : (ℕ → Type 0) → List (Option ℕ) → Type 0
EachEdge P [] = Unit {0}
EachEdge P (None ∷ ports) = EachEdge P ports
EachEdge P (Some e ∷ ports) = P e × EachEdge P ports

pub EachEdge-in : (P : ℕ → Type 0) (ports : List (Option ℕ)) (e : ℕ) → EachEdge P ports → In e ports → P e
EachEdge-in P [] e each is = absurd is
EachEdge-in P (None ∷ ports) e each is = EachEdge-in P ports e each is
EachEdge-in P (Some f ∷ ports) e each is = ⊎_elim (λ (here : e ≡ f). subst P (sym here) each.0) (λ (there : In e ports). EachEdge-in P ports e each.1 there) is

pub EachEdge-weaker : (P Q : ℕ → Type 0) → ((e : ℕ) → P e → Q e) → (ports : List (Option ℕ)) → EachEdge P ports → EachEdge Q ports
EachEdge-weaker P Q one [] each = tt
EachEdge-weaker P Q one (None ∷ ports) each = EachEdge-weaker P Q one ports each
EachEdge-weaker P Q one (Some e ∷ ports) each = (one e each.0, EachEdge-weaker P Q one ports each.1)

pub NotIn-cases : (e : ℕ) (ports : List (Option ℕ)) → NotIn e ports ⊎ In e ports
NotIn-cases e [] = inl tt
NotIn-cases e (None ∷ ports) = NotIn-cases e ports
NotIn-cases e (Some f ∷ ports) = ⊎_elim
    (λ (same : e ≡ f). inr (inl same))
    (λ (differ : e ≡ f → ⊥). ⊎_elim (λ (not : NotIn e ports). inl (differ, not)) (λ (is : In e ports). inr (inr is)) (NotIn-cases e ports))
    (cases_eq e f)

pub NotIn-In : (e : ℕ) (ports : List (Option ℕ)) → NotIn e ports → In e ports → ⊥
NotIn-In e [] not is = is
NotIn-In e (None ∷ ports) not is = NotIn-In e ports not is
NotIn-In e (Some f ∷ ports) not is = ⊎_elim not.0 (NotIn-In e ports not.1) is

-- Edges that are active have buffers in the block, apart from one another.
pub record AreActive (place : Layout) (count cells : ℕ) (active : ℕ → Type 0) : Type 0 where
  pub some : (e : ℕ) → e < count → 1 ≤ (place e).len
  pub within : (e : ℕ) → e < count → (place e).start + (place e).len ≤ cells
  pub apart : (e f : ℕ) → e < count → f < count → e ≢ f → active e → active f → Apart (place e) (place f)

module _ (place : Layout) (count cells most : ℕ) (active : ℕ → Type 0) (are : AreActive place count cells active) (few : cells ≤ most) where
  abbrev Here : ℕ → Type 0
  Here e = (e < count) × active e

  pub record Takes (ports : List (Option ℕ)) (lent : ℕ → Type 0) (out : List Place) : Type 0 where
    pub can : CanTake place count cells most ports out
    pub after : AreOut place count (λ e. lent e ⊎ In e ports) (taken place ports out)

  -- what is clear of active places that are out, with the place itself, is not more than the cells
  opens : (lent : ℕ → Type 0) (out : List Place) (e : ℕ) → AreOut place count lent out → ((f : ℕ) → f < count → lent f → active f) → Here e → (lent e → ⊥) → IsOpen (place e) cells most out
  opens lent out e out_are still here new =
      let clear : Clear (place e) out = Clear-from_each (place e) out (λ q is.
      let found = out_are.only q is in
      subst (Apart (place e)) found.3 (are.apart e found.0 here.0 found.1 (λ same. new (subst lent (sym same) found.2)) here.1 (still found.0 found.1 found.2))) in
      let more = AreOut-more place count lent out out_are e here.0 clear in
      let bound = places_few cells (place e ∷ out) more.apart (λ q is. let found = more.only q is in subst (λ (p : Place). (1 ≤ p.len) × (p.start + p.len ≤ cells)) found.3 (are.some found.0 found.1, are.within found.0 found.1)) in
      record { some = are.some e here.0; within = are.within e here.0; clear = clear; few = omega (arith, bound, few) }

  pub takes : (ports : List (Option ℕ)) (lent : ℕ → Type 0) (out : List Place) → AreOut place count lent out → ((f : ℕ) → f < count → lent f → active f) → ((f : ℕ) → f < count → lent f → NotIn f ports) → Fresh ports → EachEdge Here ports → Takes ports lent out
  takes [] lent out out_are still new fresh each = record {
    can = tt;
    after = AreOut-same place count lent out out_are (λ e. lent e ⊎ ⊥) (λ e inside is. inl is) (λ e inside is. ⊎_elim (λ (old : lent e). old) (λ (no : ⊥). absurd no) is);
  }
  takes (None ∷ ports) lent out out_are still new fresh each =
      let rest = takes ports lent out out_are still new fresh each in
      record { can = rest.can; after = rest.after }
  takes (Some e ∷ ports) lent out out_are still new fresh each =
      let open_now = opens lent out e out_are still each.0 (λ old. (new e each.0.0 old).0 refl) in
      let more = AreOut-more place count lent out out_are e each.0.0 open_now.clear in
      let rest = takes ports (λ f. lent f ⊎ (f ≡ e)) (place e ∷ out) more
      (λ f f_in is. ⊎_elim (λ (old : lent f). still f f_in old) (λ (same : f ≡ e). subst active (sym same) each.0.1) is)
      (λ f f_in is. ⊎_elim (λ (old : lent f). (new f f_in old).1) (λ (same : f ≡ e). subst (λ g. NotIn g ports) (sym same) fresh.0) is)
      fresh.1 each.1 in
      record {
        can = (each.0.0, open_now, rest.can);
        after = AreOut-same place count (λ f. (lent f ⊎ (f ≡ e)) ⊎ In f ports) (taken place ports (place e ∷ out)) rest.after (λ f. lent f ⊎ ((f ≡ e) ⊎ In f ports))
            (λ f f_in is. ⊎_elim (λ (l : lent f ⊎ (f ≡ e)). ⊎_elim (λ (old : lent f). inl old) (λ (same : f ≡ e). inr (inl same)) l) (λ (r : In f ports). inr (inr r)) is)
            (λ f f_in is. ⊎_elim (λ (old : lent f). inl (inl old)) (λ (r : (f ≡ e) ⊎ In f ports). ⊎_elim (λ (same : f ≡ e). inl (inr same)) (λ (later : In f ports). inr later) r) is);
      }

-- the cells of each port's edge hold what the lease held
abbrev pub EachWritten : Layout → List ℤ → List (Option ℕ) → List LeaseView → Type 0
EachWritten place cells [] leases = Unit {0}
EachWritten place cells (port ∷ ports) [] = Unit {0}
EachWritten place cells (None ∷ ports) (lease ∷ leases) = EachWritten place cells ports leases
EachWritten place cells (Some e ∷ ports) (lease ∷ leases) = (window (place e).start (place e).len cells ≡ lease.cells) × EachWritten place cells ports leases

pub EachWritten-kept : (place : Layout) (old new : List ℤ) (ports : List (Option ℕ)) (leases : List LeaseView) → EachEdge (λ e. window (place e).start (place e).len new ≡ window (place e).start (place e).len old) ports → EachWritten place old ports leases → EachWritten place new ports leases
EachWritten-kept place old new [] leases same is = tt
EachWritten-kept place old new (port ∷ ports) [] same is = tt
EachWritten-kept place old new (None ∷ ports) (lease ∷ leases) same is = EachWritten-kept place old new ports leases same is
EachWritten-kept place old new (Some e ∷ ports) (lease ∷ leases) same is = (same.0 ∙ is.0, EachWritten-kept place old new ports leases same.1 is.1)

-- a pool after leases came back
pub record IsBack (place : Layout) (count : ℕ) (lent : ℕ → Type 0) (ports : List (Option ℕ)) (leases : List LeaseView) (old new : PoolView) : Type 0 where
  pub out : AreOut place count (λ e. lent e × NotIn e ports) new.out
  pub block : new.block ≡ old.block
  pub most : new.most ≡ old.most
  pub long : length new.cells ≡ length old.cells
  pub written : EachWritten place new.cells ports leases
  pub kept : (p : Place) → p.start + p.len ≤ length old.cells → EachEdge (λ e. Apart p (place e)) ports → window p.start p.len new.cells ≡ window p.start p.len old.cells

module _ (place : Layout) (count cells : ℕ) (lent : ℕ → Type 0) (are : AreActive place count cells lent) (pool : PoolView) (block : Block) (block_is : pool.block ≡ block) (long : length pool.cells ≡ cells) (out_are : AreOut place count lent pool.out) where
  pub record Gives (ports : List (Option ℕ)) (leases : List LeaseView) : Type 0 where
    pub due : AreDue leases pool
    pub back : IsBack place count lent ports leases pool (with_leases leases pool)

  -- an empty lease changes nothing
  same_pool : (lease : LeaseView) (p : PoolView) → length lease.cells ≡ 0 → with_lease lease p ≡ p
  same_pool lease p none = rw (eq-eqb (length lease.cells) 0 none) refl

  less_pool : (lease : LeaseView) (p : PoolView) → 1 ≤ length lease.cells → with_lease lease p ≡ record p { cells = write lease.start lease.cells p.cells; out = without (place_of lease) p.out }
  less_pool lease p some = rw (ne_eqb (length lease.cells) 0 (λ none. let bad : ⊥ = omega arith in bad)) refl

  gives_none : (lease : LeaseView) (ports : List (Option ℕ)) (leases : List LeaseView) → Lies place block None (lease_place lease) → Gives ports leases → Gives (None ∷ ports) (lease ∷ leases)
  gives_none lease ports leases lies rest =
      let same = same_pool lease (with_leases leases pool) lies.1 in
      record {
        due = (rest.due, record { own = λ none. lies.0; block = λ some. absurd (let e = lies.1 in omega arith); out = λ some. absurd (let e = lies.1 in omega arith) });
        back = subst (IsBack place count lent (None ∷ ports) (lease ∷ leases) pool) (sym same) (record {
          out = rest.back.out;
          block = rest.back.block;
          most = rest.back.most;
          long = rest.back.long;
          written = rest.back.written;
          kept = rest.back.kept;
        });
      }

  module _ (e : ℕ) (lease : LeaseView) (ports : List (Option ℕ)) (leases : List LeaseView) (lies : Lies place block (Some e) (lease_place lease)) (rest : Gives ports leases) (inside : e < count) (own : lent e) (fresh : NotIn e ports) (each : EachEdge (λ f. (f < count) × lent f) ports) where
    abbrev was : PoolView
    was = with_leases leases pool

    at : lease.start ≡ (place e).start
    at = ap (λ (p : LeasePlace). p.start) lies

    wide : length lease.cells ≡ (place e).len
    wide = ap (λ (p : LeasePlace). p.len) lies

    here : place_of lease ≡ place e
    here = λ i. record { start = at i; len = wide i }

    abbrev now : PoolView
    now = record was { cells = write lease.start lease.cells was.cells; out = without (place_of lease) was.out }

    fits : lease.start + length lease.cells ≤ length was.cells
    fits = omega (arith, are.within e inside, at, wide, rest.back.long, long)

    others : (f : ℕ) → f < count → lent f → f ≢ e → Apart (place e) (place f)
    others f f_in is differ = are.apart e f inside f_in (λ same. differ (sym same)) own is

    stays : (p : Place) → p.start + p.len ≤ length was.cells → Apart p (place e) → window p.start p.len now.cells ≡ window p.start p.len was.cells
    stays p within apart = window-write_apart p lease.start lease.cells was.cells fits within (subst (Apart p) (sym here) apart)

    out_less : AreOut place count (λ f. lent f × ((f ≢ e) × NotIn f ports)) now.out
    out_less = AreOut-same place count (λ f. (lent f × NotIn f ports) × (f ≢ e)) now.out
        (subst (λ p. AreOut place count (λ f. (lent f × NotIn f ports) × (f ≢ e)) (without p was.out)) (sym here)
        (AreOut-less place count (λ f. lent f × NotIn f ports) was.out rest.back.out e inside (own, fresh) (are.some e inside) (λ f f_in is differ. others f f_in is.0 differ)))
        (λ f. lent f × ((f ≢ e) × NotIn f ports)) (λ f f_in is. (is.0.0, (is.1, is.0.1))) (λ f f_in is. ((is.0, is.1.1), is.1.0))

    kept_ports : (more : List (Option ℕ)) → NotIn e more → EachEdge (λ f. (f < count) × lent f) more → EachEdge (λ f. window (place f).start (place f).len now.cells ≡ window (place f).start (place f).len was.cells) more
    kept_ports [] not all = tt
    kept_ports (None ∷ more) not all = kept_ports more not all
    kept_ports (Some f ∷ more) not all = (
      stays (place f) (omega (arith, are.within f all.0.0, rest.back.long, long)) (turned (place e) (place f) (others f all.0.0 all.0.1 (λ same. not.0 (sym same)))),
      kept_ports more not.1 all.1,
    )

    now_back : IsBack place count lent (Some e ∷ ports) (lease ∷ leases) pool now
    now_back = record {
      out = out_less;
      block = rest.back.block;
      most = rest.back.most;
      long = length-write lease.start lease.cells was.cells fits ∙ rest.back.long;
      written = (
        subst (λ (p : Place). window p.start p.len now.cells ≡ lease.cells) here (window-write_same lease.start lease.cells was.cells fits),
        EachWritten-kept place was.cells now.cells ports leases (kept_ports ports fresh each) rest.back.written,
      );
      kept = λ p within apart. stays p (omega (arith, within, rest.back.long)) apart.0 ∙ rest.back.kept p within apart.1;
    }

    gives_one : Gives (Some e ∷ ports) (lease ∷ leases)
    gives_one = record {
      due = (
        rest.due,
        record {
          own = λ none. absurd (let s = are.some e inside in let w = wide in omega arith);
          block = λ some. ap (λ (p : LeasePlace). p.block) lies ∙ (sym block_is ∙ sym rest.back.block);
          out = λ some. subst (λ p. has p was.out ≡ true) (sym here) (rest.back.out.all e inside (own, fresh));
        },
      );
      back = subst (IsBack place count lent (Some e ∷ ports) (lease ∷ leases) pool) (sym (less_pool lease was (omega (arith, are.some e inside, wide)))) now_back;
    }

  pub gives : (ports : List (Option ℕ)) (leases : List LeaseView) → EachLies place block ports (map lease_place leases) → Fresh ports → EachEdge (λ e. (e < count) × lent e) ports → Gives ports leases
  gives [] [] lies fresh each = record {
    due = tt;
    back = record {
      out = AreOut-same place count lent pool.out out_are (λ e. lent e × Unit {0}) (λ e inside is. (is, tt)) (λ e inside is. is.0);
      block = refl;
      most = refl;
      long = refl;
      written = tt;
      kept = λ p within apart. refl;
    };
  }
  gives [] (lease ∷ leases) lies fresh each = absurd lies
  gives (None ∷ ports) [] lies fresh each = absurd lies
  gives (Some e ∷ ports) [] lies fresh each = absurd lies
  gives (None ∷ ports) (lease ∷ leases) lies fresh each = gives_none lease ports leases lies.0 (gives ports leases lies.1 fresh each)
  gives (Some e ∷ ports) (lease ∷ leases) lies fresh each =
      gives_one e lease ports leases lies.0 (gives ports leases lies.1 fresh.1 each.1) each.0.0 each.0.1 fresh.0 each.1
