-- A pass goes type by type, as the definition does: what the definition says from the start is what it says from here.
use Prim.Native.Nat.{ℕ, zero, suc, ◌+◌, ◌-◌, ◌≤◌, ◌<◌, max}
use native.Mathlib.Nat.{sub-zero}
use mathlib.Core.Path.{◌≡◌, refl, sym, ap, ◌∙◌}
use mathlib.Core.Bool.{true, false}
use mathlib.Core.Option.{Option, none, some}
use native.Mathlib.Omega.{arith}
use borrow.Author.Count.{below_more}
use mathlib.Core.Logic.{◌⊎◌, inl, inr}
use Rattle.std.proofs.lemmas.Bool.{cases_lt}
use Rattle.scope.specs.Told.{no_in}
use Rattle.std.specs.Prelude.{Result, Ok, Err}
use Rattle.scope.specs.declared.Rejected.{Rejected}
use Rattle.scope.specs.Reading.{given}
use Rattle.scope.specs.Syntax.{Types}
use Rattle.scope.specs.Judging.{plain, Judged, accepted, rejected, and_then, scan, judge_types}
use Rattle.scope.specs.declared.Place.{Place}
use Rattle.scope.proofs.Impossible.{impossible}
use Rattle.scope.proofs.Told.{rejected_as}
use Rattle.section_judge.specs.declared.Fault.{Fault}
use Rattle.section_judge.specs.declared.Fault
use Rattle.section_judge.specs.Verdict.{fault_is, ruled_is, fault_of, judge_from}

-- answers, taken apart

pub fault_nothing : (o : Option ℕ) {r : Fault} → r ≡ fault_is o → r ≡ Fault.TheVariants.Nothing → o ≡ none
fault_nothing none p q = refl
fault_nothing (some k) p q = impossible cc

pub fault_number : (o : Option ℕ) {r : Fault} {k : ℕ} → r ≡ fault_is o → r ≡ Fault.TheVariants.Number k → o ≡ some k
fault_number none p q = impossible cc
fault_number (some j) p q = cc

pub ruled_accepted : (o : Judged ℕ) {r : Result ℕ Rejected} {n : ℕ} → r ≡ ruled_is o → r ≡ Ok n → o ≡ accepted n
ruled_accepted (accepted m) p q = cc
ruled_accepted (rejected k x) p q = impossible cc

pub ruled_refused : (o : Judged ℕ) {r : Result ℕ Rejected} {no : Rejected} → r ≡ ruled_is o → r ≡ Err no → o ≡ rejected no.number no.place
ruled_refused (accepted m) p q = impossible cc
ruled_refused (rejected j y) p q = rejected_as p q

-- what a pass holds

pub record Pass (fault : ℕ → Option ℕ) (first n x : ℕ) : Type 0 where
  pub same : scan fault first (n - first) ≡ scan fault x (n - x)
  pub met : (y : ℕ) → y < x → first ≤ y → fault y ≡ none

pub pass_first : (fault : ℕ → Option ℕ) (first n : ℕ) → Pass fault first n first
pass_first fault first n = record { same = refl; met = λ y less late. absurd (omega arith) }

one_type : (fault : ℕ → Option ℕ) (x n : ℕ) {o : Option ℕ} → x < n → fault x ≡ o → scan fault x (n - x) ≡ given o (scan fault (x + 1) (n - (x + 1))) (λ number. rejected number (plain x))
unfolding scan
one_type fault x n h e = let more : n - x ≡ suc (n - (x + 1)) = omega arith in rw (more, e)

no-type : (fault : ℕ → Option ℕ) (x n : ℕ) → n ≤ x → scan fault x (n - x) ≡ accepted x
unfolding scan
no-type fault x n h = let none_left_lem : n - x ≡ zero = omega arith in rw none_left_lem

module _ {fault : ℕ → Option ℕ} {first n x : ℕ} (p : Pass fault first n x) where
  pub pass_done : (first ≤ n → x ≤ n) → n ≤ x → {most : ℕ} → most ≡ max first n → Ok most ≡ ruled_is (scan fault first (n - first))
  pass_done near h {most} e = go (cases_lt first n)
    where
      go : (first < n) ⊎ (n ≤ first) → Ok most ≡ ruled_is (scan fault first (n - first))
      go (inl less) = let all : x ≡ most = omega (arith, near (omega arith)) in rw (← all) (sym (ap ruled_is (p.same ∙ no-type fault x n h)))
      go (inr over) = let all : first ≡ most = omega arith in rw (← all) (sym (ap ruled_is (no-type fault first n over)))

  module _ (h : x < n) {r : Fault} (e : r ≡ fault_is (fault x)) where
    pub pass_fault : {number : ℕ} → r ≡ Fault.TheVariants.Number number → Err (no_in number (plain x)) ≡ ruled_is (scan fault first (n - first))
    pass_fault q = sym (ap ruled_is (p.same ∙ one_type fault x n h (fault_number (fault x) e q)))

    pub pass_turn : r ≡ Fault.TheVariants.Nothing → Pass fault first n (x + 1)
    pass_turn q =
        let here : fault x ≡ none = fault_nothing (fault x) e q in
        record { same = p.same ∙ one_type fault x n h here; met = below_more _ _ p.met (λ late. here) }

pub ruleset pass_exits = (pass_first, pass_done, pass_fault, pass_turn)

-- the two passes

module _ (ts : Types) (first n : ℕ) {l : Result ℕ Rejected} (e : l ≡ ruled_is (scan (fault_of true ts) first (n - first))) where
  first_pass : judge_from first ts n ≡ and_then (scan (fault_of true ts) first (n - first)) (λ links. scan (fault_of false ts) first (n - first))
  unfolding judge_from fault_of
  first_pass = refl

  pub links_refused : {no : Rejected} → l ≡ Err no → Err no ≡ ruled_is (judge_from first ts n)
  links_refused q = rw (first_pass, ruled_refused (scan (fault_of true ts) first (n - first)) e q)

  pub links_accepted : {m : ℕ} {r : Result ℕ Rejected} → l ≡ Ok m → r ≡ ruled_is (scan (fault_of false ts) first (n - first)) → r ≡ ruled_is (judge_from first ts n)
  links_accepted q p = rw (first_pass, ruled_accepted (scan (fault_of true ts) first (n - first)) e q) p

pub ruleset judge_exits = (links_refused, links_accepted)

-- from the first type on, the two passes are scope's
pub judge_all : (ts : Types) (n : ℕ) → judge_from 0 ts n ≡ judge_types ts n
unfolding judge_from judge_types
judge_all ts n = simp sub-zero
